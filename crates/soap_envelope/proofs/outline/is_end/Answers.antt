use Rattle.std.proofs.Common.{sym}
use Rattle.std.proofs.lemmas.Bool.{true≢false}
use Rattle.std.specs.Vec.Iter.{into_iter_items}
use Rattle.soap_document.specs.Profile.View.{element_view, parts_view}
use Rattle.soap_envelope.proofs.Outlines.{no_child}
use Rattle.soap_envelope.proofs.outline.is_end.Goals as goal

pub returns-in-Child : goal.returns-in-Child
returns-in-Child c = (
  λ f. absurd (true≢false (sym f)),
  λ s. absurd (no_child (parts_view (into_iter_items c.args.parts.now)) (element_view c.in-Child.field-0) (parts_view
      (into_iter_items c.next_child.new.parts)) s c.in-Child.ensures),
)
