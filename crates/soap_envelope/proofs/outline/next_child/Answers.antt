use Rattle.std.proofs.Common.{sym, ◌∙◌}
use Rattle.std.proofs.lemmas.Bool.{true≢false}
use Rattle.std.specs.Vec.Iter.{into_iter_items}
use Rattle.soap_document.specs.Profile.View.{parts_view}
use Rattle.soap_envelope.proofs.Outlines.{follows_first, follows_space}
use Rattle.soap_envelope.proofs.outline.next_child.Goals as goal

pub returns-then-is_spacing : goal.returns-then-is_spacing
returns-then-is_spacing c =
    follows_space (parts_view (into_iter_items c.args.parts.now)) c.next_part-next.result (parts_view (into_iter_items
    c.next_part-next.new.parts)) c.next_part.result (parts_view (into_iter_items c.next_part.new.parts))
    (c.is_spacing.ensures.0 c.if-is_spacing.true) c.next_part-next.ensures c.next_part.ensures

pub returns : goal.returns
returns c =
    follows_first (parts_view (into_iter_items c.args.parts.now)) c.next_part-next.result (parts_view (into_iter_items
    c.next_part-next.new.parts))
    (λ s. true≢false (sym (c.is_spacing.ensures.1 s) ∙ c.if-is_spacing.false)) c.next_part-next.ensures
