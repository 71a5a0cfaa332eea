use Rattle.std.proofs.Common.{◌≡◌}
use Rattle.std.specs.Vec.Iter.{into_iter_items}
use Rattle.soap_document.specs.Profile.Steps.{join}
use Rattle.soap_document.specs.Profile.View.{parts_view}
use Rattle.soap_envelope.proofs.outline.parts.Given as goal

-- the parts so far, and those of what is left
abbrev pub invariant-loop-item : goal.invariant-loop-item
invariant-loop-item l = join l.parts (parts_view (into_iter_items l.item-iterator)) ≡ parts_view l.fn.items.items
