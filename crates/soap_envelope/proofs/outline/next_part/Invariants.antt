use Rattle.std.proofs.Common.{◌≡◌, length}
use Rattle.std.specs.Vec.Iter.{into_iter_items}
use Rattle.soap_document.specs.Profile.View.{parts_view}
use Rattle.soap_envelope.proofs.outline.next_part.Given as goal

-- what was passed over is no part
abbrev pub invariant-loop-item : goal.invariant-loop-item
invariant-loop-item l = parts_view (into_iter_items l.parts) ≡ parts_view (into_iter_items l.initial.parts)

abbrev pub decreases-loop-item : goal.decreases-loop-item
decreases-loop-item l = length (into_iter_items l.parts)
