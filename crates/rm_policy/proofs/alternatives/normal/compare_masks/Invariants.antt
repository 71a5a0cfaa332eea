use Rattle.std.proofs.Common.{◌≡◌, ◌≤◌, length, drop}
use Rattle.rm_policy.specs.Alternatives.Listed.{has_any, mask_order}
use Rattle.rm_policy.specs.Alternatives.Masks.{picked_list}
use Rattle.rm_policy.proofs.alternatives.normal.compare_masks.Given as goal

-- what the terms from here on say
abbrev pub invariant-loop-i : goal.invariant-loop-i
invariant-loop-i l =
    (l.i ≤ length l.terms)
    × (l.order ≡ mask_order l.terms l.i l.one l.other)
    × (l.some ≡ has_any (picked_list l.i (drop l.i l.terms) l.one))
    × (l.other_some ≡ has_any (picked_list l.i (drop l.i l.terms) l.other))

abbrev pub decreases-loop-i : goal.decreases-loop-i
decreases-loop-i l = l.i
