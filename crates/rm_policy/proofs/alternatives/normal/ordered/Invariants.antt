use Rattle.std.proofs.Common.{◌≡◌, true, take, map}
use Rattle.rm_policy.specs.Alternatives.Listed.{ListedSoFar}
use Rattle.rm_policy.specs.Alternatives.Masks.{has_mask, picked_list}
use Rattle.rm_policy.proofs.alternatives.normal.ordered.Given as goal

abbrev pub invariant-loop-mask : goal.invariant-loop-mask
invariant-loop-mask l =
    ListedSoFar l.terms (λ m. has_mask (take l.mask-index l.masks) m ≡ true) (map (picked_list 0 l.terms)
    l.ordered.items)
