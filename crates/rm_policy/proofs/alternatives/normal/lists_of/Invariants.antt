use Rattle.std.proofs.Common.{◌≡◌, ◌++◌, drop, map}
use Rattle.rm_policy.specs.Alternatives.Masks.{picked_list}
use Rattle.rm_policy.proofs.alternatives.normal.lists_of.Given as goal

abbrev pub invariant-loop-mask : goal.invariant-loop-mask
invariant-loop-mask l =
    l.lists ++ map (picked_list 0 l.terms) (drop l.mask-index l.masks) ≡ map (picked_list 0 l.terms) l.masks
