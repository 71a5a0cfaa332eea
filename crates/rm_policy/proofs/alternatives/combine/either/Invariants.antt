use Rattle.std.proofs.Common.{◌≡◌, ◌≤◌, length, true, drop}
use Rattle.rm_policy.specs.Alternatives.Masks.{has_mask, OfEither, Gathering}
use Rattle.std.specs.Ordering.{nat_cmp}
use Rattle.rm_policy.specs.Alternatives.Sets.{Rises}
use Rattle.rm_policy.proofs.alternatives.combine.either.Given as goal

abbrev pub invariant-loop-mask : goal.invariant-loop-mask
invariant-loop-mask l =
    length l.fn.masks ≤ 256 → Rises nat_cmp l.fn.masks
    → Gathering (OfEither l.fn.masks l.other) (λ m. has_mask (drop l.mask-index l.other) m ≡ true) l.masks
