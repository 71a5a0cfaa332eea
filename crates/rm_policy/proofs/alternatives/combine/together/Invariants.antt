use Rattle.std.proofs.Common.{◌≡◌, ℕ, ◌+◌, true, drop, ◌⊎◌}
use Rattle.std.specs.Int.RustNames.{bit_or}
use Rattle.rm_policy.specs.Alternatives.Masks.{has_mask, OfBoth, Gathering}
use Rattle.rm_policy.proofs.alternatives.combine.together.Given as goal

abbrev pub invariant-loop-first : goal.invariant-loop-first
invariant-loop-first l =
    Gathering (OfBoth l.one l.other) (λ m. OfBoth (drop l.first-index l.one) l.other m) l.masks

abbrev pub invariant-loop-second : goal.invariant-loop-second
invariant-loop-second l =
    Gathering (OfBoth l.one l.other)
    (λ m. ((y : ℕ) × (has_mask (drop l.second-index l.other) y ≡ true) × (m ≡ bit_or l.first y))
    ⊎ OfBoth (drop (l.first-index + 1) l.one) l.other m)
    l.masks
