-- Acknowledged numbers: how many there are, and how great they get.
use Rattle.std.proofs.Common.{◌≡◌, ℕ, ◌+◌, ◌≤◌, ◌||◌, max, Bool, true, List, [], ◌∷◌, sym, ◌∙◌, arith, inl, inr}
use Rattle.std.proofs.lemmas.Bool.Decides.{nat_tests}
use Rattle.std.proofs.lemmas.List.Sums.{sum_by-cons}
use Rattle.rm_sides.specs.declared.ranges.range.Range.{Range}
use Rattle.rm_sides.specs.Ranges.Changes.{AddsExactly}
use Rattle.rm_sides.specs.Ranges.Ranges.{in_ranges, RisesFrom, IsCanonical, size_of, count_of, greatest_of, IsFront}
use Rattle.rm_sides.specs.Ranges.Ranges.{IsGreatest}
use Rattle.rm_base.specs.NumberSetLemmas.{lt-or-le}

-- ranges from the first number on have at most as many numbers as there are from it to the greatest
count_of-from : (first : ℕ) (rs : List Range) → RisesFrom first rs
    → first + count_of rs ≤ max first (greatest_of rs + 1)
count_of-from first [] h = omega arith
count_of-from first (r ∷ []) h = omega (arith, sum_by-cons size_of r [], h.0, h.1)
count_of-from first (r ∷ s ∷ rs) h =
    let rest : r.upper + 2 + count_of (s ∷ rs) ≤ max (r.upper + 2) (greatest_of (s ∷ rs) + 1)
    = count_of-from (r.upper + 2) (s ∷ rs) h.3 in
    omega (arith, sum_by-cons size_of r (s ∷ rs), sum_by-cons size_of s rs, h.0, h.1, h.3.0, h.3.1)

-- canonical ranges have at most as many numbers as the greatest
pub count_of-within : (rs : List Range) → IsCanonical rs → count_of rs ≤ greatest_of rs
count_of-within rs h =
    let from_one : 1 + count_of rs ≤ max 1 (greatest_of rs + 1) = count_of-from 1 rs h in omega arith

-- more numbers get no greater than those before and those added
pub greatest_of-added : (old new : List Range) (added : ℕ → Bool) (n : ℕ) → AddsExactly old new added
    → IsGreatest old (greatest_of old) → IsGreatest new (greatest_of new)
    → greatest_of old ≤ n → ((k : ℕ) → added k ≡ true → k ≤ n) → greatest_of new ≤ n
greatest_of-added old new added n adds o w below added_below = elim (lt-or-le n (greatest_of new)) [
  | inl above ↦
      let top = greatest_of new in
      let there : in_ranges new top ≡ true = w.inside (omega arith) in
      let either : (in_ranges old top || added top) ≡ true = sym (adds.numbers top) ∙ there in
      let not_old : in_ranges old top ≡ true → top ≤ greatest_of old = o.above top in
      let not_added : added top ≡ true → top ≤ n = added_below top in
      absurd (grind (arith, nat_tests, either, not_old, not_added))
  | inr within ↦ within
]

-- the first run ends with the greatest number at the latest
pub front-within : (xs : List Range) (n : ℕ) → IsFront xs n → IsGreatest xs (greatest_of xs) → n ≤ greatest_of xs
front-within xs n front greatest = elim (lt-or-le 0 n) [
  | inl some ↦ greatest.above n (front.inside n some (omega arith))
  | inr none ↦ omega (arith, none)
]
