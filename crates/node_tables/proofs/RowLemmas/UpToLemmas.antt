-- Canonical ranges lie below a number where the greatest number does.
use Rattle.std.proofs.Common.{◌≡◌, ℕ, ◌+◌, ◌≤◌, true, List, [], ◌∷◌, refl, sym, ◌∙◌, arith, inl, inr}
use Rattle.std.specs.Prelude.{nat_le}
use Rattle.std.specs.List.{list_all}
use Rattle.std.proofs.lemmas.Bool.{cases_Bool, le-leb, leb-true, and_from, and_right}
use Rattle.rm_sides.specs.declared.ranges.range.Range.{Range}
use Rattle.rm_sides.specs.Ranges.Ranges.{RisesFrom, greatest_of}
use Rattle.record_batch.specs.Sequences.Fits.{is_up_to}

first_below : (first : ℕ) (r : Range) (rs : List Range) → RisesFrom first (r ∷ rs) → r.upper ≤ greatest_of (r ∷ rs)
first_below first r [] h = omega arith
first_below first r (s ∷ rs) h =
    let rest : s.upper ≤ greatest_of (s ∷ rs) = first_below (r.upper + 2) s rs h.3 in
    let next = h.3 in
    omega (arith, rest, next.0, next.1)

one_up_to : (n first : ℕ) (r : Range) → 1 ≤ first → first ≤ r.lower → is_up_to n r ≡ nat_le r.upper n
one_up_to n first r one from = rw (le-leb 1 r.lower (omega (arith, one, from))) refl

pub greatest-up_to : (n first : ℕ) (rs : List Range) → 1 ≤ first → RisesFrom first rs
    → nat_le (greatest_of rs) n ≡ list_all (is_up_to n) rs
greatest-up_to n first [] one h = le-leb 0 n (omega arith)
greatest-up_to n first (r ∷ []) one h =
    let this = one_up_to n first r one h.0 in
    elim (cases_Bool (nat_le r.upper n)) [
      | inl is ↦ rw (this, is) refl
      | inr off ↦ rw (this, off) refl
    ]
greatest-up_to n first (r ∷ s ∷ rs) one h =
    let this = one_up_to n first r one h.0 in
    let rest : nat_le (greatest_of (s ∷ rs)) n ≡ list_all (is_up_to n) (s ∷ rs) =
    greatest-up_to n (r.upper + 2) (s ∷ rs) (omega arith) h.3 in
    let next = h.3 in
    let below = first_below (r.upper + 2) s rs h.3 in
    elim (cases_Bool (nat_le (greatest_of (s ∷ rs)) n)) [
      | inl is ↦
          let in_n = leb-true (greatest_of (s ∷ rs)) n is in
          let upper : nat_le r.upper n ≡ true = le-leb r.upper n (omega (arith, in_n, below, next.0, next.1)) in
          is ∙ sym (and_from (is_up_to n r) (list_all (is_up_to n) (s ∷ rs)) (this ∙ upper) (sym rest ∙ is))
      | inr off ↦ off ∙ sym (and_right (is_up_to n r) (list_all (is_up_to n) (s ∷ rs)) (sym rest ∙ off))
    ]
