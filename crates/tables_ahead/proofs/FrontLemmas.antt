-- The front of a set of ranges and that of the messages with the same numbers are one.
use Rattle.std.proofs.Common.{◌≡◌, ℕ, ◌+◌, ◌<◌, ◌≤◌, false, List, [], ◌∷◌, refl, sym, ◌∙◌}
use Rattle.std.proofs.Common.{arith, inl, inr}
use Rattle.std.proofs.lemmas.Bool.{cases_lt, false≢true}
use Rattle.std.proofs.lemmas.Bool.Decides.{nat_tests}
use Rattle.rm_sides.specs.declared.ranges.range.Range.{Range}
use Rattle.rm_sides.specs.Ranges.Ranges.{IsCanonical, IsFront, RisesFrom, in_ranges}
use Rattle.rm_base.specs.NumberSet.{has_number}
use Rattle.rm_sides.specs.Destination.Laws.{FrontIsReached}
use Rattle.rm_sides.specs.Destination.Messages.{Item, front_of, numbers_of}

none_before : (first n : ℕ) (rs : List Range) → RisesFrom first rs → n < first → in_ranges rs n ≡ false
none_before first n [] h lt = refl
none_before first n (r ∷ rs) h lt =
    let rest : in_ranges rs n ≡ false = none_before (r.upper + 2) n rs h.3 (omega (arith, h.0, h.1, lt)) in
    let low : first ≤ r.lower = h.0 in
    grind (arith, nat_tests)

pub one-front : (rs : List Range) (came : List (ℕ × Item)) (m : ℕ) → IsCanonical rs
    → ((n : ℕ) → in_ranges rs n ≡ has_number (numbers_of came) n) → IsFront rs m → FrontIsReached
    → m ≡ front_of came
one-front rs came m canonical same front reached =
    let zero_out : has_number (numbers_of came) 0 ≡ false = sym (same 0) ∙ none_before 1 0 rs canonical (omega arith) in
    let other = reached came zero_out in
    let k = front_of came in
    elim (cases_lt m k) [
      | inl lt ↦
          absurd (false≢true (sym front.ends.1 ∙ same (m + 1) ∙ other.all (m + 1) (omega arith) (omega (arith, lt))))
      | inr le ↦ elim (cases_lt k m) [
        | inl lt ↦
            absurd (false≢true (sym other.ends ∙ sym (same (k + 1)) ∙ front.inside (k + 1) (omega arith)
            (omega (arith, lt))))
        | inr ge ↦ let e : m ≡ k = omega (arith, le, ge) in e
      ]
    ]
