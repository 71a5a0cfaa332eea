-- Collecting the numbers that ranges lack, from 1 on.
use Rattle.std.proofs.Common.{◌≡◌, ℕ, ◌+◌, ◌-◌, ◌<◌, ◌≤◌, true, false, ◌||◌, ◌==◌, List, [], ◌∷◌, ◌++◌, length, refl}
use Rattle.std.proofs.Common.{sym, ap, ◌∙◌, arith, inl, inr}
use Rattle.std.proofs.lemmas.Bool.{cases_lt, or_cases, or_left, or_right, both_ways, eqb-true, eq-eqb}
use Rattle.std.proofs.lemmas.List.{length_push}
use Rattle.rm_base.specs.NumberSet.{IsRising, has_number, greatest_of as greatest_number}
use Rattle.rm_base.specs.NumberSetLemmas.{Rises-push}
use Rattle.rm_sides.specs.declared.ranges.range.Range.{Range}
use Rattle.rm_sides.specs.Ranges.Ranges.{in_ranges, IsCanonical, Lacks, greatest_of, AreMissing}
use Rattle.rm_sides.proofs.RangesLemmas.RangesLemmas.{or_assoc, or-false, in_ranges-outside, RisesFrom-at}
use Rattle.rm_sides.proofs.RangesLemmas.RangesLemmas.{RisesFrom-gap}
use Rattle.rm_sides.proofs.RangesLemmas.RangesLemmas.{RisesFrom-starts, RisesFrom-ends, greatest_of-last}
use Rattle.rm_sides.proofs.RangesLemmas.RangesLemmas.{IsGreatest-greatest_of}
use Rattle.rm_sides.specs.Ranges.Places.{range_at}

-- the missing numbers below next have been collected, and no other
pub record MissingBelow (ranges : List Range) (most next : ℕ) (numbers : List ℕ) : Type 0 where
  pub at_most : length numbers ≤ most
  pub rising : IsRising numbers
  pub from_one : 0 < next
  pub missing : (n : ℕ) → has_number numbers n ≡ true → Lacks ranges n × (n < next)
  pub collected : (n : ℕ) → Lacks ranges n → n < next → has_number numbers n ≡ true

has_number-push : (xs : List ℕ) (y n : ℕ) → has_number (xs ++ y ∷ []) n ≡ (has_number xs n || (y == n))
has_number-push [] y n = or-false (y == n)
has_number-push (x ∷ xs) y n =
    ap (λ b. (x == n) || b) (has_number-push xs y n) ∙ or_assoc (x == n) (has_number xs n) (y == n)

-- numbers below a bound have their greatest below it
greatest_number-below : (xs : List ℕ) (bound : ℕ) → 0 < bound → ((n : ℕ) → has_number xs n ≡ true → n < bound) →
    greatest_number xs < bound
greatest_number-below [] bound some h = some
greatest_number-below (x ∷ xs) bound some h =
    let first : x < bound = h x (or_left (x == x) (has_number xs x) (eq-eqb x x refl)) in
    let rest : greatest_number xs < bound =
    greatest_number-below xs bound some (λ n t. h n (or_right (x == n) (has_number xs n) t)) in
    omega arith

-- the collected numbers are below the next
pub collected-below : (ranges : List Range) (most next : ℕ) (numbers : List ℕ) →
    MissingBelow ranges most next numbers → greatest_number numbers < next
collected-below ranges most next numbers h = greatest_number-below numbers next h.from_one (λ n t. (h.missing n t).1)

-- one more is collected
pub missing-push : (ranges : List Range) (most next : ℕ) (numbers : List ℕ) → MissingBelow ranges most next numbers →
    length numbers < most → in_ranges ranges next ≡ false →
    MissingBelow ranges most (next + 1) (numbers ++ next ∷ [])
missing-push ranges most next numbers h room out = record {
  at_most = omega (arith, length_push numbers next);
  rising = Rises-push 0 next numbers h.rising h.from_one (collected-below ranges most next numbers h);
  from_one = omega arith;
  missing = λ n t. elim (or_cases (has_number numbers n) (next == n) (sym (has_number-push numbers next n) ∙ t)) [
    | inl before ↦ let m = h.missing n before in (m.0, omega (arith, m.1))
    | inr same ↦ let e : next ≡ n = eqb-true next n same in rw (← e) ((h.from_one, out), omega arith)
  ];
  collected = λ n lacks lt. has_number-push numbers next n ∙ elim (cases_lt n next) [
    | inl before ↦ or_left (has_number numbers n) (next == n) (h.collected n lacks before)
    | inr at ↦ or_right (has_number numbers n) (next == n) (eq-eqb next n (omega arith))
  ];
}

-- numbers that lie in a range are passed over
pub missing-pass : (ranges : List Range) (most next after : ℕ) (numbers : List ℕ) →
    MissingBelow ranges most next numbers → next ≤ after →
    ((n : ℕ) → next ≤ n → n < after → in_ranges ranges n ≡ true) → MissingBelow ranges most after numbers
missing-pass ranges most next after numbers h le inside = record {
  at_most = h.at_most;
  rising = h.rising;
  from_one = omega (arith, h.from_one);
  missing = λ n t. let m = h.missing n t in (m.0, omega (arith, m.1));
  collected = λ n lacks lt. elim (cases_lt n next) [
    | inl before ↦ h.collected n lacks before
    | inr from ↦ absurd (both_ways _ lacks.1 (inside n from lt))
  ];
}

-- as many as asked, before the greatest
pub missing-enough : (ranges : List Range) (most next : ℕ) (numbers : List ℕ) →
    MissingBelow ranges most next numbers → length numbers ≡ most → next ≤ greatest_of ranges →
    AreMissing ranges most numbers
missing-enough ranges most next numbers h full le = record {
  at_most = h.at_most;
  rising = h.rising;
  missing = λ n t. let m = h.missing n t in (m.0, omega (arith, m.1));
  first = λ n lacks lt. elim (cases_lt n next) [
    | inl before ↦ inl (h.collected n lacks before)
    | inr from ↦ let below = collected-below ranges most next numbers h in inr (full, omega arith)
  ];
}

-- all there are
pub missing-all : (ranges : List Range) (most next : ℕ) (numbers : List ℕ) → IsCanonical ranges →
    MissingBelow ranges most next numbers → next ≡ greatest_of ranges + 1 → AreMissing ranges most numbers
missing-all ranges most next numbers canonical h e = record {
  at_most = h.at_most;
  rising = h.rising;
  missing = λ n t.
      let m = h.missing n t in
      let greatest = IsGreatest-greatest_of ranges canonical in
      elim (cases_lt n (greatest_of ranges)) [
        | inl lt ↦ (m.0, lt)
        | inr ge ↦
            let same : greatest_of ranges ≡ n = omega (arith, m.1) in
            absurd (both_ways _ m.0.1 (rw same at (greatest.inside (omega (arith, m.0.0)))))
      ];
  first = λ n lacks lt. inl (h.collected n lacks (omega arith));
}

-- what comes after the ranges before a place
pub record GoesOn (ranges : List Range) (place next : ℕ) : Type 0 where
  pub starts : place ≡ 0 → next ≡ 1
  pub after : 0 < place → next ≡ (range_at ranges (place - 1)).upper + 1

-- the range at the place begins no earlier
pub goes-on-before : (ranges : List Range) (place next : ℕ) → IsCanonical ranges → GoesOn ranges place next →
    place < length ranges → next ≤ (range_at ranges place).lower
goes-on-before ranges place next h g lt = elim (cases_lt 0 place) [
  | inl some ↦ omega (arith, g.after some, RisesFrom-gap 1 ranges (place - 1) place h (omega arith) lt)
  | inr none ↦ omega (arith, g.starts (omega arith), (RisesFrom-at 1 ranges place h lt).0)
]

-- what lies between is in none
pub goes-on-gap : (ranges : List Range) (place next n : ℕ) → IsCanonical ranges → GoesOn ranges place next →
    place < length ranges → next ≤ n → n < (range_at ranges place).lower → in_ranges ranges n ≡ false
goes-on-gap ranges place next n h g lt from before = in_ranges-outside ranges n (λ k hk. elim (cases_lt k place) [
  | inl a ↦ inr (omega (
    arith,
    g.after (omega arith),
    RisesFrom-ends 1 ranges k (place - 1) h (omega arith)
        (omega arith),
  ))
  | inr b ↦ inl (omega (arith, RisesFrom-starts 1 ranges place k h b hk))
])

-- after all comes the number after the greatest
pub goes-on-last : (ranges : List Range) (place next : ℕ) → GoesOn ranges place next → place ≡ length ranges →
    next ≡ greatest_of ranges + 1
goes-on-last [] place next g e = g.starts e
goes-on-last (r ∷ rs) place next g e =
    let last : greatest_of (r ∷ rs) ≡ (range_at (r ∷ rs) (place - 1)).upper =
    greatest_of-last (r ∷ rs) (place - 1) (omega arith) in
    omega (arith, g.after (omega arith))
