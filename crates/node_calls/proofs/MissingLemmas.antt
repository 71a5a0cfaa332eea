-- The numbers that a set of ranges tells as missing are the first that were not received.
use Rattle.std.proofs.Common.{◌≡◌, ℕ, zero, suc, ◌+◌, ◌-◌, ◌<◌, ◌≤◌, ◌⊎◌, ◌==◌, Bool, true, false, cond}
use Rattle.std.proofs.Common.{List, [], ◌∷◌, length, refl, sym, ap, subst, ◌∙◌, arith, inl, inr}
use Rattle.std.specs.Prelude.{not, filter, take, Option, Some, None, Result, Ok, Err, IfOk}
use Rattle.std.proofs.lemmas.Bool.{cases_lt, eq-eqb, eqb-true, or_cases, or_left, or_right, false≢true}
use Rattle.rm_sides.specs.declared.ranges.range.Range.{Range}
use Rattle.rm_sides.specs.Ranges.Ranges.{AreMissing, in_ranges, greatest_of}
use Rattle.rm_base.specs.NumberSet.{Rises, has_number, greatest_of as greatest_number}
use Rattle.rm_base.specs.declared.failures.Memory.{Memory}
use Rattle.record_batch.specs.Fact.{Fact}
use Rattle.rm_sides.specs.Destination.Messages.{ranges_onto}
use Rattle.record_batch.specs.Sequences.Destinations.{held}
use Rattle.record_batch.specs.Sequences.Fits.{is_incoming_side}
use Rattle.record_batch.specs.Sequences.Makers.{Maker, Offered, Incoming, maker}
use Rattle.rm_protocol.specs.Calls.{missing_of, most_missing}
use Rattle.rm_protocol.specs.Waiting.{numbers_from}
use Rattle.node_tables.specs.Reads.{incoming_in, incoming_of}

-- rising numbers are above what they rise from
rises-above : (low : ℕ) (xs : List ℕ) (n : ℕ) → Rises low xs → has_number xs n ≡ true → low < n
rises-above low [] n h e = absurd (false≢true e)
rises-above low (x ∷ xs) n h e = elim (or_cases (x == n) (has_number xs n) e) [
  | inl same ↦ let is : x ≡ n = eqb-true x n same in omega (arith, h.0, is)
  | inr rest ↦ let above = rises-above x xs n h.1 rest in omega (arith, h.0, above)
]

-- numbers that rise from low: each holds and is below the end, and each that holds there is among them or above them
-- all
record AreFirst (f : ℕ → Bool) (low count most : ℕ) (xs : List ℕ) : Type 0 where
  at_most : length xs ≤ most
  rising : Rises low xs
  holds : (n : ℕ) → has_number xs n ≡ true → (f n ≡ true) × (n ≤ low + count)
  all : (n : ℕ) → low < n → n ≤ low + count → f n ≡ true
      → (has_number xs n ≡ true) ⊎ ((length xs ≡ most) × (greatest_number xs < n))

-- such numbers, where the first of the run doesn't hold
passed : (f : ℕ → Bool) (low count most : ℕ) (xs : List ℕ) → AreFirst f low (suc count) most xs → f (low + 1) ≡ false
    → AreFirst f (low + 1) count most xs
passed f low count most xs h fails = record {
  at_most = h.at_most;
  rising = rises xs h.rising (λ n e. h.holds n e);
  holds = λ n e. let old = h.holds n e in (old.0, omega (arith, old.1));
  all = λ n from to is. h.all n (omega arith) (omega (arith, to)) is;
}
  where
    rises : (ys : List ℕ) → Rises low ys
        → ((n : ℕ) → has_number ys n ≡ true → (f n ≡ true) × (n ≤ low + suc count)) → Rises (low + 1) ys
    rises [] r k = tt
    rises (y ∷ ys) r k =
        let here : f y ≡ true = (k y (or_left (y == y) (has_number ys y) (eq-eqb y y refl))).0 in
        elim (cases_lt (low + 1) y) [
          | inl lt ↦ (lt, r.1)
          | inr le ↦
              let is : y ≡ low + 1 = omega (arith, le, r.0) in
              absurd (false≢true (sym fails ∙ ap f (sym is) ∙ here))
        ]

-- where it holds, it is the first of them
begins : (f : ℕ → Bool) (low count most x : ℕ) (xs : List ℕ) → AreFirst f low (suc count) most (x ∷ xs)
    → f (low + 1) ≡ true → x ≡ low + 1
begins f low count most x xs h is = elim (h.all (low + 1) (omega arith) (omega arith) is) [
  | inl has ↦ elim (or_cases (x == low + 1) (has_number xs (low + 1)) has) [
    | inl same ↦ eqb-true x (low + 1) same
    | inr rest ↦
        let above = rises-above x xs (low + 1) h.rising.1 rest in absurd (omega (arith, above, h.rising.0))
  ]
  | inr full ↦ absurd (omega (arith, full.1, h.rising.0))
]

-- and the others are the first behind it
goes-on : (f : ℕ → Bool) (low count most x : ℕ) (xs : List ℕ) → AreFirst f low (suc count) (suc most) (x ∷ xs)
    → x ≡ low + 1 → AreFirst f (low + 1) count most xs
goes-on f low count most x xs h is = record {
  at_most = omega (arith, h.at_most);
  rising = subst (λ z. Rises z xs) is h.rising.1;
  holds = λ n e. let old = h.holds n (or_right (x == n) (has_number xs n) e) in (old.0, omega (arith, old.1));
  all = λ n from to holds. elim (h.all n (omega arith) (omega (arith, to)) holds) [
    | inl has ↦ elim (or_cases (x == n) (has_number xs n) has) [
      | inl same ↦ let there : x ≡ n = eqb-true x n same in absurd (omega (arith, there, is, from))
      | inr rest ↦ inl rest
    ]
    | inr full ↦ inr (omega (arith, full.0), omega (arith, full.1))
  ];
}

take-none : (most : ℕ) → [] ≡ take {A = ℕ} most []
take-none zero = refl
take-none (suc most) = refl

-- the first of a run that hold, where its first number does
taken : (f : ℕ → Bool) (low count : ℕ)
    → ((most : ℕ) (xs : List ℕ) → AreFirst f (low + 1) count most xs
    → xs ≡ take most (filter f (numbers_from (low + 1 + 1) count)))
    → (most : ℕ) (xs : List ℕ) → AreFirst f low (suc count) most xs → f (low + 1) ≡ true
    → xs ≡ take most ((low + 1) ∷ filter f (numbers_from (low + 1 + 1) count))
taken f low count more zero [] h e = refl
taken f low count more zero (x ∷ xs) h e = absurd (omega (arith, h.at_most))
taken f low count more (suc most) [] h e = elim (h.all (low + 1) (omega arith) (omega arith) e) [
  | inl has ↦ absurd (false≢true has)
  | inr full ↦ absurd (omega (arith, full.0))
]
taken f low count more (suc most) (x ∷ xs) h e =
    let is = begins f low count (suc most) x xs h e in
    ap (λ z. z ∷ xs) is ∙ ap (λ zs. (low + 1) ∷ zs) (more most xs (goes-on f low count most x xs h is))

-- so they are the first of the run that hold
first-numbers : (f : ℕ → Bool) (count low most : ℕ) (xs : List ℕ) → AreFirst f low count most xs
    → xs ≡ take most (filter f (numbers_from (low + 1) count))
first-numbers f zero low most [] h = take-none most
first-numbers f zero low most (x ∷ xs) h =
    let here = h.holds x (or_left (x == x) (has_number xs x) (eq-eqb x x refl)) in
    absurd (omega (arith, here.1, h.rising.0))
first-numbers f (suc count) low most xs h =
    elim (f (low + 1)) as (λ b. f (low + 1) ≡ b
    → xs ≡ take most (cond b ((low + 1) ∷ filter f (numbers_from (low + 1 + 1) count))
    (filter f (numbers_from (low + 1 + 1) count)))) [
      | true ↦ λ e. taken f low count (λ m ys k. first-numbers f count (low + 1) m ys k) most xs h e
      | false ↦ λ e. first-numbers f count (low + 1) most xs (passed f low count most xs h e)
    ] refl

not-is : (b : Bool) → not b ≡ true → b ≡ false
not-is true e = absurd (false≢true e)
not-is false e = refl

-- what a set of the received numbers tells as missing
pub missing-first : (ranges : List Range) (held numbers : List ℕ) → AreMissing ranges most_missing numbers
    → ((n : ℕ) → in_ranges ranges n ≡ has_number held n)
    → numbers ≡ take most_missing (filter (λ n. not (has_number held n)) (numbers_from 1 (greatest_of ranges - 1)))
missing-first ranges held numbers h same =
    first-numbers (λ n. not (has_number held n)) (greatest_of ranges - 1) 0 most_missing numbers (record {
      at_most = h.at_most;
      rising = h.rising;
      holds = λ n e. let m = h.missing n e in
          (ap not (sym (same n) ∙ m.0.1), omega (arith, m.1));
      all = λ n from to is. h.first n (from, same n ∙ not-is (has_number held n) is) (omega (arith, from, to));
    })

-- what an incoming sequence tells as missing
pub missing-told : (r : List Fact) (s : ℕ) (came : List ℕ) (ranges : List Range) (result : Result (List ℕ) Memory)
    → ranges ≡ ranges_onto [] came → ((n : ℕ) → in_ranges ranges n ≡ has_number came n) → came ≡ held r s
    → IfOk result (AreMissing ranges most_missing) → IfOk result (λ numbers. numbers ≡ missing_of r s)
missing-told r s came ranges (Err e) is same known h = tt
missing-told r s came ranges (Ok numbers) is same known h =
    let all : ranges ≡ ranges_onto [] (held r s) = is ∙ ap (ranges_onto []) known in
    missing-first ranges (held r s) numbers h (λ n. same n ∙ ap (λ (ns : List ℕ). has_number ns n) known)
    ∙ ap (λ (rs : List Range). take most_missing (filter (λ n. not (has_number (held r s) n))
    (numbers_from 1 (greatest_of rs - 1)))) all

-- an incoming sequence is in the tables
pub side-there : (r : List Fact) (s : ℕ) → is_incoming_side (maker r s) ≡ true → None ≡ incoming_in r s → ⊥
side-there r s h none = by_maker (maker r s) h none
  where
    by_maker : (m : Option Maker) → is_incoming_side m ≡ true → None ≡ incoming_of r s m → ⊥
    by_maker (Some (Incoming n message_id acks_to behaviour deadline lapse)) k e = absurd (cc)
    by_maker (Some (Offered ticket n to behaviour)) k e = absurd (cc)
    by_maker _ k e = absurd (cc)
