-- A union of ranges, in any order, has exactly the numbers of both.
use Rattle.std.proofs.Common.{◌≡◌, ◌⊎◌, ℕ, ◌+◌, ◌≤◌, min, max, Bool, true, false, ◌||◌, cond, List, [], ◌∷◌, ◌++◌, refl}
use Rattle.std.proofs.Common.{sym, ◌∙◌, ap, subst, inl, inr, arith}
use Rattle.std.specs.Prelude.{nat_le, nat_lt}
use Rattle.std.proofs.lemmas.Bool.{and_from, and_parts, cases_Bool, cases_lt, le-leb, leb-true, ltb-false}
use Rattle.rm_sides.specs.Ranges.Changes.{united, with_range}
use Rattle.rm_sides.specs.Ranges.Ranges.{in_range, in_ranges, is_between}
use Rattle.rm_sides.specs.declared.ranges.range.Range.{Range}
use Rattle.record_batch.specs.Snapshot.Same.{AreProper}

same_bool : (x y : Bool) → (x ≡ true → y ≡ true) → (y ≡ true → x ≡ true) → x ≡ y
same_bool true y there back = sym (there refl)
same_bool false true there back = back refl
same_bool false false there back = refl

first_true : (x y : Bool) → x ≡ true → (x || y) ≡ true
first_true x y e = ap (λ b. b || y) e

second_true : (x y : Bool) → y ≡ true → (x || y) ≡ true
second_true true y e = refl
second_true false y e = e

one_true : (x y : Bool) → (x || y) ≡ true → (x ≡ true) ⊎ (y ≡ true)
one_true true y e = inl refl
one_true false y e = inr e

between : (l u n : ℕ) → l ≤ n → n ≤ u → is_between l u n ≡ true
between l u n from below = and_from (nat_le l n) (nat_le n u) (le-leb l n from) (le-leb n u below)

ends : (l u n : ℕ) → is_between l u n ≡ true → (l ≤ n) × (n ≤ u)
ends l u n e = let parts = and_parts (nat_le l n) (nat_le n u) e in (leb-true l n parts.0, leb-true n u parts.1)

-- two runs that meet or touch are one
hull : (a b l u n : ℕ) → a ≤ b → l ≤ u → l ≤ b + 1 → a ≤ u + 1
    → is_between (min a l) (max b u) n ≡ (is_between a b n || is_between l u n)
hull a b l u n first second left right = same_bool _ _ there back
  where
    there : is_between (min a l) (max b u) n ≡ true → (is_between a b n || is_between l u n) ≡ true
    there e =
        let at = ends (min a l) (max b u) n e in
        elim (cases_lt b n) [
          | inl above ↦ second_true (is_between a b n) (is_between l u n)
              (between l u n (omega (arith, above, left)) (omega (arith, above, at.1)))
          | inr below ↦ elim (cases_lt n a) [
            | inl before ↦ second_true (is_between a b n) (is_between l u n)
                (between l u n (omega (arith, before, at.0)) (omega (arith, before, right)))
            | inr from ↦ first_true (is_between a b n) (is_between l u n) (between a b n from below)
          ]
        ]

    back : (is_between a b n || is_between l u n) ≡ true → is_between (min a l) (max b u) n ≡ true
    back e = elim (one_true (is_between a b n) (is_between l u n) e) [
      | inl is ↦ let at = ends a b n is in between (min a l) (max b u) n (omega (arith, at.0)) (omega (arith, at.1))
      | inr is ↦ let at = ends l u n is in between (min a l) (max b u) n (omega (arith, at.0)) (omega (arith, at.1))
    ]

or_swap : (a b c : Bool) → (a || (b || c)) ≡ (b || (a || c))
or_swap true true c = refl
or_swap true false c = refl
or_swap false true c = refl
or_swap false false c = refl

or_assoc : (a b c : Bool) → ((a || b) || c) ≡ (a || (b || c))
or_assoc true b c = refl
or_assoc false b c = refl

or_comm : (a b : Bool) → (a || b) ≡ (b || a)
or_comm true true = refl
or_comm true false = refl
or_comm false true = refl
or_comm false false = refl

-- a run put into ranges
pub record Puts (xs new : List Range) (l u : ℕ) : Type 0 where
  pub proper : AreProper new
  pub numbers : (n : ℕ) → in_ranges new n ≡ (in_ranges xs n || is_between l u n)

-- what it makes of them
pub put : (xs : List Range) (l u : ℕ) → AreProper xs → l ≤ u → Puts xs (with_range xs l u) l u
put [] l u all le = record { proper = (le, tt); numbers = λ n. or_comm (is_between l u n) false }
put (x ∷ xs) l u all le = elim (cases_Bool (nat_lt (x.upper + 1) l)) [
  | inl behind ↦
      let e : with_range (x ∷ xs) l u ≡ x ∷ with_range xs l u =
      ap (λ b. cond b (x ∷ with_range xs l u) (cond (nat_lt (u + 1) x.lower) (record { lower = l; upper = u } ∷ x ∷ xs)
      (with_range xs (min x.lower l) (max x.upper u)))) behind in
      let rest = put xs l u all.1 le in
      subst (λ new. Puts (x ∷ xs) new l u) (sym e) (record {
        proper = (all.0, rest.proper);
        numbers = λ n. ap (λ b. in_range x n || b) (rest.numbers n)
            ∙ sym (or_assoc (in_range x n) (in_ranges xs n) (is_between l u n));
      })
  | inr meets ↦ elim (cases_Bool (nat_lt (u + 1) x.lower)) [
    | inl before ↦
        let e : with_range (x ∷ xs) l u ≡ record { lower = l; upper = u } ∷ x ∷ xs =
        ap (λ b. cond b (x ∷ with_range xs l u) (cond (nat_lt (u + 1) x.lower) (record { lower = l; upper = u } ∷ x
        ∷ xs) (with_range xs (min x.lower l) (max x.upper u)))) meets
        ∙ ap (λ b. cond b (record { lower = l; upper = u } ∷ x ∷ xs) (with_range xs (min x.lower l) (max x.upper u)))
        before in
        subst (λ new. Puts (x ∷ xs) new l u) (sym e) (record {
          proper = (le, all);
          numbers = λ n. or_comm (is_between l u n) (in_ranges (x ∷ xs) n);
        })
    | inr touches ↦
        let e : with_range (x ∷ xs) l u ≡ with_range xs (min x.lower l) (max x.upper u) =
        ap (λ b. cond b (x ∷ with_range xs l u) (cond (nat_lt (u + 1) x.lower) (record { lower = l; upper = u } ∷ x
        ∷ xs) (with_range xs (min x.lower l) (max x.upper u)))) meets
        ∙ ap (λ b. cond b (record { lower = l; upper = u } ∷ x ∷ xs) (with_range xs (min x.lower l) (max x.upper u)))
        touches in
        let one = all.0 in
        let rest = put xs (min x.lower l) (max x.upper u) all.1 (omega (arith, one, le)) in
        subst (λ new. Puts (x ∷ xs) new l u) (sym e) (record {
          proper = rest.proper;
          numbers = λ n.
              rest.numbers n
              ∙ ap (λ b. in_ranges xs n || b) (hull x.lower x.upper l u n one le
              (ltb-false (x.upper + 1) l meets) (ltb-false (u + 1) x.lower touches))
              ∙ or_swap (in_ranges xs n) (in_range x n) (is_between l u n)
              ∙ sym (or_assoc (in_range x n) (in_ranges xs n) (is_between l u n));
        })
  ]
]

-- the union of proper ranges
pub union : (xs ys : List Range) → AreProper xs → AreProper ys → (n : ℕ)
    → in_ranges (united xs ys) n ≡ (in_ranges xs n || in_ranges ys n)
union xs [] all more n = or_comm false (in_ranges xs n)
union xs (y ∷ ys) all more n =
    let puts = put xs y.lower y.upper all more.0 in
    union (with_range xs y.lower y.upper) ys puts.proper more.1 n
    ∙ ap (λ b. b || in_ranges ys n) (puts.numbers n)
    ∙ or_assoc (in_ranges xs n) (in_range y n) (in_ranges ys n)

pub proper-append : (xs ys : List Range) → AreProper xs → AreProper ys → AreProper (xs ++ ys)
proper-append [] ys all more = more
proper-append (x ∷ xs) ys all more = (all.0, proper-append xs ys all.1 more)
