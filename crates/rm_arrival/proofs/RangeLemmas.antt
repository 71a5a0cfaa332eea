-- Numbers in ranges that are united, joined or made of numbers.
use Rattle.std.proofs.Common.{◌≡◌, ◌⊎◌, ℕ, ◌+◌, ◌==◌, ◌&&◌, ◌||◌, nat_lt, nat_le, min, max, cond, Bool, true, false}
use Rattle.std.proofs.Common.{List, [], ◌∷◌, ◌++◌, refl, arith, inl, inr}
use Rattle.std.proofs.lemmas.Bool.Decides.{nat_tests}
use Rattle.rm_sides.specs.declared.ranges.range.Range.{Range}
use Rattle.rm_sides.specs.Ranges.Ranges.{is_between, in_range, in_ranges}
use Rattle.rm_sides.specs.Ranges.Changes.{with_range, united, covers, covers_all}
use Rattle.rm_base.specs.NumberSet.{has_number}
use Rattle.rm_sides.specs.Destination.Messages.{ranges_onto}

or-first : (x y : Bool) → x ≡ true → (x || y) ≡ true
or-first true y h = refl
or-first false y h = absurd (cc)

or-second : (x y : Bool) → y ≡ true → (x || y) ≡ true
or-second true y h = refl
or-second false y h = h

or-either : (x y : Bool) → (x || y) ≡ true → (x ≡ true) ⊎ (y ≡ true)
or-either true y h = inl refl
or-either false y h = inr h

and-both : (x y : Bool) → (x && y) ≡ true → (x ≡ true) × (y ≡ true)
and-both true y h = (refl, h)
and-both false y h = absurd (cc)

-- ---- what is added is there, and what was there stays

wider : (a b l u n : ℕ) → is_between l u n ≡ true → is_between (min a l) (max b u) n ≡ true
wider a b l u n h = grind (arith, nat_tests, h)

wider-first : (a b l u n : ℕ) → is_between a b n ≡ true → is_between (min a l) (max b u) n ≡ true
wider-first a b l u n h = grind (arith, nat_tests, h)

pub with_range-adds : (rs : List Range) (l u n : ℕ) → is_between l u n ≡ true → in_ranges (with_range rs l u) n ≡ true
with_range-adds [] l u n h = or-first (is_between l u n) false h
with_range-adds (r ∷ rs) l u n h =
    elim (nat_lt (r.upper + 1) l) as (λ b. in_ranges (cond b (r ∷ with_range rs l u)
    (cond (nat_lt (u + 1) r.lower) (record { lower = l; upper = u } ∷ r ∷ rs)
    (with_range rs (min r.lower l) (max r.upper u)))) n ≡ true) [
      | true ↦ or-second (in_range r n) (in_ranges (with_range rs l u) n) (with_range-adds rs l u n h)
      | false ↦ elim (nat_lt (u + 1) r.lower) as (λ b. in_ranges (cond b (record { lower = l; upper = u } ∷ r ∷ rs)
          (with_range rs (min r.lower l) (max r.upper u))) n ≡ true) [
            | true ↦ or-first (is_between l u n) (in_ranges (r ∷ rs) n) h
            | false ↦ with_range-adds rs (min r.lower l) (max r.upper u) n (wider r.lower r.upper l u n h)
          ]
    ]

pub with_range-keeps : (rs : List Range) (l u n : ℕ) → in_ranges rs n ≡ true → in_ranges (with_range rs l u) n ≡ true
with_range-keeps [] l u n h = absurd (cc)
with_range-keeps (r ∷ rs) l u n h =
    elim (nat_lt (r.upper + 1) l) as (λ b. in_ranges (cond b (r ∷ with_range rs l u)
    (cond (nat_lt (u + 1) r.lower) (record { lower = l; upper = u } ∷ r ∷ rs)
    (with_range rs (min r.lower l) (max r.upper u)))) n ≡ true) [
      | true ↦ elim (or-either (in_range r n) (in_ranges rs n) h) [
        | inl x ↦ or-first (in_range r n) (in_ranges (with_range rs l u) n) x
        | inr x ↦ or-second (in_range r n) (in_ranges (with_range rs l u) n) (with_range-keeps rs l u n x)
      ]
      | false ↦ elim (nat_lt (u + 1) r.lower) as (λ b. in_ranges (cond b (record { lower = l; upper = u } ∷ r ∷ rs)
          (with_range rs (min r.lower l) (max r.upper u))) n ≡ true) [
            | true ↦ or-second (is_between l u n) (in_ranges (r ∷ rs) n) h
            | false ↦ elim (or-either (in_range r n) (in_ranges rs n) h) [
              | inl x ↦ with_range-adds rs (min r.lower l) (max r.upper u) n (wider-first r.lower r.upper l u n x)
              | inr x ↦ with_range-keeps rs (min r.lower l) (max r.upper u) n x
            ]
          ]
    ]

pub united-keeps : (xs ys : List Range) (n : ℕ) → in_ranges xs n ≡ true → in_ranges (united xs ys) n ≡ true
united-keeps xs [] n h = h
united-keeps xs (y ∷ ys) n h =
    united-keeps (with_range xs y.lower y.upper) ys n (with_range-keeps xs y.lower y.upper n h)

pub united-adds : (xs ys : List Range) (n : ℕ) → in_ranges ys n ≡ true → in_ranges (united xs ys) n ≡ true
united-adds xs [] n h = absurd (cc)
united-adds xs (y ∷ ys) n h = elim (or-either (in_range y n) (in_ranges ys n) h) [
  | inl x ↦ united-keeps (with_range xs y.lower y.upper) ys n (with_range-adds xs y.lower y.upper n x)
  | inr x ↦ united-adds (with_range xs y.lower y.upper) ys n x
]

-- ---- what is covered is there

within-both : (l u a b n : ℕ) → (nat_le l a && nat_le b u) ≡ true → is_between a b n ≡ true → is_between l u n ≡ true
within-both l u a b n h k = grind (arith, nat_tests, h, k)

covers-has : (xs : List Range) (a b n : ℕ) → covers xs a b ≡ true → is_between a b n ≡ true → in_ranges xs n ≡ true
covers-has [] a b n h k = absurd (cc)
covers-has (x ∷ xs) a b n h k = elim (or-either (nat_le x.lower a && nat_le b x.upper) (covers xs a b) h) [
  | inl e ↦ or-first (in_range x n) (in_ranges xs n) (within-both x.lower x.upper a b n e k)
  | inr e ↦ or-second (in_range x n) (in_ranges xs n) (covers-has xs a b n e k)
]

pub covers_all-has : (xs ys : List Range) (n : ℕ) → covers_all xs ys ≡ true → in_ranges ys n ≡ true
    → in_ranges xs n ≡ true
covers_all-has xs [] n h k = absurd (cc)
covers_all-has xs (y ∷ ys) n h k =
    let both = and-both (covers xs y.lower y.upper) (covers_all xs ys) h in
    elim (or-either (in_range y n) (in_ranges ys n) k) [
      | inl e ↦ covers-has xs y.lower y.upper n both.0 e
      | inr e ↦ covers_all-has xs ys n both.1 e
    ]

-- ---- lists of ranges behind each other, and the ranges of numbers

pub in_ranges-first : (xs ys : List Range) (n : ℕ) → in_ranges xs n ≡ true → in_ranges (xs ++ ys) n ≡ true
in_ranges-first [] ys n h = absurd (cc)
in_ranges-first (x ∷ xs) ys n h = elim (or-either (in_range x n) (in_ranges xs n) h) [
  | inl e ↦ or-first (in_range x n) (in_ranges (xs ++ ys) n) e
  | inr e ↦ or-second (in_range x n) (in_ranges (xs ++ ys) n) (in_ranges-first xs ys n e)
]

pub in_ranges-second : (xs ys : List Range) (n : ℕ) → in_ranges ys n ≡ true → in_ranges (xs ++ ys) n ≡ true
in_ranges-second [] ys n h = h
in_ranges-second (x ∷ xs) ys n h = or-second (in_range x n) (in_ranges (xs ++ ys) n) (in_ranges-second xs ys n h)

ranges_onto-keeps : (rs : List Range) (ns : List ℕ) (n : ℕ) → in_ranges rs n ≡ true
    → in_ranges (ranges_onto rs ns) n ≡ true
ranges_onto-keeps rs [] n h = h
ranges_onto-keeps rs (x ∷ xs) n h = ranges_onto-keeps (with_range rs x x) xs n (with_range-keeps rs x x n h)

itself : (x n : ℕ) → (x == n) ≡ true → is_between x x n ≡ true
itself x n h = grind (arith, nat_tests, h)

pub ranges_onto-adds : (rs : List Range) (ns : List ℕ) (n : ℕ) → has_number ns n ≡ true
    → in_ranges (ranges_onto rs ns) n ≡ true
ranges_onto-adds rs [] n h = absurd (cc)
ranges_onto-adds rs (x ∷ xs) n h = elim (or-either (x == n) (has_number xs n) h) [
  | inl e ↦ ranges_onto-keeps (with_range rs x x) xs n (with_range-adds rs x x n (itself x n e))
  | inr e ↦ ranges_onto-adds (with_range rs x x) xs n e
]
