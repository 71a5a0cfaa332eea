-- The numbers of ranges that were put together are those of each.
use Rattle.std.proofs.Common.{◌≡◌, ◌⊎◌, ℕ, ◌+◌, ◌≤◌, ◌==◌, ◌||◌, nat_lt, min, max, cond, Bool, true, false, List, []}
use Rattle.std.proofs.Common.{◌∷◌, refl, arith, inl, inr}
use Rattle.std.proofs.lemmas.Bool.Decides.{nat_tests}
use Rattle.rm_sides.specs.declared.ranges.range.Range.{Range}
use Rattle.rm_sides.specs.Ranges.Ranges.{is_between, in_range, in_ranges}
use Rattle.rm_sides.specs.Ranges.Changes.{with_range, united}
use Rattle.rm_base.specs.NumberSet.{has_number}
use Rattle.record_batch.specs.Snapshot.NumberLemmas.{put}
use Rattle.record_batch.specs.Snapshot.Same.{AreProper}
use Rattle.rm_sides.specs.Destination.Messages.{ranges_onto}
use Rattle.rm_protocol.specs.Messages.{kind_of}
use Rattle.rm_protocol.specs.Rows.{ranges_of}

-- one of two
either : (x y : Bool) → (x || y) ≡ true → (x ≡ true) ⊎ (y ≡ true)
either true y h = inl refl
either false y h = inr h

or_first : (x y : Bool) → x ≡ true → (x || y) ≡ true
or_first true y h = refl
or_first false y h = absurd (cc)

or_second : (x y : Bool) → y ≡ true → (x || y) ≡ true
or_second true y h = refl
or_second false y h = h

-- two runs that meet or touch have no other numbers together
joined : (a b l u n : ℕ) → nat_lt (b + 1) l ≡ false → nat_lt (u + 1) a ≡ false → is_between (min a l) (max b u) n ≡ true
    → (is_between a b n ≡ true) ⊎ (is_between l u n ≡ true)
joined a b l u n h k e =
    elim (is_between a b n) as (λ z. is_between a b n ≡ z → (z ≡ true) ⊎ (is_between l u n ≡ true)) [
      | true ↦ λ d. inl refl
      | false ↦ λ d. inr (grind (arith, nat_tests))
    ] refl

pub with_range-has : (rs : List Range) (l u n : ℕ) → in_ranges (with_range rs l u) n ≡ true
    → (in_ranges rs n ≡ true) ⊎ (is_between l u n ≡ true)
with_range-has [] l u n h = elim (either (is_between l u n) false h) [ inl x ↦ inr x | inr x ↦ absurd (cc) ]
with_range-has (r ∷ rs) l u n h =
    elim (nat_lt (r.upper + 1) l) as (λ b. nat_lt (r.upper + 1) l ≡ b
    → in_ranges (cond b (r ∷ with_range rs l u)
    (cond (nat_lt (u + 1) r.lower) (record { lower = l; upper = u } ∷ r ∷ rs)
    (with_range rs (min r.lower l) (max r.upper u)))) n ≡ true
    → (in_ranges (r ∷ rs) n ≡ true) ⊎ (is_between l u n ≡ true)) [
      | true ↦ λ d e. elim (either (in_range r n) (in_ranges (with_range rs l u) n) e) [
        | inl x ↦ inl (or_first (in_range r n) (in_ranges rs n) x)
        | inr x ↦ elim (with_range-has rs l u n x) [
          | inl y ↦ inl (or_second (in_range r n) (in_ranges rs n) y)
          | inr y ↦ inr y
        ]
      ]
      | false ↦ λ d e. elim (nat_lt (u + 1) r.lower) as (λ c. nat_lt (u + 1) r.lower ≡ c
          → in_ranges (cond c (record { lower = l; upper = u } ∷ r ∷ rs)
          (with_range rs (min r.lower l) (max r.upper u))) n ≡ true
          → (in_ranges (r ∷ rs) n ≡ true) ⊎ (is_between l u n ≡ true)) [
            | true ↦ λ c k. elim (either (is_between l u n) (in_ranges (r ∷ rs) n) k) [ inl x ↦ inr x | inr x ↦ inl x ]
            | false ↦ λ c k. elim (with_range-has rs (min r.lower l) (max r.upper u) n k) [
              | inl x ↦ inl (or_second (in_range r n) (in_ranges rs n) x)
              | inr x ↦ elim (joined r.lower r.upper l u n d c x) [
                | inl y ↦ inl (or_first (in_range r n) (in_ranges rs n) y)
                | inr y ↦ inr y
              ]
            ]
          ] refl e
    ] refl h

pub united-has : (xs ys : List Range) (n : ℕ) → in_ranges (united xs ys) n ≡ true
    → (in_ranges xs n ≡ true) ⊎ (in_ranges ys n ≡ true)
united-has xs [] n h = inl h
united-has xs (y ∷ ys) n h = elim (united-has (with_range xs y.lower y.upper) ys n h) [
  | inl x ↦ elim (with_range-has xs y.lower y.upper n x) [
    | inl z ↦ inl z
    | inr z ↦ inr (or_first (in_range y n) (in_ranges ys n) z)
  ]
  | inr x ↦ inr (or_second (in_range y n) (in_ranges ys n) x)
]

-- canonical ranges have no other numbers
pub canonical-has : (ys : List Range) (n : ℕ) → in_ranges (united [] ys) n ≡ true → in_ranges ys n ≡ true
canonical-has ys n h = elim (united-has [] ys n h) [ inl x ↦ absurd (cc) | inr x ↦ x ]

-- ranges that have a number each, put together
with_range-proper : (rs : List Range) (l u : ℕ) → AreProper rs → l ≤ u → AreProper (with_range rs l u)
with_range-proper rs l u h le = (put rs l u h le).proper

pub united-proper : (xs ys : List Range) → AreProper xs → AreProper ys → AreProper (united xs ys)
united-proper xs [] h k = h
united-proper xs (y ∷ ys) h k =
    united-proper (with_range xs y.lower y.upper) ys (with_range-proper xs y.lower y.upper h k.0) k.1

ranges_onto-proper : (rs : List Range) (ns : List ℕ) → AreProper rs → AreProper (ranges_onto rs ns)
ranges_onto-proper rs [] h = h
ranges_onto-proper rs (n ∷ ns) h =
    ranges_onto-proper (with_range rs n n) ns (with_range-proper rs n n h (omega arith))

-- so are the ranges of numbers
pub ranges-proper : (ns : List ℕ) → AreProper (ranges_onto [] ns)
ranges-proper ns = ranges_onto-proper [] ns tt

itself : (x n : ℕ) → is_between x x n ≡ true → (x == n) ≡ true
itself x n h = grind (arith, nat_tests)

ranges_onto-has : (rs : List Range) (ns : List ℕ) (n : ℕ) → in_ranges (ranges_onto rs ns) n ≡ true
    → (in_ranges rs n ≡ true) ⊎ (has_number ns n ≡ true)
ranges_onto-has rs [] n h = inl h
ranges_onto-has rs (x ∷ xs) n h = elim (ranges_onto-has (with_range rs x x) xs n h) [
  | inl y ↦ elim (with_range-has rs x x n y) [
    | inl z ↦ inl z
    | inr z ↦ inr (or_first (x == n) (has_number xs n) (itself x n z))
  ]
  | inr y ↦ inr (or_second (x == n) (has_number xs n) y)
]

-- the ranges of numbers have no other ones
pub ranges-has : (ns : List ℕ) (n : ℕ) → in_ranges (ranges_onto [] ns) n ≡ true → has_number ns n ≡ true
ranges-has ns n h = elim (ranges_onto-has [] ns n h) [ inl x ↦ absurd (cc) | inr x ↦ x ]

pub ranges_of-kind_of : (rs : List Range) → ranges_of (kind_of rs) ≡ rs
ranges_of-kind_of [] = refl
ranges_of-kind_of (r ∷ rs) = refl
