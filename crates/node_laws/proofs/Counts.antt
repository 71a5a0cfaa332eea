-- More ranges never have fewer numbers.
use Rattle.std.proofs.Common.{◌≡◌, ℕ, ◌+◌, ◌-◌, ◌<◌, ◌≤◌, min, max, true, false, cond, List, [], ◌∷◌, arith}
use Rattle.std.specs.Prelude.{nat_lt}
use Rattle.std.specs.List.{AllByRecursion}
use Rattle.std.proofs.lemmas.Bool.Decides.{nat_tests}
use Rattle.std.proofs.lemmas.List.Sums.{sum_by-cons}
use Rattle.rm_sides.specs.declared.ranges.range.Range.{Range}
use Rattle.rm_sides.specs.Ranges.Changes.{with_range, united}
use Rattle.rm_sides.specs.Ranges.Laws.{RangeIsAdded}
use Rattle.rm_sides.specs.Ranges.Ranges.{RisesFrom, IsCanonical, size_of, count_of}
use Rattle.rm_base.specs.Message.{max_number}

-- a range from lower to upper
abbrev range : ℕ → ℕ → Range
range lower upper = record { lower = lower; upper = upper }

first-count : (r : Range) (rs : List Range) → count_of (r ∷ rs) ≡ size_of r + count_of rs
first-count r rs = sum_by-cons size_of r rs

-- a range that holds the numbers from b to a, which lie before all others, keeps those and the others
joined : (b a lower upper : ℕ) (rs : List Range) → RisesFrom (a + 2) rs → lower ≤ b → b ≤ a + 1 → a ≤ upper
    → count_of rs + (a + 1 - b) ≤ count_of (with_range rs lower upper)
joined b a lower upper [] h low mid up = omega (arith, first-count (range lower upper) [])
joined b a lower upper (r ∷ rs) h low mid up =
    let rest : count_of rs + (r.upper + 1 - b)
    ≤ count_of (with_range rs (min r.lower lower) (max r.upper upper)) =
    joined b r.upper (min r.lower lower) (max r.upper upper) rs h.3 (omega arith) (omega (arith, h.0, h.1))
    (omega arith) in
    let all : count_of (r ∷ rs) ≡ size_of r + count_of rs = first-count r rs in
    let more : count_of (range lower upper ∷ r ∷ rs) ≡ size_of (range lower upper) + count_of (r ∷ rs) =
    first-count (range lower upper) (r ∷ rs) in
    let past : nat_lt (r.upper + 1) lower ≡ false = grind (arith, nat_tests, h.0, h.1) in
    rw past (elim (nat_lt (upper + 1) r.lower) as (λ x. count_of (r ∷ rs) + (a + 1 - b)
    ≤ count_of (cond x (range lower upper ∷ r ∷ rs) (with_range rs (min r.lower lower) (max r.upper upper)))) [
      | true ↦ omega (arith, more)
      | false ↦ omega (arith, rest, all, h.0, h.1)
    ])

grows : (first lower upper : ℕ) (rs : List Range) → RisesFrom first rs
    → count_of rs ≤ count_of (with_range rs lower upper)
grows first lower upper [] h = omega arith
grows first lower upper (r ∷ rs) h =
    let rest : count_of rs ≤ count_of (with_range rs lower upper) = grows (r.upper + 2) lower upper rs h.3 in
    let one : count_of rs + (r.upper + 1 - r.lower)
    ≤ count_of (with_range rs (min r.lower lower) (max r.upper upper)) =
    joined r.lower r.upper (min r.lower lower) (max r.upper upper) rs h.3 (omega arith) (omega (arith, h.1))
    (omega arith) in
    let all : count_of (r ∷ rs) ≡ size_of r + count_of rs = first-count r rs in
    let more : count_of (range lower upper ∷ r ∷ rs) ≡ size_of (range lower upper) + count_of (r ∷ rs) =
    first-count (range lower upper) (r ∷ rs) in
    let behind : count_of (r ∷ with_range rs lower upper) ≡ size_of r + count_of (with_range rs lower upper) =
    first-count r (with_range rs lower upper) in
    elim (nat_lt (r.upper + 1) lower) as (λ x. count_of (r ∷ rs)
    ≤ count_of (cond x (r ∷ with_range rs lower upper) (cond (nat_lt (upper + 1) r.lower)
    (range lower upper ∷ r ∷ rs) (with_range rs (min r.lower lower) (max r.upper upper))))) [
      | true ↦ omega (arith, rest, all, behind)
      | false ↦ elim (nat_lt (upper + 1) r.lower) as (λ x. count_of (r ∷ rs)
          ≤ count_of (cond x (range lower upper ∷ r ∷ rs) (with_range rs (min r.lower lower) (max r.upper upper)))) [
            | true ↦ omega (arith, more)
            | false ↦ omega (arith, one, all)
          ]
    ]

-- ---- unions

-- a range of message numbers
pub record IsProper (r : Range) : Type 0 where
  pub low : 0 < r.lower
  pub rises : r.lower ≤ r.upper
  pub high : r.upper ≤ max_number

pub canonical-proper : (first : ℕ) (rs : List Range) → 0 < first → RisesFrom first rs → AllByRecursion IsProper rs
canonical-proper first [] some h = tt
canonical-proper first (r ∷ rs) some h = (
  record { low = omega (arith, h.0); rises = h.1; high = h.2 },
  canonical-proper (r.upper + 2) rs (omega arith) h.3,
)

pub united-canonical : RangeIsAdded → (xs ys : List Range) → IsCanonical xs → AllByRecursion IsProper ys
    → IsCanonical (united xs ys)
united-canonical law xs [] h p = h
united-canonical law xs (y ∷ ys) h p =
    united-canonical law (with_range xs y.lower y.upper) ys
    (law xs y.lower y.upper h p.0.low p.0.rises p.0.high).canonical p.1

pub united-grows : RangeIsAdded → (xs ys : List Range) → IsCanonical xs → AllByRecursion IsProper ys
    → count_of xs ≤ count_of (united xs ys)
united-grows law xs [] h p = omega arith
united-grows law xs (y ∷ ys) h p =
    let one : count_of xs ≤ count_of (with_range xs y.lower y.upper) = grows 1 y.lower y.upper xs h in
    let rest : count_of (with_range xs y.lower y.upper) ≤ count_of (united (with_range xs y.lower y.upper) ys) =
    united-grows law (with_range xs y.lower y.upper) ys
    (law xs y.lower y.upper h p.0.low p.0.rises p.0.high).canonical p.1 in
    omega (arith, one, rest)
