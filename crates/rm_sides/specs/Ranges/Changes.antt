-- What adding numbers makes of a list of ranges.
use Rattle.std.specs.Prelude.{◌≡◌, ℕ, ◌+◌, Bool, true, false, ◌&&◌, ◌||◌, nat_le, nat_lt, IsTrue, if◌then◌else◌, max}
use Rattle.std.specs.Prelude.{min, List, [], ◌∷◌}
use Rattle.rm_sides.specs.declared.ranges.range.Range.{Range}
use Rattle.rm_sides.specs.Ranges.Ranges.{in_ranges, IsCanonical}

-- the numbers from lower to upper put into ranges: they join each range that they meet or touch
abbrev pub with_range : List Range → ℕ → ℕ → List Range
with_range [] lower upper = record { lower = lower; upper = upper } ∷ []
with_range (r ∷ rs) lower upper =
    if nat_lt (r.upper + 1) lower then r ∷ with_range rs lower upper
    else if nat_lt (upper + 1) r.lower then record { lower = lower; upper = upper } ∷ r ∷ rs
    else with_range rs (min r.lower lower) (max r.upper upper)

-- the numbers of both lists
abbrev pub united : List Range → List Range → List Range
united xs [] = xs
united xs (y ∷ ys) = united (with_range xs y.lower y.upper) ys

-- one of the ranges has all numbers from lower to upper
abbrev pub covers : List Range → ℕ → ℕ → Bool
covers [] lower upper = false
covers (r ∷ rs) lower upper = (nat_le r.lower lower && nat_le upper r.upper) || covers rs lower upper

-- each of the other ranges lies in one of the ranges
abbrev pub covers_all : List Range → List Range → Bool
covers_all xs [] = true
covers_all xs (y ∷ ys) = covers xs y.lower y.upper && covers_all xs ys

-- exactly the added numbers have joined the old ones, and the new ranges are canonical
pub record AddsExactly (old new : List Range) (added : ℕ → Bool) : Type 0 where
  pub numbers : (n : ℕ) → in_ranges new n ≡ (in_ranges old n || added n)
  pub canonical : IsCanonical new

-- one of the added numbers isn't among the old ones
pub record BringsNew (old : List Range) (added : ℕ → Bool) : Type 0 where
  pub number : ℕ
  pub among : IsTrue (added number)
  pub absent : in_ranges old number ≡ false
