-- Laws of canonical ranges, each the contract of a function in src/laws.rt.
use Rattle.std.specs.Prelude.{◌≡◌, ℕ, ◌+◌, ◌<◌, ◌≤◌, false, List, [], ◌∷◌, ◌++◌, length}
use Rattle.rm_base.specs.NumberSet.{IsRising, has_number}
use Rattle.rm_sides.specs.declared.ranges.range.Range.{Range}
use Rattle.rm_base.specs.Message.{max_number}
use Rattle.rm_sides.specs.Ranges.Ranges.{is_between, in_ranges, IsCanonical, front_of, IsFront, greatest_of, IsGreatest}
use Rattle.rm_sides.specs.Ranges.Ranges.{count_of}
use Rattle.rm_sides.specs.Ranges.Changes.{with_range, united, covers, covers_all, AddsExactly, BringsNew}

-- two canonical lists with the same numbers are equal
abbrev pub SameNumbersSameRanges : Type 0
SameNumbersSameRanges =
    (xs ys : List Range) → IsCanonical xs → IsCanonical ys → ((n : ℕ) → in_ranges xs n ≡ in_ranges ys n) → xs ≡ ys

-- a range put into others adds exactly its numbers
abbrev pub RangeIsAdded : Type 0
RangeIsAdded =
    (xs : List Range) (lower upper : ℕ) → IsCanonical xs → 0 < lower → lower ≤ upper → upper ≤ max_number →
    AddsExactly xs (with_range xs lower upper) (is_between lower upper)

-- a union has exactly the numbers of both
abbrev pub UnionHasBoth : Type 0
UnionHasBoth =
    (xs ys : List Range) → IsCanonical xs → IsCanonical ys → AddsExactly xs (united xs ys) (in_ranges ys)

-- where no range covers a run of numbers, one of them is new, and where not all of the other ranges are covered, too
pub record NewIsOneNotThere : Type 0 where
  pub of_range : (xs : List Range) (lower upper : ℕ) → IsCanonical xs → lower ≤ upper → covers xs lower upper ≡ false →
      BringsNew xs (is_between lower upper)
  pub of_ranges : (xs ys : List Range) → IsCanonical xs → IsCanonical ys → covers_all xs ys ≡ false →
      BringsNew xs (in_ranges ys)

-- the front and the greatest number are what their names say
pub record EndsAreRight : Type 0 where
  pub front : (xs : List Range) → IsCanonical xs → IsFront xs (front_of xs)
  pub greatest : (xs : List Range) → IsCanonical xs → IsGreatest xs (greatest_of xs)

-- the count is the length of the rising list of the same numbers
abbrev pub CountIsHowMany : Type 0
CountIsHowMany =
    (xs : List Range) (numbers : List ℕ) → IsCanonical xs → IsRising numbers →
    ((n : ℕ) → has_number numbers n ≡ in_ranges xs n) → count_of xs ≡ length numbers

-- a range behind all others goes to the end
abbrev pub LaterRangeIsAppended : Type 0
LaterRangeIsAppended =
    (xs : List Range) (lower upper : ℕ) → IsCanonical xs → greatest_of xs + 1 < lower →
    with_range xs lower upper ≡ xs ++ record { lower = lower; upper = upper } ∷ []

-- the union of no numbers and a set is the set
abbrev pub UnionWithNothing : Type 0
UnionWithNothing = (xs : List Range) → IsCanonical xs → united [] xs ≡ xs
