-- Places in a canonical list of ranges.
use Rattle.std.specs.Prelude.{ℕ, ◌+◌, ◌<◌, ◌≤◌, List, [], ◌∷◌, length, slice_index_or}
use Rattle.rm_sides.specs.declared.ranges.range.Range.{Range}

-- the range at a place
abbrev pub range_at : List Range → ℕ → Range
range_at ranges k = slice_index_or ranges k (record { lower = 0; upper = 0 })

-- the ranges before the place end before n, and the others don't
pub record IsPlace (ranges : List Range) (n place : ℕ) : Type 0 where
  pub within : place ≤ length ranges
  pub before : (k : ℕ) → k < place → (range_at ranges k).upper < n
  pub after : (k : ℕ) → place ≤ k → k < length ranges → n ≤ (range_at ranges k).upper

-- the ranges before the place begin at n or earlier, and the others don't
pub record IsEnd (ranges : List Range) (n place : ℕ) : Type 0 where
  pub within : place ≤ length ranges
  pub before : (k : ℕ) → k < place → (range_at ranges k).lower ≤ n
  pub after : (k : ℕ) → place ≤ k → k < length ranges → n < (range_at ranges k).lower

-- the ranges between two places are those that the numbers from lower to upper meet or touch
pub record IsSpan (ranges : List Range) (lower upper from to : ℕ) : Type 0 where
  pub rises : from ≤ to
  pub within : to ≤ length ranges
  pub before : (k : ℕ) → k < from → (range_at ranges k).upper + 1 < lower
  pub touched : (k : ℕ) → from ≤ k → k < to →
      ((range_at ranges k).lower ≤ upper + 1) × (lower ≤ (range_at ranges k).upper + 1)
  pub after : (k : ℕ) → to ≤ k → k < length ranges → upper + 1 < (range_at ranges k).lower

-- each range begins at n or earlier
abbrev pub StartsBy : List Range → ℕ → Type 0
StartsBy [] n = Unit {0}
StartsBy (r ∷ rs) n = (r.lower ≤ n) × StartsBy rs n

-- xs has a range at i, which begins no later than the one of ys at j, if there is one
pub record IsNextOf (xs : List Range) (i : ℕ) (ys : List Range) (j : ℕ) : Type 0 where
  pub within : i < length xs
  pub first : j < length ys → (range_at xs i).lower ≤ (range_at ys j).lower

-- the same, and it begins before the other
pub record IsNextBefore (xs : List Range) (i : ℕ) (ys : List Range) (j : ℕ) : Type 0 where
  pub within : i < length xs
  pub first : j < length ys → (range_at xs i).lower < (range_at ys j).lower
