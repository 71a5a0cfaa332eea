-- Sets of message numbers as lists of ranges: WS-ReliableMessaging 1.2, section 3.9, where an AcknowledgementRange
-- names the numbers from its Lower to its Upper.
use Rattle.std.specs.Prelude.{◌≡◌, ℕ, ◌+◌, ◌<◌, ◌≤◌, ◌⊎◌, Bool, false, ◌&&◌, ◌||◌, ◌==◌, nat_le, IsTrue}
use Rattle.std.specs.Prelude.{if◌then◌else◌, List, [], ◌∷◌, length, ◌-◌, sum_by}
use Rattle.rm_base.specs.NumberSet.{IsRising, has_number, greatest_of as greatest_number}
use Rattle.rm_sides.specs.declared.ranges.range.Range.{Range}
use Rattle.rm_base.specs.Message.{max_number}

-- a set of numbers: its ranges, and beside them how many more it takes without memory
pub record Contents : Type 0 where
  pub ranges : List Range
  pub spare : ℕ

-- n is one of the numbers from lower to upper
abbrev pub is_between : ℕ → ℕ → ℕ → Bool
is_between lower upper n = nat_le lower n && nat_le n upper

-- n lies in the range
abbrev pub in_range : Range → ℕ → Bool
in_range r n = is_between r.lower r.upper n

-- n lies in one of the ranges
abbrev pub in_ranges : List Range → ℕ → Bool
in_ranges [] n = false
in_ranges (r ∷ rs) n = in_range r n || in_ranges rs n

-- the ranges have n
abbrev pub Has : List Range → ℕ → Type 0
Has ranges n = IsTrue (in_ranges ranges n)

-- n is a number from 1 on that the ranges lack
abbrev pub Lacks : List Range → ℕ → Type 0
Lacks ranges n = (0 < n) × (in_ranges ranges n ≡ false)

-- each range begins at first or later, has a number, and ends at the greatest message number at the latest; the next
-- one begins after a number that lies in neither
abbrev pub RisesFrom : ℕ → List Range → Type 0
RisesFrom first [] = Unit {0}
RisesFrom first (r ∷ rs) = (first ≤ r.lower) × (r.lower ≤ r.upper) × (r.upper ≤ max_number) × RisesFrom (r.upper + 2) rs

-- ranges of message numbers that rise, with a number that is in none between each two neighbours
abbrev pub IsCanonical : List Range → Type 0
IsCanonical ranges = RisesFrom 1 ranges

-- the greatest m such that 1 to m are all inside, and 0 where 1 isn't
abbrev pub front_of : List Range → ℕ
front_of [] = 0
front_of (r ∷ rs) = if r.lower == 1 then r.upper else 0

-- 1 to m are all inside, and the number after m isn't
pub record IsFront (ranges : List Range) (m : ℕ) : Type 0 where
  pub inside : (n : ℕ) → 0 < n → n ≤ m → Has ranges n
  pub ends : Lacks ranges (m + 1)

-- the end of the last range, and 0 where there is none
abbrev pub greatest_of : List Range → ℕ
greatest_of [] = 0
greatest_of (r ∷ []) = r.upper
greatest_of (r ∷ s ∷ rs) = greatest_of (s ∷ rs)

-- how many numbers a range has
abbrev pub size_of : Range → ℕ
size_of r = r.upper + 1 - r.lower

-- how many numbers the ranges have
abbrev pub count_of : List Range → ℕ
count_of ranges = sum_by size_of ranges

-- what a set keeps: canonical ranges, and how many numbers they have
pub record IsCounted (ranges : List Range) (count : ℕ) : Type 0 where
  pub canonical : IsCanonical ranges
  pub counted : count ≡ count_of ranges

-- no number is above m, which is inside unless it is 0
pub record IsGreatest (ranges : List Range) (m : ℕ) : Type 0 where
  pub inside : 0 < m → Has ranges m
  pub above : (n : ℕ) → Has ranges n → n ≤ m

-- the first `most` numbers below the greatest that aren't inside: they rise, each is missing, and a missing number is
-- left out only where it is above these and they are as many as asked
pub record AreMissing (ranges : List Range) (most : ℕ) (numbers : List ℕ) : Type 0 where
  pub at_most : length numbers ≤ most
  pub rising : IsRising numbers
  pub missing : (n : ℕ) → IsTrue (has_number numbers n) → Lacks ranges n × (n < greatest_of ranges)
  pub first : (n : ℕ) → Lacks ranges n → n < greatest_of ranges →
      IsTrue (has_number numbers n) ⊎ ((length numbers ≡ most) × (greatest_number numbers < n))
