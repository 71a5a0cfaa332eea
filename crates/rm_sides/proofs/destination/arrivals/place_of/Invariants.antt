use Rattle.std.proofs.Common.{ℕ, ◌-◌, ◌<◌, ◌≤◌, length}
use Rattle.std.specs.Prelude.{slice_index_or}
use Rattle.rm_sides.specs.Destination.Kept.{numbers_at}
use Rattle.rm_sides.proofs.destination.arrivals.place_of.Given as goal

-- the numbers before low are below the number, and those from high on are not
abbrev pub invariant-loop-low : goal.invariant-loop-low
invariant-loop-low l = record {
  ordered : l.low ≤ l.high;
  within : l.high ≤ length l.places;
  below : (k : ℕ) → k < l.low → slice_index_or (numbers_at l.places) k 0 < l.number;
  above : (k : ℕ) → l.high ≤ k → k < length l.places → l.number ≤ slice_index_or (numbers_at l.places) k 0;
}

abbrev pub decreases-loop-low : goal.decreases-loop-low
decreases-loop-low l = l.high - l.low
