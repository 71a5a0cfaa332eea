use Rattle.std.proofs.Common.{ℕ, ◌-◌, ◌<◌, ◌≤◌, length}
use Rattle.rm_sides.specs.Ranges.Places.{range_at}
use Rattle.rm_sides.proofs.ranges.range.place_of.Given as goal

abbrev pub invariant-loop-low : goal.invariant-loop-low
invariant-loop-low l = record {
  ordered : l.low ≤ l.high;
  within : l.high ≤ length l.ranges;
  before : (k : ℕ) → k < l.low → (range_at l.ranges k).upper < l.n;
  after : (k : ℕ) → l.high ≤ k → k < length l.ranges → l.n ≤ (range_at l.ranges k).upper;
}

abbrev pub decreases-loop-low : goal.decreases-loop-low
decreases-loop-low l = l.high - l.low
