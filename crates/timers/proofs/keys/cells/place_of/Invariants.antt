use Rattle.std.proofs.Common.{ℕ, ◌≡◌, ◌-◌, ◌<◌, ◌≤◌, length, true, false}
use Rattle.timers.specs.Keys.Keyed.{cell_at, is_before}
use Rattle.timers.proofs.keys.cells.place_of.Given as goal

abbrev pub invariant-loop-low : goal.invariant-loop-low
invariant-loop-low l = record {
  ordered : l.low ≤ l.high;
  within : l.high ≤ length l.cells;
  before : (k : ℕ) → k < l.low → is_before (cell_at l.cells k).key l.key ≡ true;
  after : (k : ℕ) → l.high ≤ k → k < length l.cells → is_before (cell_at l.cells k).key l.key ≡ false;
}

abbrev pub decreases-loop-low : goal.decreases-loop-low
decreases-loop-low l = l.high - l.low
