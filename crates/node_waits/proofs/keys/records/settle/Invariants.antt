use Rattle.std.proofs.Common.{◌≡◌, ◌-◌, List, length}
use Rattle.timers.specs.Keys.Keyed.{StandsFor}
use Rattle.timers.specs.Keys.Waits.{Wait}
use Rattle.node_waits.proofs.KeysLemmas.SettleLemmas.{Passed, with_cells}
use Rattle.node_waits.proofs.keys.records.settle.Given as goal

abbrev pub invariant-loop-key : goal.invariant-loop-key
invariant-loop-key l = record {
  passed : Passed l.tables.records l.touched l.fn.timers.cells l.timers.cells l.place;
  stands : (waits : List Wait) → StandsFor l.fn.timers waits
      → StandsFor l.timers (with_cells l.timers.cells waits);
  time : l.timers.time ≡ l.fn.timers.time;
}

abbrev pub decreases-loop-key : goal.decreases-loop-key
decreases-loop-key l = length l.timers.cells - l.place
