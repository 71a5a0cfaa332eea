use Rattle.std.proofs.Common.{◌≡◌, List, drop}
use Rattle.timers.specs.Keys.Keyed.{StandsFor}
use Rattle.timers.specs.Keys.Waits.{Wait}
use Rattle.node_waits.specs.Keys.Settled.{cells_all}
use Rattle.node_waits.proofs.KeysLemmas.AfterLemmas.{Looked}
use Rattle.node_waits.proofs.keys.after.settle_all.Given as goal

abbrev pub invariant-loop-part : goal.invariant-loop-part
invariant-loop-part l = record {
  looked : (waits : List Wait) → StandsFor l.fn.timers waits
      → Looked l.tables.records l.fn.timers l.timers waits l.fn.touched (drop l.part-index l.fn.touched);
  cells : cells_all l.tables.records (drop l.part-index l.fn.touched) l.timers.cells
      ≡ cells_all l.tables.records l.fn.touched l.fn.timers.cells;
  time : l.timers.time ≡ l.fn.timers.time;
}
