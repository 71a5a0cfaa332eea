use Rattle.std.proofs.Common.{◌≡◌, List, drop}
use Rattle.timers.specs.Keys.Keyed.{StandsFor}
use Rattle.timers.specs.Keys.Waits.{Wait, send_all}
use Rattle.node_waits.proofs.KeysLemmas.MoveLemmas.{Moved}
use Rattle.node_waits.proofs.keys.moves.emit_all.Given as goal

abbrev pub invariant-loop-key : goal.invariant-loop-key
invariant-loop-key l = record {
  moved : (waits : List Wait) → StandsFor l.fn.timers waits
      → Moved (send_all l.fn.timers.time) l.fn.timers l.timers waits l.fn.keys (drop l.key-index l.fn.keys);
  cells : l.timers.cells ≡ l.fn.timers.cells;
  time : l.timers.time ≡ l.fn.timers.time;
}
