use Rattle.std.proofs.Common.{◌-◌}
use Rattle.timers.specs.Keys.Keyed.{keys_in}
use Rattle.rm_protocol.specs.Waiting.{key}
use Rattle.node_waits.specs.Keys.Filled.{AllBefore, own_waiting}
use Rattle.node_waits.proofs.KeysLemmas.FillLemmas.{Part}
use Rattle.node_waits.proofs.keys.mounts.fill_from.Given as goal

abbrev pub invariant-loop-number : goal.invariant-loop-number
invariant-loop-number l = record {
  part : Part l.fn.timers l.timers (own_waiting l.tables.records l.seq l.number (l.count - l.number))
      (own_waiting l.tables.records l.seq l.from (l.count - l.from));
  before : AllBefore (keys_in l.timers.cells) (key l.seq l.number);
}
