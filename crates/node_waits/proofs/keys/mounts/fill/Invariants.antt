use Rattle.std.proofs.Common.{◌+◌, drop, filter}
use Rattle.timers.specs.Keys.Keyed.{keys_in}
use Rattle.rm_protocol.specs.Waiting.{key, is_waiting, keys_from, waiting_keys}
use Rattle.record_batch.specs.Sequences.Makers.{makers}
use Rattle.node_waits.specs.Keys.Filled.{AllBefore}
use Rattle.node_waits.proofs.KeysLemmas.FillLemmas.{Part}
use Rattle.node_waits.proofs.keys.mounts.fill.Given as goal

abbrev pub invariant-loop-before : goal.invariant-loop-before
invariant-loop-before l = record {
  part : Part l.fn.timers l.timers
      (filter (is_waiting l.tables.records)
      (keys_from l.tables.records l.before (drop l.before (makers l.tables.records))))
      (waiting_keys l.tables.records);
  before : AllBefore (keys_in l.timers.cells) (key (l.before + 1) 0);
}
