use Rattle.std.proofs.Common.{◌≡◌, drop}
use Rattle.record_batch.specs.Sequences.Find.{find_creating, find_from, is_creating}
use Rattle.record_batch.specs.Sequences.Makers.{makers}
use Rattle.node_tables.proofs.tables.Tables.find_creating.Given as goal

abbrev pub invariant-loop-before : goal.invariant-loop-before
invariant-loop-before l =
    find_from (is_creating l.self.records l.message_id) l.before (drop l.before (makers l.self.records))
    ≡ find_creating l.self.records l.message_id
