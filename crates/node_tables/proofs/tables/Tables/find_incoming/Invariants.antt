use Rattle.std.proofs.Common.{◌≡◌, drop}
use Rattle.record_batch.specs.Sequences.Find.{find_incoming, find_from, is_incoming}
use Rattle.record_batch.specs.Sequences.Makers.{makers, number}
use Rattle.node_tables.proofs.tables.Tables.find_incoming.Given as goal

abbrev pub invariant-loop-before : goal.invariant-loop-before
invariant-loop-before l =
    find_from (is_incoming (number l.self.records) l.ident) l.before (drop l.before (makers l.self.records))
    ≡ find_incoming l.self.records l.ident
