use Rattle.std.proofs.Common.{◌≡◌, ◌++◌, drop, length, map}
use Rattle.record_batch.specs.Fact.{fact_of}
use Rattle.node_tables.specs.Kept.{records_of, tolds}
use Rattle.node_tables.proofs.copies.copies_of.Given as goal

-- those that were copied, and those that are left
abbrev pub invariant-loop-note : goal.invariant-loop-note
invariant-loop-note l = record {
  len : length l.expected.items ≡ length l.rows;
  copied : map fact_of l.copies.items ++ records_of (map fact_of l.kept) (tolds l.rows) (drop l.note-index l.notes)
      ≡ records_of (map fact_of l.kept) (tolds l.rows) l.notes;
}
