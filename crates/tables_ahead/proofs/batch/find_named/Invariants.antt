use Rattle.std.proofs.Common.{◌≡◌, ◌+◌, drop, length, map}
use Rattle.record_batch.specs.Fact.{fact_of}
use Rattle.record_batch.specs.Sequences.Makers.{created_from, makers, seq_in}
use Rattle.tables_ahead.proofs.batch.find_named.Given as goal

abbrev pub invariant-loop-given : goal.invariant-loop-given
invariant-loop-given l = record {
  made_ : l.count + length (makers (map fact_of (drop l.given-index l.batch)))
      ≡ l.made + length (makers (map fact_of l.batch));
  told : seq_in (created_from l.count (map fact_of (drop l.given-index l.batch))) l.ident
      ≡ seq_in (created_from l.made (map fact_of l.batch)) l.ident;
}
