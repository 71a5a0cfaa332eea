use Rattle.std.proofs.Common.{◌≡◌, ◌+◌, drop, length, map}
use Rattle.record_batch.specs.Fact.{fact_of}
use Rattle.record_batch.specs.Sequences.Makers.{created_from, ident_in, makers}
use Rattle.tables_ahead.proofs.batch.find_ident.Given as goal

abbrev pub invariant-loop-given : goal.invariant-loop-given
invariant-loop-given l = record {
  made_ : l.count + length (makers (map fact_of (drop l.given-index l.batch)))
      ≡ l.made + length (makers (map fact_of l.batch));
  told : ident_in (created_from l.count (map fact_of (drop l.given-index l.batch))) l.seq
      ≡ ident_in (created_from l.made (map fact_of l.batch)) l.seq;
}
