use Rattle.std.proofs.Common.{◌≡◌, ℕ, Bool, List, length, map}
use Rattle.record_batch.specs.Fact.{fact_of}
use Rattle.record_batch.specs.declared.record.Record.{Record}
use Rattle.node_store.proofs.RewriteLemmas.{Measures}
use Rattle.node_store.proofs.rewrite.measure.Given as goal

pub record MeasuresTo (records : List Record) (k end size : ℕ) (fit : Bool) : Type 0 where
  pub measures : Measures (map fact_of records) k size fit
  pub end_is : end ≡ length records

abbrev pub invariant-loop-k : goal.invariant-loop-k
invariant-loop-k l = MeasuresTo l.records l.k l.k-end l.size l.fit
