use Rattle.std.proofs.Common.{length, map}
use Rattle.std.specs.Vec.Iter.{into_iter_items}
use Rattle.record_batch.specs.Fact.{fact_of}
use Rattle.node_tables.specs.Ready.{IsReady}
use Rattle.node_tables.proofs.ApplyLemmas.{Applied}
use Rattle.node_tables.proofs.tables.Tables.apply_all.Given as goal

abbrev pub invariant-loop-given : goal.invariant-loop-given
invariant-loop-given l = record {
  some : Applied l.fn.self.records l.self.records (map fact_of l.fn.batch.items) (map fact_of (into_iter_items l.rest));
  ready : IsReady l.fn.self (map fact_of l.fn.batch.items) → IsReady l.self (map fact_of (into_iter_items l.rest));
}

abbrev pub decreases-loop-given : goal.decreases-loop-given
decreases-loop-given l = length (into_iter_items l.rest)
