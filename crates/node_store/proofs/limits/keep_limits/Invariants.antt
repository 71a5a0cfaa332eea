use Rattle.record_batch.specs.Fact.{fact_of}
use Rattle.node_laws.specs.Records.{KeepsLimits}
use Rattle.node_store.proofs.LimitLemmas.{LeftDecide}
use Rattle.node_store.proofs.limits.keep_limits.Given as goal

-- those that are left decide
abbrev pub invariant-loop-given : goal.invariant-loop-given
invariant-loop-given l = LeftDecide KeepsLimits fact_of l.batch l.given-index
