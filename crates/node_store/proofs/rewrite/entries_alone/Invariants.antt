use Rattle.std.proofs.Common.{length, map}
use Rattle.std.specs.Vec.Iter.{into_iter_items}
use Rattle.record_batch.specs.Fact.{fact_of}
use Rattle.node_store.proofs.RewriteLemmas.{AreLeft}
use Rattle.node_store.proofs.rewrite.entries_alone.Given as goal

abbrev pub invariant-loop-given : goal.invariant-loop-given
invariant-loop-given l = AreLeft (map fact_of l.fn.records) l.entries.items (map fact_of (into_iter_items l.rest))

abbrev pub decreases-loop-given : goal.decreases-loop-given
decreases-loop-given l = length (into_iter_items l.rest)
