use Rattle.record_batch.proofs.RangeLemmas.{IsSetSoFar}
use Rattle.record_batch.proofs.readers.set_of.Given as goal

abbrev pub invariant-loop-range : goal.invariant-loop-range
invariant-loop-range l = IsSetSoFar l.ranges l.range-index l.first l.set.ranges
