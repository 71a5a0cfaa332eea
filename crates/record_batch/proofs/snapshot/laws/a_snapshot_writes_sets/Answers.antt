use Rattle.record_batch.specs.Snapshot.WrittenLemmas.{snapshot-writes-sets}
use Rattle.record_batch.proofs.snapshot.laws.a_snapshot_writes_sets.Goals as goal

pub returns : goal.returns
returns c = snapshot-writes-sets c.union_has_both.ensures c.ends_are_right.ensures
