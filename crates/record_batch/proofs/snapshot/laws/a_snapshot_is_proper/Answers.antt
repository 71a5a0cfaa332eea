use Rattle.record_batch.specs.Snapshot.WrittenLemmas.{snapshot-is-proper}
use Rattle.record_batch.proofs.snapshot.laws.a_snapshot_is_proper.Goals as goal

pub returns : goal.returns
returns c = snapshot-is-proper c.union_has_both.ensures c.ends_are_right.ensures
