use Rattle.record_batch.specs.Snapshot.KeepLemmas.{snapshot-says}
use Rattle.record_batch.proofs.snapshot.laws.a_snapshot_says_the_same.Goals as goal

pub returns : goal.returns
returns c = snapshot-says c.union_has_both.ensures c.ends_are_right.ensures
