use Rattle.record_batch.specs.Snapshot.KeepLemmas.{snapshot-keeps}
use Rattle.record_batch.proofs.snapshot.laws.a_snapshot_keeps_all.Goals as goal

pub returns : goal.returns
returns c = snapshot-keeps c.union_has_both.ensures c.ends_are_right.ensures
