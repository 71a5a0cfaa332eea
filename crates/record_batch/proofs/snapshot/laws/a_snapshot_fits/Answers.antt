use Rattle.record_batch.specs.Snapshot.WalkLemmas.{snapshot-fits}
use Rattle.record_batch.proofs.snapshot.laws.a_snapshot_fits.Goals as goal

pub returns : goal.returns
returns c = snapshot-fits c.union_has_both.ensures c.ends_are_right.ensures
