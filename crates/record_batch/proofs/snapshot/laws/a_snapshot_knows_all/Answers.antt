use Rattle.record_batch.specs.Snapshot.SameLemmas.{snapshot-knows}
use Rattle.record_batch.proofs.snapshot.laws.a_snapshot_knows_all.Goals as goal

pub returns : goal.returns
returns c = snapshot-knows c.union_has_both.ensures c.ends_are_right.ensures c.same_numbers_same_ranges.ensures
