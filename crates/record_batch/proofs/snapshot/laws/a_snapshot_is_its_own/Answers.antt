use Rattle.record_batch.specs.Snapshot.TwiceLemmas.{snapshot-twice}
use Rattle.record_batch.proofs.snapshot.laws.a_snapshot_is_its_own.Goals as goal

pub returns : goal.returns
returns c = snapshot-twice c.union_has_both.ensures c.ends_are_right.ensures c.same_numbers_same_ranges.ensures
