use Rattle.record_batch.specs.Snapshot.SameLemmas.{unacked-is-equal}
use Rattle.record_batch.proofs.snapshot.laws.unacked_is_equal.Goals as goal

pub returns : goal.returns
returns c = unacked-is-equal c.union_has_both.ensures c.same_numbers_same_ranges.ensures
