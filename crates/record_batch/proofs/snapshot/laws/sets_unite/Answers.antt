use Rattle.record_batch.specs.Snapshot.SameLemmas.{sets-unite}
use Rattle.record_batch.proofs.snapshot.laws.sets_unite.Goals as goal

pub returns : goal.returns
returns c = sets-unite c.union_has_both.ensures
