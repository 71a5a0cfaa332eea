use Rattle.record_batch.specs.Snapshot.GoneLemmas.{numbers-from-one}
use Rattle.record_batch.proofs.snapshot.laws.numbers_are_from_one.Goals as goal

pub returns : goal.returns
returns c = numbers-from-one
