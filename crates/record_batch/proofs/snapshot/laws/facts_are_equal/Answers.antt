use Rattle.record_batch.specs.Snapshot.FactLemmas.{facts-equal}
use Rattle.record_batch.proofs.snapshot.laws.facts_are_equal.Goals as goal

pub returns : goal.returns
returns c = facts-equal
