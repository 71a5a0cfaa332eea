use Rattle.record_batch.proofs.SequencesLemmas.IdentLemmas.{issue-once}
use Rattle.record_batch.proofs.sequences.laws.one_number_one_identifier.Goals as goal

pub returns : goal.returns
returns c = issue-once
