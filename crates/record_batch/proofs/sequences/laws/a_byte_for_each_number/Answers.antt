use Rattle.record_batch.proofs.SequencesLemmas.DrawLemmas.{counter-few}
use Rattle.record_batch.proofs.sequences.laws.a_byte_for_each_number.Goals as goal

pub returns : goal.returns
returns c = counter-few
