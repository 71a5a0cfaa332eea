use Rattle.node_tables.specs.RecordedLemmas.{incoming-recorded}
use Rattle.node_tables.proofs.laws.an_incoming_sequence_is_as_recorded.Goals as goal

pub returns : goal.returns
returns c = incoming-recorded
