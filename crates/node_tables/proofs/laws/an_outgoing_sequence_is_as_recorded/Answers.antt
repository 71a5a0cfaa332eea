use Rattle.node_tables.specs.RecordedLemmas.{outgoing-recorded}
use Rattle.node_tables.proofs.laws.an_outgoing_sequence_is_as_recorded.Goals as goal

pub returns : goal.returns
returns c = outgoing-recorded
