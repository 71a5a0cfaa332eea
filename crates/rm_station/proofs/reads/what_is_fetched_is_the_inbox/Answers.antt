use Rattle.rm_station.proofs.ReadLemmas.{fetched-is-the-inbox}
use Rattle.rm_station.proofs.reads.what_is_fetched_is_the_inbox.Goals as goal

pub returns : goal.returns
returns c = fetched-is-the-inbox c.an_incoming_sequence_is_as_recorded.ensures
