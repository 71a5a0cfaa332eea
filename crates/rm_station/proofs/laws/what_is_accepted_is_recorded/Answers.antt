use Rattle.rm_station.proofs.AcceptLemmas.{is-recorded}
use Rattle.rm_station.proofs.laws.what_is_accepted_is_recorded.Goals as goal

pub returns : goal.returns
returns c = is-recorded c.there_are_own_terms.ensures
