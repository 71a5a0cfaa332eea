use Rattle.rm_station.proofs.AcceptLemmas.{asked-again}
use Rattle.rm_station.proofs.laws.what_is_asked_again_is_not_accepted_again.Goals as goal

pub returns : goal.returns
returns g c =
    asked-again c.there_are_own_terms.ensures g.D.Disk.tells g.D.Disk.told g.C.Clock.next
