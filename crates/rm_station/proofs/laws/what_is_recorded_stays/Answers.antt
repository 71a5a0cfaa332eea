use Rattle.rm_station.proofs.AcceptLemmas.{stays-recorded}
use Rattle.rm_station.proofs.laws.what_is_recorded_stays.Goals as goal

pub returns : goal.returns
returns g c =
    stays-recorded c.there_are_own_terms.ensures g.D.Disk.tells g.D.Disk.told g.C.Clock.next
