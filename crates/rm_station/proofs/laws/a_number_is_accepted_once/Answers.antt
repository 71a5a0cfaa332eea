use Rattle.rm_station.proofs.AcceptLemmas.{accepted-once}
use Rattle.rm_station.proofs.laws.a_number_is_accepted_once.Goals as goal

pub returns : goal.returns
returns g c n s t old new result x z seq first later payload other text words a turns b was is =
    accepted-once c.there_are_own_terms.ensures g.D.Disk.tells g.D.Disk.told g.C.Clock.next n s t old new result x z
    seq first later payload other text words turns b was
