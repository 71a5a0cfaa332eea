use Rattle.rm_sides.proofs.DestinationLemmas.LawLemmas.{loose-releases}
use Rattle.rm_sides.proofs.destination.laws.a_loose_inbox_has_all.Goals as goal

pub returns : goal.returns
returns c = loose-releases
