use Rattle.rm_sides.proofs.DestinationLemmas.LawLemmas.{front_of-IsFront}
use Rattle.rm_sides.proofs.destination.laws.front_is_reached.Goals as goal

pub returns : goal.returns
returns c = front_of-IsFront
