use Rattle.rm_sides.proofs.DestinationLemmas.LawLemmas.{numbered-came}
use Rattle.rm_sides.proofs.destination.laws.place_is_number.Goals as goal

pub returns : goal.returns
returns c = numbered-came
