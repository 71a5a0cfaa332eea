use Rattle.rm_sides.proofs.DestinationLemmas.LawLemmas.{inbox-discarded}
use Rattle.rm_sides.proofs.destination.laws.nothing_is_lost.Goals as goal

pub returns : goal.returns
returns c = inbox-discarded
