use Rattle.rm_sides.proofs.DestinationLemmas.LawLemmas.{inbox-prefix}
use Rattle.rm_sides.proofs.destination.laws.inbox_is_a_prefix.Goals as goal

pub returns : goal.returns
returns c = inbox-prefix
