use Rattle.rm_protocol.proofs.TellLemmas.{made-pair}
use Rattle.rm_protocol.proofs.laws.two_made_nodes_are_a_pair.Goals as goal

pub returns : goal.returns
returns c = made-pair
