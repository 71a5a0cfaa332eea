use Rattle.rm_protocol.proofs.TellLemmas.{a-pair-tells}
use Rattle.rm_protocol.proofs.laws.a_pair_tells.Goals as goal

pub returns : goal.returns
returns c = a-pair-tells
