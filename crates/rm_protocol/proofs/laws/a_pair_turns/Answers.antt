use Rattle.rm_protocol.proofs.TellLemmas.{a-pair-turns}
use Rattle.rm_protocol.proofs.laws.a_pair_turns.Goals as goal

pub returns : goal.returns
returns c = a-pair-turns
