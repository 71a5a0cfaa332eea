use Rattle.rm_protocol.proofs.FinalLemmas.{final-closes}
use Rattle.rm_protocol.proofs.laws.a_final_acknowledgement_closes.Goals as goal

pub returns : goal.returns
returns c = final-closes
