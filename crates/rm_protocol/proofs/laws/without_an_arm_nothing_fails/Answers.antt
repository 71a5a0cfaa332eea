use Rattle.rm_protocol.proofs.LineLemmas.{unarmed-faultless, unarmed-next}
use Rattle.rm_protocol.proofs.laws.without_an_arm_nothing_fails.Goals as goal

pub returns-clause-lines : goal.returns-clause-lines
returns-clause-lines c = unarmed-faultless

pub returns-clause-next : goal.returns-clause-next
returns-clause-next c = unarmed-next
