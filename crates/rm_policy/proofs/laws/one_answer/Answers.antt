use Rattle.rm_policy.proofs.Readings.{same_answer}
use Rattle.rm_policy.proofs.laws.one_answer.Goals as goal

pub returns : goal.returns
returns c = λ bytes one other r s some also. same_answer c.one_tree.ensures bytes one other r s some also
