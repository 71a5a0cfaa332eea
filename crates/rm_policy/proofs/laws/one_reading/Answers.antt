use Rattle.rm_policy.proofs.Readings.{same_reading}
use Rattle.rm_policy.proofs.laws.one_reading.Goals as goal

pub returns : goal.returns
returns c = λ bytes one other r s. same_reading c.one_tree.ensures bytes one other r s
