use Rattle.rm_policy.proofs.AlternativesLemmas.FindLemmas.{normal_stands, common_stands}
use Rattle.rm_policy.proofs.alternatives.laws.what_is_found_is_not_refused.Goals as goal

pub returns-clause-normal : goal.returns-clause-normal
returns-clause-normal c = λ bytes lists error f g. normal_stands c.one_tree.ensures bytes lists error f g

pub returns-clause-common : goal.returns-clause-common
returns-clause-common c = λ bytes lists error f g. common_stands c.one_tree.ensures bytes lists error f g
