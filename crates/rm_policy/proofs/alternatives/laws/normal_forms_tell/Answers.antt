use Rattle.rm_policy.proofs.AlternativesLemmas.LawLemmas.{normal-same, normal-one}
use Rattle.rm_policy.proofs.alternatives.laws.normal_forms_tell.Goals as goal

pub returns-clause-same : goal.returns-clause-same
returns-clause-same c = normal-same

pub returns-clause-one : goal.returns-clause-one
returns-clause-one c = normal-one
