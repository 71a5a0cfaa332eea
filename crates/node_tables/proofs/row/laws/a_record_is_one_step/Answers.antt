use Rattle.node_tables.specs.Row.StepLemmas.{after-step}
use Rattle.node_tables.proofs.row.laws.a_record_is_one_step.Goals as goal

pub returns : goal.returns
returns c = after-step
