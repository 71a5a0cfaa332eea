use Rattle.node_waits.proofs.KeysLemmas.AfterLemmas.{only-touched}
use Rattle.node_waits.proofs.keys.laws.only_the_touched_are_looked_at.Goals as goal

pub returns : goal.returns
returns c = only-touched c.records_leave_other_keys.ensures
