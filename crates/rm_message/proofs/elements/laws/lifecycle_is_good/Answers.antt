use Rattle.rm_message.proofs.ElementsLemmas.LifecycleGood.{lifecycle_good}
use Rattle.rm_message.proofs.elements.laws.lifecycle_is_good.Goals as goal

pub returns : goal.returns
returns c = lifecycle_good c.epr_is_good.ensures
