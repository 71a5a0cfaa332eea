use Rattle.rm_message.proofs.ElementsLemmas.LifecycleBack.{lifecycle_again}
use Rattle.rm_message.proofs.elements.laws.lifecycle_is_read_back.Goals as goal

pub returns : goal.returns
returns c = lifecycle_again c.epr_is_read_back.ensures
