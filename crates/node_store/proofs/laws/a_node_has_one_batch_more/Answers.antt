use Rattle.node_store.proofs.HasLemmas.{one_more}
use Rattle.node_store.proofs.laws.a_node_has_one_batch_more.Goals as goal

pub returns : goal.returns
returns c = one_more c.a_batch_that_fits_is_read_back.ensures
