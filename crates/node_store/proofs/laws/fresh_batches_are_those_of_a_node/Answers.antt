use Rattle.node_store.proofs.FreshLemmas.{fresh_of_node}
use Rattle.node_store.proofs.laws.fresh_batches_are_those_of_a_node.Goals as goal

pub returns : goal.returns
returns c = fresh_of_node c.a_batch_that_fits_is_read_back.ensures c.a_snapshot_is_kept.ensures
