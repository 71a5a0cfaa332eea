use Rattle.node_store.proofs.HasLemmas.{one_list}
use Rattle.node_store.proofs.laws.bytes_stand_for_one_list_of_batches.Goals as goal

pub returns : goal.returns
returns c = one_list c.what_is_written_is_read.ensures.read
