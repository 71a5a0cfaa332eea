use Rattle.node_store.proofs.HasLemmas.{one_bank}
use Rattle.node_store.proofs.laws.bytes_stand_for_batches_in_one_bank.Goals as goal

pub returns : goal.returns
returns c = one_bank
