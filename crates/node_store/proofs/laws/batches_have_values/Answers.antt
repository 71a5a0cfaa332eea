use Rattle.node_store.proofs.HasLemmas.{values_in}
use Rattle.node_store.proofs.laws.batches_have_values.Goals as goal

pub returns : goal.returns
returns c = values_in
