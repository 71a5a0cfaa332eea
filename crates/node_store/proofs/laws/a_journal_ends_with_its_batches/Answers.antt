use Rattle.node_store.proofs.HasLemmas.{end_of-batches}
use Rattle.node_store.proofs.laws.a_journal_ends_with_its_batches.Goals as goal

pub returns : goal.returns
returns c = end_of-batches
