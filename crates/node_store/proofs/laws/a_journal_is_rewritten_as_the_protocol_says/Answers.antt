use Rattle.node_store.proofs.FreshLemmas.{as_protocol}
use Rattle.node_store.proofs.laws.a_journal_is_rewritten_as_the_protocol_says.Goals as goal

pub returns : goal.returns
returns c = as_protocol
