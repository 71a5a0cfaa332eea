use Rattle.node_tables.specs.RecordedLemmas.{numbered-addressed}
use Rattle.node_tables.proofs.laws.a_node_with_a_number_has_an_address.Goals as goal

pub returns : goal.returns
returns c = numbered-addressed
