use Rattle.node_laws.proofs.Kept.{made-kept}
use Rattle.node_laws.proofs.laws.a_made_node_has_its_records.Goals as goal

pub returns : goal.returns
returns c = made-kept
