use Rattle.node_laws.proofs.Deadlines.{ends-once}
use Rattle.node_laws.proofs.laws.a_duration_ends_once.Goals as goal

pub returns : goal.returns
returns c = ends-once
