use Rattle.node_laws.proofs.SnapshotsLemmas.KeptLemmas.{all_proper}
use Rattle.node_laws.proofs.snapshots.laws.a_node_has_proper_ranges.Goals as goal

pub returns : goal.returns
returns c r kept = all_proper r kept.values
