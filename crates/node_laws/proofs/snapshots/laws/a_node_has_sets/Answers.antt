use Rattle.node_laws.proofs.SnapshotsLemmas.KeptLemmas.{sets_united}
use Rattle.node_laws.proofs.snapshots.laws.a_node_has_sets.Goals as goal

pub returns : goal.returns
returns c = sets_united c.union_has_both.ensures
