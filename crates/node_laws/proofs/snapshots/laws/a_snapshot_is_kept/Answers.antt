use Rattle.node_laws.proofs.SnapshotsLemmas.KeptLemmas.{snapshot_kept}
use Rattle.node_laws.proofs.snapshots.laws.a_snapshot_is_kept.Goals as goal

pub returns : goal.returns
returns c = snapshot_kept c.union_has_both.ensures c.ends_are_right.ensures c.same_numbers_same_ranges.ensures
