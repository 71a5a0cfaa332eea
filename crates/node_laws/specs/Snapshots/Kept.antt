-- A snapshot of a node's records is such records.
use Rattle.std.specs.Prelude.{List}
use Rattle.record_batch.specs.Fact.{Fact}
use Rattle.node_laws.specs.Records.{IsKept}
use Rattle.record_batch.specs.Snapshot.Same.{HaveProper, UnionsAreSets}
use Rattle.record_batch.specs.Snapshot.Snapshot.{snapshot}

-- what a node accepts when it is mounted, it accepts in short
abbrev pub SnapshotIsKept : Type 0
SnapshotIsKept = (r : List Fact) → IsKept r → IsKept (snapshot r)

-- the acknowledged numbers of each sequence of a node are a set
abbrev pub KeptHasSets : Type 0
KeptHasSets = (r : List Fact) → IsKept r → UnionsAreSets r

-- each range of an Acked record of a node has a number
abbrev pub KeptHasProper : Type 0
KeptHasProper = (r : List Fact) → IsKept r → HaveProper r
