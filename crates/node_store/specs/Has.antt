-- The batches that a disk and a node have.
use Rattle.std.specs.Prelude.{◌≡◌, ◌⊎◌, ℕ, List, map}
use Rattle.std.specs.List.{AllByRecursion}
use Rattle.record_batch.specs.Batch.{batch_text}
use Rattle.record_batch.specs.Fact.{Fact}
use Rattle.record_batch.specs.Writable.{IsBatch}
use Rattle.rm_disk.specs.Call.{Call}
use Rattle.rm_disk.specs.Journal.Entries.{Bank, StandsAt, StandsFor}
use Rattle.rm_disk.specs.Journal.Journal.{Fits}
use Rattle.rm_protocol.specs.Node.{records_in}
use Rattle.node_laws.specs.Records.{IsKept}
use Rattle.node_store.specs.Stored.{Stored, with_batch}

-- the entries of these batches
abbrev pub entries_of : List (List Fact) → List (List ℕ)
entries_of batches = map batch_text batches

-- bytes stand for these batches
abbrev pub StandsForBatches : List (List Fact) → List ℕ → Type 0
StandsForBatches batches bytes = StandsFor (entries_of batches) bytes

-- they do so in this bank
abbrev pub StandsForBatchesAt : Bank → List (List Fact) → List ℕ → Type 0
StandsForBatchesAt bank batches bytes = StandsAt bank (entries_of batches) bytes

-- in this bank for these, or for these with one more
abbrev pub IsLeftBy : Bank → List (List Fact) → List Fact → List ℕ → Type 0
IsLeftBy bank batches delta bytes =
    StandsForBatchesAt bank batches bytes ⊎ StandsForBatchesAt bank (with_batch batches delta) bytes

-- the disk, as it reads and after any crash now, has these batches, and the tables hold their records
pub record Holds (batches : List (List Fact)) (past : List Call) (stored : Stored) : Type 0 where
  pub journal : Fits (entries_of batches) past stored.journal
  pub records : stored.records ≡ records_in batches

-- They are the batches of a node: each is read back from its text, so that bytes stand for one list of batches, and
-- their records are those of a node.
pub record AreOfNode (batches : List (List Fact)) : Type 0 where
  pub each : AllByRecursion IsBatch batches
  pub kept : IsKept (records_in batches)

-- the disk and the tables have the batches of a node
pub record Has (batches : List (List Fact)) (past : List Call) (stored : Stored) : Type 0 where
  pub holds : Holds batches past stored
  pub are : AreOfNode batches
