-- What an import makes of the bytes of a journal of the layout before.
use Rattle.std.specs.Prelude.{◌≡◌, ◌+◌, ◌<◌, ℕ, Bool, true, false, List, length, Result, Err, IsTrue}
use Rattle.rm_base.specs.Limits as limits
use Rattle.record_batch.specs.Fact.{Fact}
use Rattle.rm_disk.specs.Call.{Call}
use Rattle.rm_disk.specs.Journal.Entries.{list_of, StandsAsBefore}
use Rattle.rm_disk.specs.Journal.JournalState.{journal_of}
use Rattle.rm_protocol.specs.Node.{records_in}
use Rattle.node_store.specs.declared.error.ImportError.{ImportError}
use Rattle.node_store.specs.declared.error.ImportError.TheVariants as Variant
use Rattle.node_store.specs.Has.{AreOfNode, entries_of, Has}
use Rattle.node_store.specs.Mounted.{AreServed}
use Rattle.node_store.specs.Stored.{IsServing, Stored}

-- the disk failed
abbrev pub import_failed : {T : Type 0} → Result T ImportError → Bool
import_failed (Err Variant.Disk) = true
import_failed _ = false

-- bytes stand for these batches by the layout before
abbrev pub StandsForBatchesAsBefore : List (List Fact) → List ℕ → Type 0
StandsForBatchesAsBefore batches bytes = StandsAsBefore (entries_of batches) bytes

-- Bytes stood for the batches of a node by the layout before: the journal of their entries, in the first bank, and
-- their records are the node's now, and a disk that tells has them.
pub record Imports (tells : Bool) (bytes : List ℕ) (new : List Call) (store : Stored) : Type 0 where
  pub batches : List (List Fact)
  pub were : StandsForBatchesAsBefore batches bytes
  pub are : AreOfNode batches
  pub journal : store.journal ≡ journal_of (entries_of batches)
  pub records : store.records ≡ records_in batches
  pub has : IsTrue tells → Has batches new store

-- bytes stood for the batches of a node with these records, from which it may go on
pub record ServesAsBefore (bytes : List ℕ) (r : List Fact) : Type 0 where
  pub entries : List (List ℕ)
  pub stands : StandsAsBefore entries bytes
  pub served : AreServed entries r
  pub serving : IsServing (journal_of entries) r

-- bytes stand for no batches of a node
abbrev pub IsNoNodeBefore : List ℕ → Type 0
IsNoNodeBefore bytes = (batches : List (List Fact)) → AreOfNode batches → StandsForBatchesAsBefore batches bytes → ⊥

-- the journal of the entries for which bytes stand would be longer than it may be: it ends at 25, and so many bytes are
-- wanted
pub record IsTooLong (bytes : List ℕ) (error : ImportError) : Type 0 where
  pub entries : List (List ℕ)
  pub stands : StandsAsBefore entries bytes
  pub long : limits.journal_bytes < 25 + length (list_of entries)
  pub is : error ≡ Variant.Full 25 (length (list_of entries))
