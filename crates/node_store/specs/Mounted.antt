-- What a mount finds on a disk.
use Rattle.std.specs.Prelude.{◌≡◌, ◌+◌, ◌≤◌, ℕ, Bool, true, false, List, [], ◌++◌, length, Result, Err, Some, slice_get}
use Rattle.std.specs.List.{AllByRecursion}
use Rattle.rm_base.specs.Limits as limits
use Rattle.rm_base.specs.NumberSet.{has_number}
use Rattle.rm_sides.specs.Destination.Messages.{front_of, Item, numbers_of}
use Rattle.rm_disk.specs.Call.{Call, seen_of}
use Rattle.record_batch.specs.Batch.{batch_text}
use Rattle.record_batch.specs.Fact.{Fact}
use Rattle.record_batch.specs.Writable.{IsBatch}
use Rattle.rm_protocol.specs.Node.{records_in}
use Rattle.record_batch.specs.Sequences.Destinations.{held, front}
use Rattle.record_batch.specs.Sequences.Fits.{all_fit, is_incoming_side, is_outgoing_side}
use Rattle.record_batch.specs.Sequences.Makers.{maker, makers}
use Rattle.record_batch.specs.Sequences.Sources.{all_unacked, unacked}
use Rattle.node_laws.specs.Records.{KeepsLimits}
use Rattle.node_store.specs.declared.error.MountError.{MountError}
use Rattle.node_store.specs.declared.error.MountError.TheVariants as Variant
use Rattle.node_store.specs.Has.{AreOfNode, entries_of, Has, StandsForBatches, StandsForBatchesAt}
use Rattle.node_store.specs.Stored.{Stored}

-- the disk failed
abbrev pub has_failed : {T : Type 0} → Result T MountError → Bool
has_failed (Err Variant.Disk) = true
has_failed _ = false

-- the batches of a node: the disk had them as it read, in the bank of the journal that was found, and the disk and the
-- tables have them now
pub record Finds (old new : List Call) (store : Stored) : Type 0 where
  pub batches : List (List Fact)
  pub were : StandsForBatchesAt store.journal.bank batches (seen_of old)
  pub has : Has batches new store

-- bytes stand for no batches of a node, in either bank
abbrev pub IsNoNode : List ℕ → Type 0
IsNoNode bytes = (batches : List (List Fact)) → AreOfNode batches → StandsForBatches batches bytes → ⊥

-- entries are the batches of a node, with these records
pub record AreServed (entries : List (List ℕ)) (r : List Fact) : Type 0 where
  pub batches : List (List Fact)
  pub node : AreOfNode batches
  pub are : entries ≡ entries_of batches
  pub records : r ≡ records_in batches

-- ---- entries, one after the other

-- an entry is this batch, whose records may come after r and keep their limits
pub record IsNext (r : List Fact) (entry : List ℕ) (batch : List Fact) : Type 0 where
  pub text : entry ≡ batch_text batch
  pub batch_ : IsBatch batch
  pub fit : all_fit r batch ≡ true
  pub kept : AllByRecursion KeepsLimits batch

-- the entry at a place was such a batch, and the records are those of before with its own
pub record IsAdded (old new : List Fact) (entries : List (List ℕ)) (place : ℕ) : Type 0 where
  pub entry : List ℕ
  pub at : slice_get entries place ≡ Some entry
  pub batch : List Fact
  pub next : IsNext old entry batch
  pub now : new ≡ old ++ batch

-- an entry was such a batch, and the records are those of before with its own
pub record IsMore (old new : List Fact) : Type 0 where
  pub entry : List ℕ
  pub batch : List Fact
  pub next : IsNext old entry batch
  pub now : new ≡ old ++ batch

-- the entry at a place is no such batch
pub record IsStuck (r : List Fact) (entries : List (List ℕ)) (place : ℕ) : Type 0 where
  pub entry : List ℕ
  pub at : slice_get entries place ≡ Some entry
  pub none : (batch : List Fact) → IsNext r entry batch → ⊥

-- entries are these batches, whose records may come one after the other and keep their limits
pub record AreReplayed (batches : List (List Fact)) (entries : List (List ℕ)) : Type 0 where
  pub are : entries ≡ entries_of batches
  pub each : AllByRecursion IsBatch batches
  pub fit : all_fit [] (records_in batches) ≡ true
  pub kept : AllByRecursion KeepsLimits (records_in batches)

-- entries are such batches, with these records
pub record Replays (entries : List (List ℕ)) (r : List Fact) : Type 0 where
  pub batches : List (List Fact)
  pub replayed : AreReplayed batches entries
  pub records : r ≡ records_in batches

-- the records of such batches, whatever the disk tells
pub record AreReplayedFrom (r : List Fact) : Type 0 where
  pub entries : List (List ℕ)
  pub replays : Replays entries r

-- ---- what the records of a node keep all together

-- no number is more than 1024 past the front of those that came
abbrev pub AreNear : List (ℕ × Item) → Type 0
AreNear came = (n : ℕ) → has_number (numbers_of came) n ≡ true → n ≤ front_of came + limits.window

-- an outgoing sequence has at most 1024 messages that are not acknowledged
abbrev pub HasWindow : List Fact → ℕ → Type 0
HasWindow r s = is_outgoing_side (maker r s) ≡ true → unacked r s ≤ limits.window

-- no number of an incoming sequence is more than 1024 past its front
abbrev pub HasNear : List Fact → ℕ → Type 0
HasNear r s =
    (n : ℕ) → is_incoming_side (maker r s) ≡ true → has_number (held r s) n ≡ true → n ≤ front r s + limits.window

-- a sequence keeps its window
pub record KeepsWindow (r : List Fact) (s : ℕ) : Type 0 where
  pub window : HasWindow r s
  pub near : HasNear r s

-- there are at most 256 sequences, each keeps its window, and at most 4096 messages wait for an acknowledgement
pub record KeepsWindows (r : List Fact) : Type 0 where
  pub sequences : length (makers r) ≤ limits.most_sequences
  pub windows : all_unacked r ≤ limits.most_unacked
  pub each : (s : ℕ) → KeepsWindow r s
