-- What a call does to a disk and to what is kept of a node.
use Rattle.std.specs.Prelude.{◌≡◌, ◌⊎◌, ℕ, Bool, true, false, List, [], ◌∷◌, Option, None}
use Rattle.rm_disk.specs.Call.{Call, crashes_of}
use Rattle.rm_disk.specs.Fuse.{Burns}
use Rattle.rm_disk.specs.Image.{MayLeave, OnlyLeaves}
use Rattle.rm_disk.specs.Told.{Told}
use Rattle.rm_disk.specs.Journal.Entries.{first_bank}
use Rattle.record_batch.specs.Fact.{Fact}
use Rattle.node_store.specs.Has.{Holds, IsLeftBy, StandsForBatchesAt}
use Rattle.node_store.specs.Stored.{Stored, with_batch}

-- a call that adds records makes four device calls, any other none
abbrev pub BurnsFor : List Fact → Option ℕ → Option ℕ → Bool → Type 0
BurnsFor [] old new well = (new ≡ old) × (well ≡ true)
BurnsFor (f ∷ delta) old new well = Burns 4 old new well

-- A call that adds these records in one batch, on a disk that tells. Where all went well they are there for good, and a
-- crash at any moment of the call leaves, in the bank that the journal has, the batches as they were or with this one.
-- Where it was refused, nothing happened on the disk.
pub record Changes (first now : Told) (old new : Stored) (delta : List Fact) (ok failed : Bool) : Type 0 where
  pub holds : (batches : List (List Fact)) → Holds batches first.past old → ok ≡ true
      → Holds (with_batch batches delta) now.past new
  pub moments : (batches : List (List Fact)) → Holds batches first.past old
      → OnlyLeaves first.past now.past (IsLeftBy old.journal.bank batches delta)
  pub untouched : ok ≡ false → failed ≡ false → now ≡ first
  pub fuse : (ok ≡ true) ⊎ (failed ≡ true) → BurnsFor delta first.fuse now.fuse ok
  pub crashes : crashes_of now.past ≡ crashes_of first.past

-- Memory was wanting for a node that was to be made: the disk is as it was, or has an empty journal as it is when it is
-- made, whatever a crash now leaves of it.
abbrev pub WasNotMade : (old new : List Call) → Type 0
WasNotMade old new = (new ≡ old) ⊎ ((bytes : List ℕ) → MayLeave new bytes → StandsForBatchesAt first_bank [] bytes)

-- where no call on the disk is to fail, none does: neither then nor later
pub record KeepsUnarmed (old new : Option ℕ) (failed : Bool) : Type 0 where
  pub keeps : old ≡ None → new ≡ None
  pub well : old ≡ None → failed ≡ false
