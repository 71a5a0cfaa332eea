-- What consume prints, and what it did to the node that it found.
use Rattle.std.specs.Prelude.{◌≡◌, ◌⊎◌, ℕ, Bool, false, List, ◌++◌, Option, Result, Ok, Err, IsTrue}
use Rattle.std.specs.Io.KnownBytes.{Appends}
use Rattle.node_laws.specs.Answers.Answers.{cause_seen}
use Rattle.node_laws.specs.declared.answers.answer.Cause.{Cause}
use Rattle.node_laws.specs.OwnTerms.{AreOwn}
use Rattle.node_store.specs.Has.{Has, IsLeftBy}
use Rattle.node_store.specs.Mounted.{Finds, IsNoNode}
use Rattle.node_store.specs.Stored.{Stored, grown, with_batch}
use Rattle.record_batch.specs.Fact.{Fact}
use Rattle.rm_base.specs.Outside.{AppendsFront, Stream}
use Rattle.rm_disk.specs.Call.{Call, seen_of}
use Rattle.rm_disk.specs.Image.{MayLeave, OnlyLeaves}
use Rattle.rm_disk.specs.Told.{Told}
use Rattle.rm_disk.specs.Journal.JournalState.{end_of}
use Rattle.rm_node.specs.Called.{Called}
use Rattle.rm_node.specs.Ends.{Ended}
use Rattle.rm_node.specs.Noded.{Noded}
use Rattle.rm_protocol.specs.Calls.{cursor_to, consume as consume_answer, Refused as RefusedWith}
use Rattle.rm_protocol.specs.Terms.{Terms}
use Rattle.record_batch.specs.Sequences.Destinations.{cursor}
use Rattle.rm_host.specs.Sequences.{passed_answer}
use Rattle.rm_host.specs.Texts.{consumed_line}
use Rattle.rm_host.specs.declared.end.End.{End}
use Rattle.rm_host.specs.declared.end.End.TheVariants as end

-- the call of a node that is up
abbrev pub ConsumesItems : Bool → (first now : Told) → (old new : Noded) → (seq upto : ℕ) → Ended → Type 0
ConsumesItems tells first now old new seq upto ended =
    (terms : Terms) × AreOwn terms
    × Called tells false first now old new
    (consume_answer terms old.stored.records (end_of old.stored.journal) seq upto) ended

-- The node was found on the disk. A crash at any moment since then leaves its batches as they were, or with one that
-- has these records.
pub record MayRecord (first now : Told) (old : Stored) (delta : List Fact) : Type 0 where
  pub mounted : List Call
  pub found : Finds first.past mounted old
  pub moments : OnlyLeaves mounted now.past (IsLeftBy old.journal.bank found.batches delta)

-- and they are there for good
pub record Records (first now : Told) (old : Stored) (delta : List Fact) : Type 0 where
  pub may : MayRecord first now old delta
  pub has : Has (with_batch may.found.batches delta) now.past (grown old delta)

-- The items past the cursor were printed, and it was recorded then that all up to the wanted one were consumed, where
-- they weren't. The text that is answered has the cursor by all records that the node has in the end.
pub record Consumed (tells : Bool) (first now : Told) (shown printed : Stream) (seq upto : ℕ) (text : List ℕ)
    : Type 0 where
  pub old : Stored
  pub lines : List ℕ
  pub items : passed_answer old.records seq upto ≡ Ok lines
  pub wrote : Appends shown.held printed.held lines
  pub recorded : IsTrue tells → Records first now old (cursor_to old.records seq upto)
  pub line : text ≡ consumed_line seq (cursor (old.records ++ cursor_to old.records seq upto) seq)

-- some first bytes of the items were printed, and nothing was recorded: the disk has what was found
pub record StoppedPrinting (tells : Bool) (first now : Told) (shown printed : Stream) (seq upto : ℕ) : Type 0 where
  pub old : Stored
  pub lines : List ℕ
  pub items : passed_answer old.records seq upto ≡ Ok lines
  pub wrote : AppendsFront shown.held printed.held lines
  pub found : IsTrue tells → Finds first.past now.past old

-- the node refuses the call for this reason, by the protocol at its own terms
abbrev pub IsRefusedBy : Stored → (seq upto : ℕ) → Cause → Type 0
IsRefusedBy old seq upto why =
    (terms : Terms) × AreOwn terms
    × ((consume_answer terms old.records (end_of old.journal) seq upto).outcome ≡ RefusedWith (cause_seen why))

-- Nothing was recorded: the disk has what was found. Either nothing was printed, since there is nothing to consume; or
-- the items were, and the node refused to record it, as it does where its journal has no room.
pub record WasRefused (tells : Bool) (first now : Told) (shown printed : Stream) (seq upto : ℕ) (why : Cause)
    : Type 0 where
  pub old : Stored
  pub found : IsTrue tells → Finds first.past now.past old
  pub which : ((passed_answer old.records seq upto ≡ Err (end.Refused why)) × (printed ≡ shown))
      ⊎ (IsRefusedBy old seq upto why × ((lines : List ℕ) × (passed_answer old.records seq upto ≡ Ok lines)
      × Appends shown.held printed.held lines))

-- nothing was printed; or the items past the cursor of the node that was found were, so far as that says
abbrev pub PrintsItems : (Wrote : Option (List ℕ) → Option (List ℕ) → List ℕ → Type 0) → (tells : Bool)
    → (first : Told) → (shown printed : Stream) → (seq upto : ℕ) → Type 0
PrintsItems Wrote tells first shown printed seq upto =
    (printed ≡ shown) ⊎ ((old : Stored) × (lines : List ℕ) × (passed_answer old.records seq upto ≡ Ok lines)
    × Wrote shown.held printed.held lines × (IsTrue tells → (mounted : List Call) × Finds first.past mounted old))

-- Nothing but that record was written, if anything was: a crash leaves no more than one before; or the node that was
-- found may have recorded it, and then the items were printed before.
abbrev pub LeavesOrRecords : (tells : Bool) → (first now : Told) → (shown printed : Stream) → (seq upto : ℕ) → Type 0
LeavesOrRecords tells first now shown printed seq upto =
    IsTrue tells → OnlyLeaves first.past now.past (MayLeave first.past)
    ⊎ ((old : Stored) × MayRecord first now old (cursor_to old.records seq upto)
    × ((lines : List ℕ) × (passed_answer old.records seq upto ≡ Ok lines) × Appends shown.held printed.held lines))

-- the disk has no batches of a node, and a crash leaves no more than one before it
pub record HasNoNode (first now : Told) : Type 0 where
  pub none : IsNoNode (seen_of first.past)
  pub moments : OnlyLeaves first.past now.past (MayLeave first.past)

-- What consume answers, and what it did before. A fault of the disk comes before the items are printed, or after all
-- of them were; memory may be wanting at any time.
abbrev pub Consumption : Bool → (first now : Told) → (shown printed : Stream) → (seq upto : ℕ) → Result (List ℕ) End
    → Type 0
Consumption tells first now shown printed seq upto (Ok text) = Consumed tells first now shown printed seq upto text
Consumption tells first now shown printed seq upto (Err end.WriteFault) =
    StoppedPrinting tells first now shown printed seq upto
Consumption tells first now shown printed seq upto (Err (end.Refused why)) =
    WasRefused tells first now shown printed seq upto why
Consumption tells first now shown printed seq upto (Err end.NotAJournal) =
    (printed ≡ shown) × (IsTrue tells → HasNoNode first now)
Consumption tells first now shown printed seq upto (Err end.DiskFault) =
    PrintsItems Appends tells first shown printed seq upto
    × LeavesOrRecords tells first now shown printed seq upto
Consumption tells first now shown printed seq upto (Err end.Memory) =
    PrintsItems AppendsFront tells first shown printed seq upto
    × LeavesOrRecords tells first now shown printed seq upto
Consumption tells first now shown printed seq upto (Err e) = ⊥
