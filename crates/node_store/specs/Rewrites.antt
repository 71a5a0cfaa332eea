-- What a call does that writes the journal of a node anew.
use Rattle.std.specs.Prelude.{◌≡◌, ◌⊎◌, ℕ, ◌+◌, ◌-◌, ◌^◌, ◌&&◌, min, nat_le, Bool, true, false, if◌then◌else◌}
use Rattle.std.specs.Prelude.{is_none, List, length, Option, Some, None, Result, Ok, Err}
use Rattle.std.specs.List.{list_all}
use Rattle.rm_base.specs.Limits as limits
use Rattle.record_batch.specs.Fact.{Fact}
use Rattle.record_batch.specs.Snapshot.Snapshot.{snapshot}
use Rattle.rm_disk.specs.Call.{crashes_of}
use Rattle.rm_disk.specs.Fuse.{Burns}
use Rattle.rm_disk.specs.Image.{OnlyLeaves}
use Rattle.rm_disk.specs.Told.{Told}
use Rattle.rm_disk.specs.Journal.Entries.{Bank, list_of}
use Rattle.rm_disk.specs.Journal.Journal.{list_refusal, next_bank}
use Rattle.rm_disk.specs.Journal.JournalState.{JournalState, end_of, journal_at}
use Rattle.rm_protocol.specs.Calls.{StoreFull}
use Rattle.rm_protocol.specs.Compact.{compact_cause, fresh_start, may_compact}
use Rattle.rm_protocol.specs.Node.{Node, alone}
use Rattle.rm_protocol.specs.Terms.{Terms}
use Rattle.node_store.specs.declared.error.RewriteError.{RewriteError}
use Rattle.node_store.specs.declared.error.RewriteError.TheVariants as Variant
use Rattle.node_store.specs.Has.{entries_of, Holds, StandsForBatchesAt}
use Rattle.node_store.specs.Stored.{Stored, broken}

-- ---- the fresh journal

-- its batches: each record of the snapshot is a batch of its own
abbrev pub fresh_batches : List Fact → List (List Fact)
fresh_batches r = alone (snapshot r)

-- their entries
abbrev pub fresh_entries : List Fact → List (List ℕ)
fresh_entries r = entries_of (fresh_batches r)

-- how many bytes their list takes, with the gate behind it
abbrev pub fresh_size : List Fact → ℕ
fresh_size r = length (list_of (fresh_entries r))

-- where they stand
abbrev pub fresh_bank : Stored → Bank
fresh_bank old = next_bank old.journal (fresh_entries old.records)

-- ---- whether it may be written

-- none of these is longer than an entry may be
abbrev pub fit_as_entries : List (List ℕ) → Bool
fit_as_entries entries = list_all (λ (entry : List ℕ). nat_le (length entry) limits.entry_bytes) entries

-- the journal, while it is up, refuses no list of so many bytes
abbrev pub has_place : JournalState → ℕ → Bool
has_place journal size = is_none (list_refusal (record journal { is_down = false }) size)

-- why a list of so many bytes isn't written: one of its entries is too long, or the journal would be. The bytes that
-- are wanted are told in 64 bits
abbrev pub refusal_by : JournalState → (fit : Bool) → (size : ℕ) → Option RewriteError
refusal_by journal fit size =
    if fit && has_place journal size then None
    else Some (Variant.Full (end_of journal) (min (size + 1) (2 ^ 64 - 1)))

-- the journal may be written anew
abbrev pub may_rewrite : Stored → Bool
may_rewrite old = fit_as_entries (fresh_entries old.records) && has_place old.journal (fresh_size old.records)

-- why it isn't
abbrev pub rewrite_refusal : Stored → Option RewriteError
rewrite_refusal old =
    refusal_by old.journal (fit_as_entries (fresh_entries old.records)) (fresh_size old.records)

-- The answer is that refusal, and where there is none it is Ok or the disk fails. Memory may be wanting in either case.
abbrev pub Answers : {T : Type 0} → Option RewriteError → Result T RewriteError → Type 0
Answers refusal (Err Variant.Memory) = Unit {0}
Answers (Some refusal) result = result ≡ Err refusal
Answers None (Ok value) = Unit {0}
Answers None (Err error) = error ≡ Variant.Disk

-- the disk failed
abbrev pub disk_failed : {T : Type 0} → Result T RewriteError → Bool
disk_failed (Err Variant.Disk) = true
disk_failed _ = false

-- ---- what becomes of the node and its disk

-- the fresh journal, and the records that it has
abbrev pub fresh : Stored → Stored
fresh old = record {
  journal = journal_at (fresh_bank old) (fresh_entries old.records);
  records = snapshot old.records;
}

-- after the call: all went well, or the disk failed, or it was refused
abbrev pub rewritten : Stored → (ok failed : Bool) → Stored
rewritten old ok failed = if ok then fresh old else if failed then broken old else old

-- the batches where they stood, or the fresh ones where they are put
abbrev pub IsRewritten : Stored → List (List Fact) → List ℕ → Type 0
IsRewritten old batches bytes =
    StandsForBatchesAt old.journal.bank batches bytes
    ⊎ StandsForBatchesAt (fresh_bank old) (fresh_batches old.records) bytes

-- On a disk that tells, where all went well the fresh batches are there for good, and a crash at any moment of the call
-- leaves the batches as they were, or the fresh ones: five device calls. Where it was refused, nothing happened on the
-- disk.
pub record Rewrites (first now : Told) (old new : Stored) (ok failed : Bool) : Type 0 where
  pub holds : (batches : List (List Fact)) → Holds batches first.past old → ok ≡ true
      → Holds (fresh_batches old.records) now.past new
  pub moments : (batches : List (List Fact)) → Holds batches first.past old
      → OnlyLeaves first.past now.past (IsRewritten old batches)
  pub untouched : ok ≡ false → failed ≡ false → now ≡ first
  pub fuse : (ok ≡ true) ⊎ (failed ≡ true) → Burns 5 first.fuse now.fuse ok
  pub crashes : crashes_of now.past ≡ crashes_of first.past

-- The node of the protocol writes its list of entries anew in the same place, it may where the journal may, and else it
-- is refused for the same reason.
pub record IsRewrittenAs (terms : Terms) (x : Node) (old : Stored) : Type 0 where
  pub start : fresh_start terms x ≡ (fresh_bank old).start
  pub may : may_compact terms x ≡ may_rewrite old
  pub cause : compact_cause terms x ≡ StoreFull (end_of old.journal) (min (fresh_size old.records + 1) (2 ^ 64 - 1))
