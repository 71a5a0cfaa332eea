-- What compact prints, and what it did to the node that it found.
use Rattle.std.specs.Prelude.{◌≡◌, ◌⊎◌, ℕ, Bool, List, [], length, Option, Some, None, Result, Ok, Err, IsTrue}
use Rattle.node_laws.specs.Answers.Answers.{cause_seen}
use Rattle.node_laws.specs.declared.answers.answer.Cause.{Cause}
use Rattle.node_laws.specs.declared.answers.answer.Cause.TheVariants as cause
use Rattle.node_store.specs.Has.{Has}
use Rattle.node_store.specs.Mounted.{Finds}
use Rattle.node_store.specs.Rewrites.{IsRewritten, fresh, fresh_batches, rewrite_refusal}
use Rattle.node_store.specs.Stored.{Stored}
use Rattle.node_store.specs.declared.error.MountError.TheVariants as mount
use Rattle.node_store.specs.declared.error.RewriteError.{RewriteError}
use Rattle.node_store.specs.declared.error.RewriteError.TheVariants.{Full}
use Rattle.record_batch.specs.Snapshot.Snapshot.{snapshot}
use Rattle.rm_disk.specs.Call.{Call}
use Rattle.rm_disk.specs.Image.{OnlyLeaves}
use Rattle.rm_disk.specs.Told.{Told}
use Rattle.rm_node.specs.Ends.{Ended, Handed, Refused, Wanted, Broke, WasDown}
use Rattle.rm_protocol.specs.Calls.{Done}
use Rattle.rm_host.specs.Finding.{Looks, NotFound}
use Rattle.rm_host.specs.Texts.{compacted_line}
use Rattle.rm_host.specs.declared.end.End.{End}
use Rattle.rm_host.specs.declared.end.End.TheVariants as end

-- the end of the call of a node that is up, where this is how the command ends: nothing is handed out. By no other end
-- does such a call end a command, and by none is the node down
abbrev pub failed_end : End → Ended
failed_end end.Memory = Wanted
failed_end (end.Refused cause) = Refused (cause_seen cause)
failed_end end.DiskFault = Broke
failed_end _ = WasDown

-- and where this is what it answers
abbrev pub call_end : {T : Type 0} → Result T End → Ended
call_end (Ok value) = Handed Done None []
call_end (Err e) = failed_end e

-- On a disk that tells, the node was found there. A crash at any moment since then leaves its batches as they were, or
-- those of what its records say in short.
pub record WritesAnew (first now : Told) (old : Stored) : Type 0 where
  pub mounted : List Call
  pub found : Finds first.past mounted old
  pub moments : OnlyLeaves mounted now.past (IsRewritten old found.batches)

-- and the disk has the latter now, which are those of a node
pub record WroteAnew (first now : Told) (old : Stored) : Type 0 where
  pub writes : WritesAnew first now old
  pub has : Has (fresh_batches old.records) now.past (fresh old)

-- A node was written anew that may be. What is printed is how many entries its journal had, and how many it has: one
-- for each record of the snapshot.
pub record Compacted (tells : Bool) (first now : Told) (printed : List ℕ) : Type 0 where
  pub old : Stored
  pub may : rewrite_refusal old ≡ None
  pub line : printed ≡ compacted_line (length old.journal.gates) (length (snapshot old.records))
  pub wrote : IsTrue tells → WroteAnew first now old

-- the journal is refused for this reason
abbrev pub IsRefusal : Option RewriteError → Cause → Type 0
IsRefusal refusal (cause.StoreFull end needed) = refusal ≡ Some (Full end needed)
IsRefusal refusal _ = ⊥

-- A node was found that may not be written anew, for this reason. On a disk that tells, the disk has what was found.
pub record LeftAsItWas (tells : Bool) (first now : Told) (cause : Cause) : Type 0 where
  pub old : Stored
  pub refusal : IsRefusal (rewrite_refusal old) cause
  pub found : IsTrue tells → Finds first.past now.past old

-- Memory was wanting: for the node, or to write it anew, and the disk reads as it did; or for what is printed of a node
-- that was written anew.
abbrev pub Starved : Told → Told → Type 0
Starved first now =
    Looks first now ⊎ ((old : Stored) × (rewrite_refusal old ≡ None) × WroteAnew first now old)

-- The disk failed: while the node was looked for, or while one was written anew that may be.
abbrev pub Failed : Told → Told → Type 0
Failed first now =
    Looks first now ⊎ ((old : Stored) × (rewrite_refusal old ≡ None) × WritesAnew first now old)

-- What compact answers: that a node was written anew, or that it may not be; that there is none; or that memory was
-- wanting, or the disk failed. It ends in no other way.
abbrev pub Compaction : Bool → Told → Told → Result (List ℕ) End → Type 0
Compaction tells first now (Ok printed) = Compacted tells first now printed
Compaction tells first now (Err (end.Refused cause)) = LeftAsItWas tells first now cause
Compaction tells first now (Err end.NotAJournal) = NotFound tells first now mount.NotAJournal
Compaction tells first now (Err end.Memory) = IsTrue tells → Starved first now
Compaction tells first now (Err end.DiskFault) = IsTrue tells → Failed first now
Compaction tells first now (Err _) = ⊥
