-- The history that a disk in memory keeps: a note for each call, oldest first, and the bytes of all writes in a row.
use Rattle.std.specs.Prelude.{◌≡◌, ℕ, ◌<◌, false, List, [], ◌∷◌, take, drop, slice_index}
use Rattle.rm_disk.specs.Call.{Call, Wrote, WriteFailed, CutTo, CutFailed, Synced, SyncFailed, Crashed, State}
use Rattle.rm_disk.specs.Call.{is_written}
use Rattle.rm_disk.specs.declared.note.Note.{Note}
use Rattle.rm_disk.specs.declared.note.Note.TheVariants.{Write, FailedWrite, Cut, FailedCut, Sync, FailedSync, Crash}

-- the call of a note, whose bytes come first in these
abbrev pub call_of : Note → List ℕ → Call
call_of (Write at count) bytes = Wrote at (take count bytes)
call_of (FailedWrite at count) bytes = WriteFailed at count
call_of (Cut len) bytes = CutTo len
call_of (FailedCut len) bytes = CutFailed len
call_of Sync bytes = Synced
call_of FailedSync bytes = SyncFailed
call_of (Crash choice) bytes = Crashed choice

-- how many bytes a note's call wrote
abbrev pub used_by : Note → ℕ
used_by (Write at count) = count
used_by _ = 0

-- the calls of these notes on top of earlier ones, newest first
abbrev pub calls_onto : List Call → List Note → List ℕ → List Call
calls_onto past [] bytes = past
calls_onto past (note ∷ notes) bytes = calls_onto (call_of note bytes ∷ past) notes (drop (used_by note) bytes)

-- the calls of these notes, newest first
abbrev pub calls_of : List Note → List ℕ → List Call
calls_of notes bytes = calls_onto [] notes bytes

-- the state with these bytes
abbrev pub content : (file synced : List ℕ) (low high : ℕ) (ranges : List (ℕ × ℕ)) → State
content file synced low high ranges = record { seen = file; synced = synced; low = low; high = high; written = ranges }

-- the bytes before a place are the same in both, but for those in the ranges
abbrev pub AgreeOutside : List (ℕ × ℕ) → ℕ → List ℕ → List ℕ → Type 0
AgreeOutside ranges low a b = (i : ℕ) → i < low → is_written ranges i ≡ false → slice_index a i ≡ slice_index b i
