-- What sources and sinks show to contracts.
use Rattle.std.specs.Prelude.{◌≡◌, ℕ, ◌≤◌, ◌++◌, Bool, true, false, if◌then◌else◌, ◌&&◌, ◌==◌, nat_lt, min, List}
use Rattle.std.specs.Prelude.{length, take, drop, Option, None, Some, Result, Ok, Err}
use Rattle.std.specs.Io.KnownBytes.{Appends, Consumes}
use Rattle.rm_base.specs.Count.{raised_by}
use Rattle.rm_base.specs.NumberSet.{has_number}

-- what a source or a sink tells, or a connection, which is both
pub record Stream : Type 0 where
  -- the bytes that it has left as a source, where it tells them
  pub left : Option (List ℕ)
  -- the bytes that it holds as a sink, where it tells them
  pub held : Option (List ℕ)
  -- how many bytes were taken from it, in a u64 that stands still at its greatest value
  pub taken : ℕ
  -- how many of its calls failed, or took nothing of a piece that isn't empty, counted in the same way
  pub faults : ℕ
  -- it tells that it never fails
  pub sound : Bool

-- what no call changes otherwise: the count of faults never falls, and stays where a stream tells that it never fails,
-- which it does for good
pub record Lasts (old new : Stream) : Type 0 where
  pub never_falls : old.faults ≤ new.faults
  pub sound : old.sound ≡ true → (new.sound ≡ true) × (new.faults ≡ old.faults)

-- a source over memory: what is left, which of its calls fail, how many were made and failed, how many bytes were taken
pub record Reading : Type 0 where
  pub left : List ℕ
  pub fail_at : List ℕ
  pub calls : ℕ
  pub faults : ℕ
  pub taken : ℕ

-- a sink over memory: what was written, which of its calls fail, how many were made and failed
pub record Writing : Type 0 where
  pub written : List ℕ
  pub fail_at : List ℕ
  pub calls : ℕ
  pub faults : ℕ

-- a connection over memory: its side as a source, whose calls are those of both sides, and what was written
pub record Talking : Type 0 where
  pub reading : Reading
  pub written : List ℕ

-- a source over a reader, how many of its calls failed, how many bytes were taken
pub record Reader (R : Type 0) : Type 0 where
  pub reader : R
  pub faults : ℕ
  pub taken : ℕ

-- a sink over a writer, how many of its calls failed, or took nothing of a piece that isn't empty
pub record Writer (W : Type 0) : Type 0 where
  pub writer : W
  pub faults : ℕ

-- what a source over memory tells: it never fails where none of its calls is to
abbrev pub reading_told : Reading → Stream
reading_told s = record {
  left = Some s.left;
  held = None;
  taken = s.taken;
  faults = s.faults;
  sound = length s.fail_at == 0;
}

-- what a sink over memory tells
abbrev pub writing_told : Writing → Stream
writing_told s = record {
  left = None;
  held = Some s.written;
  taken = 0;
  faults = s.faults;
  sound = length s.fail_at == 0;
}

-- what a connection over memory tells
abbrev pub talking_told : Talking → Stream
talking_told c = record (reading_told c.reading) { held = Some c.written }

-- what a stream tells that tells no content: how many bytes were taken, and how many of its calls failed
abbrev pub untold : ℕ → ℕ → Stream
untold taken faults = record { left = None; held = None; taken = taken; faults = faults; sound = false }

-- what a source over a reader tells
abbrev pub reader_told : {R : Type 0} → Reader R → Stream
reader_told s = untold s.taken s.faults

-- what a sink over a writer tells
abbrev pub writer_told : {W : Type 0} → Writer W → Stream
writer_told s = untold 0 s.faults

-- the call after so many calls is one of those that fail
abbrev pub is_to_fail : List ℕ → ℕ → Bool
is_to_fail fail_at calls = has_number fail_at (raised_by calls 1)

-- a count of faults after a call that was one, or wasn't
abbrev pub counted_if : Bool → ℕ → ℕ
counted_if fault faults = if fault then raised_by faults 1 else faults

-- a source over memory after a call that moved nothing
abbrev pub after_call : Reading → Reading
after_call s = record {
  left = s.left;
  fail_at = s.fail_at;
  calls = raised_by s.calls 1;
  faults = counted_if (is_to_fail s.fail_at s.calls) s.faults;
  taken = s.taken;
}

-- how many of the bytes that are left a read moves where there is room for so many: none if it is to fail
abbrev pub moved_by : Reading → ℕ → ℕ
moved_by s room = if is_to_fail s.fail_at s.calls then 0 else min (length s.left) room

-- a source over memory after a read into so much room
abbrev pub after_read : Reading → ℕ → Reading
after_read s room = record {
  left = drop (moved_by s room) s.left;
  fail_at = s.fail_at;
  calls = raised_by s.calls 1;
  faults = counted_if (is_to_fail s.fail_at s.calls) s.faults;
  taken = raised_by s.taken (moved_by s room);
}

-- a sink over memory after a write of a piece that was taken, or wasn't
abbrev pub after_write : Writing → List ℕ → Bool → Writing
after_write s bytes took = record {
  written = if took then s.written ++ bytes else s.written;
  fail_at = s.fail_at;
  calls = raised_by s.calls 1;
  faults = counted_if (is_to_fail s.fail_at s.calls) s.faults;
}

-- a connection over memory after a write of a piece that was taken, or wasn't
abbrev pub after_send : Talking → List ℕ → Bool → Talking
after_send c bytes took = record {
  reading = after_call c.reading;
  written = if took then c.written ++ bytes else c.written;
}

-- a write failed, or took nothing of a piece that isn't empty
abbrev pub is_write_fault : {E : Type 0} → Result ℕ E → List ℕ → Bool
is_write_fault (Ok n) bytes = (n == 0) && nat_lt 0 (length bytes)
is_write_fault (Err e) bytes = true

-- what a sink holds, where that is known, grew by some first bytes of these
abbrev pub AppendsFront : Option (List ℕ) → Option (List ℕ) → List ℕ → Type 0
AppendsFront old new bytes = (n : ℕ) × (n ≤ length bytes) × Appends old new (take n bytes)

-- a source, where its bytes are known, lost some first ones, at most so many
abbrev pub ConsumesUpTo : Option (List ℕ) → Option (List ℕ) → ℕ → Type 0
ConsumesUpTo old new limit = (bytes : List ℕ) × (length bytes ≤ limit) × Consumes old new bytes
