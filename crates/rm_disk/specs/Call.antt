-- The calls on a disk and what they make of it. A history is the list of a disk's calls, newest first.
use Rattle.std.specs.Prelude.{ℕ, ◌+◌, min, max, Bool, ◌&&◌, ◌||◌, ◌==◌, nat_lt, nat_le, if◌then◌else◌, List, [], ◌∷◌}
use Rattle.std.specs.Prelude.{◌++◌, zero, suc, length, take, drop, slice_index}
use Rattle.std.specs.List.{list_any}

-- a call that changes a disk, or fails to
pub data Call : Type 0 where
  Wrote : (at : ℕ) (bytes : List ℕ) → Call
  WriteFailed : (at count : ℕ) → Call
  CutTo : (len : ℕ) → Call
  CutFailed : (len : ℕ) → Call
  Synced : Call
  SyncFailed : Call
  Crashed : (choice : ℕ) → Call

-- what a history comes to: what a read gives, what the last sync left, and what has changed since that sync
pub record State : Type 0 where
  pub seen : List ℕ
  pub synced : List ℕ
  -- the smallest and the greatest length of the file since the last sync
  pub low : ℕ
  pub high : ℕ
  -- the ranges written since the last sync, each a place and a number of bytes
  pub written : List (ℕ × ℕ)

-- nothing is unsynced
abbrev pub settled : List ℕ → State
settled bytes = record { seen = bytes; synced = bytes; low = length bytes; high = length bytes; written = [] }

-- a range has this place
abbrev pub is_within : ℕ → ℕ × ℕ → Bool
is_within i range = nat_le range.0 i && nat_lt i (range.0 + range.1)

-- one of the ranges has this place
abbrev pub is_written : List (ℕ × ℕ) → ℕ → Bool
is_written ranges i = list_any (is_within i) ranges

-- A crash may leave any byte there: a range written since the last sync has the place,
-- or it lies past the smallest length since then.
abbrev pub is_free : State → ℕ → Bool
is_free s i = nat_le s.low i || is_written s.written i

-- so many bytes: this one in each free place, and in each other what a read gives
abbrev pub filled : State → ℕ → ℕ → List ℕ
filled s byte zero = []
filled s byte (suc n) = filled s byte n ++ (if is_free s n then byte else slice_index s.seen n) ∷ []

-- What each choice of a crash leaves: the bytes of the last sync; what a read gives; the greatest length with
-- ones in the free places; the smallest length with zeros there.
abbrev pub left_by : ℕ → State → List ℕ
left_by choice s =
    if choice == 0 then s.synced else if choice == 1 then s.seen else if choice == 2 then filled s 1 s.high else
    filled s 0 s.low

-- old with these bytes at this place
abbrev pub overwritten : List ℕ → ℕ → List ℕ → List ℕ
overwritten old at bytes = take at old ++ bytes ++ drop (at + length bytes) old

-- A failed write or cut changes nothing that a read gives. Its range and the length that it would have made count.
abbrev pub after : Call → State → State
after (Wrote at bytes) s =
    record s {
      seen = overwritten s.seen at bytes;
      high = max s.high (at + length bytes);
      written = s.written ++ (at, length bytes) ∷ [];
    }
after (WriteFailed at count) s = record s { high = max s.high (at + count); written = s.written ++ (at, count) ∷ [] }
after (CutTo len) s = record s { seen = take len s.seen; low = min s.low len }
after (CutFailed len) s = record s { low = min s.low len }
after Synced s = settled s.seen
after SyncFailed s = s
after (Crashed choice) s = settled (left_by choice s)

-- A new disk has no bytes.
abbrev pub state : List Call → State
state [] = settled []
state (call ∷ earlier) = after call (state earlier)

-- what a read gives
abbrev pub seen_of : List Call → List ℕ
seen_of past = (state past).seen

-- the crashes of a history, oldest first, each with its choice and the bytes that a read gave after it
abbrev pub crashes_of : List Call → List (ℕ × List ℕ)
crashes_of [] = []
crashes_of (Crashed choice ∷ earlier) = crashes_of earlier ++ (choice, left_by choice (state earlier)) ∷ []
crashes_of (_ ∷ earlier) = crashes_of earlier
