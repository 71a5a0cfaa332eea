-- The notes of a snapshot: which records it takes, and that it takes what the rows have.
use Rattle.std.specs.Prelude.{◌≡◌, ◌⊎◌, ℕ, ◌+◌, ◌-◌, ◌≤◌, ◌==◌, ◌&&◌, Bool, true, false, if◌then◌else◌, nat_le, List}
use Rattle.std.specs.Prelude.{[], ◌<◌, ◌++◌, IfSome, Option, Some, None, slice_index_or, slice_set}
use Rattle.std.specs.Option.{option_map, option_to_list}
use Rattle.rm_sides.specs.declared.ranges.range.Range.{Range}
use Rattle.rm_sides.specs.Ranges.Ranges.{front_of, in_ranges}
use Rattle.rm_base.specs.Message.{max_number}
use Rattle.rm_base.specs.Numbered.{numbered}
use Rattle.rm_sides.specs.Destination.Incoming.{passed}
use Rattle.rm_sides.specs.Destination.Messages.{is_empty}
use Rattle.record_batch.specs.Fact.{Fact, Acked, Consumed, Dropped, Purged}
use Rattle.record_batch.specs.Sequences.Fits.{all_fit}
use Rattle.record_batch.specs.Sequences.Told.{Side, Sends, Receives, Told, told_all}
use Rattle.record_batch.specs.Snapshot.Same.{AreProper}
use Rattle.record_batch.specs.Snapshot.Snapshot.{past_front}
use Rattle.node_tables.specs.declared.note.Note.{Note}
use Rattle.node_tables.specs.declared.note.Note.TheVariants as note
use Rattle.node_tables.specs.Kept.{AllHeld, AreWhole, HavePlaces, fact_at, kept_at, records_of}

-- a range of message numbers
abbrev pub IsRange : Range → Type 0
IsRange r = (0 < r.lower) × (r.lower ≤ r.upper) × (r.upper ≤ max_number)

-- the acknowledged numbers of a side
abbrev pub acked_by : Side → List Range
acked_by (Sends t) = t.acked
acked_by (Receives t) = []

-- those of a row that may be there
abbrev pub acked_in : Option Told → List Range
acked_in (Some t) = acked_by t.side
acked_in None = []

-- the numbers of the items of the inbox of a side that were consumed, where the inbox has so many
abbrev pub passed_by : Side → List Range
passed_by (Sends t) = []
passed_by (Receives t) = passed t

-- the same of a row that may be there
abbrev pub passed_in : Option Told → List Range
passed_in (Some t) = passed_by t.side
passed_in None = []

-- from the last note to the first: the sequences of which an Acked record was met, after one more note
abbrev pub marked : List Bool → Note → List Bool
marked seen (note.Acked seq numbers) = slice_set seen (seq - 1) true
marked seen _ = seen

-- a record of numbers, where there is one
abbrev pub some_ranges : (List Range → Fact) → List Range → Option Fact
some_ranges fact ranges = if is_empty ranges then None else Some (fact ranges)

-- what is put before what stands for a note: the numbers of what was consumed, before the first message
abbrev pub fact_ahead : List Told → Note → Option Fact
fact_ahead rows (note.Received row n first) =
    if first then some_ranges (Purged (row + 1)) (passed_in (numbered rows (row + 1))) else None
fact_ahead rows _ = None

-- What stands for a note. An Acked one whose sequence was met is left out, else it has the numbers of the row behind
-- the first run. The payloads of that run are left out, but for the first, for which Dropped stands, and so are the
-- payloads that were consumed.
abbrev pub fact_instead : List Fact → List Told → List Bool → Note → Option Fact
fact_instead kept rows seen (note.Kept place) = Some (kept_at kept place)
fact_instead kept rows seen (note.Acked seq numbers) =
    if slice_index_or seen (seq - 1) false then None
    else some_ranges (Acked seq) (past_front (acked_in (numbered rows seq)))
fact_instead kept rows seen (note.Accepted row n) =
    let d = front_of (acked_in (numbered rows (row + 1))) in
    if nat_le n d then (if n == 1 then Some (Dropped (row + 1) d) else None)
    else Some (fact_at kept rows (note.Accepted row n))
fact_instead kept rows seen (note.Dropped seq upto) = Some (Dropped seq (front_of (acked_in (numbered rows seq))))
fact_instead kept rows seen (note.Received row n first) =
    if in_ranges (passed_in (numbered rows (row + 1))) n then None
    else Some (fact_at kept rows (note.Received row n first))
fact_instead kept rows seen (note.Consumed seq upto) =
    if is_empty (passed_in (numbered rows seq)) then Some (Consumed seq upto) else None
fact_instead kept rows seen (note.Purged seq numbers) =
    if is_empty (passed_in (numbered rows seq)) then Some (Purged seq numbers.ranges)
    else Some (Purged seq (passed_in (numbered rows seq)))

-- the note itself, where it stays: a message is the first no more where others before it were consumed
abbrev pub stays_as : List Told → Note → Note
stays_as rows (note.Received row n first) =
    note.Received row n (first && is_empty (passed_in (numbered rows (row + 1))))
stays_as rows n = n

-- a note that names nothing
abbrev pub IsFree : Note → Type 0
IsFree (note.Kept place) = ⊥
IsFree (note.Accepted row n) = ⊥
IsFree (note.Received row n first) = ⊥
IsFree _ = Unit {0}

-- what stands for a note is the note itself, or one that names nothing
abbrev pub IsOwn : List Told → Note → Note → Type 0
IsOwn rows n other = IsFree other ⊎ (other ≡ stays_as rows n)

-- a note of a message and one of numbers have one of so many rows
abbrev pub HasRow : ℕ → Note → Type 0
HasRow count (note.Acked seq numbers) = (1 ≤ seq) × (seq ≤ count)
HasRow count (note.Accepted row n) = row < count
HasRow count (note.Received row n first) = row < count
HasRow count _ = Unit {0}

-- what stands for a note is put behind what stands for the later ones, and then what comes before it
pub record IsPut (rows : List Told) (seen : List Bool) (n : Note) (old new : List Note) : Type 0 where
  pub stands : Option Note
  pub ahead : Option Note
  pub is : new ≡ (old ++ option_to_list stands) ++ option_to_list ahead
  pub fact : (kept : List Fact) → option_map (fact_at kept rows) stands ≡ fact_instead kept rows seen n
  pub before : (kept : List Fact) → option_map (fact_at kept rows) ahead ≡ fact_ahead rows n
  pub own : IfSome stands (IsOwn rows n)
  pub free : IfSome ahead IsFree

-- each range of an Acked note has a number
abbrev pub IsProperNote : Note → Type 0
IsProperNote (note.Acked seq numbers) = AreProper numbers.ranges
IsProperNote _ = Unit {0}

-- what is kept is of records that fit one after the other, and the rows are what these say
pub record IsRecorded (kept : List Fact) (rows : List Told) (notes : List Note) : Type 0 where
  pub whole : AreWhole kept
  pub held : AllHeld kept rows notes
  pub places_ : HavePlaces kept rows [] notes
  pub fit : all_fit [] (records_of kept rows notes) ≡ true
  pub rows_ : rows ≡ told_all (records_of kept rows notes)
