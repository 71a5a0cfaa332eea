-- How tables hold records: each in the order of its coming, but for the payloads, which the rows hold.
use Rattle.std.specs.Option.{option_map}
use Rattle.std.specs.Prelude.{Bool, ◌&&◌, ◌≡◌, ◌==◌, ℕ, ◌+◌, ◌-◌, ◌<◌, ◌≤◌, true, false, if◌then◌else◌, List, [], ◌∷◌}
use Rattle.std.specs.Prelude.{◌++◌, length, map, Option, None, Some, slice_index_or}
use Rattle.std.specs.List.{AllByRecursion, flat_map}
use Rattle.record_batch.specs.Snapshot.Same.{HaveProper}
use Rattle.record_batch.specs.Snapshot.Snapshot.{snapshot}
use Rattle.rm_base.specs.NumberSet.{has_number}
use Rattle.rm_base.specs.declared.message.Payload.{Payload}
use Rattle.rm_sides.specs.Destination.Incoming.{held as held_by}
use Rattle.rm_sides.specs.Destination.Messages.{is_empty, numbers_of}
use Rattle.rm_sides.specs.Source.Outgoing.{accepted_count as count_by}
use Rattle.record_batch.specs.declared.record.Record.{Record}
use Rattle.record_batch.specs.Fact.{Fact, fact_of, Made, Creating, Accepted, Acked, Received, Created}
use Rattle.record_batch.specs.Fact.{Granted, Consumed, Dropped, Purged}
use Rattle.record_batch.specs.Sequences.Words.{Text}
use Rattle.wsa_headers.specs.declared.endpoint.Epr.{Epr}
use Rattle.record_batch.specs.Sequences.Makers.{Maker, Taken, maker, makers, makers_of, created, counter, number}
use Rattle.record_batch.specs.Sequences.Makers.{addresses_of}
use Rattle.record_batch.specs.Sequences.Find.{accept_of}
use Rattle.record_batch.specs.Sequences.Destinations.{held}
use Rattle.record_batch.specs.Sequences.Fits.{all_fit}
use Rattle.record_batch.specs.Sequences.Sources.{accepted_count}
use Rattle.record_batch.specs.Sequences.Told.{Told, Side, Sends, Receives, begun, told_by, told_all}
use Rattle.node_tables.specs.Row.Row.{Seen, forgotten, is_moment, takes}
use Rattle.node_tables.specs.declared.note.Note.{Note}
use Rattle.node_tables.specs.declared.note.Note.TheVariants as note
use Rattle.node_tables.specs.declared.note.Origin.{Origin}
use Rattle.node_tables.specs.declared.note.Named.{Named}
use Rattle.node_tables.specs.declared.note.Coming.{Coming}
use Rattle.node_tables.specs.Room.{AreBegun, HasPlaces, NodeRoom, Places}

-- how many of the first messages of a side that sends are gone
abbrev pub dropped_in : Side → ℕ
dropped_in (Sends t) = t.dropped
dropped_in (Receives t) = 0

-- the payloads of a side that sends, behind the gone ones
abbrev pub accepted_in : Side → List (List ℕ)
accepted_in (Sends t) = t.accepted
accepted_in (Receives t) = []

-- how many messages a side accepted
abbrev pub accepted_count_in : Side → ℕ
accepted_count_in (Sends t) = count_by t
accepted_count_in (Receives t) = 0

-- the messages of a side that receives, but for the gone ones
abbrev pub received_in : Side → List (ℕ × Payload)
received_in (Sends t) = []
received_in (Receives t) = t.received

-- the numbers that a side received
abbrev pub held_in : Side → List ℕ
held_in (Sends t) = []
held_in (Receives t) = held_by t

-- what stands for a record where there is none
abbrev pub no_fact : Fact
no_fact = Made 0 []

-- what stands for a maker where there is none
abbrev pub no_maker : Maker
no_maker = Taken [] [] (record { address = []; params = [] })

-- what is known of a row that is not there
abbrev pub no_row : Told
no_row = begun no_maker

-- what the message with a number carries
abbrev pub payload_of : ℕ → List (ℕ × Payload) → Payload
payload_of n [] = record { bytes = []; scope = [] }
payload_of n (m ∷ ms) = if m.0 == n then m.1 else payload_of n ms

-- the record that is kept whole at a place
abbrev pub kept_at : List Fact → ℕ → Fact
kept_at kept place = slice_index_or kept place no_fact

-- what is known of the row at a place
abbrev pub row_at : List Told → ℕ → Told
row_at rows row = slice_index_or rows row no_row

-- the payload of a message that the row at a place accepted: messages are numbered from 1, and the first are gone
abbrev pub accepted_at : List Told → ℕ → ℕ → List ℕ
accepted_at rows row n =
    slice_index_or (accepted_in (row_at rows row).side) (n - (dropped_in (row_at rows row).side + 1)) []

-- the payload of a message that the row at a place received
abbrev pub received_at : List Told → ℕ → ℕ → Payload
received_at rows row n = payload_of n (received_in (row_at rows row).side)

-- the record that a note stands for
abbrev pub fact_at : List Fact → List Told → Note → Fact
fact_at kept rows (note.Kept place) = kept_at kept place
fact_at kept rows (note.Accepted row n) = Accepted (row + 1) (accepted_at rows row n)
fact_at kept rows (note.Received row n first) = Received (row + 1) n (received_at rows row n)
fact_at kept rows (note.Acked seq numbers) = Acked seq numbers.ranges
fact_at kept rows (note.Consumed seq upto) = Consumed seq upto
fact_at kept rows (note.Dropped seq upto) = Dropped seq upto
fact_at kept rows (note.Purged seq numbers) = Purged seq numbers.ranges

-- the records that notes stand for
abbrev pub records_of : List Fact → List Told → List Note → List Fact
records_of kept rows notes = map (fact_at kept rows) notes

-- what a note names is there
abbrev pub IsHeld : List Fact → List Told → Note → Type 0
IsHeld kept rows (note.Kept place) = place < length kept
IsHeld kept rows (note.Accepted row n) =
    (row < length rows) × (dropped_in (row_at rows row).side < n) × (n ≤ accepted_count_in (row_at rows row).side)
IsHeld kept rows (note.Received row n first) =
    (row < length rows) × (has_number (numbers_of (received_in (row_at rows row).side)) n ≡ true)
IsHeld kept rows _ = Unit {0}

-- what each note names is there
abbrev pub AllHeld : List Fact → List Told → List Note → Type 0
AllHeld kept rows [] = Unit {0}
AllHeld kept rows (n ∷ notes) = IsHeld kept rows n × AllHeld kept rows notes

-- behind these records, an accepted message has the next number, and a received one is the first where its note says so
abbrev pub HasPlace : List Fact → Note → Type 0
HasPlace before (note.Accepted row n) = n ≡ accepted_count before (row + 1) + 1
HasPlace before (note.Received row n first) = first ≡ is_empty (held before (row + 1))
HasPlace before _ = Unit {0}

-- the same of each note, behind these records and those of the notes before it
abbrev pub HavePlaces : List Fact → List Told → List Fact → List Note → Type 0
HavePlaces kept rows before [] = Unit {0}
HavePlaces kept rows before (n ∷ notes) =
    HasPlace before n × HavePlaces kept rows (before ++ fact_at kept rows n ∷ []) notes

-- how the sequence of a row came to be
abbrev pub maker_at : List Fact → Origin → Maker
maker_at kept origin =
    slice_index_or (makers_of (kept_at kept origin.made)) (if origin.is_second then 1 else 0) no_maker

-- a record makes the sequence of an origin
abbrev pub IsMade : List Fact → Origin → Type 0
IsMade kept origin = (if origin.is_second then 1 else 0) < length (makers_of (kept_at kept origin.made))

-- each sequence is made by the record of its origin
abbrev pub AreMade : List Fact → List Origin → Type 0
AreMade kept [] = Unit {0}
AreMade kept (o ∷ os) = IsMade kept o × AreMade kept os

-- the identifier that a record gives to an outgoing sequence
abbrev pub ident_given : Fact → Text
ident_given (Created seq ident accept) = ident
ident_given (Granted drawn message_id acks_to behaviour deadline lapse (Some offer)) = offer.ident
ident_given _ = []

-- a record gives an identifier to an outgoing sequence
abbrev pub gives_ident : Fact → Bool
gives_ident (Created seq ident accept) = true
gives_ident (Granted drawn message_id acks_to behaviour deadline lapse (Some offer)) = true
gives_ident _ = false

-- each identifier is given by the record at its place
abbrev pub AreGiven : List Fact → List Named → Type 0
AreGiven kept [] = Unit {0}
AreGiven kept (n ∷ ns) = (gives_ident (kept_at kept n.place) ≡ true) × AreGiven kept ns

-- the AcksTo that came with an identifier
abbrev pub accept_at : List Fact → Named → List (ℕ × Option Epr)
accept_at kept named = accept_of (kept_at kept named.place)

-- an outgoing sequence with its identifier
abbrev pub named_at : List Fact → Named → ℕ × Text
named_at kept named = (named.seq, ident_given (kept_at kept named.place))

-- the places of records that are kept whole are there
abbrev pub AreWithin : ℕ → List ℕ → Type 0
AreWithin n [] = Unit {0}
AreWithin n (k ∷ ks) = (k < n) × AreWithin n ks

-- where rows came from
abbrev pub origins_of : List Origin → List ℕ
origins_of origins = map (λ (o : Origin). o.made) origins

-- where identifiers came from
abbrev pub names_of : List Named → List ℕ
names_of named = map (λ (n : Named). n.place) named

-- a record of how far a sequence was consumed, or of messages that are gone
abbrev pub is_passing : Fact → Bool
is_passing (Consumed seq upto) = true
is_passing (Dropped seq upto) = true
is_passing (Purged seq ranges) = true
is_passing _ = false

-- a record that is kept whole: not one of a payload, a message or numbers, nor of what was consumed or is gone
abbrev pub is_whole : Fact → Bool
is_whole (Accepted seq payload) = false
is_whole (Acked seq ranges) = false
is_whole (Received seq n payload) = false
is_whole (Consumed seq upto) = false
is_whole (Dropped seq upto) = false
is_whole (Purged seq ranges) = false
is_whole _ = true

-- each of them is
abbrev pub AreWhole : List Fact → Type 0
AreWhole kept = AllByRecursion (λ (f : Fact). is_whole f ≡ true) kept

-- what is kept of a node
pub record Table : Type 0 where
  pub kept : List Fact
  pub rows : List Told
  pub notes : List Note
  pub origins : List Origin
  pub named : List Named
  pub number_ : ℕ
  pub drawn : ℕ

-- the records that were applied, oldest first
abbrev pub records_in : Table → List Fact
records_in t = records_of t.kept t.rows t.notes

-- the records fit one after the other, and what is kept is what they say
pub record Holds (t : Table) : Type 0 where
  pub fit : all_fit [] (records_in t) ≡ true
  pub rows_ : t.rows ≡ told_all (records_in t)
  pub makers_ : makers (records_in t) ≡ map (maker_at t.kept) t.origins
  pub created_ : created (records_in t) ≡ map (named_at t.kept) t.named
  pub number_ : t.number_ ≡ number (records_in t)
  pub drawn_ : t.drawn ≡ counter (records_in t)
  pub addresses_ : flat_map addresses_of (records_in t) ≡ flat_map addresses_of t.kept
  pub accepts_ : flat_map accept_of (records_in t) ≡ flat_map (accept_at t.kept) t.named
  pub held : AllHeld t.kept t.rows t.notes
  pub places_ : HavePlaces t.kept t.rows [] t.notes
  pub origins_held : AreWithin (length t.kept) (origins_of t.origins)
  pub named_held : AreWithin (length t.kept) (names_of t.named)
  pub origins_made : AreMade t.kept t.origins
  pub named_given : AreGiven t.kept t.named
  pub whole_ : AreWhole t.kept

-- rows without the payloads that a snapshot leaves out
abbrev pub all_forgotten : List Told → List Told
all_forgotten rows = map (λ (t : Told). record t { side = forgotten t.side }) rows

-- notes stand for the snapshot of what others stand for, also where the rows have no more payloads than that names, and
-- each range of acknowledged numbers has a number
pub record IsShort (kept : List Fact) (rows : List Told) (notes short : List Note) : Type 0 where
  pub records : records_of kept rows short ≡ snapshot (records_of kept rows notes)
  pub held : AllHeld kept rows short
  pub left : AllHeld kept (all_forgotten rows) short
  pub places_ : HavePlaces kept rows [] short
  pub proper : HaveProper (records_of kept rows notes)

-- the notes of the snapshot that was made, where one was and nothing was applied since
abbrev pub IsMarked : Table → Bool → List Note → Type 0
IsMarked t false short = Unit {0}
IsMarked t true short = IsShort t.kept t.rows t.notes short

-- what is kept holds, there is the room that was made and not used, and the notes of the snapshot where that is marked
pub record IsSound (t : Table) (slots : ℕ) (spare : Places) (ahead : List Coming) (marked : Bool)
    (short : List Note) : Type 0 where
  pub holds : Holds t
  pub places : HasPlaces slots spare
  pub begun_ : AreBegun ahead
  pub mark_ : IsMarked t marked short

-- the tables: the records that were applied, oldest first, the room for more, and whether the snapshot of these records
-- was made, so that `compact` may make them that
pub record Tabled : Type 0 where
  pub records : List Fact
  pub room : NodeRoom
  pub is_marked : Bool

-- what the records say of the sequence with a number
abbrev pub told_in : List Fact → ℕ → Option Told
told_in r s = option_map (λ (m : Maker). told_by r s m) (maker r s)

-- a sequence that is there takes a record whose number is the next one
abbrev pub takes_at : Option Told → Bool → Fact → Bool
takes_at None next f = false
takes_at (Some t) next f = next && takes t.side f

-- what is known of each row
abbrev pub tolds : List Seen → List Told
tolds rows = map (λ (r : Seen). r.told) rows

-- what is kept, of the lists that hold it
abbrev pub table_in : List Record → List Seen → List Note → List Origin → List Named → ℕ → ℕ → Table
table_in kept rows notes origins named number drawn = record {
  kept = map fact_of kept;
  rows = tolds rows;
  notes = notes;
  origins = origins;
  named = named;
  number_ = number;
  drawn = drawn;
}

-- a record that names a sequence
abbrev pub is_naming : Fact → Bool
is_naming (Made node address) = false
is_naming (Creating ticket to via lapse offer) = false
is_naming (Granted drawn message_id acks_to behaviour deadline lapse offer) = false
is_naming _ = true

-- the deadline that a record gives is a moment
abbrev pub is_timed_record : Fact → Bool
is_timed_record (Granted drawn message_id acks_to behaviour deadline lapse offer) = is_moment deadline
is_timed_record _ = true

-- the first sequence of the record that is kept at a place
abbrev pub first_of : ℕ → Origin
first_of place = record { made = place; is_second = false }

-- the second one
abbrev pub second_of : ℕ → Origin
second_of place = record { made = place; is_second = true }

-- how the sequences come to be that a record at a place makes
abbrev pub origins_for : ℕ → Fact → List Origin
origins_for place (Creating ticket to via lapse None) = first_of place ∷ []
origins_for place (Creating ticket to via lapse (Some offer)) = first_of place ∷ second_of place ∷ []
origins_for place (Granted drawn message_id acks_to behaviour deadline lapse None) = first_of place ∷ []
origins_for place (Granted drawn message_id acks_to behaviour deadline lapse (Some offer)) =
    first_of place ∷ second_of place ∷ []
origins_for place _ = []

-- the outgoing sequences to which a record at a place gives an identifier, after k sequences were made
abbrev pub names_for : ℕ → ℕ → Fact → List Named
names_for k place (Created seq ident accept) = record { seq = seq; place = place } ∷ []
names_for k place (Granted drawn message_id acks_to behaviour deadline lapse (Some offer)) =
    record { seq = k + 2; place = place } ∷ []
names_for k place _ = []
