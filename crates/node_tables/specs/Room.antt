-- The room that tables have for records to come.
use Rattle.std.specs.Prelude.{◌≡◌, ℕ, ◌+◌, ◌-◌, ◌≤◌, ◌<◌, ◌==◌, ◌&&◌, Bool, true, false, if◌then◌else◌, List, []}
use Rattle.std.specs.Prelude.{◌∷◌, ◌++◌}
use Rattle.std.specs.Prelude.{length, map, sum_by, slice_index_or, slice_set, None, Some}
use Rattle.record_batch.specs.Fact.{Fact, Creating, Granted, Accepted, Acked, Received, Dropped, Purged}
use Rattle.node_tables.specs.declared.row.row.Start.{Start}
use Rattle.node_tables.specs.declared.row.row.Start.TheVariants as start
use Rattle.node_tables.specs.Row.Row.{Room, Seen, is_sender, is_timed_start, no_room, started}
use Rattle.node_tables.specs.declared.note.Coming.{Coming}

-- a sequence: whether it sends, and the room for more
pub record Spare : Type 0 where
  pub sends : Bool
  pub room : Room

-- for how many records there is a place in each list; the room of each sequence, also of those that records to come
-- will make; and how these begin
pub record NodeRoom : Type 0 where
  pub slots : ℕ
  pub rows : List Spare
  pub ahead : List Start

-- the room of no sequence
abbrev pub no_spare : Spare
no_spare = record { sends = false; room = no_room }

-- the room of the sequence at a place, counted from 0
abbrev pub spare_at : List Spare → ℕ → Spare
spare_at rows i = slice_index_or rows i no_spare

-- a record for which room can be made: one that says that messages are gone stands in a snapshot alone, and finds none
abbrev pub has_room : Fact → Bool
has_room (Dropped seq upto) = false
has_room (Purged seq ranges) = false
has_room _ = true

-- the payloads that a record adds to sequence s
abbrev pub payloads_for : ℕ → Fact → ℕ
payloads_for s (Accepted seq payload) = if seq == s then 1 else 0
payloads_for s _ = 0

-- the ranges that a record adds to sequence s
abbrev pub ranges_for : ℕ → Fact → ℕ
ranges_for s (Acked seq ranges) = if seq == s then length ranges else 0
ranges_for s _ = 0

-- the messages that a record adds to sequence s
abbrev pub messages_for : ℕ → Fact → ℕ
messages_for s (Received seq n payload) = if seq == s then 1 else 0
messages_for s _ = 0

-- how the sequences begin that a record makes
abbrev pub starts_of : Fact → List Start
starts_of (Creating ticket to via lapse None) = start.Asked ticket ∷ []
starts_of (Creating ticket to via lapse (Some offer)) = start.Asked ticket ∷ start.Offered offer.behaviour ∷ []
starts_of (Granted counter message_id acks_to behaviour deadline lapse None) = start.Granted behaviour deadline ∷ []
starts_of (Granted counter message_id acks_to behaviour deadline lapse (Some offer)) =
    start.Granted behaviour deadline ∷ start.Taken ∷ []
starts_of _ = []

-- sequence s has room for what these records add to its side
pub record IsEnough (x : Spare) (s : ℕ) (batch : List Fact) : Type 0 where
  pub payloads : x.sends ≡ true → sum_by (payloads_for s) batch ≤ x.room.payloads
  pub ranges : x.sends ≡ true → sum_by (ranges_for s) batch ≤ x.room.ranges
  pub messages : x.sends ≡ false → sum_by (messages_for s) batch ≤ x.room.messages

-- each sequence has room for these records
abbrev pub AreEnough : List Spare → List Fact → Type 0
AreEnough rows batch = (i : ℕ) → i < length rows → IsEnough (spare_at rows i) (i + 1) batch

-- what a record takes of the room of its sequence
abbrev pub spent : Spare → Fact → Spare
spent x (Accepted seq payload) = record x { room = record x.room { payloads = x.room.payloads - 1 } }
spent x (Acked seq ranges) = record x { room = record x.room { ranges = x.room.ranges - length ranges } }
spent x (Received seq n payload) = record x { room = record x.room { messages = x.room.messages - 1 } }
spent x _ = x

-- the same, where the sequence stands at a place
abbrev pub spent_at : List Spare → ℕ → Fact → List Spare
spent_at rows i f = slice_set rows i (spent (spare_at rows i) f)

-- what there is after room was made for a record at sequence s
pub record IsClaimed (x y : Spare) (s : ℕ) (f : Fact) : Type 0 where
  pub same : y.sends ≡ x.sends
  pub payloads : x.sends ≡ true → x.room.payloads + payloads_for s f ≤ y.room.payloads
  pub ranges : x.sends ≡ true → x.room.ranges + ranges_for s f ≤ y.room.ranges
  pub messages : x.sends ≡ false → x.room.messages + messages_for s f ≤ y.room.messages

-- the same of each sequence
pub record AreClaimed (old new : List Spare) (f : Fact) : Type 0 where
  pub len : length new ≡ length old
  pub each : (i : ℕ) → i < length old → IsClaimed (spare_at old i) (spare_at new i) (i + 1) f

-- the room of a sequence
abbrev pub spare_of : Seen → Spare
spare_of r = record { sends = is_sender r.told.side; room = r.room }

-- the room of each row
abbrev pub spares : List Seen → List Spare
spares rows = map spare_of rows

-- the room of the sequences that records to come will make
abbrev pub spares_ahead : List Coming → List Spare
spares_ahead ahead = map (λ (a : Coming). spare_of a.row) ahead

-- the room of each sequence, also of those that records to come will make
abbrev pub all_spares : List Seen → List Coming → List Spare
all_spares rows ahead = spares rows ++ spares_ahead ahead

-- how they begin
abbrev pub starts : List Coming → List Start
starts ahead = map (λ (a : Coming). a.start) ahead

-- each row of them has begun so
abbrev pub AreBegun : List Coming → Type 0
AreBegun [] = Unit {0}
AreBegun (a ∷ ahead) = (a.row.told ≡ started a.start) × AreBegun ahead

-- the deadlines that sequences begin with are moments
abbrev pub all_timed : List Start → Bool
all_timed [] = true
all_timed (s ∷ ss) = is_timed_start s && all_timed ss

-- the places that are spare in each list of the tables
pub record Places : Type 0 where
  pub kept : ℕ
  pub rows : ℕ
  pub notes : ℕ
  pub origins : ℕ
  pub named : ℕ

-- these are enough for so many records: a record makes up to two sequences
pub record HasPlaces (slots : ℕ) (spare : Places) : Type 0 where
  pub kept_ : slots ≤ spare.kept
  pub rows_ : slots + slots ≤ spare.rows
  pub notes_ : slots ≤ spare.notes
  pub origins_ : slots + slots ≤ spare.origins
  pub named_ : slots ≤ spare.named
