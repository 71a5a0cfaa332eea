-- What an incoming sequence keeps, beside what it is seen as.
use Rattle.std.specs.Prelude.{◌≡◌, ◌+◌, ◌<◌, ◌≤◌, ℕ, Bool, true, false, List, [], ◌∷◌, ◌++◌, length, map, if◌then◌else◌}
use Rattle.std.specs.Prelude.{slice_get, slice_index_or, Option, Some, None}
use Rattle.rm_base.specs.declared.message.Payload.{Payload}
use Rattle.rm_base.specs.Message.{max_number}
use Rattle.rm_base.specs.NumberSet.{IsRising, Rises, has_number}
use Rattle.rm_sides.specs.declared.ranges.range.Range.{Range}
use Rattle.rm_sides.specs.Ranges.Ranges.{Contents, count_of, in_ranges}
use Rattle.rm_sides.specs.declared.destination.arrivals.Place.{Place}
use Rattle.rm_sides.specs.declared.destination.incoming.Stop.{Stop}
use Rattle.rm_sides.specs.Destination.Incoming.{told_by, is_whole_by}
use Rattle.rm_sides.specs.Destination.Messages.{AreOnce, by_number, numbers_of, ranges_onto, run_to, items_of}

-- the messages that came, in their order, and for how many more there is room
pub record Came : Type 0 where
  pub messages : List (ℕ × Payload)
  pub spare : ℕ

-- the numbers of places
abbrev pub numbers_at : List Place → List ℕ
numbers_at places = map (λ (p : Place). p.number) places

-- the message at each place
abbrev pub looked_up : List (ℕ × Payload) → List Place → List (Option (ℕ × Payload))
looked_up came places = map (λ (p : Place). slice_get came p.at) places

-- the places lead to the messages that came, by rising number, of which no two have one number
pub record IsSorting (came : List (ℕ × Payload)) (places : List Place) : Type 0 where
  pub found : looked_up came places ≡ map Some (by_number came)
  pub numbers : numbers_at places ≡ numbers_of (by_number came)
  pub rising : IsRising (numbers_of (by_number came))
  pub once : AreOnce came
  pub count : length places ≡ length came

-- a number's place: those before it are below the number, and those from it on are not
pub record GoesAt (numbers : List ℕ) (n place : ℕ) : Type 0 where
  pub within : place ≤ length numbers
  pub below : (k : ℕ) → k < place → slice_index_or numbers k 0 < n
  pub above : (k : ℕ) → place ≤ k → k < length numbers → n ≤ slice_index_or numbers k 0

-- the numbers of all that was received, of which some are gone
abbrev pub held_by : List Range → List (ℕ × Payload) → List ℕ
held_by purged came = numbers_of (items_of purged came)

-- the numbers of what is gone: of a loose sequence a set, of another one 1 to some number
abbrev pub gone_by : Bool → ℕ → List Range → List Range
gone_by loose gone purged = if loose then purged else run_to gone

-- of an ordered sequence, the messages that are there come behind those that are gone, which were consumed
pub record IsBehind (gone cursor : ℕ) (came : Came) : Type 0 where
  pub few : gone ≤ max_number
  pub consumed : gone ≤ cursor
  pub rising : Rises gone (numbers_of (by_number came.messages))

-- of a loose sequence, what is gone was consumed, and its set has room for each message that is there or to come
pub record IsLoose (purged : Contents) (cursor : ℕ) (came : Came) (room : ℕ) : Type 0 where
  pub consumed : count_of purged.ranges ≤ cursor
  pub fits : length came.messages + room ≤ purged.spare

-- the set has the numbers of all that was received, and there is the room that was asked for and not used
pub record IsAll (gone : List Range) (came : Came) (numbers : Contents) (room : ℕ) : Type 0 where
  pub rising : IsRising (numbers_of (by_number (items_of gone came.messages)))
  pub ranges : numbers.ranges ≡ ranges_onto [] (held_by gone came.messages)
  pub same : (n : ℕ) → in_ranges numbers.ranges n ≡ has_number (held_by gone came.messages) n
  pub messages_fit : room ≤ came.spare
  pub numbers_fit : room ≤ numbers.spare

-- what a sequence keeps
pub record IsKept (loose : Bool) (gone : ℕ) (purged : Contents) (cursor : ℕ) (came : Came) (numbers : Contents)
    (room : ℕ) : Type 0 where
  pub behind : loose ≡ false → IsBehind gone cursor came
  pub set : loose ≡ true → IsLoose purged cursor came room
  pub all : IsAll (gone_by loose gone purged.ranges) came numbers room

-- it was closed and it was ended, or not
abbrev pub closes_of : Option Stop → Option Stop → List Bool
closes_of None None = []
closes_of None (Some e) = true ∷ []
closes_of (Some c) None = false ∷ []
closes_of (Some c) (Some e) = false ∷ true ∷ []

-- what the peer told, if it was the peer
abbrev pub told_at : Option Stop → List ℕ
told_at None = []
told_at (Some s) = told_by s.cause (Some s.last)

-- what the peer told by a close and by an end
abbrev pub told_of : Option Stop → Option Stop → List ℕ
told_of closed ended = told_at closed ++ told_at ended

-- how many messages there are where they are all, by what the peer told first, and else 0
abbrev pub whole_len : {A : Type 0} → List ℕ → List (ℕ × A) → ℕ
whole_len ns ms = if is_whole_by ns ms then length ms else 0
