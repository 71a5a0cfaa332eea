-- The destination's side of one sequence: WS-ReliableMessaging 1.2, sections 2.4, 3.4 to 3.7 and 3.9.
use Rattle.std.specs.Prelude.{◌≡◌, ℕ, ◌+◌, ◌-◌, max, ◌==◌, ◌&&◌, ◌||◌, not, nat_le, nat_lt, Bool, false, if◌then◌else◌}
use Rattle.std.specs.Prelude.{true, List, [], ◌∷◌, ◌++◌, length, take, drop, Option, Some, None, unwrap_or, Result, Ok}
use Rattle.std.specs.Prelude.{Err}
use Rattle.rm_sides.specs.declared.ranges.range.Range.{Range}
use Rattle.rm_sides.specs.Ranges.Ranges.{count_of}
use Rattle.rm_base.specs.Limits as limits
use Rattle.rm_base.specs.NumberSet.{has_number, greatest_of}
use Rattle.rm_base.specs.declared.message.Behaviour.{Behaviour}
use Rattle.rm_base.specs.declared.message.Behaviour.TheVariants.{EntireSequence, FollowingFirstGap, NoDiscard}
use Rattle.rm_base.specs.declared.message.Cause.{Cause}
use Rattle.rm_base.specs.declared.message.Cause.TheVariants.{Peer}
use Rattle.rm_base.specs.declared.message.Payload.{Payload}
use Rattle.rm_sides.specs.declared.destination.outcome.DestError.{DestError}
use Rattle.rm_sides.specs.declared.destination.outcome.DestError.TheVariants.{Memory as WantsMemory, Closed as IsClosed}
use Rattle.rm_sides.specs.declared.destination.outcome.DestError.TheVariants.{Terminated, PastInbox}
use Rattle.rm_sides.specs.declared.destination.outcome.InPhase.{InPhase}
use Rattle.rm_sides.specs.declared.destination.outcome.InPhase.TheVariants.{Open, Closed, Ended}
use Rattle.rm_sides.specs.declared.destination.outcome.Took.{Took}
use Rattle.rm_sides.specs.declared.destination.outcome.Took.TheVariants.{New, Duplicate, PastWindow}
use Rattle.rm_sides.specs.Destination.Messages.{Item, is_empty, any_true, by_number, without_gap, numbers_of}
use Rattle.rm_sides.specs.Destination.Messages.{contents_of}
use Rattle.rm_sides.specs.Destination.Messages.{front_of, items_of, ranges_onto, without}

-- what is known: what was announced for incomplete sequences; the moment at which it expires, in milliseconds since
-- 1970 UTC; the numbers of the messages that were received and are gone; the messages that were received and aren't, in
-- the order in which they came; how many items of the inbox the application consumed; for each time that it was closed
-- or ended, whether it was ended; and the last numbers that its peer told with these, 0 where it told none
pub record Receiving : Type 0 where
  pub behaviour : Behaviour
  pub deadline : Option ℕ
  pub purged : List Range
  pub received : List (ℕ × Payload)
  pub cursor : ℕ
  pub closes : List Bool
  pub told : List ℕ

-- a sequence: what is known of it, and for how many more messages there is room
pub record Sequence : Type 0 where
  pub facts : Receiving
  pub room : ℕ

-- a sequence of which nothing is known but what was announced
abbrev pub fresh : Behaviour → Option ℕ → Sequence
fresh behaviour deadline = record {
  facts = record {
    behaviour = behaviour;
    deadline = deadline;
    purged = [];
    received = [];
    cursor = 0;
    closes = [];
    told = [];
  };
  room = 0;
}

-- all that was received, each with its number
abbrev pub items : Receiving → List (ℕ × Item)
items f = items_of f.purged f.received

-- the numbers that were received: what was received is held for good
abbrev pub held : Receiving → List ℕ
held f = numbers_of (items f)

-- there is a deadline, and it is at most now
abbrev pub is_past : Option ℕ → ℕ → Bool
is_past None now = false
is_past (Some moment) now = nat_le moment now

-- it was closed or ended, but by its deadline
abbrev pub is_stopped : List Bool → Bool
is_stopped closes = not (is_empty closes)

-- it has ended at a moment
abbrev pub is_ended : Receiving → ℕ → Bool
is_ended f now = any_true f.closes || is_past f.deadline now

-- how far it is at a moment
abbrev pub phase_of : Receiving → ℕ → InPhase
phase_of f now = if is_ended f now then Ended else if is_stopped f.closes then Closed else Open

-- what a message with this number is, where the sequence has not ended: the window ends 1024 past the front
abbrev pub kind_of : Receiving → ℕ → Result Took DestError
kind_of f number =
    if has_number (held f) number then Ok Duplicate
    else if is_stopped f.closes then Err IsClosed
    else if nat_lt (front_of (items f) + limits.window) number then Ok (PastWindow (front_of (items f)))
    else Ok New

-- the answer to a message with this number at a moment
abbrev pub took_of : Receiving → ℕ → ℕ → Result Took DestError
took_of f number now = if is_ended f now then Err Terminated else kind_of f number

-- one message more, which takes room for one
abbrev pub with_received : Sequence → ℕ → Payload → Sequence
with_received s number payload = record {
  facts = record s.facts { received = s.facts.received ++ (number, payload) ∷ [] };
  room = s.room - 1;
}

-- the sequence after a message was answered so: a new one is received, and any other changes nothing
abbrev pub after_take : Sequence → ℕ → Payload → Took → Sequence
after_take s number payload New = with_received s number payload
after_take s number payload _ = s

-- how take may fail where this is the answer: a refusal comes as it is, and want of memory only at a new message
abbrev pub IsTakeError : Result Took DestError → DestError → Type 0
IsTakeError (Ok New) error = error ≡ WantsMemory
IsTakeError (Ok _) error = ⊥
IsTakeError (Err refusal) error = error ≡ refusal

-- the last number that the peer told, if it was the peer that closed or ended the sequence
abbrev pub told_by : Cause → Option ℕ → List ℕ
told_by Peer last = unwrap_or last 0 ∷ []
told_by _ last = []

-- the sequence was closed (false) or ended (true) once more
abbrev pub stopped_by : Sequence → Bool → Cause → Option ℕ → Sequence
stopped_by s ends cause last = record s {
  facts = record s.facts { closes = s.facts.closes ++ ends ∷ []; told = s.facts.told ++ told_by cause last };
}

-- what close answers in a phase
abbrev pub close_answer : InPhase → Result (Unit {0}) DestError
close_answer Open = Ok tt
close_answer Closed = Err IsClosed
close_answer Ended = Err Terminated

-- the number that was told, or the greatest that came where none was told
abbrev pub last_number : {A : Type 0} → ℕ → List (ℕ × A) → ℕ
last_number n ms = if n == 0 then greatest_of (numbers_of ms) else n

-- there is no gap, and they are as many as the last number says
abbrev pub is_whole : {A : Type 0} → ℕ → List (ℕ × A) → Bool
is_whole n ms = (length (without_gap 0 ms) == last_number n ms) && (length ms == last_number n ms)

-- by what the peer told first
abbrev pub is_whole_by : {A : Type 0} → List ℕ → List (ℕ × A) → Bool
is_whole_by [] ms = false
is_whole_by (n ∷ ns) ms = is_whole n ms

-- a sequence of this behaviour is loose: it releases its messages as they come
abbrev pub is_loose : Behaviour → Bool
is_loose NoDiscard = true
is_loose EntireSequence = false
is_loose FollowingFirstGap = false

-- IncompleteSequenceBehavior: section 3.4. DiscardFollowingFirstGap: of the messages that came, those up to the first
-- gap. DiscardEntireSequence: all messages of a complete sequence, else none. NoDiscard: all, as they came
abbrev pub inbox_of : {A : Type 0} → Behaviour → List ℕ → List (ℕ × A) → List A
inbox_of FollowingFirstGap ns ms = without_gap 0 (by_number ms)
inbox_of EntireSequence ns ms = if is_whole_by ns (by_number ms) then contents_of (by_number ms) else []
inbox_of NoDiscard ns ms = contents_of ms

-- of the messages, what is not in the inbox, once the sequence was closed or ended, but by its deadline
abbrev pub discarded_of : {A : Type 0} → List Bool → List A → List (ℕ × A) → List A
discarded_of closes inbox ms = if is_stopped closes then drop (length inbox) (contents_of ms) else []

-- what is released to the application
abbrev pub inbox : Receiving → List Item
inbox f = inbox_of f.behaviour f.told (items f)

-- of what was received, what is never released
abbrev pub discarded : Receiving → List Item
discarded f = discarded_of f.closes (inbox f) (by_number (items f))

-- the application consumed the first n items of the inbox
abbrev pub with_cursor : Sequence → ℕ → Sequence
with_cursor s n = record s { facts = record s.facts { cursor = max s.facts.cursor n } }

-- what consume answers: whether the cursor goes on, where the inbox has so many items
abbrev pub consume_answer : Receiving → ℕ → Result Bool DestError
consume_answer f n =
    if nat_lt (length (inbox f)) n then Err (PastInbox (length (inbox f))) else Ok (nat_lt f.cursor n)

-- the messages with these numbers were received, were consumed, and are gone
abbrev pub with_purged : Sequence → List Range → Sequence
with_purged s ranges = record s {
  facts = record s.facts { purged = s.facts.purged ++ ranges; cursor = max s.facts.cursor (count_of ranges) };
}

-- the numbers of the first c items of an inbox: of a loose one those that were held first, of another one 1 to c
abbrev pub first_numbers : Bool → List ℕ → ℕ → List Range
first_numbers true ns c = ranges_onto [] (take c ns)
first_numbers false ns c = record { lower = 1; upper = c } ∷ []

-- the numbers of the items that the application consumed, where the inbox has as many
abbrev pub passed : Receiving → List Range
passed f =
    if nat_lt 0 f.cursor && nat_le f.cursor (length (inbox f))
    then first_numbers (is_loose f.behaviour) (held f) f.cursor else []

-- the payloads of these are gone
abbrev pub without_passed : Receiving → Receiving
without_passed f = record f { purged = passed f; received = without (passed f) f.received }

-- the payloads that the application consumed are gone too, where there are some and the inbox has as many items
abbrev pub forgotten : Receiving → Receiving
forgotten f = if is_empty (passed f) then f else without_passed f
