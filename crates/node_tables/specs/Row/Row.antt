-- One sequence of a node as contracts see it: what is known of it, and the room for more.
use Rattle.std.specs.Prelude.{◌≡◌, ℕ, ◌+◌, max, ◌==◌, ◌&&◌, nat_le, nat_lt, not, Bool, true, false, List, [], ◌∷◌}
use Rattle.std.specs.Prelude.{◌++◌, length, Option, Some, None}
use Rattle.rm_sides.specs.declared.ranges.range.Range.{Range}
use Rattle.rm_sides.specs.Ranges.Changes.{united}
use Rattle.rm_sides.specs.Ranges.Ranges.{count_of, greatest_of}
use Rattle.rm_base.specs.Message.{max_number}
use Rattle.rm_base.specs.declared.message.Cause.{Cause}
use Rattle.rm_base.specs.declared.message.Cause.TheVariants.{Peer}
use Rattle.rm_base.specs.declared.message.Payload.{Payload}
use Rattle.rm_base.specs.NumberSet.{has_number}
use Rattle.rm_sides.specs.declared.source.phase.OutPhase.{OutPhase}
use Rattle.rm_sides.specs.declared.source.phase.OutPhase.TheVariants as out
use Rattle.rm_sides.specs.Source.Outgoing.{Sending, accepted_count, first_run, settled}
use Rattle.rm_sides.specs.Destination.Incoming.{Receiving, forgotten as forgotten_in, fresh, held, inbox, is_loose}
use Rattle.rm_sides.specs.Destination.Messages.{is_empty, any_true}
use Rattle.std.specs.List.{list_all}
use Rattle.record_batch.specs.Fact.{Fact, Created, Accepted, Acked, Received, Closing, ClosedOut, Closed}
use Rattle.record_batch.specs.Fact.{Ending}
use Rattle.record_batch.specs.Fact.{EndedOut, Ended, Failed, Consumed, Dropped, Purged}
use Rattle.record_batch.specs.Sequences.Makers.{Maker, maker, counter}
use Rattle.record_batch.specs.Sequences.Fits.{fits, follows, is_up_to, may_be_gone}
use Rattle.record_batch.specs.Sequences.Told.{Told, Side, Sends, Receives, names, side_of, after}
use Rattle.node_tables.specs.declared.row.row.Core.{Core}
use Rattle.node_tables.specs.declared.row.row.Core.TheVariants as core
use Rattle.node_tables.specs.declared.row.row.Start.{Start}
use Rattle.node_tables.specs.declared.row.row.Start.TheVariants.{Asked, Taken, Offered, Granted}

-- for how many more payloads, ranges of acknowledged numbers and received messages there is room
pub record Room : Type 0 where
  pub payloads : ℕ
  pub ranges : ℕ
  pub messages : ℕ

-- a sequence: what the records say of it, and the room for more
pub record Seen : Type 0 where
  pub told : Told
  pub room : Room

-- room for nothing
abbrev pub no_room : Room
no_room = record { payloads = 0; ranges = 0; messages = 0 }

-- what a side is seen as
abbrev pub side_in : Core → Side
side_in (core.Sends outgoing) = Sends outgoing.facts
side_in (core.Receives incoming) = Receives incoming.facts

-- the room of a side
abbrev pub room_in : Core → Room
room_in (core.Sends outgoing) =
    record { payloads = outgoing.room.payloads; ranges = outgoing.room.ranges; messages = 0 }
room_in (core.Receives incoming) = record { payloads = 0; ranges = 0; messages = incoming.room }

-- a deadline that is a moment: not 0
abbrev pub is_moment : Option ℕ → Bool
is_moment None = true
is_moment (Some moment) = nat_lt 0 moment

-- a sequence that sends has no deadline, and the deadline of one that receives is a moment
abbrev pub is_timed : Side → Bool
is_timed (Sends t) = true
is_timed (Receives t) = is_moment t.deadline

-- a sequence that was just made
abbrev pub started : Start → Told
started (Asked ticket) = record {
  ticket = Some ticket;
  side = Sends (record { phase = out.Creating; dropped = 0; accepted = []; acked = [] });
}
started Taken =
    record { ticket = None; side = Sends (record { phase = out.Open; dropped = 0; accepted = []; acked = [] }) }
started (Offered behaviour) = record { ticket = None; side = Receives (fresh behaviour None).facts }
started (Granted behaviour deadline) = record { ticket = None; side = Receives (fresh behaviour deadline).facts }

-- what was announced with it is a moment
abbrev pub is_timed_start : Start → Bool
is_timed_start (Granted behaviour deadline) = is_moment deadline
is_timed_start _ = true

-- the phase in which payloads are accepted
abbrev pub is_open : OutPhase → Bool
is_open out.Open = true
is_open _ = false

-- a sequence that sends
abbrev pub is_sender : Side → Bool
is_sender (Sends t) = true
is_sender (Receives t) = false

-- a sequence that receives
abbrev pub is_receiver : Side → Bool
is_receiver (Sends t) = false
is_receiver (Receives t) = true

-- what is known of a sequence that sends
abbrev pub sending_in : Side → Option Sending
sending_in (Sends t) = Some t
sending_in (Receives t) = None

-- what is known of a sequence that receives
abbrev pub receiving_in : Side → Option Receiving
receiving_in (Sends t) = None
receiving_in (Receives t) = Some t

-- one more payload may be accepted: their numbers end at 9223372036854775807
abbrev pub takes_payload : Side → Bool
takes_payload (Sends t) = is_open t.phase && nat_lt (accepted_count t) max_number
takes_payload (Receives t) = false

-- the numbers of these ranges may be acknowledged
abbrev pub takes_acked : Side → List Range → Bool
takes_acked (Sends t) ranges = nat_le (greatest_of ranges) (accepted_count t)
takes_acked (Receives t) ranges = false

-- it receives, and was neither closed nor ended
abbrev pub is_receiving : Side → Bool
is_receiving (Sends t) = false
is_receiving (Receives t) = is_empty t.closes

-- it receives, and was not ended
abbrev pub takes_end : Side → Bool
takes_end (Sends t) = false
takes_end (Receives t) = not (any_true t.closes)

-- a message with this number may be received
abbrev pub takes_message : Side → ℕ → Bool
takes_message (Sends t) number = false
takes_message (Receives t) number =
    is_empty t.closes && (nat_le 1 number && (nat_le number max_number
    && not (has_number (held t) number)))

-- the messages 1 to n may be gone: nothing was accepted
abbrev pub takes_dropped : Side → ℕ → Bool
takes_dropped (Sends t) n = (accepted_count t == 0) && (nat_le 1 n && nat_le n max_number)
takes_dropped (Receives t) n = false

-- the application may have consumed the inbox up to item n: the cursor is before it
abbrev pub takes_consumed : Side → ℕ → Bool
takes_consumed (Sends t) n = false
takes_consumed (Receives t) n = nat_lt t.cursor n && nat_le n (length (inbox t))

-- the messages with these numbers may be gone: nothing was received, and they are 1 to some number
abbrev pub takes_purged : Side → List Range → Bool
takes_purged (Sends t) ranges = false
takes_purged (Receives t) ranges =
    is_empty (held t) && (list_all (is_up_to max_number) ranges && may_be_gone (is_loose t.behaviour) ranges)

-- one more payload
abbrev pub with_accepted : Side → List ℕ → Side
with_accepted (Sends t) payload = Sends (record t { accepted = t.accepted ++ payload ∷ [] })
with_accepted (Receives t) payload = Receives t

-- these numbers besides
abbrev pub with_acked : Side → List Range → Side
with_acked (Sends t) ranges = Sends (record t { acked = united t.acked ranges })
with_acked (Receives t) ranges = Receives t

-- one more message
abbrev pub with_received : Side → ℕ → Payload → Side
with_received (Sends t) number payload = Sends t
with_received (Receives t) number payload = Receives (record t { received = t.received ++ (number, payload) ∷ [] })

-- the messages 1 to n are acknowledged and gone
abbrev pub with_dropped : Side → ℕ → Side
with_dropped (Sends t) n = Sends (record t { dropped = n; acked = united t.acked (first_run n) })
with_dropped (Receives t) n = Receives t

-- the application consumed the first n items of the inbox
abbrev pub with_cursor : Side → ℕ → Side
with_cursor (Sends t) n = Sends t
with_cursor (Receives t) n = Receives (record t { cursor = max t.cursor n })

-- the messages with these numbers were received, were consumed, and are gone
abbrev pub with_purged : Side → List Range → Side
with_purged (Sends t) ranges = Sends t
with_purged (Receives t) ranges =
    Receives (record t { purged = t.purged ++ ranges; cursor = max t.cursor (count_of ranges) })

-- without the payloads that nobody needs
abbrev pub forgotten : Side → Side
forgotten (Sends t) = Sends (settled t)
forgotten (Receives t) = Receives (forgotten_in t)

-- another phase
abbrev pub in_phase : Side → OutPhase → Side
in_phase (Sends t) phase = Sends (record t { phase = phase })
in_phase (Receives t) phase = Receives t

-- the last number that the peer told, if it was the peer
abbrev pub last_told : Cause → ℕ → List ℕ
last_told Peer last = last ∷ []
last_told _ last = []

-- closed (false) or ended (true) once more
abbrev pub stopped : Side → Bool → Cause → ℕ → Side
stopped (Sends t) ends cause last = Sends t
stopped (Receives t) ends cause last =
    Receives (record t { closes = t.closes ++ ends ∷ []; told = t.told ++ last_told cause last })

-- the record may come next for a sequence that sends, but for the numbers that it draws
abbrev pub sender_takes : Sending → Fact → Bool
sender_takes t (Accepted seq payload) =
    follows t.phase (Accepted seq payload) && nat_lt (accepted_count t) max_number
sender_takes t (Acked seq ranges) = list_all (is_up_to (accepted_count t)) ranges
sender_takes t (Dropped seq upto) = follows t.phase (Dropped seq upto) && takes_dropped (Sends t) upto
sender_takes t (Received seq n payload) = false
sender_takes t (Closed seq cause last) = false
sender_takes t (Ended seq cause last) = false
sender_takes t (Consumed seq upto) = false
sender_takes t (Purged seq ranges) = false
sender_takes t f = follows t.phase f

-- the record may come next for a sequence that receives
abbrev pub receiver_takes : Receiving → Fact → Bool
receiver_takes t (Received seq n payload) =
    nat_le 1 n && (nat_le n max_number && (not (has_number (held t) n) && is_empty t.closes))
receiver_takes t (Closed seq cause last) = is_empty t.closes
receiver_takes t (Ended seq cause last) = not (any_true t.closes)
receiver_takes t (Consumed seq upto) = takes_consumed (Receives t) upto
receiver_takes t (Purged seq ranges) = takes_purged (Receives t) ranges
receiver_takes t f = false

-- the record may come next for the sequence that it names, but for the numbers that it draws
abbrev pub takes : Side → Fact → Bool
takes (Sends t) f = sender_takes t f
takes (Receives t) f = receiver_takes t f

-- room for one record more on a side
abbrev pub with_room : Side → Room → Fact → Room
with_room (Sends t) room (Accepted seq payload) = record room { payloads = room.payloads + 1 }
with_room (Sends t) room (Acked seq ranges) = record room { ranges = room.ranges + length ranges }
with_room (Receives t) room (Received seq n payload) = record room { messages = room.messages + 1 }
with_room side room f = room

-- the number that a record draws is the next one
abbrev pub draws_next : List Fact → Fact → Bool
draws_next r (Closing seq ticket) = ticket == counter r + 1
draws_next r (Ending seq ticket) = ticket == counter r + 1
draws_next r _ = true

-- a side after a record that names the sequence
abbrev pub side_step : Side → Fact → Side
side_step x (Created seq ident accept) = in_phase x out.Open
side_step x (Accepted seq payload) = with_accepted x payload
side_step x (Acked seq ranges) = with_acked x ranges
side_step x (Received seq n payload) = with_received x n payload
side_step x (Closing seq ticket) = in_phase x out.Closing
side_step x (ClosedOut seq) = in_phase x out.Closed
side_step x (Closed seq cause last) = stopped x false cause last
side_step x (Ending seq ticket) = in_phase x out.Ending
side_step x (EndedOut seq) = in_phase x out.Ended
side_step x (Ended seq cause last) = stopped x true cause last
side_step x (Failed seq fault) = in_phase x out.Failed
side_step x (Consumed seq upto) = with_cursor x upto
side_step x (Dropped seq upto) = with_dropped x upto
side_step x (Purged seq ranges) = with_purged x ranges
side_step x _ = x

-- the ticket after a record that names the sequence
abbrev pub ticket_step : Option ℕ → Fact → Option ℕ
ticket_step o (Closing seq ticket) = Some ticket
ticket_step o (Ending seq ticket) = Some ticket
ticket_step o _ = o

-- a sequence after a record that names it
abbrev pub step : Told → Fact → Told
step t f = record { ticket = ticket_step t.ticket f; side = side_step t.side f }

-- a record that names a sequence fits exactly where the number that it draws is the next one and the sequence takes it
abbrev pub FitsWhereTaken : Type 0
FitsWhereTaken =
    (r : List Fact) (f : Fact) (m : Maker) → maker r (names f) ≡ Some m
    → fits r f ≡ (draws_next r f && takes (side_of r (names f) m) f)

-- a record that a sequence takes changes it by one step
abbrev pub OneStep : Type 0
OneStep = (t : Told) (f : Fact) → takes t.side f ≡ true → after (names f) t f ≡ step t f
