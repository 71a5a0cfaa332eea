-- Terms that meet what is asked of them, and scripts with them.
use Rattle.std.specs.Prelude.{ℕ, ◌+◌, ◌==◌, if◌then◌else◌, Bool, true, false, List, [], ◌∷◌, ◌++◌, codes, Option}
use Rattle.std.specs.Prelude.{Some, None, Ok, map, option_map, take}
use Rattle.rm_base.specs.declared.message.Behaviour.TheVariants.{EntireSequence, FollowingFirstGap}
use Rattle.rm_message.specs.declared.elements.header.AckBlock.{AckBlock}
use Rattle.rm_base.specs.declared.lapse.Lapse.{Lapse}
use Rattle.rm_message.specs.declared.message.Body.TheVariants as body
use Rattle.rm_message.specs.declared.message.FaultCode.TheVariants.{Sender}
use Rattle.rm_message.specs.declared.message.Message.{Message}
use Rattle.rm_message.specs.declared.refusal.Refusal.{Refusal}
use Rattle.record_batch.specs.declared.record.Via.TheVariants.{Direct, Polled}
use Rattle.rm_base.specs.declared.message.Payload.{Payload}
use Rattle.rm_sides.specs.Destination.Messages.{Item}
use Rattle.record_batch.specs.Sequences.Makers.{counter}
use Rattle.record_batch.specs.Sequences.Words.{Text}
use Rattle.rm_protocol.specs.Addresses.{rm_action}
use Rattle.rm_protocol.specs.Messages.{never, plain}
use Rattle.rm_protocol.specs.Terms.{Terms, header_blocks}
use Rattle.rm_protocol.specs.World.{World, Packet, One, Two, Event, Create, Grant, Send, Deliver, End, Tick, Close}
use Rattle.rm_protocol.specs.World.{Ask, Nack, Arm, Crash, Poll, Compact, Consume, run, start}

-- a duration without months ends that many milliseconds later
abbrev pub ends_at : ℕ → Lapse → Option ℕ
ends_at now lapse = if lapse.ms == 0 then None else Some (now + lapse.ms)

-- a fault without a subcode
abbrev pub plain_fault : Refusal → Option AckBlock → Message
plain_fault refusal block = record (plain refusal.endpoint (rm_action (codes "fault")) (body.Fault (record {
  code = Sender;
  subcode = None;
  inner = None;
  reason = [];
  detail = [];
}))) { acks = header_blocks refusal.kind block }

-- a batch takes as many bytes as it draws numbers, what arrives is what was said, and the network loses nothing
abbrev pub example_terms : Terms
example_terms = record {
  size = counter;
  deadline = ends_at;
  is_content = λ text. true;
  fault = plain_fault;
  read = Ok;
  takes = λ before m. true;
}

-- two nodes after a script
abbrev pub played : List Event → World
played events = run example_terms events (start (codes "urn:one") (codes "urn:two"))

-- a sequence from node 1 to node 2 is asked for and granted, and then more happens
abbrev pub opening : List Event → List Event
opening events = Create One Direct never None ∷ Deliver 1 ∷ Deliver 2 ∷ events

-- three messages sent, delivered, and acknowledged
abbrev pub in_order : List Event
in_order =
    opening (Send One 1 (1 ∷ []) ∷ Send One 1 (2 ∷ []) ∷ Send One 1 (3 ∷ []) ∷ Deliver 3 ∷ Deliver 4 ∷ Deliver
    5 ∷ Deliver 6
    ∷ Deliver 7 ∷ Deliver 8 ∷ [])

-- of three messages the second is lost; under DiscardEntireSequence the sequence is closed then
abbrev pub with_a_gap : List Event
with_a_gap =
    Grant Two EntireSequence ∷ opening (Send One 1 (1 ∷ []) ∷ Send One 1 (2 ∷ []) ∷ Send One 1 (3 ∷ []) ∷ Deliver 3
    ∷ Deliver 5 ∷ Close One 1 ∷ Deliver 8 ∷ [])

-- a crash inside the call that takes the second message, and that message again
abbrev pub with_a_crash : List Event
with_a_crash =
    opening (Send One 1 (1 ∷ []) ∷ Send One 1 (2 ∷ []) ∷ Deliver 3 ∷ Arm Two 3 ∷ Deliver 4 ∷ Crash Two false ∷ Deliver
    4 ∷ [])

-- a sequence that the peer offers back carries the message
abbrev pub with_an_offer : List Event
with_an_offer =
    Create One Direct never (Some FollowingFirstGap) ∷ Deliver 1 ∷ Send Two 2 (7 ∷ []) ∷ Deliver 3 ∷ Deliver
    2 ∷ Deliver 3
    ∷ Deliver 4 ∷ []

-- closed after the first message arrived: the second is refused, the first is acknowledged again
abbrev pub with_a_close : List Event
with_a_close =
    opening (Send One 1 (1 ∷ []) ∷ Send One 1 (2 ∷ []) ∷ Send One 1 (3 ∷ []) ∷ Deliver 3 ∷ Close One 1 ∷ Deliver 7
    ∷ Deliver 4 ∷ Deliver 3 ∷ [])

-- terminated, and the response comes
abbrev pub with_an_end : List Event
with_an_end = opening (Send One 1 (1 ∷ []) ∷ Deliver 3 ∷ End One 1 ∷ Deliver 5 ∷ Deliver 6 ∷ Deliver 3 ∷ Deliver 7 ∷ [])

-- a sequence that expires at moment 150: a message at 149 is taken, one after the tick at 150 is not
abbrev pub with_an_expiry : List Event
with_an_expiry =
    Tick Two 100 ∷ Create One Direct (record { months = 0; ms = 50 }) None ∷ Deliver 1 ∷ Deliver 2 ∷ Send One 1 (1 ∷ [])
    ∷ Send One 1 (2 ∷ []) ∷ Tick Two 149 ∷ Deliver 3 ∷ Tick Two 150 ∷ Deliver 4 ∷ []

-- a message that nobody acknowledges, and then ticks at these moments
abbrev pub with_ticks : List ℕ → List Event
with_ticks moments = opening (Send One 1 (1 ∷ []) ∷ map (Tick One) moments)

-- of three messages the second is lost, and its number is asked for; so many lines from the Nack on
abbrev pub with_a_nack : ℕ → List Event
with_a_nack lines =
    opening (Send One 1 (1 ∷ []) ∷ Send One 1 (2 ∷ []) ∷ Send One 1 (3 ∷ []) ∷ Deliver 3 ∷ Deliver 5
    ∷ take lines (Nack Two 1 ∷ Deliver 8 ∷ Tick One 0 ∷ Deliver 9 ∷ []))

-- an acknowledgement is asked for where nothing was sent
abbrev pub with_an_ask : List Event
with_an_ask = opening (Ask One 1 ∷ Deliver 3 ∷ [])

-- a crash of node 2 inside the call that takes the second message; node 1 sends both again, and the second arrives
abbrev pub with_both_again : Bool → List Event
with_both_again kept =
    opening (Send One 1 (1 ∷ []) ∷ Send One 1 (2 ∷ []) ∷ Deliver 3 ∷ Arm Two 3 ∷ Deliver 4 ∷ Crash Two kept
    ∷ Tick One 2000 ∷ Deliver 7 ∷ [])

-- node 1 crashes inside the call that accepts a message, which is there then, and is sent at once
abbrev pub with_a_crash_of_the_source : List Event
with_a_crash_of_the_source = opening (Arm One 4 ∷ Send One 1 (1 ∷ []) ∷ Crash One true ∷ Tick One 0 ∷ [])

-- a node that nobody can reach asks for a sequence and polls for the response; acknowledgements of three messages wait
-- for it, and a poll that is delivered four times more takes them out one by one
abbrev pub with_polls : List Event
with_polls =
    Create One Polled never None ∷ Deliver 1 ∷ Poll One ∷ Deliver 2 ∷ Deliver 3 ∷ Send One 1 (1 ∷ [])
    ∷ Send One 1 (2 ∷ []) ∷ Send One 1 (3 ∷ []) ∷ Deliver 4 ∷ Deliver 5 ∷ Deliver 6 ∷ Deliver 2 ∷ Deliver 2 ∷ Deliver 2
    ∷ Deliver 2 ∷ []

-- a crash loses all that waits: the poll that comes then gets no reply
abbrev pub with_a_lost_message : List Event
with_a_lost_message =
    Create One Polled never None ∷ Deliver 1 ∷ Poll One ∷ Crash Two true ∷ Deliver 2 ∷ Deliver 1 ∷ Deliver 2 ∷ []

-- three messages in order, and then node 1 crashes inside the call that writes its list anew; a fourth message
abbrev pub with_a_fresh_list : Bool → List Event
with_a_fresh_list kept =
    in_order ++ Arm One 5 ∷ Compact One ∷ Crash One kept ∷ Send One 1 (4 ∷ []) ∷ Deliver 9 ∷ []

-- the list is written anew so often
abbrev pub with_fresh_lists : ℕ → List Event
with_fresh_lists times = in_order ++ take times (Compact One ∷ Compact One ∷ [])

-- the MessagePending of each packet
abbrev pub pendings : World → List (Option Bool)
pendings w = map (λ (p : Packet). p.message.pending) w.packets

-- the bytes of items, where they aren't gone
abbrev pub item_texts : List Item → List (Option Text)
item_texts items = map (λ (item : Item). option_map (λ (p : Payload). p.bytes) item) items

-- three messages in order, of which the application of node 2 consumes two
abbrev pub with_consumption : List Event
with_consumption = in_order ++ Consume Two 1 2 ∷ []

-- and then both nodes write their lists anew
abbrev pub with_gone_items : List Event
with_gone_items = with_consumption ++ Compact Two ∷ Compact One ∷ []
