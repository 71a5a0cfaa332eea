-- What a line of a script is to three nodes, and how it comes out.
use Rattle.std.specs.Prelude.{◌≡◌, ℕ, Bool, List, [], ◌∷◌, length, Option, Some, None}
use Rattle.rm_base.specs.Numbered.{numbered}
use Rattle.rm_base.specs.declared.message.Payload.{Payload}
use Rattle.record_batch.specs.Fact.{Fact}
use Rattle.rm_script.specs.declared.report.line.Outcome.TheVariants as told
use Rattle.rm_protocol.specs.Calls.{Done, ask_ack, close, consume, create, end, nack_missing, send, tick}
use Rattle.rm_protocol.specs.Compact.{compact_outcome}
use Rattle.rm_protocol.specs.Node.{Answered, CallOutcome, Node, State, Up, call_outcome, node_end, records}
use Rattle.rm_protocol.specs.Pair.{Act, Creates, Grants, Sends, Ticks, Closes, Ends, AsksAck, NacksMissing, Polls}
use Rattle.rm_protocol.specs.Pair.{Consumes, Receives, Compacts, Arms, Crashes}
use Rattle.rm_protocol.specs.Polls.{poll}
use Rattle.rm_protocol.specs.Terms.{Terms}
use Rattle.rm_protocol.specs.World.{received_by, with_clock}
use Rattle.rm_replay.specs.Actor.Outcomes.{call_told}
use Rattle.rm_relay.specs.Word.Ends.{first_incoming, first_outgoing, next_item}
use Rattle.rm_relay.specs.Word.World.{Event, Packet, World, asker, forwards, happens, node, trims, wish_of}
use Rattle.rm_relay.specs.Word.World.{Create, Send, Forward, Trim, Tick, Deliver, Close, End, Compact, Arm, Crash}
use Rattle.rm_relay.specs.declared.event.Event.{Event as Said}
use Rattle.rm_relay.specs.declared.event.Event.TheVariants as said
use Rattle.rm_relay.specs.declared.word.station.Station.TheVariants.{One}
use Rattle.rm_relay.specs.declared.report.Ending.{Ending}
use Rattle.rm_relay.specs.declared.report.Ending.TheVariants.{Idle, Came}
use Rattle.rm_relay.specs.declared.report.Line3.{Line3}

-- A line means this event, or none. What a crash keeps is a free choice.
abbrev pub Means : Said → Option Event → Type 0
Means said.Nothing event = event ≡ None
Means (said.Create at) event = event ≡ Some (Create at)
Means (said.Send seq text) event = event ≡ Some (Send seq text)
Means said.Forward event = event ≡ Some Forward
Means said.Trim event = event ≡ Some Trim
Means (said.Tick at now) event = event ≡ Some (Tick at now)
Means (said.Deliver packet) event = event ≡ Some (Deliver packet)
Means (said.Close at seq) event = event ≡ Some (Close at seq)
Means (said.End at seq) event = event ≡ Some (End at seq)
Means (said.Compact at) event = event ≡ Some (Compact at)
Means (said.Arm at calls) event = event ≡ Some (Arm at calls)
Means (said.Crash at choice) event = (kept : Bool) × (event ≡ Some (Crash at kept))

-- the world after it
abbrev pub stepped : Terms → World → Option Event → World
stepped terms w None = w
stepped terms w (Some event) = happens terms w event

-- how it comes out at a node
abbrev pub act_outcome : Terms → Node → Act → CallOutcome
act_outcome terms x (Creates wish) = call_outcome x (create terms (records x) (node_end terms x) wish)
act_outcome terms x (Grants behaviour) = Answered Done
act_outcome terms x (Sends seq text) = call_outcome x (send terms (records x) (node_end terms x) seq text)
act_outcome terms x (Ticks now) =
    call_outcome (with_clock x now) (tick terms (records x) (node_end terms x) now x.time x.waits)
act_outcome terms x (Closes seq) = call_outcome x (close terms (records x) (node_end terms x) seq x.clock)
act_outcome terms x (Ends seq) = call_outcome x (end terms (records x) (node_end terms x) seq)
act_outcome terms x (AsksAck seq) = call_outcome x (ask_ack (records x) seq)
act_outcome terms x (NacksMissing seq) = call_outcome x (nack_missing (records x) seq x.clock)
act_outcome terms x (Polls to) = call_outcome x (poll (records x) to)
act_outcome terms x (Consumes seq upto) = call_outcome x (consume terms (records x) (node_end terms x) seq upto)
act_outcome terms x (Receives content) = call_outcome x (received_by terms x content)
act_outcome terms x Compacts = compact_outcome terms x
act_outcome terms x (Arms calls) = Answered Done
act_outcome terms x (Crashes kept) = Answered Done

-- as a report tells it
abbrev pub act_ending : Terms → Node → Act → Ending
act_ending terms x act = Came (call_told (act_outcome terms x act))

-- of an act that there is none of where a sequence is missing, or an item
abbrev pub act_or : Terms → Node → Ending → Option Act → Ending
act_or terms x other None = other
act_or terms x other (Some act) = act_ending terms x act

-- `idle` exactly where both sequences are there and the inbox has no further item, `no-sequence` where one is missing
abbrev pub unmoved : Option ℕ → Option ℕ → Ending
unmoved (Some into) (Some out) = Idle
unmoved _ _ = Came told.NoSequence

-- of node 2, where it isn't down
abbrev pub unless_down : State → Ending → Ending
unless_down Up ending = ending
unless_down _ ending = Came told.Down

-- of a packet that arrives
abbrev pub arrival : Terms → World → Option Packet → Ending
arrival terms w None = Came told.NoPacket
arrival terms w (Some p) = act_ending terms (node w p.to) (Receives (terms.read p.message))

-- how an event comes out
abbrev pub ending_of : Terms → World → Event → Ending
ending_of terms w (Create at) = act_ending terms (node w (asker at)) (Creates (wish_of at))
ending_of terms w (Send seq text) = act_ending terms w.one (Sends seq text)
ending_of terms w Forward =
    let into = first_incoming (records w.two) in
    let out = first_outgoing (records w.two) in
    unless_down w.two.state (act_or terms w.two (unmoved into out) (forwards (records w.two) into out))
ending_of terms w Trim =
    let into = first_incoming (records w.two) in
    let out = first_outgoing (records w.two) in
    unless_down w.two.state (act_or terms w.two (unmoved into out) (trims (records w.two) into out))
ending_of terms w (Tick at now) = act_ending terms (node w at) (Ticks now)
ending_of terms w (Deliver k) = arrival terms w (numbered w.packets k)
ending_of terms w (Close at seq) = act_ending terms (node w at) (Closes seq)
ending_of terms w (End at seq) = act_ending terms (node w at) (Ends seq)
ending_of terms w (Compact at) = act_ending terms (node w at) Compacts
ending_of terms w (Arm at calls) = act_ending terms (node w at) (Arms calls)
ending_of terms w (Crash at kept) = act_ending terms (node w at) (Crashes kept)

-- how a line comes out, where it says anything
abbrev pub comes_out : Terms → World → Option Event → Option Ending
comes_out terms w None = None
comes_out terms w (Some event) = Some (ending_of terms w event)

-- the report's line, in the world after the line with this number
abbrev pub report_of : ℕ → Option Ending → World → List Line3
report_of number None w = []
report_of number (Some ending) w =
    record {
      number = number;
      ending = ending;
      entries_one = length w.one.entries;
      entries_two = length w.two.entries;
      entries_three = length w.three.entries;
      packets = length w.packets;
    } ∷ []
