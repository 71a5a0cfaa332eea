-- What a line of a script is to the protocol, and how it comes out.
use Rattle.std.specs.Prelude.{◌≡◌, ℕ, Bool, true, false, List, ◌∷◌, length, Option, Some, None, []}
use Rattle.soap_envelope.specs.Soap.{soap_space}
use Rattle.message_reader.specs.Refusals.{Refuses, Spells}
use Rattle.record_batch.specs.declared.record.Via.{Via}
use Rattle.record_batch.specs.declared.record.Via.TheVariants.{Direct, Polled}
use Rattle.rm_message.specs.declared.message.Message.{Message}
use Rattle.rm_message.specs.declared.refusal.Refusal.{Refusal}
use Rattle.rm_protocol.specs.Sent.{LineOutcome, Called, NoPacket, NoCall, outcome_of}
use Rattle.rm_protocol.specs.Terms.{Terms}
use Rattle.rm_protocol.specs.World.{Side, One, Two, Event, Create, Grant, Send, Tick, Deliver, Close, End, Ask}
use Rattle.rm_protocol.specs.World.{Nack, Poll, Compact, Consume, Arm, Crash, Noise, World, happens}
use Rattle.rm_script.specs.declared.report.line.Line.{Line}
use Rattle.rm_script.specs.declared.report.line.Outcome.{Outcome}
use Rattle.rm_script.specs.declared.report.line.Outcome.TheVariants as told
use Rattle.rm_script.specs.declared.event.Event.{Event as Said}
use Rattle.rm_script.specs.declared.event.Event.TheVariants as said
use Rattle.rm_script.specs.declared.event.Side.{Side as Node}
use Rattle.rm_script.specs.declared.event.Side.TheVariants as node
use Rattle.rm_replay.specs.Actor.Outcomes.{call_told}

-- the node that a script names
abbrev pub side_of : Node → Side
side_of node.One = One
side_of node.Two = Two

-- where what comes back goes: to the node's address, or to none
abbrev pub via_of : Bool → Via
via_of true = Polled
via_of false = Direct

-- noise is bytes that are refused as a message; bytes that spell one are none
abbrev pub IsNoise : Node → List ℕ → Option Event → Type 0
IsNoise at bytes None = (m : Message) × Spells soap_space bytes m
IsNoise at bytes (Some event) =
    (refusal : Refusal) × Refuses soap_space bytes refusal × (event ≡ Noise (side_of at) refusal)

-- A line means this event of the protocol, or none: an empty line and a comment do, and noise that is none. What a
-- crash keeps is a free choice.
abbrev pub Means : Said → Option Event → Type 0
Means said.Nothing event = event ≡ None
Means (said.Create at expires polled offer) event =
    event ≡ Some (Create (side_of at) (via_of polled) expires offer)
Means (said.Grant at behaviour) event = event ≡ Some (Grant (side_of at) behaviour)
Means (said.Send at seq text) event = event ≡ Some (Send (side_of at) seq text)
Means (said.Tick at now) event = event ≡ Some (Tick (side_of at) now)
Means (said.Deliver packet) event = event ≡ Some (Deliver packet)
Means (said.Close at seq) event = event ≡ Some (Close (side_of at) seq)
Means (said.End at seq) event = event ≡ Some (End (side_of at) seq)
Means (said.Ask at seq) event = event ≡ Some (Ask (side_of at) seq)
Means (said.Nack at seq) event = event ≡ Some (Nack (side_of at) seq)
Means (said.Poll at) event = event ≡ Some (Poll (side_of at))
Means (said.Compact at) event = event ≡ Some (Compact (side_of at))
Means (said.Consume at seq upto) event = event ≡ Some (Consume (side_of at) seq upto)
Means (said.Arm at calls) event = event ≡ Some (Arm (side_of at) calls)
Means (said.Crash at choice) event = (kept : Bool) × (event ≡ Some (Crash (side_of at) kept))
Means (said.Noise at bytes) event = IsNoise at bytes event

-- the world after it
abbrev pub stepped : Terms → World → Option Event → World
stepped terms w None = w
stepped terms w (Some event) = happens terms w event

-- how an event comes out, as a report tells it
abbrev pub outcome_told : LineOutcome → Outcome
outcome_told (Called outcome) = call_told outcome
outcome_told NoPacket = told.NoPacket
outcome_told NoCall = told.Done

-- how a line comes out that means no event: one that says nothing has no line in the report, and other noise is none
abbrev pub silent : Said → Option Outcome
silent said.Nothing = None
silent _ = Some told.NoNoise

-- how a line comes out
abbrev pub comes_out : Terms → World → Said → Option Event → Option Outcome
comes_out terms w line None = silent line
comes_out terms w line (Some event) = Some (outcome_told (outcome_of terms w event))

-- the report's line, in the world after the line with this number
abbrev pub report_of : ℕ → Option Outcome → World → List Line
report_of number None w = []
report_of number (Some outcome) w =
    record {
      number = number;
      outcome = outcome;
      entries_one = length w.one.entries;
      entries_two = length w.two.entries;
      packets = length w.packets;
    } ∷ []
