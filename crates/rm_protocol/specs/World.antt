-- Two nodes, all packets that were ever sent, and what each line of a script does.
use Rattle.std.specs.Prelude.{◌≡◌, ℕ, Bool, true, false, if◌then◌else◌, List, [], ◌∷◌, ◌++◌, map, Option, Some, None}
use Rattle.std.specs.Prelude.{Result, Err}
use Rattle.rm_base.specs.Numbered.{numbered}
use Rattle.rm_base.specs.declared.message.Behaviour.{Behaviour}
use Rattle.rm_base.specs.declared.message.Behaviour.TheVariants.{FollowingFirstGap}
use Rattle.rm_base.specs.declared.lapse.Lapse.{Lapse}
use Rattle.rm_message.specs.declared.message.Message.{Message}
use Rattle.rm_message.specs.declared.refusal.Refusal.{Refusal}
use Rattle.record_batch.specs.declared.record.Via.{Via}
use Rattle.record_batch.specs.Fact.{Made}
use Rattle.record_batch.specs.Sequences.Words.{Text}
use Rattle.rm_protocol.specs.Calls.{Answer, Wish, create, send, close, end, tick, receive, ask_ack, nack_missing}
use Rattle.rm_protocol.specs.Calls.{consume}
use Rattle.timers.specs.Pending.Waiting.{nothing_waits}
use Rattle.rm_protocol.specs.Compact.{compacted}
use Rattle.rm_protocol.specs.Node.{Node, State, Up, records, node_end, armed, mounted, after, said_after, fetched_after}
use Rattle.rm_protocol.specs.Polls.{poll, polls}
use Rattle.rm_protocol.specs.Said.{sent_of}
use Rattle.rm_protocol.specs.Terms.{Terms}
use Rattle.rm_protocol.specs.Verdict.{has_room}

-- one of the two nodes
pub data Side : Type 0 where
  One : Side
  Two : Side

-- and the other one
abbrev pub other : Side → Side
other One = Two
other Two = One

-- a message on the wire, and the node that sent it
pub record Packet : Type 0 where
  pub from : Side
  pub message : Message

-- each node has an address
pub record World : Type 0 where
  pub at_one : Text
  pub at_two : Text
  pub one : Node
  pub two : Node
  pub packets : List Packet

-- a node of a world
abbrev pub node : World → Side → Node
node w One = w.one
node w Two = w.two

-- a node's address
abbrev pub place : World → Side → Text
place w One = w.at_one
place w Two = w.at_two

-- a world with another node at a side
abbrev pub with_node : World → Side → Node → World
with_node w One x = record w { one = x }
with_node w Two x = record w { two = x }

-- the lines of a script
pub data Event : Type 0 where
  Create : Side → (via : Via) → (expires : Lapse) → (offer : Option Behaviour) → Event
  Grant : Side → Behaviour → Event
  Send : Side → (seq : ℕ) → Text → Event
  Tick : Side → (now : ℕ) → Event
  Deliver : (packet : ℕ) → Event
  Close : Side → (seq : ℕ) → Event
  End : Side → (seq : ℕ) → Event
  Ask : Side → (seq : ℕ) → Event
  Nack : Side → (seq : ℕ) → Event
  Arm : Side → (calls : ℕ) → Event
  Crash : Side → (kept : Bool) → Event
  Noise : Side → Refusal → Event
  Poll : Side → Event
  Compact : Side → Event
  Consume : Side → (seq upto : ℕ) → Event

-- messages that a node sent, as packets
abbrev pub sent : Side → List Message → List Packet
sent from outs = map (λ (m : Message). record { from = from; message = m }) outs

-- the messages of packets
abbrev pub messages_in : List Packet → List Message
messages_in packets = map (λ (p : Packet). p.message) packets

-- the packets after more were put, one after the other: one for which the network has no room is lost
abbrev pub puts : Terms → List Packet → List Packet → List Packet
puts terms packets [] = packets
puts terms packets (p ∷ more) =
    puts terms (if terms.takes (messages_in packets) p.message then packets ++ p ∷ [] else packets) more

-- a world after a node handed out messages
abbrev pub hands_out : Terms → World → Side → List Message → World
hands_out terms w side outs = record w { packets = puts terms w.packets (sent side outs) }

-- a node is called: what it becomes, and what leaves it, where there is a connection or not
abbrev pub calls : Terms → World → Side → Bool → Answer → World
calls terms w side connected answer =
    hands_out terms (with_node w side (after (node w side) answer)) side
    (fetched_after (node w side) answer ++ sent_of connected (said_after (node w side) answer))

-- what comes of a message, or of bytes that are none, at a node
abbrev pub received_by : Terms → Node → Result Message Refusal → Answer
received_by terms x content =
    polls x.polled content (receive terms (records x) (node_end terms x) x.clock x.granted content)

-- a world after a packet was delivered, where there is one with this number: its text is read at the other node
abbrev pub arrives : Terms → World → Option Packet → World
arrives terms w None = w
arrives terms w (Some packet) =
    calls terms w (other packet.from) true
    (received_by terms (node w (other packet.from)) (terms.read packet.message))

-- what a line asks for: a sequence to the other node
abbrev pub wish_of : World → Side → Via → Lapse → Option Behaviour → Wish
wish_of w side via expires offer = record { to = place w (other side); via = via; expires = expires; offer = offer }

-- a tick sets the clock of a node that isn't down
abbrev pub clock_by : State → ℕ → ℕ → ℕ
clock_by Up old now = now
clock_by _ old now = old

-- a node whose clock was set
abbrev pub with_clock : Node → ℕ → Node
with_clock x now = record x { clock = clock_by x.state x.clock now }

-- a world after one line of a script
abbrev pub happens : Terms → World → Event → World
happens terms w (Create side via expires offer) =
    calls terms w side false (create terms (records (node w side)) (node_end terms (node w side))
    (wish_of w side via expires offer))
happens terms w (Grant side behaviour) = with_node w side (record (node w side) { granted = behaviour })
happens terms w (Send side seq text) =
    calls terms w side false (send terms (records (node w side)) (node_end terms (node w side)) seq text)
happens terms w (Tick side now) =
    calls terms (with_node w side (with_clock (node w side) now)) side false
    (tick terms (records (node w side)) (node_end terms (node w side)) now (node w side).time (node w side).waits)
happens terms w (Deliver k) = arrives terms w (numbered w.packets k)
happens terms w (Close side seq) =
    calls terms w side false (close terms (records (node w side)) (node_end terms (node w side)) seq
    (node w side).clock)
happens terms w (End side seq) =
    calls terms w side false (end terms (records (node w side)) (node_end terms (node w side)) seq)
happens terms w (Ask side seq) = calls terms w side false (ask_ack (records (node w side)) seq)
happens terms w (Nack side seq) =
    calls terms w side false (nack_missing (records (node w side)) seq (node w side).clock)
happens terms w (Arm side c) = with_node w side (record (node w side) { fuse = armed c (node w side).fuse })
happens terms w (Crash side kept) = with_node w side (mounted (node w side) kept)
happens terms w (Noise side refusal) = calls terms w side true (received_by terms (node w side) (Err refusal))
happens terms w (Poll side) = calls terms w side false (poll (records (node w side)) (place w (other side)))
happens terms w (Compact side) = with_node w side (compacted terms (node w side))
happens terms w (Consume side seq upto) =
    calls terms w side false (consume terms (records (node w side)) (node_end terms (node w side)) seq upto)

-- a world after the lines of a script, in order
abbrev pub run : Terms → List Event → World → World
run terms [] w = w
run terms (event ∷ events) w = run terms events (happens terms w event)

-- a node that was just made: its list begins behind a head of 25 bytes
abbrev pub made : ℕ → Text → Node
made number address = record {
  entries = (Made number address ∷ []) ∷ [];
  start = 25;
  whole = Made number address ∷ [];
  fuse = None;
  state = Up;
  granted = FollowingFirstGap;
  clock = 0;
  waits = [];
  time = 0;
  polled = nothing_waits;
}

-- two nodes that were just made, with the numbers 1 and 2
abbrev pub start : Text → Text → World
start one two = record { at_one = one; at_two = two; one = made 1 one; two = made 2 two; packets = [] }

-- both were made: the record of each fitted its journal, which had a head of 25 bytes
pub record AreMade (terms : Terms) (one two : Text) : Type 0 where
  pub one_ : has_room terms 25 (Made 1 one ∷ []) ≡ true
  pub two_ : has_room terms 25 (Made 2 two ∷ []) ≡ true
