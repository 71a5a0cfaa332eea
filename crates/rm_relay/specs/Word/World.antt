-- Three nodes, all packets that were ever sent, and what each line of a script does.
use Rattle.std.specs.Prelude.{ℕ, Bool, if◌then◌else◌, List, [], ◌∷◌, ◌++◌, map, codes, Option, Some}
use Rattle.std.specs.Prelude.{None}
use Rattle.std.specs.List.{flat_map}
use Rattle.std.specs.Str.{bytes_eq}
use Rattle.rm_base.specs.Numbered.{numbered}
use Rattle.rm_base.specs.declared.message.Payload.{Payload}
use Rattle.rm_message.specs.declared.message.Message.{Message}
use Rattle.record_batch.specs.Fact.{Fact}
use Rattle.record_batch.specs.declared.record.Via.TheVariants.{Direct}
use Rattle.rm_script.specs.declared.event.Side.{Side}
use Rattle.rm_script.specs.declared.event.Side.TheVariants as side
use Rattle.record_batch.specs.Sequences.Words.{Text}
use Rattle.rm_protocol.specs.Addresses.{BackOn, Out, Place, place_of}
use Rattle.rm_protocol.specs.Calls.{Wish}
use Rattle.rm_protocol.specs.Messages.{never}
use Rattle.rm_protocol.specs.Node.{Node, records}
use Rattle.rm_protocol.specs.Pair.{Act, Acted, Arms, Closes, Compacts, Consumes, Crashes, Creates, Ends, Receives}
use Rattle.rm_protocol.specs.Pair.{Sends, Ticks, acted}
use Rattle.rm_protocol.specs.Terms.{Terms}
use Rattle.rm_protocol.specs.World.{made}
use Rattle.rm_relay.specs.Word.Ends.{acknowledged, first_incoming, first_outgoing, next_item}
use Rattle.rm_relay.specs.declared.word.station.Station.{Station}
use Rattle.rm_relay.specs.declared.word.station.Station.TheVariants.{One, Two, Three}

-- a message on the wire: the node that sent it, and the node that it goes to
pub record Packet : Type 0 where
  pub from : Station
  pub to : Station
  pub message : Message

-- three nodes, and all packets
pub record World : Type 0 where
  pub one : Node
  pub two : Node
  pub three : Node
  pub packets : List Packet

-- a node of a world
abbrev pub node : World → Station → Node
node w One = w.one
node w Two = w.two
node w Three = w.three

-- a world with another node there
abbrev pub with_node : World → Station → Node → World
with_node w One x = record w { one = x }
with_node w Two x = record w { two = x }
with_node w Three x = record w { three = x }

-- a node's number
abbrev pub number_of : Station → ℕ
number_of One = 1
number_of Two = 2
number_of Three = 3

-- a node's address
abbrev pub address_of : Station → Text
address_of One = codes "http://node1.example/"
address_of Two = codes "http://node2.example/"
address_of Three = codes "http://node3.example/"

-- the node at an address
abbrev pub station_at : Text → Option Station
station_at a =
    if bytes_eq a (address_of One) then Some One
    else if bytes_eq a (address_of Two) then Some Two
    else if bytes_eq a (address_of Three) then Some Three
    else None

-- where a message goes: to the node of its address, or back to the one that sent what it answers
abbrev pub goes_to : Option Station → Text → Place → Option Station
goes_to back a BackOn = back
goes_to back a Out = station_at a
goes_to back a _ = None

-- a packet, where it goes to a node
abbrev pub packet_to : Station → Message → Option Station → List Packet
packet_to from m None = []
packet_to from m (Some to) = record { from = from; to = to; message = m } ∷ []

-- what leaves a node, as packets: what was fetched goes back
abbrev pub packets_of : Station → Option Station → Acted → List Packet
packets_of from back made =
    flat_map (λ (m : Message). packet_to from m back) made.fetched
    ++ flat_map (λ (m : Message). packet_to from m (goes_to back m.addressing.to (place_of m.addressing.to))) made.said

-- the messages of packets
abbrev pub messages_in : List Packet → List Message
messages_in packets = map (λ (p : Packet). p.message) packets

-- the packets after more were put, one after the other: one for which the network has no room is lost
abbrev pub puts : Terms → List Packet → List Packet → List Packet
puts terms packets [] = packets
puts terms packets (p ∷ more) =
    puts terms (if terms.takes (messages_in packets) p.message then packets ++ p ∷ [] else packets) more

-- a world in which this befell a node, and its packets were put
abbrev pub moves : Terms → World → Station → Option Station → Act → World
moves terms w at back act = record (with_node w at (acted terms (node w at) act).node) {
  packets = puts terms w.packets (packets_of at back (acted terms (node w at) act));
}

-- the lines of a script
pub data Event : Type 0 where
  Create : Side → Event
  Send : (seq : ℕ) → Text → Event
  Forward : Event
  Trim : Event
  Tick : Station → (now : ℕ) → Event
  Deliver : (packet : ℕ) → Event
  Close : Station → (seq : ℕ) → Event
  End : Station → (seq : ℕ) → Event
  Compact : Station → Event
  Arm : Station → (calls : ℕ) → Event
  Crash : Station → (kept : Bool) → Event

-- the node that asks for a sequence
abbrev pub asker : Side → Station
asker side.One = One
asker side.Two = Two

-- and the next one, of which it is asked
abbrev pub next : Side → Station
next side.One = Two
next side.Two = Three

-- a sequence that never ends by itself, and whose answers come directly
abbrev pub wish_of : Side → Wish
wish_of at = record { to = address_of (next at); via = Direct; expires = never; offer = None }

-- to send an item, where there is one
abbrev pub sends_on : ℕ → Option Payload → Option Act
sends_on out (Some p) = Some (Sends out p.bytes)
sends_on out None = None

-- what `forward` is to node 2: to send the next item, where there are both sequences and an item
abbrev pub forwards : List Fact → Option ℕ → Option ℕ → Option Act
forwards r (Some into) (Some out) = sends_on out (next_item r into out)
forwards r _ _ = None

-- what `trim` is to node 2: to consume what is acknowledged, where there are both sequences
abbrev pub trims : List Fact → Option ℕ → Option ℕ → Option Act
trims r (Some into) (Some out) = Some (Consumes into (acknowledged r out))
trims r _ _ = None

-- a world in which this befell node 2, where it is anything
abbrev pub moves_two : Terms → World → Option Act → World
moves_two terms w None = w
moves_two terms w (Some act) = moves terms w Two None act

-- a world after a packet was delivered, where there is one with this number
abbrev pub arrives : Terms → World → Option Packet → World
arrives terms w None = w
arrives terms w (Some p) = moves terms w p.to (Some p.from) (Receives (terms.read p.message))

-- a world after one line of a script
abbrev pub happens : Terms → World → Event → World
happens terms w (Create at) = moves terms w (asker at) None (Creates (wish_of at))
happens terms w (Send seq text) = moves terms w One None (Sends seq text)
happens terms w Forward =
    moves_two terms w (forwards (records w.two) (first_incoming (records w.two)) (first_outgoing (records w.two)))
happens terms w Trim =
    moves_two terms w (trims (records w.two) (first_incoming (records w.two)) (first_outgoing (records w.two)))
happens terms w (Tick at now) = moves terms w at None (Ticks now)
happens terms w (Deliver k) = arrives terms w (numbered w.packets k)
happens terms w (Close at seq) = moves terms w at None (Closes seq)
happens terms w (End at seq) = moves terms w at None (Ends seq)
happens terms w (Compact at) = moves terms w at None Compacts
happens terms w (Arm at calls) = moves terms w at None (Arms calls)
happens terms w (Crash at kept) = moves terms w at None (Crashes kept)

-- a world after the lines of a script, in order
abbrev pub run : Terms → List Event → World → World
run terms [] w = w
run terms (event ∷ events) w = run terms events (happens terms w event)

-- three nodes that were just made, with the numbers 1 to 3
abbrev pub start : World
start = record {
  one = made 1 (address_of One);
  two = made 2 (address_of Two);
  three = made 3 (address_of Three);
  packets = [];
}
