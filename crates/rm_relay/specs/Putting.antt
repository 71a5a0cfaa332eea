-- What leaves a node is put on a wire of whose packets the senders are kept.
use Rattle.std.specs.Prelude.{◌≡◌, ℕ, if◌then◌else◌, List, [], ◌∷◌, ◌++◌, map, length, take, Option, Some, None}
use Rattle.rm_base.specs.Wire.Wire.{has_room}
use Rattle.rm_node.specs.declared.packets.Out.{Out}
use Rattle.rm_replay.specs.Actor.Outcomes.{packets_in}
use Rattle.rm_replay.specs.declared.actor.actor.Came.{Came}
use Rattle.rm_protocol.specs.Addresses.{is_anonymous}
use Rattle.record_batch.specs.Sequences.Words.{Text}
use Rattle.rm_relay.specs.Word.World.{number_of, station_at}
use Rattle.rm_relay.specs.declared.word.station.Station.{Station}

-- a packet that leaves a node: the node that it goes to, where it goes to one, and its bytes
pub record Going : Type 0 where
  pub to : Option Station
  pub bytes : List ℕ

-- the packets of a wire, and who sent each
pub record Net : Type 0 where
  pub packets : List (ℕ × List ℕ)
  pub senders : List Station

-- of what the wire tells
abbrev pub net_of : {W : Type 0} → (W → List (ℕ × List ℕ)) → W → List Station → Net
net_of packets wire senders = record { packets = packets wire; senders = senders }

-- one packet more for a node: where the wire has no room for it, it is lost
abbrev pub with_one : Net → Station → Station → List ℕ → Net
with_one net from to bytes =
    if has_room net.packets (length bytes) then record {
      packets = net.packets ++ (number_of to, bytes) ∷ [];
      senders = net.senders ++ from ∷ [];
    } else net

-- one that goes to no node is lost
abbrev pub with_any : Net → Station → Option Station → List ℕ → Net
with_any net from None bytes = net
with_any net from (Some to) bytes = with_one net from to bytes

-- after these were put, one after the other
abbrev pub with_all : Net → Station → List Going → Net
with_all net from [] = net
with_all net from (g ∷ more) = with_all (with_any net from g.to g.bytes) from more

-- or some first of these
abbrev pub IsPutInPart : Net → Station → List Going → Net → Type 0
IsPutInPart net from goings new = (count : ℕ) × (new ≡ with_all net from (take count goings))

-- the node that a packet goes to: the one that is answered, or that of the address
abbrev pub goes_by : Option Station → Text → Option Station
goes_by back a = if is_anonymous a then back else station_at a

-- a packet, where the one that is answered is this
abbrev pub going_of : Option Station → Out → Going
going_of back out = record { to = goes_by back out.address; bytes = out.bytes }

-- what left a node, the reply first
abbrev pub goings_of : Option Station → Came → List Going
goings_of back came = map (going_of back) (packets_in came)
