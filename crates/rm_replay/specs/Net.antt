-- The network between two nodes: the bytes of its packets, and what they are read as.
use Rattle.std.specs.Prelude.{◌≡◌, ℕ, nat_le, if◌then◌else◌, List, map, length, Result, Ok, Err}
use Rattle.rm_base.specs.Limits as limits
use Rattle.soap_envelope.specs.Soap.{soap_space}
use Rattle.message_reader.specs.Refusals.{blind}
use Rattle.message_writer.specs.Text.{message_text}
use Rattle.rm_message.specs.declared.message.Message.{Message}
use Rattle.rm_message.specs.declared.refusal.FaultKind.TheVariants.{TooLong}
use Rattle.rm_message.specs.declared.refusal.Refusal.{Refusal}
use Rattle.rm_protocol.specs.Terms.{Terms}
use Rattle.rm_protocol.specs.World.{Packet, Side, One, Two, other}
use Rattle.node_laws.specs.OwnTerms.{AreOwn}
use Rattle.rm_base.specs.Wire.Wire.{has_room, texts_in}

-- the text of a message
abbrev pub text_of : Message → List ℕ
text_of m = message_text soap_space m

-- a node's number
abbrev pub number_of : Side → ℕ
number_of One = 1
number_of Two = 2

-- a packet on the wire: the other node's number, and the message's text
abbrev pub wire_packet : Packet → ℕ × List ℕ
wire_packet p = (number_of (other p.from), text_of p.message)

-- all packets, in order
abbrev pub wire_packets : List Packet → List (ℕ × List ℕ)
wire_packets packets = map wire_packet packets

-- a text is read as the message that was said, unless it is longer than a message may be
abbrev pub read_as : Message → Result Message Refusal
read_as m = if nat_le (length (text_of m)) limits.envelope_bytes then Ok m else Err (blind TooLong)

-- the terms of nodes with such a network: a node's own, room as on a wire that has these texts, and texts that are read
-- so
pub record AreOfNet (terms : Terms) : Type 0 where
  pub own : AreOwn terms
  pub takes : (packets : List (ℕ × List ℕ)) (before : List Message) (m : Message)
      → texts_in packets ≡ map text_of before → terms.takes before m ≡ has_room packets (length (text_of m))
  pub read : (m : Message) → terms.read m ≡ read_as m
