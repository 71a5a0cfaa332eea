-- Packets that are put on a wire, and those of the protocol's network.
use Rattle.std.proofs.Common.{◌≡◌, ◌∙◌, ◌+◌, ℕ, zero, suc, cond, Bool, true, false, List, ◌∷◌, ◌++◌, []}
use Rattle.std.proofs.Common.{append-nil, length}
use Rattle.std.proofs.Common.{map, take, refl, sym, ap}
use Rattle.std.proofs.Math.Seq.{take-append-add}
use Rattle.std.specs.List.{AllByRecursion}
use Rattle.rm_message.specs.declared.message.Message.{Message}
use Rattle.rm_node.specs.Packets.{packet_of}
use Rattle.rm_node.specs.declared.packets.Out.{Out}
use Rattle.rm_protocol.specs.Terms.{Terms}
use Rattle.rm_protocol.specs.Word.{IsPrefixOf}
use Rattle.rm_protocol.specs.World.{Packet, Side, messages_in, other, puts, sent}
use Rattle.rm_base.specs.Wire.Wire.{has_room, texts_in, with_packet}
use Rattle.rm_replay.specs.Actor.Outcomes.{back_packet}
use Rattle.rm_replay.specs.AllLemmas.{all_push, prefix_then}
use Rattle.rm_replay.specs.Asked.{bytes_of}
use Rattle.rm_replay.specs.Happening.{IsPutInPart, with_all}
use Rattle.rm_replay.specs.Net.{AreOfNet, number_of, text_of, wire_packet, wire_packets}
use Rattle.rm_replay.specs.Shows.{IsReadRight}

-- one packet more
pub with_all_push : (packets : List (ℕ × List ℕ)) (to : ℕ) (outs : List Out) (out : Out)
    → with_all packets to (outs ++ out ∷ []) ≡ with_packet (with_all packets to outs) to out.bytes
with_all_push packets to [] out = refl
with_all_push packets to (o ∷ outs) out = with_all_push (with_packet packets to o.bytes) to outs out

-- some packets and then others
pub with_all_append : (packets : List (ℕ × List ℕ)) (to : ℕ) (first second : List Out)
    → with_all packets to (first ++ second) ≡ with_all (with_all packets to first) to second
with_all_append packets to [] second = refl
with_all_append packets to (o ∷ first) second = with_all_append (with_packet packets to o.bytes) to first second

-- what is put goes by the bytes alone
abbrev with_texts : List (ℕ × List ℕ) → ℕ → List (List ℕ) → List (ℕ × List ℕ)
with_texts packets to [] = packets
with_texts packets to (text ∷ texts) = with_texts (with_packet packets to text) to texts

all_texts : (packets : List (ℕ × List ℕ)) (to : ℕ) (outs : List Out)
    → with_all packets to outs ≡ with_texts packets to (bytes_of outs)
all_texts packets to [] = refl
all_texts packets to (o ∷ outs) = all_texts (with_packet packets to o.bytes) to outs

pub put_same : (packets : List (ℕ × List ℕ)) (to : ℕ) (outs these : List Out) → bytes_of outs ≡ bytes_of these
    → with_all packets to outs ≡ with_all packets to these
put_same packets to outs these same =
    all_texts packets to outs ∙ ap (with_texts packets to) same ∙ sym (all_texts packets to these)

-- the bytes of messages that are said
pub bytes_said : (ms : List Message) → bytes_of (map packet_of ms) ≡ map text_of ms
bytes_said [] = refl
bytes_said (m ∷ ms) = ap (λ (texts : List (List ℕ)). text_of m ∷ texts) (bytes_said ms)

-- and of those that are fetched besides
pub bytes_left : (fetched said : List Message)
    → bytes_of (map back_packet fetched ++ map packet_of said) ≡ map text_of (fetched ++ said)
bytes_left [] said = bytes_said said
bytes_left (m ∷ fetched) said = ap (λ (texts : List (List ℕ)). text_of m ∷ texts) (bytes_left fetched said)

pub put_none : (packets : List (ℕ × List ℕ)) (to : ℕ) (outs : List Out) (new : List (ℕ × List ℕ)) → new ≡ packets
    → IsPutInPart packets to outs new
put_none packets to [] new same = (0, same)
put_none packets to (o ∷ outs) new same = (0, same)

pub put_behind : (packets mid new : List (ℕ × List ℕ)) (to : ℕ) (first second : List Out)
    → mid ≡ with_all packets to first → IsPutInPart mid to second new → IsPutInPart packets to (first ++ second) new
put_behind packets mid new to first second before (count, part) = (
  length first + count,
  part ∙ ap (λ (m : List (ℕ × List ℕ)). with_all m to (take count second)) before
      ∙ sym (with_all_append packets to first (take count second))
      ∙ ap (λ (outs : List Out). with_all packets to outs) (sym (take-append-add first second count)),
)

texts_wire : (packets : List Packet) → texts_in (wire_packets packets) ≡ map text_of (messages_in packets)
texts_wire [] = refl
texts_wire (p ∷ packets) = ap (λ (texts : List (List ℕ)). text_of p.message ∷ texts) (texts_wire packets)

wire_push : (packets : List Packet) (p : Packet)
    → wire_packets (packets ++ p ∷ []) ≡ wire_packets packets ++ wire_packet p ∷ []
wire_push [] p = refl
wire_push (q ∷ packets) p = ap (λ (rest : List (ℕ × List ℕ)). wire_packet q ∷ rest) (wire_push packets p)

put_one : (packets : List Packet) (p : Packet) (b : Bool)
    → cond b (wire_packets packets ++ wire_packet p ∷ []) (wire_packets packets)
    ≡ wire_packets (cond b (packets ++ p ∷ []) packets)
put_one packets p true = sym (wire_push packets p)
put_one packets p false = refl

-- a packet that a node sends
abbrev from_side : Side → Message → Packet
from_side side m = record { from = side; message = m }

-- what the wire has after messages were put is what the network has
pub puts_are : (terms : Terms) → AreOfNet terms → (side : Side) (ms : List Message) (packets : List Packet)
    → with_all (wire_packets packets) (number_of (other side)) (map packet_of ms)
    ≡ wire_packets (puts terms packets (sent side ms))
puts_are terms net side [] packets = refl
puts_are terms net side (m ∷ ms) packets =
    let takes : terms.takes (messages_in packets) m ≡ has_room (wire_packets packets) (length (text_of m)) =
    net.takes (wire_packets packets) (messages_in packets) m (texts_wire packets) in
    let here : with_packet (wire_packets packets) (number_of (other side)) (text_of m)
    ≡ wire_packets (cond (terms.takes (messages_in packets) m) (packets ++ from_side side m ∷ []) packets) =
    ap (λ (b : Bool). cond b (wire_packets packets ++ wire_packet (from_side side m) ∷ []) (wire_packets packets))
    (sym takes) ∙ put_one packets (from_side side m) (terms.takes (messages_in packets) m) in
    ap (λ (before : List (ℕ × List ℕ)). with_all before (number_of (other side)) (map packet_of ms)) here
    ∙ puts_are terms net side ms
    (cond (terms.takes (messages_in packets) m) (packets ++ from_side side m ∷ []) packets)

-- ---- what holds of each packet

all_put : (packets : List Packet) (p : Packet) (b : Bool) → AllByRecursion IsReadRight packets → IsReadRight p
    → AllByRecursion IsReadRight (cond b (packets ++ p ∷ []) packets)
all_put packets p true all h = all_push IsReadRight packets p all h
all_put packets p false all h = all

-- of those that were there, and of those that were put
pub all_puts : (terms : Terms) (side : Side) (ms : List Message) (packets : List Packet)
    → AllByRecursion IsReadRight packets → AllByRecursion (λ (m : Message). IsReadRight (from_side side m)) ms
    → AllByRecursion IsReadRight (puts terms packets (sent side ms))
all_puts terms side [] packets all new = all
all_puts terms side (m ∷ ms) packets all new =
    all_puts terms side ms
    (cond (terms.takes (messages_in packets) m) (packets ++ from_side side m ∷ []) packets)
    (all_put packets (from_side side m) (terms.takes (messages_in packets) m) all new.0) new.1

-- ---- what was there stays

prefix_put : (packets : List Packet) (p : Packet) (b : Bool) → IsPrefixOf packets (cond b (packets ++ p ∷ []) packets)
prefix_put packets p true = (p ∷ [], refl)
prefix_put packets p false = ([], sym (append-nil packets))

-- packets that are put come behind those that were there
pub puts_behind : (terms : Terms) (more packets : List Packet) → IsPrefixOf packets (puts terms packets more)
puts_behind terms [] packets = ([], sym (append-nil packets))
puts_behind terms (p ∷ more) packets =
    prefix_then packets (cond (terms.takes (messages_in packets) p.message) (packets ++ p ∷ []) packets) _
    (prefix_put packets p (terms.takes (messages_in packets) p.message))
    (puts_behind terms more (cond (terms.takes (messages_in packets) p.message) (packets ++ p ∷ []) packets))

-- some first of them are put first
pub puts_in_part : (terms : Terms) (side : Side) (ms : List Message) (count : ℕ) (packets : List Packet)
    → IsPrefixOf (puts terms packets (sent side (take count ms))) (puts terms packets (sent side ms))
puts_in_part terms side [] zero packets = ([], sym (append-nil packets))
puts_in_part terms side [] (suc count) packets = ([], sym (append-nil packets))
puts_in_part terms side (m ∷ ms) zero packets = puts_behind terms (sent side (m ∷ ms)) packets
puts_in_part terms side (m ∷ ms) (suc count) packets =
    puts_in_part terms side ms count
    (cond (terms.takes (messages_in packets) m) (packets ++ from_side side m ∷ []) packets)
