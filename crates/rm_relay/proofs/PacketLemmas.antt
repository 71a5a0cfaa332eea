-- What leaves a node, put on a wire, is what the world's network keeps of it.
use Rattle.std.proofs.Common.{◌≡◌, ◌∙◌, ℕ, zero, suc, cond, Bool, true, false, List, [], ◌∷◌, ◌++◌, length, map, take}
use Rattle.std.proofs.Common.{append_assoc, append-nil, refl, sym, ap, subst}
use Rattle.std.specs.Prelude.{Option, Some, None}
use Rattle.std.specs.List.{flat_map}
use Rattle.std.proofs.lemmas.List.{map-append, take-map}
use Rattle.std.proofs.lemmas.List.Concat.{flat_map-append}
use Rattle.rm_message.specs.declared.message.Message.{Message}
use Rattle.rm_base.specs.Wire.Wire.{has_room, texts_in}
use Rattle.rm_protocol.specs.Terms.{Terms}
use Rattle.rm_replay.specs.Net.{AreOfNet, text_of}
use Rattle.rm_relay.specs.Word.World.{Packet, messages_in, number_of, packet_to, puts}
use Rattle.rm_relay.specs.declared.word.station.Station.{Station}
use Rattle.rm_relay.specs.Putting.{Going, Net, with_all, with_any, with_one}
use Rattle.rm_relay.specs.Shows.{senders_of, wire_packet, wire_packets}
use Rattle.rm_relay.proofs.PutLemmas.{net}

-- a message, and the node that it goes to, where it goes to one
pub record Leg : Type 0 where
  pub to : Option Station
  pub message : Message

-- as what is put on a wire
abbrev pub going : Leg → Going
going l = record { to = l.to; bytes = text_of l.message }

-- and as packets of the world
abbrev pub packets_for : Station → List Leg → List Packet
packets_for from legs = flat_map (λ (l : Leg). packet_to from l.message l.to) legs

-- the wire with these packets
abbrev pub wired : List Packet → Net
wired packets = record { packets = wire_packets packets; senders = senders_of packets }

texts-wired : (packets : List Packet) → texts_in (wire_packets packets) ≡ map text_of (messages_in packets)
texts-wired [] = refl
texts-wired (p ∷ packets) = ap (λ texts. text_of p.message ∷ texts) (texts-wired packets)

-- with one more
abbrev one-more : List Packet → Packet → Net
one-more packets p =
    net (wire_packets packets ++ (number_of p.to, text_of p.message) ∷ []) (senders_of packets ++ p.from ∷ [])

-- there is room for one, or there is none
by-room : (b : Bool) (packets : List Packet) (p : Packet)
    → cond b (one-more packets p) (wired packets) ≡ wired (cond b (packets ++ p ∷ []) packets)
by-room true packets p =
    ap (λ (ps : List (ℕ × List ℕ)). net ps (senders_of packets ++ p.from ∷ []))
    (sym (map-append wire_packet packets (p ∷ [])))
    ∙ ap (λ (ss : List Station). net (wire_packets (packets ++ p ∷ [])) ss)
    (sym (map-append (λ (q : Packet). q.from) packets (p ∷ [])))
by-room false packets p = refl

-- one packet
one-put : (terms : Terms) → AreOfNet terms → (from : Station) (m : Message) (to : Option Station)
    (packets : List Packet)
    → with_any (wired packets) from to (text_of m) ≡ wired (puts terms packets (packet_to from m to))
one-put terms net from m None packets = refl
one-put terms net from m (Some to) packets =
    let p : Packet = record { from = from; to = to; message = m } in
    by-room (has_room (wire_packets packets) (length (text_of m))) packets p
    ∙ sym (ap (λ (b : Bool). wired (cond b (packets ++ p ∷ []) packets))
    (net.takes (wire_packets packets) (messages_in packets) m (texts-wired packets)))

pub puts-append : (terms : Terms) (packets first second : List Packet)
    → puts terms packets (first ++ second) ≡ puts terms (puts terms packets first) second
puts-append terms packets [] second = refl
puts-append terms packets (p ∷ first) second =
    puts-append terms (cond (terms.takes (messages_in packets) p.message) (packets ++ p ∷ []) packets) first second

-- all of them
pub all-put : (terms : Terms) → AreOfNet terms → (from : Station) (legs : List Leg) (packets : List Packet)
    → with_all (wired packets) from (map going legs) ≡ wired (puts terms packets (packets_for from legs))
all-put terms net from [] packets = refl
all-put terms net from (l ∷ legs) packets =
    ap (λ (n : Net). with_all n from (map going legs)) (one-put terms net from l.message l.to packets)
    ∙ all-put terms net from legs (puts terms packets (packet_to from l.message l.to))
    ∙ ap (λ (ps : List Packet). wired ps)
    (sym (puts-append terms packets (packet_to from l.message l.to) (packets_for from legs)))

take-front : {A : Type 0} (xs ys : List A) → take (length xs) (xs ++ ys) ≡ xs
take-front [] [] = refl
take-front [] (y ∷ ys) = refl
take-front (x ∷ xs) ys = ap (λ rest. x ∷ rest) (take-front xs ys)

take-drop-legs : (legs : List Leg) (count : ℕ) → (rest : List Leg) × (legs ≡ take count legs ++ rest)
take-drop-legs [] zero = ([], refl)
take-drop-legs [] (suc count) = ([], refl)
take-drop-legs (l ∷ legs) zero = (l ∷ legs, refl)
take-drop-legs (l ∷ legs) (suc count) =
    let more = take-drop-legs legs count in (more.0, ap (λ rest. l ∷ rest) more.1)

-- or some first of them
pub part-put : (terms : Terms) → AreOfNet terms → (from : Station) (legs : List Leg) (packets : List Packet) (count : ℕ)
    → (k : ℕ) × (with_all (wired packets) from (take count (map going legs))
    ≡ wired (puts terms packets (take k (packets_for from legs))))
part-put terms net from legs packets count =
    let rest = take-drop-legs legs count in
    let some = packets_for from (take count legs) in
    let all : packets_for from legs ≡ some ++ packets_for from rest.0 =
    ap (packets_for from) rest.1
    ∙ flat_map-append (λ (l : Leg). packet_to from l.message l.to) (take count legs) rest.0 in (
      length some,
      ap (with_all (wired packets) from) (take-map going count legs)
          ∙ all-put terms net from (take count legs) packets
          ∙ ap (λ (ps : List Packet). wired (puts terms packets ps))
          (sym (take-front some (packets_for from rest.0)) ∙ ap (take (length some)) (sym all)),
    )
