-- What leaves a node by its addresses is what the world says of where it goes.
use Rattle.std.proofs.Common.{◌≡◌, ◌∙◌, Bool, true, false, cond, List, [], ◌∷◌, ◌++◌, map, refl, sym, ap, subst}
use Rattle.std.specs.Prelude.{Option, Some, None}
use Rattle.std.specs.List.{flat_map}
use Rattle.std.specs.Str.{bytes_eq}
use Rattle.std.proofs.lemmas.List.{map-append}
use Rattle.std.proofs.lemmas.Slice.Eq.{bytes_eq-Decides}
use Rattle.std.proofs.lemmas.List.Concat.{flat_map-append}
use Rattle.rm_message.specs.declared.message.Message.{Message}
use Rattle.rm_node.specs.Packets.{packet_of}
use Rattle.rm_replay.specs.Actor.Outcomes.{back_packet}
use Rattle.rm_protocol.specs.Addresses.{BackOn, Nowhere, Out, Place, Waits, anonymous, is_anonymous, is_nowhere}
use Rattle.rm_protocol.specs.Addresses.{is_polled}
use Rattle.rm_protocol.specs.Addresses.{no_address, place_of}
use Rattle.rm_replay.specs.Net.{text_of}
use Rattle.record_batch.specs.Sequences.Idents.{polled_prefix}
use Rattle.rm_protocol.specs.Pair.{Acted}
use Rattle.record_batch.specs.Sequences.Words.{Text}
use Rattle.rm_relay.specs.Word.World.{Packet, address_of, goes_to, packet_to, packets_of, station_at}
use Rattle.rm_relay.specs.declared.word.station.Station.{Station}
use Rattle.rm_relay.specs.declared.word.station.Station.TheVariants.{One, Two, Three}
use Rattle.rm_relay.specs.Putting.{Going, goes_by, going_of}
use Rattle.rm_relay.proofs.PacketLemmas.{Leg, going, packets_for}

-- what was fetched goes back, and what was said to the nodes of its addresses
abbrev pub back-leg : Option Station → Message → Leg
back-leg back m = record { to = back; message = m }

abbrev pub said-leg : Option Station → Message → Leg
said-leg back m = record { to = goes_to back m.addressing.to (place_of m.addressing.to); message = m }

abbrev pub legs_of : Option Station → Acted → List Leg
legs_of back made = map (back-leg back) made.fetched ++ map (said-leg back) made.said

-- as packets of the world
back-packets : (from : Station) (back : Option Station) (ms : List Message)
    → packets_for from (map (back-leg back) ms) ≡ flat_map (λ (m : Message). packet_to from m back) ms
back-packets from back [] = refl
back-packets from back (m ∷ ms) =
    ap (λ (ps : List Packet). packet_to from m back ++ ps) (back-packets from back ms)

said-packets : (from : Station) (back : Option Station) (ms : List Message)
    → packets_for from (map (said-leg back) ms)
    ≡ flat_map (λ (m : Message). packet_to from m (goes_to back m.addressing.to (place_of m.addressing.to))) ms
said-packets from back [] = refl
said-packets from back (m ∷ ms) =
    ap (λ (ps : List Packet). packet_to from m (goes_to back m.addressing.to (place_of m.addressing.to)) ++ ps)
    (said-packets from back ms)

pub legs-packets : (from : Station) (back : Option Station) (made : Acted)
    → packets_for from (legs_of back made) ≡ packets_of from back made
legs-packets from back made =
    flat_map-append (λ (l : Leg). packet_to from l.message l.to) (map (back-leg back) made.fetched)
    (map (said-leg back) made.said)
    ∙ ap (λ (ps : List Packet). ps ++ packets_for from (map (said-leg back) made.said))
    (back-packets from back made.fetched)
    ∙ ap (λ (ps : List Packet). flat_map (λ (m : Message). packet_to from m back) made.fetched ++ ps)
    (said-packets from back made.said)

-- ---- what leaves it by the addresses

-- the node at an address has it
station-there : (a : Text) (s : Station) → station_at a ≡ Some s → a ≡ address_of s
station-there a s e =
    elim (bytes_eq a (address_of One)) as (λ x. bytes_eq a (address_of One) ≡ x
    → cond x (Some One) (cond (bytes_eq a (address_of Two)) (Some Two)
    (cond (bytes_eq a (address_of Three)) (Some Three) None)) ≡ Some s → a ≡ address_of s) [
      | true ↦ λ d f. let same : One ≡ s = cc in
          subst (λ z. a ≡ address_of z) same ((bytes_eq-Decides a (address_of One)).0 d)
      | false ↦ λ d f. second f
    ] refl e
  where
    third : cond (bytes_eq a (address_of Three)) (Some Three) None ≡ Some s → a ≡ address_of s
    third f = elim (bytes_eq a (address_of Three)) as (λ x. bytes_eq a (address_of Three) ≡ x
        → cond x (Some Three) None ≡ Some s → a ≡ address_of s) [
          | true ↦ λ d g. let same : Three ≡ s = cc in
              subst (λ z. a ≡ address_of z) same ((bytes_eq-Decides a (address_of Three)).0 d)
          | false ↦ λ d g. absurd (cc)
        ] refl f

    second : cond (bytes_eq a (address_of Two)) (Some Two) (cond (bytes_eq a (address_of Three)) (Some Three) None)
        ≡ Some s → a ≡ address_of s
    second f = elim (bytes_eq a (address_of Two)) as (λ x. bytes_eq a (address_of Two) ≡ x
        → cond x (Some Two) (cond (bytes_eq a (address_of Three)) (Some Three) None) ≡ Some s → a ≡ address_of s) [
          | true ↦ λ d g. let same : Two ≡ s = cc in
              subst (λ z. a ≡ address_of z) same ((bytes_eq-Decides a (address_of Two)).0 d)
          | false ↦ λ d g. third g
        ] refl f

-- the place of an address that isn't anonymous
abbrev elsewhere : Text → Place
elsewhere a = cond (is_nowhere a) Nowhere (cond (is_polled a) Waits Out)

elsewhere-out : (s : Station) → elsewhere (address_of s) ≡ Out
unfolding no_address polled_prefix
elsewhere-out One = refl
elsewhere-out Two = refl
elsewhere-out Three = refl

goes-elsewhere : (back : Option Station) (a : Text) → station_at a ≡ goes_to back a (elsewhere a)
goes-elsewhere back a = by_station (station_at a) refl
  where
    by_station : (o : Option Station) → station_at a ≡ o → station_at a ≡ goes_to back a (elsewhere a)
    by_station (Some s) e =
        let out : elsewhere a ≡ Out = ap elsewhere (station-there a s e) ∙ elsewhere-out s in
        sym (ap (goes_to back a) out)
    by_station None e = elim (is_nowhere a) as (λ x. station_at a
        ≡ goes_to back a (cond x Nowhere (cond (is_polled a) Waits Out))) [
          | true ↦ e
          | false ↦ elim (is_polled a) as (λ x. station_at a ≡ goes_to back a (cond x Waits Out)) [
            | true ↦ e
            | false ↦ refl
          ]
        ]

goes-same : (back : Option Station) (a : Text) → goes_by back a ≡ goes_to back a (place_of a)
goes-same back a = elim (is_anonymous a) as (λ x. cond x back (station_at a)
    ≡ goes_to back a (cond x BackOn (elsewhere a))) [
      | true ↦ refl
      | false ↦ goes-elsewhere back a
    ]

back-goings : (back : Option Station) (ms : List Message)
    → map (going_of back) (map back_packet ms) ≡ map going (map (back-leg back) ms)
unfolding anonymous
back-goings back [] = refl
back-goings back (m ∷ ms) = ap (λ (gs : List Going). going (back-leg back m) ∷ gs) (back-goings back ms)

-- a message that goes there
abbrev going-to : Message → Option Station → Going
going-to m to = record { to = to; bytes = text_of m }

said-goings : (back : Option Station) (ms : List Message)
    → map (going_of back) (map packet_of ms) ≡ map going (map (said-leg back) ms)
said-goings back [] = refl
said-goings back (m ∷ ms) =
    ap (λ (to : Option Station). going-to m to ∷ map (going_of back) (map packet_of ms))
    (goes-same back m.addressing.to)
    ∙ ap (λ (gs : List Going). going (said-leg back m) ∷ gs) (said-goings back ms)

pub legs-goings : (back : Option Station) (made : Acted)
    → map (going_of back) (map back_packet made.fetched ++ map packet_of made.said)
    ≡ map going (legs_of back made)
legs-goings back made =
    map-append (going_of back) (map back_packet made.fetched) (map packet_of made.said)
    ∙ ap (λ (gs : List Going). gs ++ map (going_of back) (map packet_of made.said)) (back-goings back made.fetched)
    ∙ ap (λ (gs : List Going). map going (map (back-leg back) made.fetched) ++ gs) (said-goings back made.said)
    ∙ sym (map-append going (map (back-leg back) made.fetched) (map (said-leg back) made.said))
