-- What ticks and deliveries leave: nodes that stand, and records and packets to which more is added at the end.
use Rattle.std.proofs.Common.{◌≡◌, ℕ, suc, ◌<◌, Bool, true, false, List, [], ◌∷◌, ◌++◌, length, refl, sym, ap}
use Rattle.std.proofs.Common.{◌∙◌, subst, arith, append-nil, append_assoc, length-append}
use Rattle.std.specs.Prelude.{Option, Some, None, Ok}
use Rattle.std.specs.List.{AllByRecursion}
use Rattle.rm_base.specs.Numbered.{numbered}
use Rattle.rm_message.specs.declared.message.Message.{Message}
use Rattle.rm_protocol.specs.Addresses.{place_of}
use Rattle.rm_protocol.specs.Calls.{Answer, tick}
use Rattle.rm_protocol.specs.Node.{Node, after, call_outcome, fetched_after, node_end, records, said_after}
use Rattle.rm_protocol.specs.Said.{leaves, sent_of}
use Rattle.rm_protocol.specs.Sent.{Called, Line, arrival_outcome, lines, outcome_of}
use Rattle.rm_protocol.specs.Sound.{IsSound}
use Rattle.rm_protocol.specs.Terms.{AreTerms, Terms}
use Rattle.rm_protocol.specs.Word.{IsPrefixOf}
use Rattle.rm_protocol.specs.World.{Deliver, Event, One, Packet, Side, Tick, Two, World, arrives, calls, happens, node}
use Rattle.rm_protocol.specs.World.{other, puts, received_by, run, sent, with_clock, with_node}
use Rattle.rm_arrival.specs.Fair.{BothStand, HadRoom, IsKept, endless}
use Rattle.rm_arrival.specs.Nodes.{Stands}
use Rattle.rm_arrival.proofs.MemberLemmas.{IsIn, all-back, all-front, in-behind, in-filter, in-map, numbered-in}
use Rattle.rm_arrival.proofs.MemberLemmas.{prefix-refl, prefix-then}
use Rattle.rm_arrival.proofs.NodeLemmas.{after-stands, after-there}

-- from one world to a later one: both nodes stand, and records and packets are added behind those that were there
pub record Onward (w v : World) : Type 0 where
  pub stand : (side : Side) → Stands (node v side)
  pub grown : (side : Side) → IsPrefixOf (records (node w side)) (records (node v side))
  pub packets : IsPrefixOf w.packets v.packets

pub onward-refl : (w : World) → BothStand w → Onward w w
onward-refl w h = record {
  stand = h;
  grown = λ side. prefix-refl (records (node w side));
  packets = prefix-refl w.packets;
}

pub onward-then : (w v u : World) → Onward w v → Onward v u → Onward w u
onward-then w v u h k = record {
  stand = k.stand;
  grown = λ side. prefix-then (records (node w side)) (records (node v side)) (records (node u side)) (h.grown side)
      (k.grown side);
  packets = prefix-then w.packets v.packets u.packets h.packets k.packets;
}

-- ---- a call

puts-endless : (terms : Terms) (packets more : List Packet) → puts (endless terms) packets more ≡ packets ++ more
puts-endless terms packets [] = sym (append-nil packets)
puts-endless terms packets (p ∷ more) =
    puts-endless terms (packets ++ p ∷ []) more ∙ append_assoc packets (p ∷ []) more

-- what leaves a node with an answer
abbrev leaving : Node → Bool → Answer → List Message
leaving x connected answer = fetched_after x answer ++ sent_of connected (said_after x answer)

calls-packets : (terms : Terms) (w : World) (side : Side) (connected : Bool) (answer : Answer)
    → (calls (endless terms) w side connected answer).packets
    ≡ w.packets ++ sent side (leaving (node w side) connected answer)
calls-packets terms w One connected answer =
    puts-endless terms w.packets (sent One (leaving w.one connected answer))
calls-packets terms w Two connected answer =
    puts-endless terms w.packets (sent Two (leaving w.two connected answer))

pub calls-node : (terms : Terms) (w : World) (side : Side) (connected : Bool) (answer : Answer)
    → node (calls terms w side connected answer) side ≡ after (node w side) answer
calls-node terms w One connected answer = refl
calls-node terms w Two connected answer = refl

calls-onward : (terms : Terms) (w : World) (side : Side) (connected : Bool) (answer : Answer) → BothStand w
    → (calls terms w side connected answer).packets ≡ (calls (endless terms) w side connected answer).packets
    → Onward w (calls terms w side connected answer)
calls-onward terms w One connected answer h e = record {
  stand = stand;
  grown = grown;
  packets = (sent One (leaving w.one connected answer), e ∙ calls-packets terms w One connected answer);
}
  where
    stand : (side : Side) → Stands (node (calls terms w One connected answer) side)
    stand One = after-stands w.one answer (h One)
    stand Two = h Two

    grown : (side : Side)
        → IsPrefixOf (records (node w side)) (records (node (calls terms w One connected answer) side))
    grown One = (answer.delta, after-there w.one answer (h One))
    grown Two = prefix-refl (records w.two)
calls-onward terms w Two connected answer h e = record {
  stand = stand;
  grown = grown;
  packets = (sent Two (leaving w.two connected answer), e ∙ calls-packets terms w Two connected answer);
}
  where
    stand : (side : Side) → Stands (node (calls terms w Two connected answer) side)
    stand One = h One
    stand Two = after-stands w.two answer (h Two)

    grown : (side : Side)
        → IsPrefixOf (records (node w side)) (records (node (calls terms w Two connected answer) side))
    grown One = prefix-refl (records w.one)
    grown Two = (answer.delta, after-there w.two answer (h Two))

-- a packet that was not there before
pub record IsPut (w v : World) (from : Side) (m : Message) : Type 0 where
  pub number : ℕ
  pub above : length w.packets < number
  pub is : numbered v.packets number ≡ Some (record { from = from; message = m })

-- what a node says and leaves it becomes a packet
pub calls-put : (terms : Terms) (w : World) (side : Side) (connected : Bool) (answer : Answer) (ms : List Message)
    (m : Message)
    → (calls terms w side connected answer).packets ≡ (calls (endless terms) w side connected answer).packets
    → said_after (node w side) answer ≡ ms → IsIn ms m → leaves connected (place_of m.addressing.to) ≡ true
    → IsPut w (calls terms w side connected answer) side m
calls-put terms w side connected answer ms m e says there goes =
    let leaves_ : IsIn (sent_of connected (said_after (node w side) answer)) m =
    in-filter (λ (x : Message). leaves connected (place_of x.addressing.to)) (said_after (node w side) answer) m goes
    (subst (λ xs. IsIn xs m) (sym says) there) in
    let of_node = in-behind (fetched_after (node w side) answer)
    (sent_of connected (said_after (node w side) answer)) m leaves_ in
    let packet : Packet = record { from = side; message = m } in
    let of_packets : IsIn (sent side (leaving (node w side) connected answer)) packet =
    in-map (λ (x : Message). let p : Packet = record { from = side; message = x } in p)
    (leaving (node w side) connected answer) m of_node in
    let extra = sent side (leaving (node w side) connected answer) in
    let all : IsIn (w.packets ++ extra) packet = in-behind w.packets extra packet of_packets in
    record {
      number = suc (length all.before);
      above = omega (arith, length-append w.packets of_packets.before);
      is = ap (λ ps. numbered ps (suc (length all.before))) (e ∙ calls-packets terms w side connected answer)
          ∙ numbered-in (w.packets ++ extra) packet all;
    }

-- ---- a line of a round

-- a tick, or a delivery
abbrev pub IsOfRound : Event → Type 0
IsOfRound (Tick side now) = Unit {0}
IsOfRound (Deliver k) = Unit {0}
IsOfRound _ = ⊥

tick-onward : (terms : Terms) (w : World) (side : Side) (now : ℕ) → BothStand w
    → (happens terms w (Tick side now)).packets ≡ (happens (endless terms) w (Tick side now)).packets
    → Onward w (happens terms w (Tick side now))
tick-onward terms w One now h e = record { stand = it.stand; grown = grown; packets = it.packets }
  where
    stand : (side : Side) → Stands (node (with_node w One (with_clock w.one now)) side)
    stand One = record { up = (h One).up; unarmed = (h One).unarmed }
    stand Two = h Two

    it : Onward (with_node w One (with_clock w.one now)) (happens terms w (Tick One now))
    it =
        calls-onward terms (with_node w One (with_clock w.one now)) One false
        (tick terms (records w.one) (node_end terms w.one) now w.one.time w.one.waits) stand e

    grown : (side : Side) → IsPrefixOf (records (node w side)) (records (node (happens terms w (Tick One now)) side))
    grown One = it.grown One
    grown Two = it.grown Two
tick-onward terms w Two now h e = record { stand = it.stand; grown = grown; packets = it.packets }
  where
    stand : (side : Side) → Stands (node (with_node w Two (with_clock w.two now)) side)
    stand One = h One
    stand Two = record { up = (h Two).up; unarmed = (h Two).unarmed }

    it : Onward (with_node w Two (with_clock w.two now)) (happens terms w (Tick Two now))
    it =
        calls-onward terms (with_node w Two (with_clock w.two now)) Two false
        (tick terms (records w.two) (node_end terms w.two) now w.two.time w.two.waits) stand e

    grown : (side : Side) → IsPrefixOf (records (node w side)) (records (node (happens terms w (Tick Two now)) side))
    grown One = it.grown One
    grown Two = it.grown Two

arrives-onward : (terms : Terms) (w : World) (o : Option Packet) → BothStand w
    → (arrives terms w o).packets ≡ (arrives (endless terms) w o).packets → Onward w (arrives terms w o)
arrives-onward terms w None h e = onward-refl w h
arrives-onward terms w (Some p) h e =
    calls-onward terms w (other p.from) true (received_by terms (node w (other p.from)) (terms.read p.message)) h e

pub step-onward : (terms : Terms) (w : World) (event : Event) → IsOfRound event → BothStand w
    → (happens terms w event).packets ≡ (happens (endless terms) w event).packets → Onward w (happens terms w event)
step-onward terms w (Tick side now) r h e = tick-onward terms w side now h e
step-onward terms w (Deliver k) r h e = arrives-onward terms w (numbered w.packets k) h e
step-onward terms w _ r h e = absurd r

-- ---- all lines of a round, and a place in it

pub run-onward : (terms : Terms) (w : World) (events : List Event) → AllByRecursion IsOfRound events → BothStand w
    → IsKept terms w events → Onward w (run terms events w)
run-onward terms w [] r h e = onward-refl w h
run-onward terms w (x ∷ events) r h e =
    let one = step-onward terms w x r.0 h e.0 in
    onward-then w (happens terms w x) (run terms events (happens terms w x)) one
    (run-onward terms (happens terms w x) events r.1 one.stand e.1)

pub run-join : (terms : Terms) (xs ys : List Event) (w : World) → run terms (xs ++ ys) w ≡ run terms ys (run terms xs w)
run-join terms [] ys w = refl
run-join terms (x ∷ xs) ys w = run-join terms xs ys (happens terms w x)

kept-front : (terms : Terms) (w : World) (xs ys : List Event) → IsKept terms w (xs ++ ys) → IsKept terms w xs
kept-front terms w [] ys h = tt
kept-front terms w (x ∷ xs) ys h = (h.0, kept-front terms (happens terms w x) xs ys h.1)

kept-back : (terms : Terms) (w : World) (xs ys : List Event) → IsKept terms w (xs ++ ys)
    → IsKept terms (run terms xs w) ys
kept-back terms w [] ys h = h
kept-back terms w (x ∷ xs) ys h = kept-back terms (happens terms w x) xs ys h.1

-- each line keeps the agreement
abbrev pub StaysSound : Type 0
StaysSound =
    (terms : Terms) (w : World) (event : Event) → AreTerms terms → IsSound terms w
    → IsSound terms (happens terms w event)

pub run-sound : StaysSound → (terms : Terms) (events : List Event) (w : World) → AreTerms terms → IsSound terms w
    → IsSound terms (run terms events w)
run-sound law terms [] w t h = h
run-sound law terms (x ∷ xs) w t h = run-sound law terms xs (happens terms w x) t (law terms w x t h)

-- a world within a round
pub record IsWithin (terms : Terms) (w v u : World) : Type 0 where
  pub from : Onward w v
  pub upto : Onward v u
  pub sound : IsSound terms v

pub within-at : StaysSound → (terms : Terms) (w : World) (events before behind : List Event) → AreTerms terms
    → IsSound terms w → BothStand w → AllByRecursion IsOfRound events → IsKept terms w events
    → events ≡ before ++ behind → IsWithin terms w (run terms before w) (run terms events w)
within-at law terms w events before behind t sound stand round kept are =
    let round_ : AllByRecursion IsOfRound (before ++ behind) = subst (λ z. AllByRecursion IsOfRound z) are round in
    let kept_ : IsKept terms w (before ++ behind) = subst (λ z. IsKept terms w z) are kept in
    let v = run terms before w in
    let from = run-onward terms w before (all-front IsOfRound before behind round_) stand
    (kept-front terms w before behind kept_) in
    let upto : Onward v (run terms behind v) =
    run-onward terms v behind (all-back IsOfRound before behind round_) from.stand
    (kept-back terms w before behind kept_) in
    record {
      from = from;
      upto = subst (λ z. Onward v z) (sym (ap (λ z. run terms z w) are ∙ run-join terms before behind w)) upto;
      sound = run-sound law terms before w t sound;
    }

-- the world behind one more line
pub within-next : StaysSound → (terms : Terms) (w : World) (events before : List Event) (x : Event)
    (behind : List Event)
    → AreTerms terms → IsSound terms w → BothStand w → AllByRecursion IsOfRound events → IsKept terms w events
    → events ≡ before ++ x ∷ behind
    → IsWithin terms w (happens terms (run terms before w) x) (run terms events w)
within-next law terms w events before x behind t sound stand round kept are =
    subst (λ z. IsWithin terms w z (run terms events w)) (run-join terms before (x ∷ []) w)
    (within-at law terms w events (before ++ x ∷ []) behind t sound stand round kept
    (are ∙ sym (append_assoc before (x ∷ []) behind)))

pub kept-at : (terms : Terms) (w : World) (events before : List Event) (x : Event) (behind : List Event)
    → IsKept terms w events → events ≡ before ++ x ∷ behind
    → (happens terms (run terms before w) x).packets ≡ (happens (endless terms) (run terms before w) x).packets
kept-at terms w events before x behind kept are =
    (kept-back terms w before (x ∷ behind) (subst (λ z. IsKept terms w z) are kept)).0

-- of each line that it had room
abbrev AllHadRoom : List Line → Type 0
AllHadRoom ls = AllByRecursion (λ (l : Line). HadRoom l.outcome) ls

room_at : (terms : Terms) (before : List Event) (x : Event) (behind : List Event) (w : World)
    → AllHadRoom (lines terms (before ++ x ∷ behind) w) → HadRoom (outcome_of terms (run terms before w) x)
room_at terms [] x behind w h = h.0
room_at terms (y ∷ before) x behind w h = room_at terms before x behind (happens terms w y) h.1

pub room-at : (terms : Terms) (w : World) (events before : List Event) (x : Event) (behind : List Event)
    → AllByRecursion (λ (l : Line). HadRoom l.outcome) (lines terms events w) → events ≡ before ++ x ∷ behind
    → HadRoom (outcome_of terms (run terms before w) x)
room-at terms w events before x behind room are =
    room_at terms before x behind w (subst (λ z. AllHadRoom (lines terms z w)) are room)

-- ---- a delivery

-- packet k is delivered, read as it was said
pub record Arrival (terms : Terms) (v : World) (k : ℕ) (from : Side) (m : Message) : Type 0 where
  pub is : happens terms v (Deliver k)
      ≡ calls terms v (other from) true (received_by terms (node v (other from)) (Ok m))
  pub kept : (calls terms v (other from) true (received_by terms (node v (other from)) (Ok m))).packets
      ≡ (calls (endless terms) v (other from) true (received_by terms (node v (other from)) (Ok m))).packets
  pub room : HadRoom (Called (call_outcome (node v (other from)) (received_by terms (node v (other from)) (Ok m))))

pub arrival : (terms : Terms) (v : World) (k : ℕ) (from : Side) (m : Message)
    → numbered v.packets k ≡ Some (record { from = from; message = m }) → terms.read m ≡ Ok m
    → (happens terms v (Deliver k)).packets ≡ (happens (endless terms) v (Deliver k)).packets
    → HadRoom (outcome_of terms v (Deliver k)) → Arrival terms v k from m
arrival terms v k from m there read kept room =
    let p : Packet = record { from = from; message = m } in
    let kept_ : (arrives terms v (Some p)).packets ≡ (arrives (endless terms) v (Some p)).packets =
    subst (λ o. (arrives terms v o).packets ≡ (arrives (endless terms) v o).packets) there kept in
    let room_ : HadRoom (arrival_outcome terms v (Some p)) =
    subst (λ o. HadRoom (arrival_outcome terms v o)) there room in
    let x = node v (other from) in
    record {
      is = ap (λ o. arrives terms v o) there ∙ ap (λ c. calls terms v (other from) true (received_by terms x c)) read;
      kept = subst (λ c. (calls terms v (other from) true (received_by terms x c)).packets
          ≡ (calls (endless terms) v (other from) true (received_by terms x c)).packets) read kept_;
      room = subst (λ c. HadRoom (Called (call_outcome x (received_by terms x c)))) read room_;
    }
