-- A message that a tick of a fair round emits: the tick says it, it is answered, and the answer ends its wait.
use Rattle.std.proofs.Common.{◌≡◌, ◌≢◌, ℕ, suc, ◌+◌, ◌<◌, ◌≤◌, ◌&&◌, max, not, cond, Bool, true, false, List, []}
use Rattle.std.proofs.Common.{◌∷◌, ◌++◌, length, map, refl, sym, ap, ◌∙◌, subst, arith, inr}
use Rattle.std.proofs.Common.{length-append}
use Rattle.std.specs.Prelude.{Option, Some, None, Ok, slice_get}
use Rattle.std.specs.List.{AllByRecursion}
use Rattle.std.proofs.lemmas.Bool.{and_parts, false≢true}
use Rattle.rm_base.specs.Limits.{window}
use Rattle.rm_base.specs.Numbered.{numbered}
use Rattle.rm_base.specs.declared.message.Cause.TheVariants.{Expired}
use Rattle.rm_message.specs.declared.elements.header.AckBlock.{AckBlock}
use Rattle.rm_message.specs.declared.message.Message.{Message}
use Rattle.rm_sides.specs.Destination.Incoming.{is_past}
use Rattle.rm_sides.specs.Destination.Laws.{FrontIsReached}
use Rattle.rm_sides.specs.Ranges.Laws.{UnionHasBoth}
use Rattle.rm_sides.specs.Ranges.Ranges.{in_ranges}
use Rattle.timers.specs.declared.slots.timers.Key.{Key}
use Rattle.timers.specs.Keys.Waits.{first_due, has_key}
use Rattle.wsa_headers.specs.declared.endpoint.Epr.{Epr}
use Rattle.record_batch.specs.Fact.{Fact, Ended}
use Rattle.record_batch.specs.Snapshot.Same.{NumbersAreFromOne}
use Rattle.record_batch.specs.Sequences.Words.{Text}
use Rattle.record_batch.specs.Sequences.Makers.{Maker, Outgoing, Taken, maker, makers}
use Rattle.record_batch.specs.Sequences.Sources.{acked, out_ident, payload_at}
use Rattle.record_batch.specs.Sequences.Destinations.{deadline_of, front, has_end, is_stopped}
use Rattle.record_batch.specs.Sequences.Find.{acks_to, find_incoming, find_outgoing, peer}
use Rattle.record_batch.specs.Sequences.Fits.{all_fit}
use Rattle.record_batch.specs.Sequences.Told.{names}
use Rattle.rm_protocol.specs.Addresses.{Out, place_of}
use Rattle.rm_protocol.specs.Calls.{Answer, expired_from, messages_at, tick, tick_with, ticked}
use Rattle.rm_protocol.specs.Exact.{OthersWaitOn}
use Rattle.rm_protocol.specs.Messages.{ack_message, data_by, data_of}
use Rattle.rm_protocol.specs.Next.{EachMayComeNext}
use Rattle.rm_protocol.specs.Node.{Node, after, call_outcome, node_end, records, said_after}
use Rattle.rm_protocol.specs.Rows.{ack_row, final_row, ranges_of}
use Rattle.rm_protocol.specs.Said.{leaves}
use Rattle.rm_protocol.specs.Sent.{Called}
use Rattle.rm_protocol.specs.Sound.{IsSound}
use Rattle.rm_protocol.specs.Terms.{AreTerms, Terms}
use Rattle.rm_protocol.specs.Verdict.{has_room, is_invalid}
use Rattle.rm_protocol.specs.Waiting.{is_waiting, key, waits_of}
use Rattle.rm_protocol.specs.World.{Deliver, Event, One, Packet, Side, Tick, Two, World, happens, node, other}
use Rattle.rm_protocol.specs.World.{received_by, run, with_clock, with_node}
use Rattle.rm_arrival.specs.Fair.{ARoundBrings, BothStand, HadRoom, IsDue, IsFair, IsOpen, IsReached, endless, moment}
use Rattle.rm_arrival.specs.Nodes.{Stands}
use Rattle.rm_arrival.specs.Round.{CanTake}
use Rattle.rm_arrival.proofs.MemberLemmas.{IsIn, numbered-longer, numbered-next, numbered-shorter, numbered-within}
use Rattle.rm_arrival.proofs.NodeLemmas.{after-says, after-there, no-verdict, takes-whole}
use Rattle.rm_arrival.proofs.OnwardLemmas.{Arrival, IsOfRound, IsPut, IsWithin, Onward, StaysSound, arrival, calls-node}
use Rattle.rm_arrival.proofs.OnwardLemmas.{calls-put, kept-at, room-at, run-onward, run-sound, within-at, within-next}
use Rattle.rm_arrival.proofs.SentLemmas.{due-said}
use Rattle.rm_arrival.proofs.StayLemmas.{IsGoing, acks_to-stays, find_incoming-stays, find_outgoing-stays, front-grows}
use Rattle.rm_arrival.proofs.StayLemmas.{going-before, out_ident-stays, peer-stays}
use Rattle.rm_arrival.proofs.TakeLemmas.{ack-rows, held-acked}
use Rattle.rm_arrival.proofs.ValidLemmas.{has-is-acked, not-invalid, number-at, sees}
use Rattle.rm_arrival.proofs.VerdictLemmas.{ack-verdict, data-verdict}
use Rattle.rm_arrival.proofs.WaitLemmas.{Has, ack_row-has, has-stays}

-- ---- what a tick says

-- a sequence that sends has no deadline
timeless : (r : List Fact) (s i now : ℕ) (o : Option Maker) → waits_of r s i o ≡ true
    → is_past (deadline_of o) now ≡ false
timeless r s i now (Some (Outgoing ticket to via lapse)) h = refl
timeless r s i now (Some (Taken message_id ident endpoint)) h = refl
timeless r s i now _ h = absurd (false≢true h)

expired-others : (r : List Fact) (s now k : ℕ) (ms : List Maker)
    → ((j : ℕ) (m : Maker) → slice_get ms j ≡ Some m → k + suc j ≡ s → is_past (deadline_of (Some m)) now ≡ false)
    → AllByRecursion (λ (f : Fact). names f ≢ s) (expired_from r now k ms)
expired-others r s now k [] h = tt
expired-others r s now k (m ∷ ms) h =
    let rest = expired-others r s now (k + 1) ms (λ j x e at. h (suc j) x e (omega (arith, at))) in
    let ends : Bool = not (has_end r (k + 1)) in
    elim (is_past (deadline_of (Some m)) now && ends) as (λ b. (is_past (deadline_of (Some m)) now && ends) ≡ b
    → AllByRecursion (λ (f : Fact). names f ≢ s) (cond b (Ended (k + 1) Expired 0 ∷ expired_from r now (k + 1) ms)
    (expired_from r now (k + 1) ms))) [
      | true ↦ λ e. (
        λ (same : k + 1 ≡ s). false≢true (sym (h 0 m refl same)
            ∙ (and_parts (is_past (deadline_of (Some m)) now) ends e).0),
        rest,
      )
      | false ↦ λ e. rest
    ] refl

waits-others : (r : List Fact) (s i now : ℕ) → is_waiting r (key s i) ≡ true
    → AllByRecursion (λ (f : Fact). names f ≢ s) (expired_from r now 0 (makers r))
waits-others r s i now h = expired-others r s now 0 (makers r) other_one
  where
    other_one : (j : ℕ) (m : Maker) → slice_get (makers r) j ≡ Some m → 0 + suc j ≡ s
        → is_past (deadline_of (Some m)) now ≡ false
    other_one j m e at =
        let place : suc j ≡ s = omega (arith, at) in
        let here : maker r s ≡ Some m =
        subst (λ n. numbered (makers r) n ≡ Some m) place (numbered-next (makers r) j ∙ e) in
        subst (λ o. is_past (deadline_of o) now ≡ false) here (timeless r s i now (maker r s) h)

tick-outs : (terms : Terms) (r : List Fact) (end now : ℕ) (keys : List Key)
    → (tick_with terms r end now keys).outs ≡ messages_at (r ++ (tick_with terms r end now keys).delta) keys
tick-outs terms r end now keys =
    let gone = expired_from r now 0 (makers r) in
    elim (has_room terms end gone) as (λ b. (cond b (ticked r now keys gone) (ticked r now keys [])).outs
    ≡ messages_at (r ++ (cond b (ticked r now keys gone) (ticked r now keys [])).delta) keys) [
      | true ↦ refl
      | false ↦ refl
    ]

tick-others : (terms : Terms) (r : List Fact) (end now s i : ℕ) (keys : List Key) → is_waiting r (key s i) ≡ true
    → AllByRecursion (λ (f : Fact). names f ≢ s) (tick_with terms r end now keys).delta
tick-others terms r end now s i keys h =
    let gone = expired_from r now 0 (makers r) in
    elim (has_room terms end gone) as (λ b. AllByRecursion (λ (f : Fact). names f ≢ s)
    (cond b (ticked r now keys gone) (ticked r now keys [])).delta) [
      | true ↦ waits-others r s i now h
      | false ↦ tt
    ]

-- what waits, waits on after a tick
pub tick-waits : OthersWaitOn → EachMayComeNext → (terms : Terms) (r : List Fact) (end now s i : ℕ) (keys : List Key)
    → AreTerms terms → all_fit [] r ≡ true → is_waiting r (key s i) ≡ true
    → is_waiting (r ++ (tick_with terms r end now keys).delta) (key s i) ≡ true
tick-waits wait_on next terms r end now s i keys t fit waits =
    wait_on r (tick_with terms r end now keys).delta (key s i) ((next terms r end t.deadline fit).tick_ now keys)
    (tick-others terms r end now s i keys waits) waits

-- the data of a message to an endpoint
record IsDataTo (to : Epr) (q : Text) (i : ℕ) (m : Message) : Type 0 where
  text : Text
  is : m ≡ data_of to q i text

data-is : (to : Epr) (q : Text) (i : ℕ) (p : Option Text) (m : Message) → data_by (Some to) (Some q) i p ≡ Some m
    → IsDataTo to q i m
data-is to q i (Some x) m h = record { text = x; is = cc (h) }
data-is to q i None m h = absurd (cc (h))

-- the answer of a node's tick
abbrev pub tick_of : Terms → Node → ℕ → Answer
tick_of terms x now = tick terms (records x) (node_end terms x) now x.time x.waits

-- the data of message i is said
record SaysIt (terms : Terms) (x : Node) (now i : ℕ) (to : Epr) (q : Text) : Type 0 where
  text : Text
  there : IsIn (tick_of terms x now).outs (data_of to q i text)

node-says : OthersWaitOn → EachMayComeNext → (terms : Terms) (x : Node) (now s i : ℕ) (to : Epr) (q : Text)
    → AreTerms terms → all_fit [] (records x) ≡ true
    → all_fit [] (records x ++ (tick_of terms x now).delta) ≡ true
    → peer (records x) s ≡ Some to → out_ident (records x) s ≡ Some q
    → is_waiting (records x) (key s (suc i)) ≡ true
    → has_key (first_due (max x.time now) x.waits) (key s (suc i)) ≡ true → SaysIt terms x now (suc i) to q
node-says wait_on next terms x now s i to q t fit more peer_ known waits due =
    let r = records x in
    let end = node_end terms x in
    let keys = first_due (max x.time now) x.waits in
    let d = (tick_with terms r end now keys).delta in
    let still = tick-waits wait_on next terms r end now s (suc i) keys t fit waits in
    let it = due-said (r ++ d) s i keys more still due in
    let m = data_of it.0.to it.0.ident (suc i) it.0.text in
    let here : data_by (Some to) (Some q) (suc i) (payload_at (r ++ d) s (suc i)) ≡ Some m =
    sym (ap (λ o. data_by o (out_ident (r ++ d) s) (suc i) (payload_at (r ++ d) s (suc i)))
    (peer-stays r d s to peer_)
    ∙ ap (λ o. data_by (Some to) o (suc i) (payload_at (r ++ d) s (suc i))) (out_ident-stays r d s q known))
    ∙ it.0.data_ in
    let form = data-is to q (suc i) (payload_at (r ++ d) s (suc i)) m here in
    record {
      text = form.text;
      there = record {
        before = it.1.before;
        behind = it.1.behind;
        are = tick-outs terms r end now keys ∙ it.1.are ∙ ap (λ z. it.1.before ++ z ∷ it.1.behind) form.is;
      };
    }

-- the tick puts the data of message i on the wire
record Emits (w v : World) (side : Side) (to : Epr) (q : Text) (i : ℕ) : Type 0 where
  text : Text
  put : IsPut w v side (data_of to q i text)

leaves-out : (to : Epr) → place_of to.address ≡ Out → leaves false (place_of to.address) ≡ true
leaves-out to e = ap (λ p. leaves false p) e

tick-emits : OthersWaitOn → EachMayComeNext → (terms : Terms) (w : World) (side : Side) (now s i : ℕ) (to : Epr)
    (q : Text) → AreTerms terms → IsSound terms w → IsSound terms (happens terms w (Tick side now))
    → Stands (node w side)
    → (happens terms w (Tick side now)).packets ≡ (happens (endless terms) w (Tick side now)).packets
    → peer (records (node w side)) s ≡ Some to → out_ident (records (node w side)) s ≡ Some q
    → place_of to.address ≡ Out → is_waiting (records (node w side)) (key s (suc i)) ≡ true
    → has_key (first_due (max (node w side).time now) (node w side).waits) (key s (suc i)) ≡ true
    → Emits w (happens terms w (Tick side now)) side to q (suc i)
tick-emits wait_on next terms w One now s i to q t sound later stands kept peer_ known goes waits due =
    let x = w.one in
    let y = with_clock x now in
    let up : Stands y = record { up = stands.up; unarmed = stands.unarmed } in
    let more : all_fit [] (records x ++ (tick_of terms x now).delta) ≡ true =
    subst (λ r. all_fit [] r ≡ true) (after-there y (tick_of terms x now) up) later.one.stands.fit in
    let it = node-says wait_on next terms x now s i to q t sound.one.stands.fit more peer_ known waits due in
    let put = calls-put terms (with_node w One y) One false (tick_of terms x now) (tick_of terms x now).outs
    (data_of to q (suc i) it.text) kept (after-says y (tick_of terms x now) up) it.there (leaves-out to goes) in
    record { text = it.text; put = record { number = put.number; above = put.above; is = put.is } }
tick-emits wait_on next terms w Two now s i to q t sound later stands kept peer_ known goes waits due =
    let x = w.two in
    let y = with_clock x now in
    let up : Stands y = record { up = stands.up; unarmed = stands.unarmed } in
    let more : all_fit [] (records x ++ (tick_of terms x now).delta) ≡ true =
    subst (λ r. all_fit [] r ≡ true) (after-there y (tick_of terms x now) up) later.two.stands.fit in
    let it = node-says wait_on next terms x now s i to q t sound.two.stands.fit more peer_ known waits due in
    let put = calls-put terms (with_node w Two y) Two false (tick_of terms x now) (tick_of terms x now).outs
    (data_of to q (suc i) it.text) kept (after-says y (tick_of terms x now) up) it.there (leaves-out to goes) in
    record { text = it.text; put = record { number = put.number; above = put.above; is = put.is } }

-- ---- what the destination answers, and what the answer ends

-- one acknowledgement is said, which names the number
record IsAnswered (terms : Terms) (x : Node) (back : Epr) (q : Text) (i : ℕ) (m : Message) : Type 0 where
  block : AckBlock
  says : said_after x (received_by terms x (Ok m)) ≡ ack_message back (block ∷ []) ∷ []
  ident : block.ident ≡ q
  names : in_ranges (ranges_of block.kind) i ≡ true

data-answered : (terms : Terms) (x : Node) (t i : ℕ) (q : Text) (to back : Epr) (p : Text) → Stands x
    → find_incoming (records x) q ≡ Some t → acks_to (records x) t ≡ Some back → IsGoing (records x) t
    → i ≤ front (records x) t + window
    → HadRoom (Called (call_outcome x (received_by terms x (Ok (data_of to q i p)))))
    → IsAnswered terms x back q i (data_of to q i p)
data-answered terms x t i q to back p stands found to_back going le room =
    let m = data_of to q i p in
    let can : CanTake (records x) t i x.clock = inr (going.over x.clock, le) in
    let it = held-acked terms (records x) t i x.clock x.granted q to back p found to_back can in
    let none = no-verdict terms x m stands
    (data-verdict terms (records x) (node_end terms x) t i x.clock x.granted q to p found (going.ended x.clock) can)
    room in
    let took = takes-whole terms x m stands refl none in
    record { block = it.block; says = took.says ∙ it.says; ident = it.ident; names = it.names }

ack-ends-at : (terms : Terms) (x : Node) (s n : ℕ) (back : Epr) (block : AckBlock) → Stands x
    → find_outgoing (records x) block.ident ≡ Some s → is_invalid (records x) block ≡ false
    → in_ranges (ranges_of block.kind) n ≡ true
    → HadRoom (Called (call_outcome x (received_by terms x (Ok (ack_message back (block ∷ []))))))
    → Has (records (after x (received_by terms x (Ok (ack_message back (block ∷ [])))))) s n
ack-ends-at terms x s n back block stands named valid names_ room =
    let m = ack_message back (block ∷ []) in
    let none = no-verdict terms x m stands
    (ack-verdict terms (records x) (node_end terms x) s x.clock x.granted back block named valid) room in
    let learns = takes-whole terms x m stands refl none in
    let r = records x ++ ack_row block (records x) in
    subst (λ z. Has z s n) (sym (learns.there ∙ ack-rows terms (records x) x.clock x.granted back block))
    (has-stays r (final_row block r) s n (ack_row-has (records x) block s n named names_))

-- ---- the places of a round

deliveries : (ks : List ℕ) → AllByRecursion IsOfRound (map Deliver ks)
deliveries [] = tt
deliveries (k ∷ ks) = (tt, deliveries ks)

rounds-only : (terms : Terms) (w : World) (events : List Event) → IsFair terms w events
    → AllByRecursion IsOfRound events
rounds-only terms w events fair =
    subst (λ z. AllByRecursion IsOfRound z) (sym fair.are) (tt, (tt, deliveries fair.numbers))

-- a side's tick, before which its node is as it was
record TickAt (terms : Terms) (w : World) (events : List Event) (side : Side) (now : ℕ) : Type 0 where
  before : List Event
  behind : List Event
  are : events ≡ before ++ Tick side now ∷ behind
  same : node (run terms before w) side ≡ node w side

tick-at : (terms : Terms) (w : World) (events : List Event) (fair : IsFair terms w events) (side : Side)
    → TickAt terms w events side (moment fair side)
tick-at terms w events fair One = record {
  before = [];
  behind = Tick Two fair.two ∷ map Deliver fair.numbers;
  are = fair.are;
  same = refl;
}
tick-at terms w events fair Two = record {
  before = Tick One fair.one ∷ [];
  behind = map Deliver fair.numbers;
  are = fair.are;
  same = refl;
}

-- a packet is delivered within the round, read as it was said
record IsBrought (terms : Terms) (w : World) (events : List Event) (k : ℕ) (from : Side) (m : Message) : Type 0 where
  v : World
  within : IsWithin terms w v (run terms events w)
  next : IsWithin terms w (happens terms v (Deliver k)) (run terms events w)
  there : numbered v.packets k ≡ Some (record { from = from; message = m })
  comes : Arrival terms v k from m

brought : StaysSound → (terms : Terms) (w : World) (events : List Event) → AreTerms terms → IsSound terms w
    → BothStand w → IsFair terms w events → (k : ℕ) (from : Side) (m : Message) → length w.packets < k
    → numbered (run terms events w).packets k ≡ Some (record { from = from; message = m })
    → IsBrought terms w events k from m
brought sound_ terms w events t sound stand fair k from m above is =
    let p : Packet = record { from = from; message = m } in
    let d = fair.delivered k above (numbered-within (run terms events w).packets k p is) in
    let round = rounds-only terms w events fair in
    let v = run terms d.before w in
    let within = within-at sound_ terms w events d.before (Deliver k ∷ d.behind) t sound stand round fair.kept d.are in
    let there = numbered-shorter v.packets within.upto.packets.0 k p
    (subst (λ ps. numbered ps k ≡ Some p) within.upto.packets.1 is) d.there in
    record {
      v = v;
      within = within;
      next = within-next sound_ terms w events d.before (Deliver k) d.behind t sound stand round fair.kept d.are;
      there = there;
      comes = arrival terms v k from m there (fair.read k p above is)
          (kept-at terms w events d.before (Deliver k) d.behind fair.kept d.are)
          (room-at terms w events d.before (Deliver k) d.behind fair.room d.are);
    }

-- what is put within the round is there at its end, and was not before it
record IsNew (w : World) (u : World) (k : ℕ) (from : Side) (m : Message) : Type 0 where
  above : length w.packets < k
  is : numbered u.packets k ≡ Some (record { from = from; message = m })

put-new : (w v x u : World) (from : Side) (m : Message) (put : IsPut v x from m) → Onward w v → Onward x u
    → IsNew w u put.number from m
put-new w v x u from m put first then =
    let p : Packet = record { from = from; message = m } in
    let longer : length v.packets ≡ length w.packets + length first.packets.0 =
    ap (λ ps. length ps) first.packets.1 ∙ length-append w.packets first.packets.0 in
    record {
      above = omega (arith, longer, put.above);
      is = ap (λ ps. numbered ps put.number) then.packets.1
          ∙ numbered-longer x.packets then.packets.0 put.number p put.is;
    }

turn : (side : Side) → other (other side) ≡ side
turn One = refl
turn Two = refl

-- ---- the three parts of a round

said-in-round : StaysSound → OthersWaitOn → EachMayComeNext → (terms : Terms) (w : World) (events : List Event)
    → AreTerms terms → IsSound terms w → BothStand w → (fair : IsFair terms w events) → (side : Side) (s u i : ℕ)
    (at : IsReached w side s u) → IsDue w side s (suc i) (moment fair side)
    → (text : Text) × (k : ℕ) × IsNew w (run terms events w) k side (data_of at.to at.ident (suc i) text)
said-in-round sound_ wait_on next terms w events t sound stand fair side s u i at due =
    let now = moment fair side in
    let tk = tick-at terms w events fair side in
    let round = rounds-only terms w events fair in
    let v = run terms tk.before w in
    let first = within-at sound_ terms w events tk.before (Tick side now ∷ tk.behind) t sound stand round fair.kept
    tk.are in
    let then = within-next sound_ terms w events tk.before (Tick side now) tk.behind t sound stand round fair.kept
    tk.are in
    let emits = tick-emits wait_on next terms v side now s i at.to at.ident t first.sound then.sound
    (first.from.stand side) (kept-at terms w events tk.before (Tick side now) tk.behind fair.kept tk.are)
    (subst (λ (x : Node). peer (records x) s ≡ Some at.to) (sym tk.same) at.peer_)
    (subst (λ (x : Node). out_ident (records x) s ≡ Some at.ident) (sym tk.same) at.known) at.goes
    (subst (λ (x : Node). is_waiting (records x) (key s (suc i)) ≡ true) (sym tk.same) due.waits)
    (subst (λ (x : Node). has_key (first_due (max x.time now) x.waits) (key s (suc i))
    ≡ true) (sym tk.same) due.due) in (
      emits.text,
      emits.put.number,
      put-new w v (happens terms v (Tick side now)) (run terms events w) side
          (data_of at.to at.ident (suc i) emits.text) emits.put first.from then.upto,
    )

-- the acknowledgement that comes back
record IsSaidBack (w u : World) (from : Side) (back : Epr) (q : Text) (i : ℕ) : Type 0 where
  block : AckBlock
  k : ℕ
  ident : block.ident ≡ q
  names : in_ranges (ranges_of block.kind) i ≡ true
  new : IsNew w u k from (ack_message back (block ∷ []))

answered-in-round : StaysSound → NumbersAreFromOne → FrontIsReached → (terms : Terms) (w : World) (events : List Event)
    → AreTerms terms → IsSound terms w → BothStand w → IsFair terms w events → (side : Side) (s u i : ℕ)
    (at : IsReached w side s u) → suc i ≤ front (records (node w (other side))) u + window
    → IsOpen (records (node (run terms events w) (other side))) u
    → (text : Text) (k : ℕ) → IsNew w (run terms events w) k side (data_of at.to at.ident (suc i) text)
    → IsSaidBack w (run terms events w) (other side) at.back at.ident (suc i)
answered-in-round sound_ from reached terms w events t sound stand fair side s u i at near open_ text k new =
    let m = data_of at.to at.ident (suc i) text in
    let d = brought sound_ terms w events t sound stand fair k side m new.above new.is in
    let o = other side in
    let b = node d.v o in
    let r = records (node w o) in
    let grown = d.within.from.grown o in
    let later = d.within.upto.grown o in
    let known = sees terms w o sound in
    let here = sees terms d.v o d.within.sound in
    let found : find_incoming (records b) at.ident ≡ Some u =
    subst (λ z. find_incoming z at.ident ≡ Some u) (sym grown.1)
    (find_incoming-stays r grown.0 u known.digit at.ident (number-at w o known) at.theirs) in
    let to_back : acks_to (records b) u ≡ Some at.back =
    subst (λ z. acks_to z u ≡ Some at.back) (sym grown.1) (acks_to-stays r grown.0 u at.back at.knows) in
    let going = going-before (records b) later.0 u at.back to_back
    (subst (λ z. is_stopped z u ≡ false) later.1 open_.open_)
    (subst (λ z. deadline_of (maker z u) ≡ None) later.1 open_.forever) in
    let up : front r u ≤ front (r ++ grown.0) u =
    front-grows from reached r grown.0 u known.stands.fit
    (subst (λ z. all_fit [] z ≡ true) grown.1 here.stands.fit) in
    let near_ : suc i ≤ front (records b) u + window =
    subst (λ z. suc i ≤ front z u + window) (sym grown.1) (omega (arith, up, near)) in
    let answer = data-answered terms b u (suc i) at.ident at.to at.back text (d.within.from.stand o) found to_back
    going near_ d.comes.room in
    let ack = ack_message at.back (answer.block ∷ []) in
    let put = calls-put terms d.v o true (received_by terms b (Ok m)) (ack ∷ []) ack d.comes.kept answer.says
    (record { before = []; behind = []; are = refl }) at.comes in
    let put_ : IsPut d.v (happens terms d.v (Deliver k)) o ack =
    subst (λ z. IsPut d.v z o ack) (sym d.comes.is) put in
    record {
      block = answer.block;
      k = put_.number;
      ident = answer.ident;
      names = answer.names;
      new = put-new w d.v (happens terms d.v (Deliver k)) (run terms events w) o ack put_ d.within.from d.next.upto;
    }

learned-in-round : StaysSound → UnionHasBoth → (terms : Terms) (w : World) (events : List Event)
    → AreTerms terms → IsSound terms w → BothStand w → IsFair terms w events → (o : Side) (s i : ℕ) (q : Text)
    (back : Epr) → out_ident (records (node w (other o))) s ≡ Some q
    → find_outgoing (records (node w (other o))) q ≡ Some s → IsSaidBack w (run terms events w) o back q i
    → in_ranges (acked (records (node (run terms events w) (other o))) s) i ≡ true
learned-in-round sound_ both terms w events t sound stand fair o s i q back known mine said_ =
    let ack = ack_message back (said_.block ∷ []) in
    let end = run terms events w in
    let d = brought sound_ terms w events t sound stand fair said_.k o ack said_.new.above said_.new.is in
    let a = other o in
    let c = node d.v a in
    let grown = d.within.from.grown a in
    let r = records (node w a) in
    let known_ : out_ident (records c) s ≡ Some said_.block.ident =
    subst (λ z. out_ident z s ≡ Some said_.block.ident) (sym grown.1)
    (subst (λ z. out_ident (r ++ grown.0) s ≡ Some z) (sym said_.ident) (out_ident-stays r grown.0 s q known)) in
    let mine_ : find_outgoing (records c) said_.block.ident ≡ Some s =
    subst (λ z. find_outgoing z said_.block.ident ≡ Some s) (sym grown.1)
    (subst (λ z. find_outgoing (r ++ grown.0) z ≡ Some s) (sym said_.ident) (find_outgoing-stays r grown.0 s q mine)) in
    let there : numbered d.v.packets said_.k ≡ Some (record { from = other a; message = ack }) =
    subst (λ z. numbered d.v.packets said_.k ≡ Some (record { from = z; message = ack })) (sym (turn o)) d.there in
    let valid = not-invalid terms d.v a s said_.k back said_.block d.within.sound there known_ mine_ in
    let has = ack-ends-at terms c s i back said_.block (d.within.from.stand a) mine_ valid said_.names d.comes.room in
    let went = happens terms d.v (Deliver said_.k) in
    let has_ : Has (records (node went a)) s i =
    subst (λ z. Has (records (node z a)) s i) (sym d.comes.is)
    (subst (λ z. Has (records z) s i) (sym (calls-node terms d.v a true (received_by terms c (Ok ack)))) has) in
    let later = d.next.upto.grown a in
    let at_end : Has (records (node end a)) s i =
    subst (λ z. Has z s i) (sym later.1) (has-stays (records (node went a)) later.0 s i has_) in
    let last = sees terms end a (run-sound sound_ terms events w t sound) in
    has-is-acked both (records (node end a)) s i last.stands.fit last.stands.proper at_end

pub round-brings : StaysSound → EachMayComeNext → OthersWaitOn → NumbersAreFromOne → FrontIsReached → UnionHasBoth
    → ARoundBrings
round-brings sound_ next wait_on from reached both terms w events t sound stand fair side s u i at due near open_ =
    let new = said-in-round sound_ wait_on next terms w events t sound stand fair side s u i at due in
    let back = answered-in-round sound_ from reached terms w events t sound stand fair side s u i at near open_ new.0
    new.1 new.2 in
    let it = learned-in-round sound_ both terms w events t sound stand fair (other side) s (suc i) at.ident at.back
    (subst (λ z. out_ident (records (node w z)) s ≡ Some at.ident) (sym (turn side)) at.known)
    (subst (λ z. find_outgoing (records (node w z)) at.ident ≡ Some s) (sym (turn side)) at.mine) back in
    subst (λ z. in_ranges (acked (records (node (run terms events w) z)) s) (suc i) ≡ true) (turn side) it

-- the whole round
pub round-onward : (terms : Terms) (w : World) (events : List Event) → BothStand w → IsFair terms w events
    → Onward w (run terms events w)
round-onward terms w events stand fair =
    run-onward terms w events (rounds-only terms w events fair) stand fair.kept

-- what was acknowledged before the round is so at its end
pub round-keeps : StaysSound → UnionHasBoth → (terms : Terms) (w : World) (events : List Event) → AreTerms terms
    → IsSound terms w → BothStand w → IsFair terms w events → (side : Side) (s n : ℕ)
    → Has (records (node w side)) s n → in_ranges (acked (records (node (run terms events w) side)) s) n ≡ true
round-keeps sound_ both terms w events t sound stand fair side s n has =
    let end = run terms events w in
    let on = round-onward terms w events stand fair in
    let grown = on.grown side in
    let at_end : Has (records (node end side)) s n =
    subst (λ z. Has z s n) (sym grown.1) (has-stays (records (node w side)) grown.0 s n has) in
    let last = sees terms end side (run-sound sound_ terms events w t sound) in
    has-is-acked both (records (node end side)) s n last.stands.fit last.stands.proper at_end
