-- Fair rounds one after the other: what they make of what waits at a node, and that each key has its turn.
use Rattle.std.proofs.Common.{◌≡◌, ◌⊎◌, ℕ, zero, suc, ◌+◌, ◌-◌, ◌*◌, ◌<◌, ◌≤◌, ◌==◌, ◌||◌, max, cond}
use Rattle.std.proofs.Common.{Bool}
use Rattle.std.proofs.Common.{true, false, List, [], ◌∷◌, ◌++◌, length, map, refl, sym, ap, ◌∙◌, subst, arith}
use Rattle.std.proofs.Common.{inl}
use Rattle.std.proofs.Common.{inr, append-nil, append_assoc, length-append}
use Rattle.std.specs.Prelude.{Option, Some, None, Result, Ok, Err}
use Rattle.std.specs.List.{AllByRecursion, flat_map}
use Rattle.std.proofs.lemmas.Bool.{and_parts, eqb-true, le-leb}
use Rattle.std.proofs.lemmas.Bool.Decides.{nat_tests}
use Rattle.std.proofs.lemmas.List.Concat.{flat_map-append}
use Rattle.rm_base.specs.Limits.{window}
use Rattle.rm_base.specs.Numbered.{numbered}
use Rattle.rm_base.specs.NumberSet.{has_number}
use Rattle.rm_message.specs.declared.elements.header.AckBlock.{AckBlock}
use Rattle.rm_message.specs.declared.message.Message.{Message}
use Rattle.rm_message.specs.declared.refusal.FaultKind.{FaultKind}
use Rattle.rm_message.specs.declared.refusal.Refusal.{Refusal}
use Rattle.rm_sides.specs.Destination.Laws.{FrontIsReached}
use Rattle.rm_sides.specs.Ranges.Laws.{UnionHasBoth}
use Rattle.rm_sides.specs.Ranges.Ranges.{in_ranges}
use Rattle.timers.specs.declared.slots.timers.Key.{Key}
use Rattle.timers.specs.Keys.KeyLemmas.{same_key-is}
use Rattle.timers.specs.Keys.Waits.{Wait, begin_all, first_due, has_key, keys_of, same_key, send_all, urge_all}
use Rattle.record_batch.specs.Fact.{Fact, Dropped}
use Rattle.record_batch.specs.Snapshot.Same.{NumbersAreFromOne}
use Rattle.record_batch.specs.Sequences.Words.{last_or}
use Rattle.record_batch.specs.Sequences.GatherLemmas.{last_or-append}
use Rattle.record_batch.specs.Sequences.Makers.{makers}
use Rattle.record_batch.specs.Sequences.Sources.{accepted, accepted_count, accepted_of, acked, dropped, dropped_of}
use Rattle.record_batch.specs.Sequences.Sources.{is_sending, out_ident, phase}
use Rattle.record_batch.specs.Sequences.Destinations.{front}
use Rattle.record_batch.specs.Sequences.Find.{acks_to, find_incoming, find_outgoing, peer}
use Rattle.record_batch.specs.Sequences.Fits.{all_fit, fits, follows_at}
use Rattle.rm_protocol.specs.Calls.{Answer, expired_from, judged, tick_with, ticked}
use Rattle.rm_protocol.specs.Exact.{AreExactly, OthersWaitOn}
use Rattle.rm_protocol.specs.Next.{EachMayComeNext}
use Rattle.rm_protocol.specs.Node.{Node, after, after_by, node_end, records}
use Rattle.rm_protocol.specs.Polls.{polls}
use Rattle.rm_protocol.specs.Recorded.{OnlyHeardIsRecorded}
use Rattle.rm_protocol.specs.Sound.{IsSound}
use Rattle.rm_protocol.specs.Terms.{AreTerms, Terms}
use Rattle.rm_protocol.specs.Verdict.{has_room, verdict}
use Rattle.rm_protocol.specs.WaitLemmas.{all-wait}
use Rattle.rm_protocol.specs.Waiting.{begun_by, is_waiting, key, nacked, nacked_at, still}
use Rattle.rm_protocol.specs.World.{Deliver, Event, One, Packet, Side, Tick, Two, World, arrives, calls, happens, node}
use Rattle.rm_protocol.specs.World.{other, received_by, run, with_clock}
use Rattle.rm_arrival.specs.Fair.{BothStand, IsFair, IsKept, IsReached, moment}
use Rattle.rm_arrival.specs.Few.{AllAcked, IsDueAt, time_at}
use Rattle.rm_arrival.specs.Nodes.{Stands}
use Rattle.rm_arrival.specs.Rounds.{AreEnough, AreQuiet, NamesNoneMissing, run_rounds}
use Rattle.rm_arrival.specs.Runs.{WaitsRight}
use Rattle.rm_arrival.proofs.ArriveLemmas.{due-then}
use Rattle.rm_arrival.proofs.BringLemmas.{round-brings, round-onward, tick-waits, tick_of}
use Rattle.rm_arrival.proofs.CalmLemmas.{QuietTurn, QuietTurns}
use Rattle.rm_arrival.proofs.FewLemmas.{stood, waits-else}
use Rattle.rm_arrival.proofs.MemberLemmas.{filter-join, numbered-longer}
use Rattle.rm_arrival.proofs.OnwardLemmas.{IsOfRound, Onward, StaysSound, onward-refl, onward-then, run-join}
use Rattle.rm_arrival.proofs.OnwardLemmas.{run-onward, run-sound, step-onward}
use Rattle.rm_arrival.proofs.StayLemmas.{acks_to-stays, find_incoming-stays, find_outgoing-stays, front-grows}
use Rattle.rm_arrival.proofs.StayLemmas.{out_ident-stays, peer-stays}
use Rattle.rm_arrival.proofs.TurnLemmas.{ahead, comes-nearer, has-there, past, total, total-filter}
use Rattle.rm_arrival.proofs.ValidLemmas.{has-is-acked, number-at, sees}
use Rattle.rm_arrival.proofs.WaitLemmas.{Has, has-acked, has-stays}
use Rattle.rm_arrival.proofs.WaitsLemmas.{WaitLaws, none-begun, receive-none, run-right, tick-none}

-- ---- what is no more than filtered

-- a list of which some no longer wait, by records one after the other
abbrev pub stills : List (List Fact) → List Wait → List Wait
stills [] waits = waits
stills (r ∷ rs) waits = stills rs (still r waits)

pub record Evolved (old new : List Wait) : Type 0 where
  pub by_ : List (List Fact)
  pub are : new ≡ stills by_ old

stills-join : (rs qs : List (List Fact)) (waits : List Wait) → stills (rs ++ qs) waits ≡ stills qs (stills rs waits)
stills-join [] qs waits = refl
stills-join (r ∷ rs) qs waits = stills-join rs qs (still r waits)

evolved-then : (xs ys zs : List Wait) → Evolved xs ys → Evolved ys zs → Evolved xs zs
evolved-then xs ys zs h k = record {
  by_ = h.by_ ++ k.by_;
  are = k.are ∙ ap (λ z. stills k.by_ z) h.are ∙ sym (stills-join h.by_ k.by_ xs);
}

same-evolved : (xs : List Wait) → Evolved xs xs
same-evolved xs = record { by_ = []; are = refl }

or-either : (x y : Bool) → (x || y) ≡ true → (x ≡ true) ⊎ (y ≡ true)
or-either true y h = inl refl
or-either false y h = inr h

or-first : (x y : Bool) → x ≡ true → (x || y) ≡ true
or-first true y h = refl
or-first false y h = absurd (cc (h))

or-second : (x y : Bool) → y ≡ true → (x || y) ≡ true
or-second true y h = refl
or-second false y h = h

-- a key that is left was there, and waits by the records
record Left (r : List Fact) (waits : List Wait) (k : Key) : Type 0 where
  was : has_key (keys_of waits) k ≡ true
  waits_ : is_waiting r k ≡ true

still-left : (r : List Fact) (waits : List Wait) (k : Key) → has_key (keys_of (still r waits)) k ≡ true
    → Left r waits k
still-left r [] k h = absurd (cc (h))
still-left r (w ∷ waits) k h =
    elim (is_waiting r w.key) as (λ b. is_waiting r w.key ≡ b
    → has_key (keys_of (cond b (w ∷ still r waits) (still r waits))) k ≡ true → Left r (w ∷ waits) k) [
      | true ↦ λ e g. elim (or-either (same_key k w.key) (has_key (keys_of (still r waits)) k) g) [
        | inl is ↦ record {
          was = or-first (same_key k w.key) (has_key (keys_of waits) k) is;
          waits_ = subst (λ z. is_waiting r z ≡ true) (sym (same_key-is k w.key is)) e;
        }
        | inr is ↦ let it = still-left r waits k is in record {
          was = or-second (same_key k w.key) (has_key (keys_of waits) k) it.was;
          waits_ = it.waits_;
        }
      ]
      | false ↦ λ e g. let it = still-left r waits k g in record {
        was = or-second (same_key k w.key) (has_key (keys_of waits) k) it.was;
        waits_ = it.waits_;
      }
    ] refl h

stills-was : (rs : List (List Fact)) (waits : List Wait) (k : Key) → has_key (keys_of (stills rs waits)) k ≡ true
    → has_key (keys_of waits) k ≡ true
stills-was [] waits k h = h
stills-was (r ∷ rs) waits k h = (still-left r waits k (stills-was rs (still r waits) k h)).was

-- how much stands before the key that stands here
abbrev weight : List Wait → Wait → List Wait → ℕ
weight front_ w rest = total (ahead w.class) front_ + total (past w.class) rest

-- the key stands in the list, with at most so much before it
record Placed (waits : List Wait) (k : Key) (most : ℕ) : Type 0 where
  front_ : List Wait
  w : Wait
  rest : List Wait
  are : waits ≡ front_ ++ w ∷ rest
  is : w.key ≡ k
  few : weight front_ w rest ≤ most

stills-placed : (rs : List (List Fact)) (front_ : List Wait) (w : Wait) (rest : List Wait) (most : ℕ)
    → weight front_ w rest ≤ most → has_key (keys_of (stills rs (front_ ++ w ∷ rest))) w.key ≡ true
    → Placed (stills rs (front_ ++ w ∷ rest)) w.key most
stills-placed [] front_ w rest most few h = record {
  front_ = front_;
  w = w;
  rest = rest;
  are = refl;
  is = refl;
  few = few;
}
stills-placed (r ∷ rs) front_ w rest most few h =
    let left = still-left r (front_ ++ w ∷ rest) w.key (stills-was rs (still r (front_ ++ w ∷ rest)) w.key h) in
    let same : still r (front_ ++ w ∷ rest) ≡ still r front_ ++ w ∷ still r rest =
    filter-join (λ (x : Wait). is_waiting r x.key) front_ (w ∷ rest)
    ∙ ap (λ b. still r front_ ++ cond b (w ∷ still r rest) (still r rest)) left.waits_ in
    let one = total-filter (ahead w.class) (λ (x : Wait). is_waiting r x.key) front_ in
    let two = total-filter (past w.class) (λ (x : Wait). is_waiting r x.key) rest in
    let few_ : weight (still r front_) w (still r rest) ≤ most = omega (arith, one, two, few) in
    let it = stills-placed rs (still r front_) w (still r rest) most few_
    (subst (λ z. has_key (keys_of (stills rs z)) w.key ≡ true) same h) in
    subst (λ z. Placed (stills rs z) w.key most) (sym same) it

-- ---- a delivery without a Nack

none-at : (o : Option ℕ) → nacked_at o [] ≡ []
none-at None = refl
none-at (Some s) = refl

nacked-none : (r : List Fact) (blocks : List AckBlock) → AllByRecursion NamesNoneMissing blocks → nacked r blocks ≡ []
nacked-none r [] h = refl
nacked-none r (block ∷ blocks) h =
    ap (λ ns. nacked_at (find_outgoing r block.ident) ns ++ nacked r blocks) h.0
    ∙ ap (λ z. z ++ nacked r blocks) (none-at (find_outgoing r block.ident)) ∙ nacked-none r blocks h.1

-- an answer that moves no key, and whose records begin none
record MovesNone (x : Node) (a : Answer) : Type 0 where
  begun_ : begun_by (records x) a.delta ≡ []
  urged_ : a.moves.urged ≡ []
  emitted_ : a.moves.emitted ≡ []

-- what came is a message without a Nack, or none
abbrev IsCalm : Result Message Refusal → Type 0
IsCalm (Ok m) = AllByRecursion NamesNoneMissing m.acks
IsCalm (Err refusal) = Unit {0}

received-moves-none : OnlyHeardIsRecorded → (terms : Terms) (x : Node) (content : Result Message Refusal)
    → IsCalm content → MovesNone x (received_by terms x content)
received-moves-none law terms x (Err refused) calm = record {
  begun_ = none-begun (received_by terms x (Err refused)).delta (receive-none law terms x (Err refused)) (records x);
  urged_ = refl;
  emitted_ = refl;
}
received-moves-none law terms x (Ok m) calm = record {
  begun_ = none-begun (received_by terms x (Ok m)).delta (receive-none law terms x (Ok m)) (records x);
  urged_ = urged_by (verdict terms (records x) (node_end terms x) x.clock x.granted m);
  emitted_ = emitted_by (verdict terms (records x) (node_end terms x) x.clock x.granted m);
}
  where
    urged_by : (v : Option FaultKind)
        → (polls x.polled (Ok m) (judged terms (records x) x.clock x.granted m v)).moves.urged ≡ []
    urged_by None = nacked-none (records x) m.acks calm
    urged_by (Some kind) = refl

    emitted_by : (v : Option FaultKind)
        → (polls x.polled (Ok m) (judged terms (records x) x.clock x.granted m v)).moves.emitted ≡ []
    emitted_by None = refl
    emitted_by (Some kind) = refl

after-waits : (x : Node) (a : Answer) → Stands x → MovesNone x a
    → (after x a).waits ≡ still (records x ++ a.delta) x.waits
after-waits x a stands none =
    let time = max x.time a.moves.time in
    let left = still (records x ++ a.delta) x.waits in
    ap (λ z. (after_by x z a).waits) stands.up
    ∙ ap (λ ks. send_all time (ks ++ a.moves.emitted) (urge_all a.moves.urged (begin_all ks left))) none.begun_
    ∙ ap (λ ks. send_all time ks (urge_all a.moves.urged left)) none.emitted_
    ∙ ap (λ ks. urge_all ks left) none.urged_

calls-evolve : (terms : Terms) (u : World) (at side : Side) (connected : Bool) (a : Answer) → Stands (node u at)
    → MovesNone (node u at) a → Evolved (node u side).waits (node (calls terms u at connected a) side).waits
calls-evolve terms u One One connected a stands none = record {
  by_ = (records u.one ++ a.delta) ∷ [];
  are = after-waits u.one a stands none;
}
calls-evolve terms u One Two connected a stands none = same-evolved u.two.waits
calls-evolve terms u Two One connected a stands none = same-evolved u.one.waits
calls-evolve terms u Two Two connected a stands none = record {
  by_ = (records u.two ++ a.delta) ∷ [];
  are = after-waits u.two a stands none;
}

calm-read : (terms : Terms) (m : Message) → AreTerms terms → AllByRecursion NamesNoneMissing m.acks
    → IsCalm (terms.read m)
calm-read terms m t calm = elim (t.read m) [
  | inl ok ↦ subst IsCalm (sym ok) calm
  | inr refused ↦ subst IsCalm (sym refused.1) tt
]

arrives-evolve : OnlyHeardIsRecorded → (terms : Terms) (u : World) (side : Side) (o : Option Packet) → AreTerms terms
    → BothStand u → ((p : Packet) → o ≡ Some p → AllByRecursion NamesNoneMissing p.message.acks)
    → Evolved (node u side).waits (node (arrives terms u o) side).waits
arrives-evolve law terms u side None t stand quiet = same-evolved (node u side).waits
arrives-evolve law terms u side (Some p) t stand quiet =
    calls-evolve terms u (other p.from) side true
    (received_by terms (node u (other p.from)) (terms.read p.message)) (stand (other p.from))
    (received-moves-none law terms (node u (other p.from)) (terms.read p.message)
    (calm-read terms p.message t (quiet p refl)))

deliveries-evolve : OnlyHeardIsRecorded → (terms : Terms) (ks : List ℕ) (u : World) (side : Side) → AreTerms terms
    → BothStand u → IsKept terms u (map Deliver ks) → AreQuiet (run terms (map Deliver ks) u).packets ks
    → Evolved (node u side).waits (node (run terms (map Deliver ks) u) side).waits
deliveries-evolve law terms [] u side t stand kept quiet = same-evolved (node u side).waits
deliveries-evolve law terms (k ∷ ks) u side t stand kept quiet =
    let next = happens terms u (Deliver k) in
    let one = step-onward terms u (Deliver k) tt stand kept.0 in
    let all = run-onward terms u (map Deliver (k ∷ ks)) (deliveries (k ∷ ks)) stand kept in
    let here : (p : Packet) → numbered u.packets k ≡ Some p → AllByRecursion NamesNoneMissing p.message.acks =
    λ p e. quiet k p (or-first (k == k) (has_number ks k) (same k))
    (ap (λ ps. numbered ps k) all.packets.1 ∙ numbered-longer u.packets all.packets.0 k p e) in
    evolved-then (node u side).waits (node next side).waits (node (run terms (map Deliver ks) next) side).waits
    (arrives-evolve law terms u side (numbered u.packets k) t stand here)
    (deliveries-evolve law terms ks next side t one.stand kept.1
    (λ j p has e. quiet j p (or-second (k == j) (has_number ks j) has) e))
  where
    same : (n : ℕ) → (n == n) ≡ true
    same n = grind (arith, nat_tests)

    deliveries : (js : List ℕ) → AllByRecursion IsOfRound (map Deliver js)
    deliveries [] = tt
    deliveries (j ∷ js) = (tt, deliveries js)

-- ---- a tick

tick-emitted : (terms : Terms) (r : List Fact) (end now : ℕ) (keys : List Key)
    → (tick_with terms r end now keys).moves.emitted ≡ keys
tick-emitted terms r end now keys =
    let gone = expired_from r now 0 (makers r) in
    elim (has_room terms end gone) as (λ b. (cond b (ticked r now keys gone) (ticked r now keys [])).moves.emitted
    ≡ keys) [ true ↦ refl | false ↦ refl ]

tick-urged : (terms : Terms) (r : List Fact) (end now : ℕ) (keys : List Key)
    → (tick_with terms r end now keys).moves.urged ≡ []
tick-urged terms r end now keys =
    let gone = expired_from r now 0 (makers r) in
    elim (has_room terms end gone) as (λ b. (cond b (ticked r now keys gone) (ticked r now keys [])).moves.urged
    ≡ []) [ true ↦ refl | false ↦ refl ]

all-still : (r : List Fact) (waits : List Wait) → AllByRecursion (λ (w : Wait). is_waiting r w.key ≡ true) waits
    → still r waits ≡ waits
all-still r [] h = refl
all-still r (w ∷ waits) h =
    ap (λ b. cond b (w ∷ still r waits) (still r waits)) h.0 ∙ ap (λ z. w ∷ z) (all-still r waits h.1)

wait-on-all : OthersWaitOn → EachMayComeNext → (terms : Terms) (r : List Fact) (end now : ℕ) (keys : List Key)
    → AreTerms terms → all_fit [] r ≡ true → (waits : List Wait)
    → AllByRecursion (λ (w : Wait). is_waiting r w.key ≡ true) waits
    → AllByRecursion (λ (w : Wait). is_waiting (r ++ (tick_with terms r end now keys).delta) w.key ≡ true) waits
wait-on-all wait_on next terms r end now keys t fit [] h = tt
wait-on-all wait_on next terms r end now keys t fit (w ∷ waits) h = (
  tick-waits wait_on next terms r end now w.key.seq w.key.number keys t fit h.0,
  wait-on-all wait_on next terms r end now keys t fit waits h.1,
)

-- what a tick makes of what waits
record TickMoves (x : Node) (now : ℕ) (new : List Wait) : Type 0 where
  time : ℕ
  are : new ≡ send_all time (first_due (max x.time now) x.waits) x.waits

tick-moves : OthersWaitOn → EachMayComeNext → (terms : Terms) (x : Node) (now : ℕ) → AreTerms terms
    → all_fit [] (records x) ≡ true → Stands x → AreExactly (records x) x.waits
    → TickMoves x now (after (with_clock x now) (tick_of terms x now)).waits
tick-moves wait_on next terms x now t fit stands exact =
    let y = with_clock x now in
    let r = records x in
    let keys = first_due (max x.time now) x.waits in
    let a = tick_with terms r (node_end terms x) now keys in
    let time = max x.time a.moves.time in
    let none : begun_by r a.delta ≡ [] =
    none-begun a.delta (tick-none terms r (node_end terms x) now keys) r in
    let left : still (r ++ a.delta) x.waits ≡ x.waits =
    all-still (r ++ a.delta) x.waits
    (wait-on-all wait_on next terms r (node_end terms x) now keys t fit x.waits (all-wait r x.waits exact)) in
    record {
      time = time;
      are = ap (λ z. (after_by y z a).waits) stands.up
          ∙ ap (λ ks. send_all time (ks ++ a.moves.emitted)
          (urge_all a.moves.urged (begin_all ks (still (r ++ a.delta) x.waits)))) none
          ∙ ap (λ ks. send_all time ks (urge_all a.moves.urged (still (r ++ a.delta) x.waits)))
          (tick-emitted terms r (node_end terms x) now keys)
          ∙ ap (λ ks. send_all time keys (urge_all ks (still (r ++ a.delta) x.waits)))
          (tick-urged terms r (node_end terms x) now keys)
          ∙ ap (λ z. send_all time keys z) left;
    }

-- ---- a round

two-ticks : (terms : Terms) (w : World) (one two : ℕ) (side : Side) (now : ℕ)
    → now ≡ (elim side [ One ↦ one | Two ↦ two ])
    → node (happens terms (happens terms w (Tick One one)) (Tick Two two)) side
    ≡ after (with_clock (node w side) now) (tick_of terms (node w side) now)
two-ticks terms w one two One now e = ap (λ n. after (with_clock w.one n) (tick_of terms w.one n)) (sym e)
two-ticks terms w one two Two now e = ap (λ n. after (with_clock w.two n) (tick_of terms w.two n)) (sym e)

moment-is : (terms : Terms) (w : World) (events : List Event) (fair : IsFair terms w events) (side : Side)
    → moment fair side ≡ (elim side [ One ↦ fair.one | Two ↦ fair.two ])
moment-is terms w events fair One = refl
moment-is terms w events fair Two = refl

-- what waits after a round: what its tick left, but what no longer waits
pub record RoundMoves (w v : World) (side : Side) (now : ℕ) : Type 0 where
  pub time : ℕ
  pub evolved : Evolved (send_all time (first_due (time_at (node w side) now) (node w side).waits) (node w side).waits)
      (node v side).waits

pub round-moves : OnlyHeardIsRecorded → OthersWaitOn → EachMayComeNext → (terms : Terms) (w : World)
    (events : List Event) → AreTerms terms → IsSound terms w → BothStand w → (fair : IsFair terms w events)
    → AreQuiet (run terms events w).packets fair.numbers → (side : Side)
    → AreExactly (records (node w side)) (node w side).waits
    → RoundMoves w (run terms events w) side (moment fair side)
round-moves law wait_on next terms w events t sound stand fair quiet side exact =
    let ticks = Tick One fair.one ∷ Tick Two fair.two ∷ [] in
    let u = run terms ticks w in
    let kept : IsKept terms w (ticks ++ map Deliver fair.numbers) =
    subst (λ z. IsKept terms w z) fair.are fair.kept in
    let same : run terms events w ≡ run terms (map Deliver fair.numbers) u = ap (λ z. run terms z w) fair.are in
    let up : BothStand u = (run-onward terms w ticks (tt, (tt, tt)) stand (kept.0, (kept.1.0, tt))).stand in
    let now = moment fair side in
    let moves = tick-moves wait_on next terms (node w side) now t (sees terms w side sound).stands.fit (stand side)
    exact in
    let there : (node u side).waits ≡ (after (with_clock (node w side) now) (tick_of terms (node w side) now)).waits =
    ap (λ (x : Node). x.waits) (two-ticks terms w fair.one fair.two side now (moment-is terms w events fair side)) in
    let quiet_ : AreQuiet (run terms (map Deliver fair.numbers) u).packets fair.numbers =
    subst (λ (z : World). AreQuiet z.packets fair.numbers) same quiet in
    let rest = deliveries-evolve law terms fair.numbers u side t up kept.1.1 quiet_ in
    record {
      time = moves.time;
      evolved = record {
        by_ = rest.by_;
        are = ap (λ (z : World). (node z side).waits) same ∙ rest.are ∙ ap (λ z. stills rest.by_ z) (there ∙ moves.are);
      };
    }

-- ---- what stays from round to round

count-one : (r : List Fact) (f : Fact) (s : ℕ) → fits r f ≡ true → accepted_count r s ≤ accepted_count (r ++ f ∷ []) s
count-one r f s fit = by_fact f fit
  where
    gathered : (g : Fact) → accepted_count (r ++ g ∷ []) s
        ≡ last_or (dropped r s) (dropped_of s g) + length (accepted r s ++ accepted_of s g)
    gathered g =
        ap (λ z. last_or 0 z + length (accepted (r ++ g ∷ []) s))
        (flat_map-append (dropped_of s) r (g ∷ [])
        ∙ ap (λ z. flat_map (dropped_of s) r ++ z) (append-nil (dropped_of s g)))
        ∙ ap (λ n. n + length (accepted (r ++ g ∷ []) s))
        (last_or-append 0 (flat_map (dropped_of s) r) (dropped_of s g))
        ∙ ap (λ z. last_or (dropped r s) (dropped_of s g) + length z)
        (flat_map-append (accepted_of s) r (g ∷ [])
        ∙ ap (λ z. accepted r s ++ z) (append-nil (accepted_of s g)))

    longer : (g : Fact) → length (accepted r s ++ accepted_of s g) ≡ length (accepted r s) + length (accepted_of s g)
    longer g = length-append (accepted r s) (accepted_of s g)

    kept : (g : Fact) → last_or (dropped r s) (dropped_of s g) ≡ dropped r s
        → accepted_count r s ≤ accepted_count (r ++ g ∷ []) s
    kept g e = let one = gathered g in let two = longer g in omega (arith, one, two, e)

    none_yet : (seq upto : ℕ) → fits r (Dropped seq upto) ≡ true → (seq == s) ≡ true
        → accepted_count r s ≤ accepted_count (r ++ Dropped seq upto ∷ []) s
    none_yet seq upto h e =
        let zero_ : (accepted_count r seq == 0) ≡ true =
        (and_parts (accepted_count r seq == 0) _ (and_parts (follows_at r seq (Dropped seq upto)) _ h).1).0 in
        let is : accepted_count r seq ≡ 0 = eqb-true (accepted_count r seq) 0 zero_ in
        let here : accepted_count r s ≡ 0 = subst (λ n. accepted_count r n ≡ 0) (eqb-true seq s e) is in
        omega (arith, here)

    by_fact : (g : Fact) → fits r g ≡ true → accepted_count r s ≤ accepted_count (r ++ g ∷ []) s
    by_fact (Dropped seq upto) h =
        elim (seq == s) as (λ b. (seq == s) ≡ b → accepted_count r s ≤ accepted_count (r ++ Dropped seq upto ∷ []) s) [
          | true ↦ λ e. none_yet seq upto h e
          | false ↦ λ e. kept (Dropped seq upto) (ap (λ b. last_or (dropped r s) (cond b (upto ∷ []) [])) e)
        ] refl
    by_fact g h = kept g refl

count-grows : (r d : List Fact) (s : ℕ) → all_fit r d ≡ true → accepted_count r s ≤ accepted_count (r ++ d) s
count-grows r [] s fit = subst (λ z. accepted_count r s ≤ accepted_count z s) (sym (append-nil r)) (omega arith)
count-grows r (f ∷ d) s fit =
    let parts = and_parts (fits r f) (all_fit (r ++ f ∷ []) d) fit in
    let one = count-one r f s parts.0 in
    let rest = count-grows (r ++ f ∷ []) d s parts.1 in
    let same : (r ++ f ∷ []) ++ d ≡ r ++ f ∷ d = append_assoc r (f ∷ []) d in
    subst (λ z. accepted_count r s ≤ accepted_count z s) same (omega (arith, one, rest))

pub reached-stays : (terms : Terms) (w v : World) (side : Side) (s u : ℕ) → IsSound terms w → Onward w v
    → IsReached w side s u → IsReached v side s u
reached-stays terms w v side s u sound on at =
    let a = records (node w side) in
    let b = records (node w (other side)) in
    let mine = on.grown side in
    let theirs = on.grown (other side) in
    let known = sees terms w (other side) sound in
    record {
      ident = at.ident;
      known = subst (λ r. out_ident r s ≡ Some at.ident) (sym mine.1) (out_ident-stays a mine.0 s at.ident at.known);
      mine = subst (λ r. find_outgoing r at.ident ≡ Some s) (sym mine.1)
          (find_outgoing-stays a mine.0 s at.ident at.mine);
      theirs = subst (λ r. find_incoming r at.ident ≡ Some u) (sym theirs.1)
          (find_incoming-stays b theirs.0 u known.digit at.ident (number-at w (other side) known) at.theirs);
      to = at.to;
      peer_ = subst (λ r. peer r s ≡ Some at.to) (sym mine.1) (peer-stays a mine.0 s at.to at.peer_);
      goes = at.goes;
      back = at.back;
      knows = subst (λ r. acks_to r u ≡ Some at.back) (sym theirs.1) (acks_to-stays b theirs.0 u at.back at.knows);
      comes = at.comes;
    }

front-later : NumbersAreFromOne → FrontIsReached → (terms : Terms) (w v : World) (side : Side) (u : ℕ)
    → IsSound terms w → IsSound terms v → Onward w v → front (records (node w side)) u ≤ front (records (node v side)) u
front-later from reached terms w v side u sound later on =
    let grown = on.grown side in
    let r = records (node w side) in
    subst (λ z. front r u ≤ front z u) (sym grown.1)
    (front-grows from reached r grown.0 u (sees terms w side sound).stands.fit
    (subst (λ z. all_fit [] z ≡ true) grown.1 (sees terms v side later).stands.fit))

fit-behind : (r d e : List Fact) → all_fit r (d ++ e) ≡ true → all_fit (r ++ d) e ≡ true
fit-behind r [] e h = subst (λ z. all_fit z e ≡ true) (sym (append-nil r)) h
fit-behind r (f ∷ d) e h =
    subst (λ z. all_fit z e ≡ true) (append_assoc r (f ∷ []) d)
    (fit-behind (r ++ f ∷ []) d e (and_parts (fits r f) (all_fit (r ++ f ∷ []) (d ++ e)) h).1)

pub count-later : (terms : Terms) (w v : World) (side : Side) (s : ℕ) → IsSound terms v → Onward w v
    → accepted_count (records (node w side)) s ≤ accepted_count (records (node v side)) s
count-later terms w v side s later on =
    let grown = on.grown side in
    let r = records (node w side) in
    let fit : all_fit r grown.0 ≡ true =
    fit-behind [] r grown.0 (subst (λ z. all_fit [] z ≡ true) grown.1 (sees terms v side later).stands.fit) in
    subst (λ z. accepted_count r s ≤ accepted_count z s) (sym grown.1) (count-grows r grown.0 s fit)

-- ---- each key has its turn

-- the laws that all of it stands on
pub record RoundLaws : Type 0 where
  pub waits : WaitLaws
  pub sound : StaysSound
  pub next : EachMayComeNext
  pub wait_on : OthersWaitOn
  pub from : NumbersAreFromOne
  pub reached : FrontIsReached
  pub both : UnionHasBoth

-- what is known of the world before a round
record Before (terms : Terms) (w : World) (side : Side) (s u i : ℕ) : Type 0 where
  sound : IsSound terms w
  stand : BothStand w
  right : (at : Side) → WaitsRight (node w at)
  at : IsReached w side s u
  below : suc i ≤ accepted_count (records (node w side)) s
  near : suc i ≤ front (records (node w (other side))) u + window

before-next : RoundLaws → (terms : Terms) (w : World) (round : List Event) (side : Side) (s u i : ℕ) → AreTerms terms
    → Before terms w side s u i → IsFair terms w round → Before terms (run terms round w) side s u i
before-next laws terms w round side s u i t it fair =
    let v = run terms round w in
    let on = round-onward terms w round it.stand fair in
    let later = run-sound laws.sound terms round w t it.sound in
    let up = front-later laws.from laws.reached terms w v (other side) u it.sound later on in
    let more = count-later terms w v side s later on in
    let below = it.below in
    let near = it.near in
    record {
      sound = later;
      stand = on.stand;
      right = run-right laws.waits laws.sound terms round w t it.sound it.right;
      at = reached-stays terms w v side s u it.sound on it.at;
      below = omega (arith, below, more);
      near = omega (arith, near, up);
    }

has-then : RoundLaws → (terms : Terms) (w : World) (round : List Event) (side : Side) (s n : ℕ) → BothStand w
    → IsFair terms w round → Has (records (node w side)) s n → Has (records (node (run terms round w) side)) s n
has-then laws terms w round side s n stand fair has =
    let grown = (round-onward terms w round stand fair).grown side in
    subst (λ z. Has z s n) (sym grown.1) (has-stays (records (node w side)) grown.0 s n has)

-- a key whose turn did not come: 64 stood before it, and at the end of the round so many fewer do
record TurnPassed (w v : World) (side : Side) (s i most : ℕ) : Type 0 where
  heavy : 64 ≤ most
  way : is_sending (phase (records (node v side)) s) ≡ true
      → (Has (records (node v side)) s (suc i)) ⊎ Placed (node v side).waits (key s (suc i)) (most - 64)

turn-nearer : RoundLaws → (terms : Terms) (w : World) (round : List Event) (side : Side) (s u i most : ℕ)
    → AreTerms terms → Before terms w side s u i → (turn : QuietTurn terms w round side s u)
    → Placed (node w side).waits (key s (suc i)) most
    → has_key (first_due (time_at (node w side) (moment turn.fair side)) (node w side).waits) (key s (suc i)) ≡ false
    → TurnPassed w (run terms round w) side s i most
turn-nearer laws terms w round side s u i most t it turn place off =
    let v = run terms round w in
    let now = moment turn.fair side in
    let k = key s (suc i) in
    let later = before-next laws terms w round side s u i t it turn.fair in
    let x = node w side in
    let all : AllByRecursion (IsDueAt (time_at x now)) x.waits =
    due-then x.time (time_at x now) x.waits (let late = turn.late in omega (arith, late)) (it.right side).timely in
    let own = due-of (time_at x now) place.front_ place.w place.rest
    (subst (λ z. AllByRecursion (IsDueAt (time_at x now)) z) place.are all) in
    let off_ : has_key (first_due (time_at x now) (place.front_ ++ place.w ∷ place.rest)) place.w.key ≡ false =
    subst (λ z. has_key (first_due (time_at x now) z) place.w.key ≡ false) place.are
    (subst (λ z. has_key (first_due (time_at x now) x.waits) z ≡ false) (sym place.is) off) in
    let moves = round-moves laws.waits.heard laws.wait_on laws.next terms w round t it.sound it.stand turn.fair
    turn.quiet side ((it.right side).exact (it.stand side).up) in
    let nearer = comes-nearer moves.time (time_at x now) place.front_ place.w place.rest own.class_
    (le-leb place.w.due (time_at x now) own.due) off_ in
    let less = nearer.less in
    let few = place.few in
    let few_ : weight nearer.front_ place.w nearer.rest_ ≤ most - 64 = omega (arith, less, few) in
    let then : (node v side).waits ≡ stills moves.evolved.by_ (nearer.front_ ++ place.w ∷ nearer.rest_) =
    moves.evolved.are
    ∙ ap (λ z. stills moves.evolved.by_ (send_all moves.time (first_due (time_at x now) z) z)) place.are
    ∙ ap (λ z. stills moves.evolved.by_ z) nearer.are in
    record {
      heavy = omega (arith, less, few);
      way = λ sends. elim (waits-else (records (node v side)) s i later.at.to later.at.peer_ sends later.below) [
        | inl has ↦ inl has
        | inr waits ↦
            let there : has_key (keys_of (node v side).waits) k ≡ true =
            (later.right side).exact (later.stand side).up k ∙ waits in
            let there_ : has_key (keys_of (stills moves.evolved.by_ (nearer.front_ ++ place.w ∷ nearer.rest_)))
            place.w.key ≡ true =
            subst (λ z. has_key (keys_of (stills moves.evolved.by_ (nearer.front_ ++ place.w ∷ nearer.rest_))) z
            ≡ true) (sym place.is) (subst (λ z. has_key (keys_of z) k ≡ true) then there) in
            let placed = stills-placed moves.evolved.by_ nearer.front_ place.w nearer.rest_ (most - 64) few_ there_ in
            inr (subst (λ z. Placed z k (most - 64)) (sym then)
            (subst (λ z. Placed (stills moves.evolved.by_ (nearer.front_ ++ place.w ∷ nearer.rest_)) z (most - 64))
            place.is placed))
      ];
    }
  where
    due-of : (now : ℕ) (xs : List Wait) (w : Wait) (ys : List Wait) → AllByRecursion (IsDueAt now) (xs ++ w ∷ ys)
        → IsDueAt now w
    due-of now [] w ys h = h.0
    due-of now (x ∷ xs) w ys h = due-of now xs w ys h.1

-- whether the key is among them
either-way : (ks : List Key) (k : Key) → (has_key ks k ≡ true) ⊎ (has_key ks k ≡ false)
either-way ks k = elim (has_key ks k) as (λ b. has_key ks k ≡ b → (has_key ks k ≡ true) ⊎ (has_key ks k ≡ false)) [
  | true ↦ λ e. inl e
  | false ↦ λ e. inr e
] refl

-- the key stands in the list, and what stands before it has its turn in so many rounds
record Waited (waits : List Wait) (k : Key) (rounds : ℕ) : Type 0 where
  most : ℕ
  enough : most < 64 * rounds
  place : Placed waits k most

-- the number is acknowledged, or its key has its turn in so many rounds
abbrev IsUnderWay : World → Side → ℕ → ℕ → ℕ → Type 0
IsUnderWay w side s i rounds =
    (Has (records (node w side)) s (suc i)) ⊎ Waited (node w side).waits (key s (suc i)) rounds

way-on : (terms : Terms) (rounds : List (List Event)) (w v : World) (side : Side) (s u i most : ℕ)
    → QuietTurns terms v side s u rounds → most < 64 * suc (length rounds) → TurnPassed w v side s i most
    → IsUnderWay v side s i (length rounds)
way-on terms [] w v side s u i most turns enough passed =
    absurd (let heavy = passed.heavy in omega (arith, enough, heavy))
way-on terms (round ∷ rounds) w v side s u i most turns enough passed = elim (passed.way turns.0.sends) [
  | inl has ↦ inl has
  | inr place ↦
      let heavy = passed.heavy in
      inr (record { most = most - 64; enough = omega (arith, enough, heavy); place = place })
]

-- a key that stands in the list waits by the records
placed-waits : (x : Node) (k : Key) (most : ℕ) → AreExactly (records x) x.waits → Placed x.waits k most
    → is_waiting (records x) k ≡ true
placed-waits x k most exact place =
    sym (exact k)
    ∙ ap (λ z. has_key (keys_of z) k) place.are
    ∙ subst (λ z. has_key (keys_of (place.front_ ++ place.w ∷ place.rest)) z ≡ true) place.is
    (has-there place.front_ place.rest place.w)

in-turn : RoundLaws → (terms : Terms) (rounds : List (List Event)) (w : World) (side : Side) (s u i : ℕ)
    → AreTerms terms → Before terms w side s u i → QuietTurns terms w side s u rounds
    → IsUnderWay w side s i (length rounds)
    → in_ranges (acked (records (node (run_rounds terms rounds w) side)) s) (suc i) ≡ true
in-turn laws terms [] w side s u i t it turns (inl has) =
    let last = sees terms w side it.sound in
    has-is-acked laws.both (records (node w side)) s (suc i) last.stands.fit last.stands.proper has
in-turn laws terms [] w side s u i t it turns (inr waited) =
    absurd (let enough = waited.enough in omega (arith, enough))
in-turn laws terms (round ∷ rounds) w side s u i t it turns (inl has) =
    in-turn laws terms rounds (run terms round w) side s u i t
    (before-next laws terms w round side s u i t it turns.0.fair) turns.1
    (inl (has-then laws terms w round side s (suc i) it.stand turns.0.fair has))
in-turn laws terms (round ∷ rounds) w side s u i t it turns (inr waited) =
    let x = node w side in
    let v = run terms round w in
    let turn = turns.0 in
    let now = time_at x (moment turn.fair side) in
    in-turn laws terms rounds v side s u i t (before-next laws terms w round side s u i t it turn.fair) turns.1
    (elim (either-way (first_due now x.waits) (key s (suc i))) [
      | inl among ↦
          let waits = placed-waits x (key s (suc i)) waited.most ((it.right side).exact (it.stand side).up)
          waited.place in
          inl (has-acked (records (node v side)) s (suc i)
          (round-brings laws.sound laws.next laws.wait_on laws.from laws.reached laws.both terms w round t it.sound
          it.stand turn.fair side s u i it.at (record { waits = waits; due = among }) it.near turn.open_))
      | inr off ↦ way-on terms rounds w v side s u i waited.most turns.1 waited.enough
          (turn-nearer laws terms w round side s u i waited.most t it turn waited.place off)
    ])

-- ---- at first

ahead-most : (c d : ℕ) → c ≤ 6 → (c - d) + cond (d == c) 1 0 ≤ 6
ahead-most c d le = grind (arith, nat_tests, le)

total-ahead : (c : ℕ) (xs : List Wait) → c ≤ 6 → total (ahead c) xs ≤ 6 * length xs
total-ahead c [] le = omega arith
total-ahead c (x ∷ xs) le =
    let rest = total-ahead c xs le in
    let here = ahead-most c x.class le in
    omega (arith, rest, here)

total-past : (c : ℕ) (xs : List Wait) → c ≤ 6 → total (past c) xs ≤ 6 * length xs
total-past c [] le = omega arith
total-past c (x ∷ xs) le = let rest = total-past c xs le in omega (arith, rest, le)

placed-at-first : (x : Node) (k : Key) → WaitsRight x → has_key (keys_of x.waits) k ≡ true
    → Placed x.waits k (6 * (length x.waits - 1))
placed-at-first x k right has =
    let it = stood (x.time + 64000) k x.waits
    (due-then x.time (x.time + 64000) x.waits (omega arith) right.timely) has in
    let class_ = it.due.class_ in
    let one = total-ahead it.w.class it.before class_ in
    let two = total-past it.w.class it.behind class_ in
    let count : length x.waits ≡ length it.before + suc (length it.behind) =
    ap (λ z. length z) it.are ∙ length-append it.before (it.w ∷ it.behind) in
    record {
      front_ = it.before;
      w = it.w;
      rest = it.behind;
      are = it.are;
      is = it.is;
      few = omega (arith, one, two, count);
    }

pub each-in-turn : RoundLaws → (terms : Terms) (w : World) (rounds : List (List Event)) → AreTerms terms
    → IsSound terms w → BothStand w → ((side : Side) → WaitsRight (node w side)) → (side : Side) (s u : ℕ)
    → IsReached w side s u → QuietTurns terms w side s u rounds
    → AreEnough (length (node w side).waits) (length rounds)
    → (n : ℕ) → n ≤ accepted_count (records (node w side)) s
    → n ≤ front (records (node w (other side))) u + window → AllAcked (run_rounds terms rounds w) side s n
each-in-turn laws terms w [] t sound stand right side s u at turns enough n less near i above le =
    absurd (omega (arith, enough))
each-in-turn laws terms w (round ∷ rounds) t sound stand right side s u at turns enough n less near zero above le =
    absurd (omega (arith, above))
each-in-turn laws terms w (round ∷ rounds) t sound stand right side s u at turns enough n less near (suc i) above
    le =
    let it : Before terms w side s u i = record {
      sound = sound;
      stand = stand;
      right = right;
      at = at;
      below = omega (arith, le, less);
      near = omega (arith, le, near);
    } in
    let x = node w side in
    let way : IsUnderWay w side s i (suc (length rounds)) =
    elim (waits-else (records x) s i at.to at.peer_ turns.0.sends it.below) [
      | inl has ↦ inl has
      | inr waits ↦ inr (record {
        most = 6 * (length x.waits - 1);
        enough = enough;
        place = placed-at-first x (key s (suc i)) (right side)
            ((right side).exact (stand side).up (key s (suc i)) ∙ waits);
      })
    ] in
    in-turn laws terms (round ∷ rounds) w side s u i t it turns way

-- both nodes stand behind the rounds too, and their records are longer
pub rounds-onward : RoundLaws → (terms : Terms) (rounds : List (List Event)) (w : World) (side : Side) (s u : ℕ)
    → BothStand w → QuietTurns terms w side s u rounds → Onward w (run_rounds terms rounds w)
rounds-onward laws terms [] w side s u stand turns = onward-refl w stand
rounds-onward laws terms (round ∷ rounds) w side s u stand turns =
    let on = round-onward terms w round stand turns.0.fair in
    onward-then w (run terms round w) (run_rounds terms rounds (run terms round w)) on
    (rounds-onward laws terms rounds (run terms round w) side s u on.stand turns.1)

-- the lines of all rounds
abbrev pub all_lines : List (List Event) → List Event
all_lines [] = []
all_lines (round ∷ rounds) = round ++ all_lines rounds

pub rounds-are : (terms : Terms) (rounds : List (List Event)) (w : World)
    → run_rounds terms rounds w ≡ run terms (all_lines rounds) w
rounds-are terms [] w = refl
rounds-are terms (round ∷ rounds) w =
    rounds-are terms rounds (run terms round w) ∙ sym (run-join terms round (all_lines rounds) w)
