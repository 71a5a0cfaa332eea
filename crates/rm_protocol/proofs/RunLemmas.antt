-- Each line of a script keeps the world sound.
use Rattle.std.proofs.Common.{◌≡◌, ℕ, ◌+◌, ◌^◌, ◌<◌, ◌≤◌, cond, Bool, true, false, List, [], ◌∷◌, ◌++◌, length}
use Rattle.std.proofs.Common.{refl, sym, ap}
use Rattle.std.proofs.Common.{max, ◌∙◌, ◌⊎◌, inl, inr, arith, subst, append-nil, length-append}
use Rattle.std.specs.Prelude.{Option, Some, None, IfSome}
use Rattle.std.specs.List.{AllByRecursion, flat_map}
use Rattle.std.proofs.lemmas.Bool.Decides.{nat_tests}
use Rattle.std.proofs.lemmas.List.Concat.{flat_map-append}
use Rattle.rm_base.specs.Limits.{journal_bytes}
use Rattle.rm_base.specs.Numbered.{numbered}
use Rattle.rm_message.specs.declared.message.Message.{Message}
use Rattle.record_batch.specs.Fact.{Fact, Made}
use Rattle.record_batch.specs.Snapshot.Same.{HasProper}
use Rattle.rm_base.specs.declared.message.Payload.{Payload}
use Rattle.record_batch.specs.Sequences.Destinations.{received}
use Rattle.record_batch.specs.Sequences.Words.{Text}
use Rattle.record_batch.specs.Sequences.Makers.{makers, makers_of, draws_of, counter}
use Rattle.rm_protocol.specs.Sound.{Says, IsWith, Owns, Agree, Allows, AreWith, StandFor}
use Rattle.std.specs.Prelude.{Result, Ok, Err}
use Rattle.rm_message.specs.declared.refusal.Refusal.{Refusal}
use Rattle.rm_protocol.specs.Calls.{Answer, create, send, close, end, tick, ask_ack, nack_missing, receive}
use Rattle.rm_protocol.specs.Calls.{consume}
use Rattle.rm_protocol.specs.Next.{AddsNext, IsReadable}
use Rattle.timers.specs.Keys.Waits.{first_due}
use Rattle.record_batch.specs.Sequences.Fits.{all_fit}
use Rattle.rm_protocol.specs.Compact.{compacted, compacted_by, fresh_start, may_compact, rewritten, stops_compacting}
use Rattle.rm_protocol.specs.Compact.{with_list}
use Rattle.rm_protocol.specs.Node.{Node, State, Up, Writing, Compacting, records, records_in, end_of, fresh_entries}
use Rattle.rm_protocol.specs.Node.{node_end, is_short, entries_left, start_left}
use Rattle.rm_protocol.specs.Node.{whole_left, mounted, with_batch, goes_down, written, after_by, after, said_with}
use Rattle.rm_protocol.specs.Node.{armed, said_by, said_after, with_moves, with_polled, fetched_after, fetched_by}
use Rattle.rm_protocol.specs.Node.{fetched_message, polled_with}
use Rattle.rm_protocol.specs.Waiting.{mounted_waits}
use Rattle.rm_protocol.specs.Said.{sent_of, leaves}
use Rattle.rm_protocol.specs.Addresses.{place_of}
use Rattle.rm_protocol.specs.Sound.{AllowsState, AreSaid, IsBounded, SaysPacket, IsSoundNode, IsSound}
use Rattle.timers.specs.Pending.Waiting.{Waiting, nothing_waits}
use Rattle.rm_protocol.specs.Polls.{poll, polled_after}
use Rattle.rm_protocol.proofs.FetchedLemmas.{AreSaid-grows, polled_after-said, poll-right, polls-right}
use Rattle.rm_protocol.specs.Terms.{Terms, AreTerms}
use Rattle.rm_protocol.specs.Verdict.{has_room}
use Rattle.rm_protocol.specs.World.{messages_in, puts, World, Packet, Side, One, Two, other, node, place, with_node}
use Rattle.rm_protocol.specs.World.{Event, Create, Grant, Send, Tick, Deliver, Close, End, Ask, Nack, Arm, Crash, Noise}
use Rattle.rm_protocol.specs.World.{Poll, Compact, Consume, sent}
use Rattle.rm_protocol.specs.World.{calls, received_by, arrives, wish_of, with_clock, happens, run, made, start}
use Rattle.rm_protocol.specs.World.{AreMade}
use Rattle.rm_protocol.proofs.ListLemmas.{All-weaker, All-append, All-filter, All-numbered, All-push}
use Rattle.rm_protocol.proofs.Growth.{Grows, Grows-same, IsWith-grows, Says-grows, Allows-grows}
use Rattle.rm_protocol.proofs.Adds.{Agree-swap, Agree-adds, Grows-adds}
use Rattle.rm_protocol.proofs.Kept.{Keeps-adds, Keeps-made}
use Rattle.rm_protocol.proofs.FreshLemmas.{SnapshotLaws, allows-proper, fresh-below, fresh-HasPlace, fresh-stands}
use Rattle.rm_protocol.specs.Consumed.{GoesOn, StaysConsumed}
use Rattle.rm_protocol.proofs.ConsumedLemmas.{goes-on-adds, goes-on-self, goes-on-then}
use Rattle.rm_protocol.proofs.CallLemmas.{IsFew, IsRight, SaysContent, create-right, send-right, close-right, end-right}
use Rattle.rm_protocol.proofs.CallLemmas.{tick-right, receive-right, ask_ack-right, nack_missing-right, consume-right}
use Rattle.rm_protocol.proofs.FitCalls.{adds-next}
use Rattle.rm_protocol.proofs.FitLemmas.{all_fit-append}
use Rattle.rm_protocol.proofs.HeadlineLemmas.{IsNumbered, between-all, received-numbered}
use Rattle.rm_protocol.proofs.NumberLemmas.{says-numbers, whole-few}

pub number_of : Side → ℕ
number_of One = 1
number_of Two = 2

-- what a side sees of a sound world
pub agree_at : (terms : Terms) (w : World) (side : Side) → IsSound terms w
    → Agree (number_of side) (number_of (other side)) (node w side).whole (node w (other side)).whole
unfolding number_of
agree_at terms w One h = h.agree
agree_at terms w Two h = Agree-swap 1 2 w.one.whole w.two.whole h.agree

pub sound_at : (terms : Terms) (w : World) (side : Side) → IsSound terms w
    → IsSoundNode terms (place w side) (node w side) (node w (other side)).whole
sound_at terms w One h = h.one
sound_at terms w Two h = h.two

-- what a step makes of a node, while the other one has b
record Went (terms : Terms) (x y : Node) (b : List Fact) (outs : List Message) : Type 0 where
  delta : List Fact
  is : y.whole ≡ x.whole ++ delta
  allows : Allows x.whole b delta
  with_ : AreWith b delta
  fits : all_fit (records x) delta ≡ true
  failed : AllowsState terms y b y.state
  stands : StandFor (records y) y.whole
  bounded : IsBounded terms y
  says : AllByRecursion (Says y.whole) outs
  said : AreSaid y.whole y.polled

pub AreWith-append : (b r d : List Fact) → AreWith b r → AreWith b d → AreWith b (r ++ d)
AreWith-append b r d h k = subst (AllByRecursion (IsWith b)) (sym (flat_map-append makers_of r d))
    (All-append (IsWith b) (makers r) (makers d) h k)

pub AreWith-grows : (b d r : List Fact) → Grows b d → AreWith b r → AreWith d r
AreWith-grows b d r g h = All-weaker (IsWith b) (IsWith d) (IsWith-grows b d g) (makers r) h

pub AllowsState-grows : (terms : Terms) (x : Node) (b c : List Fact) → Grows b c → (state : State)
    → AllowsState terms x b state → AllowsState terms x c state
AllowsState-grows terms x b c g (Writing delta) h =
    (Allows-grows x.whole b c g delta h.0, AreWith-grows b c delta g h.1, h.2, h.3)
AllowsState-grows terms x b c g _ h = h

-- one node goes on, and packets are sent
abbrev goes : Terms → World → Side → Node → List Packet → World
goes terms w One x extra = record w { one = x; packets = puts terms w.packets extra }
goes terms w Two x extra = record w { two = x; packets = puts terms w.packets extra }

All-puts : (terms : Terms) (P : Packet → Type 0) (xs ys : List Packet) → AllByRecursion P xs → AllByRecursion P ys
    → AllByRecursion P (puts terms xs ys)
All-puts terms P xs [] h k = h
All-puts terms P xs (y ∷ ys) h k =
    All-puts terms P (cond (terms.takes (messages_in xs) y.message) (xs ++ y ∷ []) xs) ys
    (elim (terms.takes (messages_in xs) y.message) as (λ b. AllByRecursion P (cond b (xs ++ y ∷ []) xs)) [
      | true ↦ All-push P xs y h k.0
      | false ↦ h
    ]) k.1

says_goes : (w v : World) → Grows w.one.whole v.one.whole → Grows w.two.whole v.two.whole → (side : Side)
    → (m : Message)
    → Says (node w side).whole m → Says (node v side).whole m
says_goes w v g k One m h = Says-grows w.one.whole v.one.whole m g h
says_goes w v g k Two m h = Says-grows w.two.whole v.two.whole m k h

-- the packets that are sent are what the node says
sent-says : (v : World) (side : Side) (outs : List Message) → AllByRecursion (Says (node v side).whole) outs
    → AllByRecursion (SaysPacket v) (sent side outs)
sent-says v side [] h = tt
sent-says v side (m ∷ ms) h = (h.0, sent-says v side ms h.1)

-- the node that went on, and the one that didn't
went-sound : (terms : Terms) (at : Text) (x y : Node) (b : List Fact) (outs : List Message) → Grows x.whole y.whole
    → IsSoundNode terms at x b
    → Went terms x y b outs → IsSoundNode terms at y b
went-sound terms at x y b outs g h t = record {
  failed = t.failed;
  with_ = subst (AreWith b) (sym t.is) (AreWith-append b x.whole t.delta h.with_ t.with_);
  at_ = g.address ∙ h.at_;
  stands = t.stands;
  bounded = t.bounded;
  said = t.said;
}

rested-sound : (terms : Terms) (at : Text) (x : Node) (b c : List Fact) → Grows b c → IsSoundNode terms at x b
    → IsSoundNode terms at x c
rested-sound terms at x b c g h = record {
  failed = AllowsState-grows terms x b c g x.state h.failed;
  with_ = AreWith-grows b c x.whole g h.with_;
  at_ = h.at_;
  stands = h.stands;
  bounded = h.bounded;
  said = h.said;
}

goes-IsSound : (terms : Terms) (w : World) (side : Side) (y : Node) (outs : List Message) → IsSound terms w
    → Went terms (node w side) y (node w (other side)).whole outs → IsSound terms (goes terms w side y (sent side outs))
goes-IsSound terms w One y outs h t =
    let grown : Grows w.one.whole y.whole =
    subst (Grows w.one.whole) (sym t.is) (Grows-adds w.one.whole w.two.whole t.delta t.allows) in
    let new = goes terms w One y (sent One outs) in
    record {
      agree = subst (λ z. Agree 1 2 z w.two.whole) (sym t.is)
          (Agree-adds 1 2 w.one.whole w.two.whole t.delta t.allows h.agree);
      packets = All-puts terms (SaysPacket new) w.packets (sent One outs)
          (All-weaker (SaysPacket w) (SaysPacket new)
          (λ q s. says_goes w new grown (Grows-same w.two.whole) q.from q.message s)
          w.packets h.packets) (sent-says new One outs t.says);
      one = went-sound terms w.at_one w.one y w.two.whole outs grown h.one t;
      two = rested-sound terms w.at_two w.two w.one.whole y.whole grown h.two;
    }
goes-IsSound terms w Two y outs h t =
    let grown : Grows w.two.whole y.whole =
    subst (Grows w.two.whole) (sym t.is) (Grows-adds w.two.whole w.one.whole t.delta t.allows) in
    let new = goes terms w Two y (sent Two outs) in
    let swapped = Agree-swap 1 2 w.one.whole w.two.whole h.agree in
    record {
      agree = Agree-swap 2 1 y.whole w.one.whole
          (subst (λ z. Agree 2 1 z w.one.whole) (sym t.is)
          (Agree-adds 2 1 w.two.whole w.one.whole t.delta t.allows swapped));
      packets = All-puts terms (SaysPacket new) w.packets (sent Two outs)
          (All-weaker (SaysPacket w) (SaysPacket new)
          (λ q s. says_goes w new (Grows-same w.one.whole) grown q.from q.message s)
          w.packets h.packets) (sent-says new Two outs t.says);
      one = rested-sound terms w.at_one w.one w.two.whole y.whole grown h.one;
      two = went-sound terms w.at_two w.two y w.one.whole outs grown h.two t;
    }

-- a step leaves the world sound, and what applications were given and consumed
pub record Steps (terms : Terms) (w v : World) : Type 0 where
  pub sound : IsSound terms v
  pub stays : StaysConsumed w v

steps-self : (terms : Terms) (w : World) → IsSound terms w → Steps terms w w
steps-self terms w h = record { sound = h; stays = λ side seq. goes-on-self (node w side).whole seq }

steps-then : (terms : Terms) (w v u : World) → Steps terms w v → Steps terms v u → Steps terms w u
steps-then terms w v u one two = record {
  sound = two.sound;
  stays = λ side seq. goes-on-then (node w side).whole (node v side).whole (node u side).whole seq (one.stays side seq)
      (two.stays side seq);
}

went-stays : (terms : Terms) (w : World) (side : Side) (y : Node) (outs : List Message) (seq : ℕ) → IsSound terms w
    → Went terms (node w side) y (node w (other side)).whole outs
    → GoesOn (node w side).whole y.whole seq
went-stays terms w side y outs seq h t =
    let x = node w side in
    subst (λ z. GoesOn x.whole z seq) (sym t.is)
    (goes-on-adds (number_of side) (number_of (other side)) (records x) x.whole (node w (other side)).whole t.delta seq
    (sound_at terms w side h).stands.kept (agree_at terms w side h) t.allows t.fits)

goes-steps : (terms : Terms) (w : World) (side : Side) (y : Node) (outs : List Message) → IsSound terms w
    → Went terms (node w side) y (node w (other side)).whole outs → Steps terms w (goes terms w side y (sent side outs))
goes-steps terms w side y outs h t = record {
  sound = goes-IsSound terms w side y outs h t;
  stays = by_side side y h t;
}
  where
    by_side : (side : Side) (y : Node) → IsSound terms w → Went terms (node w side) y (node w (other side)).whole outs
        → StaysConsumed w (goes terms w side y (sent side outs))
    by_side One y h t One seq = went-stays terms w One y outs seq h t
    by_side One y h t Two seq = goes-on-self w.two.whole seq
    by_side Two y h t One seq = goes-on-self w.one.whole seq
    by_side Two y h t Two seq = went-stays terms w Two y outs seq h t

-- a node has the same records, and says nothing
rests : (terms : Terms) (x y : Node) (b : List Fact) → y.whole ≡ x.whole → AllowsState terms y b y.state
    → StandFor (records y) y.whole → IsBounded terms y → AreSaid y.whole y.polled
    → Went terms x y b []
rests terms x y b e f k i q = record {
  delta = [];
  is = e ∙ sym (append-nil x.whole);
  allows = tt;
  with_ = tt;
  fits = refl;
  failed = f;
  stands = k;
  bounded = i;
  says = tt;
  said = q;
}

rests-steps : (terms : Terms) (w : World) (side : Side) (y : Node) → IsSound terms w
    → Went terms (node w side) y (node w (other side)).whole []
    → Steps terms w (with_node w side y)
rests-steps terms w One y h t = goes-steps terms w One y [] h t
rests-steps terms w Two y h t = goes-steps terms w Two y [] h t

-- one entry more
pub records-with : (entries : List (List Fact)) (delta : List Fact)
    → records_in (entries ++ delta ∷ []) ≡ records_in entries ++ delta
records-with entries delta =
    flat_map-append (λ (batch : List Fact). batch) entries (delta ∷ [])
    ∙ ap (λ z. records_in entries ++ z) (append-nil delta)

end_of-push : (terms : Terms) (start : ℕ) (entries : List (List Fact)) (delta : List Fact)
    → end_of terms start (entries ++ delta ∷ []) ≡ end_of terms start entries + (5 + terms.size delta)
end_of-push terms start [] delta = omega arith
end_of-push terms start (e ∷ es) delta =
    let rest : end_of terms start (es ++ delta ∷ []) ≡ end_of terms start es + (5 + terms.size delta) =
    end_of-push terms start es delta in omega arith

counter-append : (r d : List Fact) → counter (r ++ d) ≡ counter r + counter d
counter-append r d = ap length (flat_map-append draws_of r d)
    ∙ length-append (flat_map draws_of r) (flat_map draws_of d)

pub room-bound : (terms : Terms) (place : ℕ) (rec : Fact) (delta : List Fact)
    → has_room terms place (rec ∷ delta) ≡ true
    → place + 6 + terms.size (rec ∷ delta) ≤ journal_bytes
room-bound terms place rec delta e = grind (arith, nat_tests)

pub bounded-with : (terms : Terms) (x : Node) (delta : List Fact) → AreTerms terms
    → counter x.whole ≤ node_end terms x
    → node_end terms x + 6 + terms.size delta ≤ journal_bytes
    → (counter (x.whole ++ delta) ≤ node_end terms (with_batch x delta))
    × (node_end terms (with_batch x delta) ≤ journal_bytes)
bounded-with terms x delta t below fits =
    let more : node_end terms (with_batch x delta) ≡ node_end terms x + (5 + terms.size delta) =
    end_of-push terms x.start x.entries delta in
    let sum : counter (x.whole ++ delta) ≡ counter x.whole + counter delta = counter-append x.whole delta in
    let size : counter delta ≤ terms.size delta = t.size delta in
    (omega arith, omega arith)

-- with more records a node stands for all that it then ever had
pub stands-adds : (r a b delta : List Fact) → StandFor r a → Allows a b delta → all_fit r delta ≡ true
    → StandFor (r ++ delta) (a ++ delta)
stands-adds r a b delta h k fit = record {
  kept = Keeps-adds r a b delta k h.kept;
  proper = All-append HasProper r delta h.proper (allows-proper a b delta k);
  fit = all_fit-append [] r delta h.fit fit;
}

pub stands-with : (x : Node) (b delta : List Fact) → StandFor (records x) x.whole → Allows x.whole b delta
    → all_fit (records x) delta ≡ true → StandFor (records_in (x.entries ++ delta ∷ [])) (x.whole ++ delta)
stands-with x b delta h k fit = subst (λ z. StandFor z (x.whole ++ delta)) (sym (records-with x.entries delta))
    (stands-adds (records x) x.whole b delta h k fit)

-- what leaves the node: what was fetched, and a part of what is said
pub leaving : (a : List Fact) (connected : Bool) (fetched outs : List Message) → AllByRecursion (Says a) fetched
    → AllByRecursion (Says a) outs → AllByRecursion (Says a) (fetched ++ sent_of connected outs)
leaving a connected fetched outs h k = All-append (Says a) fetched (sent_of connected outs) h
    (All-filter (Says a) (λ (m : Message). leaves connected (place_of m.addressing.to)) outs k)

-- a call
went : (terms : Terms) (x : Node) (b delta : List Fact) (connected : Bool) (fetched outs : List Message)
    (w : Waiting Message) → AreTerms terms → x.state ≡ Up → StandFor (records x) x.whole
    → IsBounded terms x
    → Allows x.whole b delta → AreWith b delta → has_room terms (node_end terms x) delta ≡ true
    → all_fit (records x) delta ≡ true
    → AllByRecursion (Says (x.whole ++ delta)) fetched → AllByRecursion (Says (x.whole ++ delta)) outs
    → AreSaid x.whole x.polled → AreSaid (x.whole ++ delta) w
    → Went terms x (record (written x delta) { polled = polled_with x.fuse delta x.polled w }) b
    (said_with x.fuse delta fetched ++ sent_of connected (said_with x.fuse delta outs))
went terms x b [] connected fetched outs w t up h i k g room fit s s2 old new = record {
  delta = [];
  is = sym (append-nil x.whole);
  allows = tt;
  with_ = tt;
  fits = refl;
  failed = subst (AllowsState terms x b) (sym up) tt;
  stands = h;
  bounded = record { below = i.below; store = i.store };
  says = subst (λ z. AllByRecursion (Says z) (fetched ++ sent_of connected outs)) (append-nil x.whole)
      (leaving (x.whole ++ []) connected fetched outs s s2);
  said = subst (λ z. AreSaid z w) (append-nil x.whole) new;
}
went terms x b (rec ∷ delta) connected fetched outs w t up h i k g room fit s s2 old new =
    elim (is_short 4 x.fuse) as (λ z. Went terms x
    (record (cond z (goes_down x (rec ∷ delta)) (with_batch x (rec ∷ delta))) { polled = cond z x.polled w }) b
    (cond z [] fetched ++ sent_of connected (cond z [] outs))) [
      | true ↦ record {
        delta = [];
        is = sym (append-nil x.whole);
        allows = tt;
        with_ = tt;
        fits = refl;
        failed = (k, g, room-bound terms (node_end terms x) rec delta room, fit);
        stands = h;
        bounded = record { below = i.below; store = i.store };
        says = tt;
        said = old;
      }
      | false ↦
          let fits = room-bound terms (node_end terms x) rec delta room in
          let more = bounded-with terms x (rec ∷ delta) t i.below fits in
          record {
            delta = rec ∷ delta;
            is = refl;
            allows = k;
            with_ = g;
            fits = fit;
            failed = subst (AllowsState terms (with_batch x (rec ∷ delta)) b) (sym up) tt;
            stands = stands-with x b (rec ∷ delta) h k fit;
            bounded = record { below = more.0; store = more.1 };
            says = leaving (x.whole ++ (rec ∷ delta)) connected fetched outs s s2;
            said = new;
          }
    ]

-- which keys move is nothing to the other node
moved-went : (terms : Terms) (x y : Node) (b : List Fact) (answer : Answer) (outs : List Message)
    → Went terms x y b outs → Went terms x (with_moves x answer y) b outs
moved-went terms x y b answer outs t = record {
  delta = t.delta;
  is = t.is;
  allows = t.allows;
  with_ = t.with_;
  fits = t.fits;
  failed = same y.state t.failed;
  stands = t.stands;
  bounded = record { below = t.bounded.below; store = t.bounded.store };
  says = t.says;
  said = t.said;
}
  where
    same : (z : State) → AllowsState terms y b z → AllowsState terms (with_moves x answer y) b z
    same Up h = tt
    same (Writing delta) h = h
    same (Compacting start) h = h

after-went : (terms : Terms) (x : Node) (b : List Fact) (connected : Bool) (answer : Answer) → AreTerms terms
    → StandFor (records x) x.whole → IsBounded terms x
    → IsRight terms (node_end terms x) x.whole b answer → all_fit (records x) answer.delta ≡ true
    → AllowsState terms x b x.state → AreSaid x.whole x.polled
    → Went terms x (after x answer) b (fetched_after x answer ++ sent_of connected (said_after x answer))
after-went terms x b connected answer t h i r fit f q = by_state x.state refl
  where
    by_state : (z : State) → x.state ≡ z
        → Went terms x (after_by x z answer) b (fetched_by x z answer ++ sent_of connected (said_by x z answer))
    by_state Up e =
        let all = x.whole ++ answer.delta in
        let later : AreSaid all x.polled =
        AreSaid-grows x.whole all x.polled (Grows-adds x.whole b answer.delta r.allowed.allows) q in
        moved-went terms x (with_polled x answer (written x answer.delta)) b answer
        (fetched_by x Up answer ++ sent_of connected (said_by x Up answer))
        (went terms x b answer.delta connected (fetched_message answer.fetched) answer.outs
        (polled_after x.polled answer) t e h i r.allowed.allows r.allowed.with_ r.room fit r.allowed.fetched
        r.allowed.says q
        (polled_after-said all x.polled answer later r.allowed.says))
    by_state (Writing delta) e = rests terms x x b refl f h i q
    by_state (Compacting start) e = rests terms x x b refl f h i q

calls-steps : (terms : Terms) (w : World) (side : Side) (connected : Bool) (answer : Answer) → AreTerms terms
    → IsSound terms w
    → IsRight terms (node_end terms (node w side)) (node w side).whole (node w (other side)).whole answer
    → all_fit (records (node w side)) answer.delta ≡ true
    → Steps terms w (calls terms w side connected answer)
calls-steps terms w One connected answer t h r fit =
    goes-steps terms w One (after w.one answer)
    (fetched_after w.one answer ++ sent_of connected (said_after w.one answer)) h
    (after-went terms w.one w.two.whole connected answer t h.one.stands h.one.bounded r fit h.one.failed
    h.one.said)
calls-steps terms w Two connected answer t h r fit =
    goes-steps terms w Two (after w.two answer)
    (fetched_after w.two answer ++ sent_of connected (said_after w.two answer)) h
    (after-went terms w.two w.one.whole connected answer t h.two.stands h.two.bounded r fit h.two.failed
    h.two.said)

-- a crash keeps what the failed call wrote, or leaves it
mounted-went : SnapshotLaws → (terms : Terms) (x : Node) (b : List Fact) (kept : Bool) → AreTerms terms
    → StandFor (records x) x.whole → IsBounded terms x
    → AllowsState terms x b x.state → Went terms x (mounted x kept) b []
mounted-went laws terms x b kept t h i f = by_state x.state kept f
  where
    by_state : (z : State) (kept : Bool) → AllowsState terms x b z
        → Went terms x (record x {
          entries = entries_left z kept x.entries;
          start = start_left z kept x.start;
          whole = whole_left z kept x.whole;
          fuse = None;
          state = Up;
          waits = mounted_waits (records_in (entries_left z kept x.entries));
          time = 0;
          polled = nothing_waits;
        }) b []
    by_state (Writing delta) true f =
        let more = bounded-with terms x delta t i.below f.2 in
        record {
          delta = delta;
          is = refl;
          allows = f.0;
          with_ = f.1;
          fits = f.3;
          failed = tt;
          stands = stands-with x b delta h f.0 f.3;
          bounded = record { below = more.0; store = more.1 };
          says = tt;
          said = tt;
        }
    by_state (Compacting start) true f =
        rests terms x _ b refl tt (fresh-stands laws x.entries x.whole h)
        (record { below = fresh-below terms start x.entries x.whole t h.kept; store = f }) tt
    by_state (Writing delta) false f = rests terms x _ b refl tt h (record { below = i.below; store = i.store }) tt
    by_state (Compacting start) false f = rests terms x _ b refl tt h (record { below = i.below; store = i.store }) tt
    by_state Up kept f = rests terms x _ b refl tt h (record { below = i.below; store = i.store }) tt

-- a list that is written anew, or stays
compacted-went : SnapshotLaws → (terms : Terms) (x : Node) (b : List Fact) → AreTerms terms
    → StandFor (records x) x.whole → IsBounded terms x
    → AllowsState terms x b x.state → AreSaid x.whole x.polled → Went terms x (compacted terms x) b []
compacted-went laws terms x b t h i f q = by_state x.state refl
  where
    rewritten-went : x.state ≡ Up → may_compact terms x ≡ true → Went terms x (rewritten terms x) b []
    rewritten-went up may =
        let place = fresh-HasPlace terms x may i.store in
        elim (is_short 5 x.fuse) as (λ z. Went terms x (cond z (stops_compacting terms x) (with_list terms x)) b []) [
          | true ↦ rests terms x (stops_compacting terms x) b refl place h
              (record { below = i.below; store = i.store }) q
          | false ↦ rests terms x (with_list terms x) b refl
              (subst (AllowsState terms (with_list terms x) b) (sym up) tt)
              (fresh-stands laws x.entries x.whole h)
              (record { below = fresh-below terms (fresh_start terms x) x.entries x.whole t h.kept; store = place }) q
        ]

    by_state : (z : State) → x.state ≡ z → Went terms x (compacted_by terms x z) b []
    by_state Up e = elim (may_compact terms x) as (λ z. may_compact terms x ≡ z
        → Went terms x (cond z (rewritten terms x) x) b []) [
          | true ↦ λ may. rewritten-went e may
          | false ↦ λ may. rests terms x x b refl f h i q
        ] refl
    by_state (Writing delta) e = rests terms x x b refl f h i q
    by_state (Compacting start) e = rests terms x x b refl f h i q

-- a packet comes to the other node than the one that sent it, and its text is read there
says_at : (terms : Terms) (w : World) (p : Packet) → AreTerms terms → SaysPacket w p
    → SaysContent (node w (other (other p.from))).whole (terms.read p.message)
says_at terms w p t h = by_side p.from h
  where
    as_read : (b : List Fact) → Says b p.message
        → (terms.read p.message ≡ Ok p.message) ⊎ ((refusal : Refusal) × (terms.read p.message ≡ Err refusal))
        → SaysContent b (terms.read p.message)
    as_read b s (inl e) = subst (SaysContent b) (sym e) s
    as_read b s (inr e) = subst (SaysContent b) (sym e.1) tt

    by_side : (s : Side) → Says (node w s).whole p.message
        → SaysContent (node w (other (other s))).whole (terms.read p.message)
    by_side One h = as_read w.one.whole h (t.read p.message)
    by_side Two h = as_read w.two.whole h (t.read p.message)

-- what a node in a sound world may add next
next-at : (terms : Terms) (w : World) (side : Side) → AreTerms terms → IsSound terms w
    → AddsNext terms (records (node w side)) (node_end terms (node w side))
next-at terms w side t h = adds-next terms (records (node w side)) (node_end terms (node w side)) t.deadline
    (sound_at terms w side h).stands.fit

-- each number that a node drew takes room on its disk, so they are few
pub small-counter : (c place : ℕ) → c ≤ place → place ≤ journal_bytes → c < 2 ^ 62
small-counter c place h k = omega arith

-- the numbers that a node in a sound world drew are few
few-at : (terms : Terms) (w : World) (side : Side) → IsSound terms w → IsFew (number_of side) (node w side).whole
few-at terms w side h =
    let i = (sound_at terms w side h).bounded in record {
      owns = (agree_at terms w side h).owns;
      few = small-counter (counter (node w side).whole) (node_end terms (node w side)) i.below i.store;
    }

-- what a node in a sound world received has message numbers
pub received-at : (terms : Terms) (w : World) (side : Side) (t : ℕ) → IsSound terms w
    → AllByRecursion (λ (m : ℕ × Payload). IsNumbered m.0) (received (node w side).whole t)
received-at terms w side t h =
    let a = (node w (other side)).whole in
    received-numbered a (node w side).whole t
    (between-all (node w side).whole a (sound_at terms w side h).with_ t) (agree_at terms w side h).justified
    (whole-few (records (node w (other side))) a (sound_at terms w (other side) h).stands)

-- so has what came from it
content-numbers : (terms : Terms) (w : World) (side : Side) (content : Result Message Refusal) → IsSound terms w
    → SaysContent (node w side).whole content → IsReadable content
content-numbers terms w side (Err refusal) h s = tt
content-numbers terms w side (Ok m) h s = says-numbers (node w side).whole m
    (whole-few (records (node w side)) (node w side).whole (sound_at terms w side h).stands)
    (λ t. received-at terms w side t h) s

received-steps : (terms : Terms) (w : World) (side : Side) (content : Result Message Refusal) → AreTerms terms
    → IsSound terms w
    → SaysContent (node w (other side)).whole content
    → Steps terms w (calls terms w side true (received_by terms (node w side) content))
received-steps terms w side content t h s =
    let x = node w side in
    let sound = sound_at terms w side h in
    calls-steps terms w side true (received_by terms x content) t h
    (polls-right terms (node_end terms x) x.whole (node w (other side)).whole x.polled content
    (receive terms (records x) (node_end terms x) x.clock x.granted content) sound.said
    (receive-right (number_of side) (number_of (other side)) terms (node_end terms x) (records x) x.whole
    (node w (other side)).whole x.clock x.granted content t
    sound.stands.kept (agree_at terms w side h).owns (few-at terms w (other side) h) s))
    ((next-at terms w side t h).receive_ x.clock x.granted content
    (content-numbers terms w (other side) content h s))

arrives-steps : (terms : Terms) (w : World) (p : Option Packet) → AreTerms terms → IsSound terms w
    → IfSome p (SaysPacket w) → Steps terms w (arrives terms w p)
arrives-steps terms w None t h s = steps-self terms w h
arrives-steps terms w (Some p) t h s =
    received-steps terms w (other p.from) (terms.read p.message) t h (says_at terms w p t s)

packet-says : (terms : Terms) (w : World) (k : ℕ) → IsSound terms w → IfSome (numbered w.packets k) (SaysPacket w)
packet-says terms w k h = by_packet (numbered w.packets k) refl
  where
    by_packet : (p : Option Packet) → numbered w.packets k ≡ p → IfSome p (SaysPacket w)
    by_packet None e = tt
    by_packet (Some p) e = All-numbered (SaysPacket w) w.packets k p h.packets e

-- a node of which only what is beside its disk changes
changed-went : (terms : Terms) (x y : Node) (b : List Fact) → y.whole ≡ x.whole → y.entries ≡ x.entries
    → y.start ≡ x.start → y.state ≡ x.state → y.polled ≡ x.polled
    → StandFor (records x) x.whole → IsBounded terms x → AllowsState terms x b x.state → AreSaid x.whole x.polled
    → Went terms x y b []
changed-went terms x y b e f g s u h i a q =
    rests terms x y b e (moved y.state s)
    (subst (λ z. StandFor (records_in z) y.whole) (sym f) (subst (StandFor (records x)) (sym e) h))
    (record {
      below = subst (λ z. counter y.whole ≤ z) (sym place)
          (subst (λ z. counter z ≤ node_end terms x) (sym e) i.below);
      store = subst (λ z. z ≤ journal_bytes) (sym place) i.store;
    })
    (subst (AreSaid y.whole) (sym u) (subst (λ z. AreSaid z x.polled) (sym e) q))
  where
    place : node_end terms y ≡ node_end terms x
    place = cc

    same : (z : State) → AllowsState terms x b z → AllowsState terms y b z
    same Up k = tt
    same (Writing delta) k = (
      subst (λ z. Allows z b delta) (sym e) k.0,
      k.1,
      subst (λ z. z + 6 + terms.size delta ≤ journal_bytes) (sym place) k.2,
      subst (λ z. all_fit (records_in z) delta ≡ true) (sym f) k.3,
    )
    same (Compacting start) k = subst (λ z. end_of terms start (fresh_entries z) ≤ journal_bytes) (sym f) k

    moved : (z : State) → z ≡ x.state → AllowsState terms y b z
    moved z k = subst (AllowsState terms y b) (sym k) (same x.state a)

changed-steps : (terms : Terms) (w : World) (side : Side) (y : Node) → IsSound terms w
    → y.whole ≡ (node w side).whole → y.entries ≡ (node w side).entries
    → y.start ≡ (node w side).start → y.state ≡ (node w side).state → y.polled ≡ (node w side).polled
    → Steps terms w (with_node w side y)
changed-steps terms w side y h e f g s u =
    let x = sound_at terms w side h in
    rests-steps terms w side y h (changed-went terms (node w side) y (node w (other side)).whole e f g s u x.stands
    x.bounded x.failed x.said)

tick-steps : (terms : Terms) (w : World) (side : Side) (now : ℕ) → AreTerms terms → IsSound terms w
    → Steps terms w (happens terms w (Tick side now))
tick-steps terms w One now t h =
    let v = with_node w One (with_clock w.one now) in
    let set = changed-steps terms w One (with_clock w.one now) h refl refl refl refl refl in
    steps-then terms w v (happens terms w (Tick One now)) set
    (calls-steps terms v One false
    (tick terms (records w.one) (node_end terms w.one) now w.one.time w.one.waits) t set.sound
    (tick-right terms (node_end terms w.one) (records w.one) w.one.whole w.two.whole now w.one.time w.one.waits
    h.one.stands.kept)
    ((next-at terms w One t h).tick_ now (first_due (max w.one.time now) w.one.waits)))
tick-steps terms w Two now t h =
    let v = with_node w Two (with_clock w.two now) in
    let set = changed-steps terms w Two (with_clock w.two now) h refl refl refl refl refl in
    steps-then terms w v (happens terms w (Tick Two now)) set
    (calls-steps terms v Two false
    (tick terms (records w.two) (node_end terms w.two) now w.two.time w.two.waits) t set.sound
    (tick-right terms (node_end terms w.two) (records w.two) w.two.whole w.one.whole now w.two.time w.two.waits
    h.two.stands.kept)
    ((next-at terms w Two t h).tick_ now (first_due (max w.two.time now) w.two.waits)))

happens-steps : SnapshotLaws → (terms : Terms) (w : World) (event : Event) → AreTerms terms
    → IsSound terms w → Steps terms w (happens terms w event)
happens-steps laws terms w (Create side via expires offer) t h =
    let x = node w side in
    calls-steps terms w side false (create terms (records x) (node_end terms x)
    (wish_of w side via expires offer)) t h
    (create-right terms (node_end terms x) (records x) x.whole (node w (other side)).whole
    (wish_of w side via expires offer)
    (sound_at terms w side h).stands.kept (sym (sound_at terms w (other side) h).at_))
    ((next-at terms w side t h).create_ (wish_of w side via expires offer))
happens-steps laws terms w (Grant side y) t h =
    changed-steps terms w side (record (node w side) { granted = y }) h refl refl refl refl refl
happens-steps laws terms w (Send side seq text) t h =
    let x = node w side in
    calls-steps terms w side false (send terms (records x) (node_end terms x) seq text) t h
    (send-right terms (node_end terms x) (records x) x.whole (node w (other side)).whole seq text
    (sound_at terms w side h).stands.kept)
    ((next-at terms w side t h).send_ seq text)
happens-steps laws terms w (Tick side now) t h = tick-steps terms w side now t h
happens-steps laws terms w (Deliver k) t h =
    arrives-steps terms w (numbered w.packets k) t h (packet-says terms w k h)
happens-steps laws terms w (Close side seq) t h =
    let x = node w side in
    calls-steps terms w side false (close terms (records x) (node_end terms x) seq x.clock) t h
    (close-right terms (node_end terms x) (records x) x.whole (node w (other side)).whole seq x.clock
    (sound_at terms w side h).stands.kept)
    ((next-at terms w side t h).close_ seq x.clock)
happens-steps laws terms w (End side seq) t h =
    let x = node w side in
    calls-steps terms w side false (end terms (records x) (node_end terms x) seq) t h
    (end-right terms (node_end terms x) (records x) x.whole (node w (other side)).whole seq
    (sound_at terms w side h).stands.kept)
    ((next-at terms w side t h).end_ seq)
happens-steps laws terms w (Ask side seq) t h =
    let x = node w side in
    calls-steps terms w side false (ask_ack (records x) seq) t h
    (ask_ack-right terms (node_end terms x) (records x) x.whole (node w (other side)).whole seq)
    ((next-at terms w side t h).ask_ack_ seq)
happens-steps laws terms w (Nack side seq) t h =
    let x = node w side in
    calls-steps terms w side false (nack_missing (records x) seq x.clock) t h
    (nack_missing-right terms (node_end terms x) (records x) x.whole (node w (other side)).whole seq x.clock)
    ((next-at terms w side t h).nack_missing_ seq x.clock)
happens-steps laws terms w (Arm side c) t h =
    changed-steps terms w side (record (node w side) { fuse = armed c (node w side).fuse }) h refl refl refl refl refl
happens-steps laws terms w (Crash side kept) t h =
    let x = sound_at terms w side h in
    rests-steps terms w side (mounted (node w side) kept) h
    (mounted-went laws terms (node w side) (node w (other side)).whole kept t x.stands x.bounded x.failed)
happens-steps laws terms w (Noise side refusal) t h = received-steps terms w side (Err refusal) t h tt
happens-steps laws terms w (Poll side) t h =
    let x = node w side in
    calls-steps terms w side false (poll (records x) (place w (other side))) t h
    (poll-right terms (node_end terms x) (records x) x.whole (node w (other side)).whole (place w (other side))) refl
happens-steps laws terms w (Compact side) t h =
    let x = sound_at terms w side h in
    rests-steps terms w side (compacted terms (node w side)) h
    (compacted-went laws terms (node w side) (node w (other side)).whole t x.stands x.bounded x.failed
    x.said)
happens-steps laws terms w (Consume side seq upto) t h =
    let x = node w side in
    calls-steps terms w side false (consume terms (records x) (node_end terms x) seq upto) t h
    (consume-right terms (node_end terms x) (records x) x.whole (node w (other side)).whole seq upto)
    ((next-at terms w side t h).consume_ seq upto)

pub happens-IsSound : SnapshotLaws → (terms : Terms) (w : World) (event : Event) → AreTerms terms
    → IsSound terms w → IsSound terms (happens terms w event)
happens-IsSound laws terms w event t h = (happens-steps laws terms w event t h).sound

pub run-steps : SnapshotLaws → (terms : Terms) (events : List Event) (w : World) → AreTerms terms
    → IsSound terms w → Steps terms w (run terms events w)
run-steps laws terms [] w t h = steps-self terms w h
run-steps laws terms (event ∷ events) w t h =
    let v = happens terms w event in
    let one = happens-steps laws terms w event t h in
    steps-then terms w v (run terms events v) one (run-steps laws terms events v t one.sound)

pub run-IsSound : SnapshotLaws → (terms : Terms) (events : List Event) (w : World) → AreTerms terms
    → IsSound terms w → IsSound terms (run terms events w)
run-IsSound laws terms events w t h = (run-steps laws terms events w t h).sound

pub owns-made : (n : ℕ) (a : Text) → Owns n (Made n a ∷ [])
owns-made n a = record {
  number = refl;
  rising = tt;
  below = omega arith;
  made = λ s q e. absurd (cc (e.is));
  unique = λ s t q e f. absurd (cc (e.is));
  found = λ s q e. absurd (cc);
}

made-sound : (terms : Terms) (n : ℕ) (at : Text) (b : List Fact) → all_fit [] (Made n at ∷ []) ≡ true
    → has_room terms 25 (Made n at ∷ []) ≡ true → IsSoundNode terms at (made n at) b
made-sound terms n at b fit e =
    let fits : 25 + 6 + terms.size (Made n at ∷ []) ≤ journal_bytes = room-bound terms 25 (Made n at) [] e in
    record {
      failed = tt;
      with_ = tt;
      at_ = refl;
      stands = record { kept = Keeps-made n at; proper = (tt, tt); fit = fit };
      bounded = record { below = omega arith; store = omega arith };
      said = tt;
    }

pub start-IsSound : (terms : Terms) (one two : Text) → AreMade terms one two
    → IsSound terms (start one two)
start-IsSound terms one two made = record {
  agree = record {
    owns = owns-made 1 one;
    others = owns-made 2 two;
    justified = (tt, tt);
    others_justified =
        (tt, tt);
  };
  packets = tt;
  one = made-sound terms 1 one (Made 2 two ∷ []) refl made.one_;
  two = made-sound terms 2 two (Made 1 one ∷ []) refl made.two_;
}
