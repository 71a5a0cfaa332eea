-- Whatever befalls one of two nodes keeps what holds of both.
use Rattle.std.proofs.Common.{◌≡◌, ℕ, ◌+◌, ◌==◌, ◌&&◌, ◌≤◌, max, nat_le, nat_lt, cond, not, Bool, true}
use Rattle.std.proofs.Common.{false, List, [], ◌∷◌, ◌++◌, length, refl, sym, ap, ◌∙◌, arith, subst, append-nil}
use Rattle.std.proofs.Common.{inl, inr}
use Rattle.std.specs.Prelude.{Option, Some, None, Result, Ok, Err}
use Rattle.std.specs.List.{AllByRecursion}
use Rattle.std.proofs.lemmas.Bool.Decides.{nat_tests}
use Rattle.rm_base.specs.Limits.{most_sequences}
use Rattle.rm_base.specs.Message.{max_number}
use Rattle.rm_base.specs.NumberSet.{has_number}
use Rattle.rm_base.specs.declared.message.Behaviour.{Behaviour}
use Rattle.rm_base.specs.declared.message.Payload.{Payload}
use Rattle.rm_message.specs.declared.message.Message.{Message}
use Rattle.rm_message.specs.declared.refusal.FaultKind.{FaultKind}
use Rattle.rm_message.specs.declared.refusal.Refusal.{Refusal}
use Rattle.record_batch.specs.Fact.{Fact, Creating, Received}
use Rattle.timers.specs.Pending.Waiting.{Waiting, nothing_waits}
use Rattle.record_batch.specs.Sequences.Destinations.{held, is_stopped, received, received_of}
use Rattle.record_batch.specs.Sequences.Fits.{all_fit, fits, is_incoming_side}
use Rattle.record_batch.specs.Sequences.Makers.{counter, maker, makers}
use Rattle.timers.specs.Keys.Waits.{first_due}
use Rattle.rm_protocol.specs.Messages.{request_at}
use Rattle.std.specs.Option.{option_to_list}
use Rattle.rm_protocol.specs.Calls.{Answer, Cause, StoreFull, adds, if_room, refusal}
use Rattle.rm_protocol.specs.Calls.{Wish, TooManySequences, ask_ack, close, consume, create, end, judged}
use Rattle.rm_protocol.specs.Calls.{fault_block, nack_missing, offer_of, receive, refusal_of, send, tick, wanted}
use Rattle.rm_protocol.specs.Compact.{compacted, compacted_by, fresh_start, may_compact, rewritten, stops_compacting}
use Rattle.rm_protocol.specs.Compact.{with_list}
use Rattle.rm_protocol.specs.Next.{AddsNext, HasNumbers, IsReadable}
use Rattle.rm_protocol.specs.Node.{Node, State, Up, Writing, Compacting, after, after_by, armed, entries_left}
use Rattle.rm_protocol.specs.Node.{fetched_after, fetched_by, fetched_message, goes_down, is_short}
use Rattle.rm_protocol.specs.Node.{mounted, node_end, polled_with, records, records_in, said_after, said_by, said_with}
use Rattle.rm_protocol.specs.Node.{start_left, whole_left, with_batch, with_moves, with_polled, written}
use Rattle.rm_protocol.specs.Pair.{Act, Creates, Grants, Sends, Ticks, Closes, Ends, AsksAck, NacksMissing}
use Rattle.rm_protocol.specs.Pair.{Polls, Consumes, Receives, Compacts, Arms, Crashes, HasNumber, IsPair}
use Rattle.rm_protocol.specs.Pair.{IsPairNode, IsStranger, MayBefall, MayCome, MayGoOn, acted, left}
use Rattle.rm_protocol.specs.Pair.{StaysAPair}
use Rattle.rm_protocol.specs.Polls.{poll, polled_after, polls}
use Rattle.rm_protocol.specs.PollLemmas.{fetched-all, outs-all}
use Rattle.rm_protocol.specs.Rows.{rows}
use Rattle.rm_protocol.specs.Said.{sent_of}
use Rattle.rm_protocol.specs.Sound.{Agree, Allows, AreSaid, IsBounded, Keeps, Owns, Says, StandFor}
use Rattle.rm_protocol.specs.Terms.{Terms, AreTerms}
use Rattle.rm_protocol.specs.Verdict.{has_room, verdict}
use Rattle.rm_protocol.specs.Waiting.{mounted_waits}
use Rattle.rm_protocol.specs.World.{received_by, with_clock}
use Rattle.rm_protocol.proofs.ListLemmas.{All-append, All-numbered, All-weaker}
use Rattle.rm_protocol.proofs.Growth.{Grows, Says-grows, Allows-grows}
use Rattle.rm_protocol.proofs.Adds.{Agree-adds, Grows-adds}
use Rattle.rm_protocol.proofs.Kept.{Keeps-adds, kept-counter}
use Rattle.rm_protocol.proofs.FreshLemmas.{SnapshotLaws, fresh-below, fresh-HasPlace, fresh-stands}
use Rattle.rm_protocol.proofs.FetchedLemmas.{AreSaid-grows, of-replies, poll-right, polled_after-said}
use Rattle.rm_protocol.proofs.SaidLemmas.{request_at-says, said-says, verdict-says}
use Rattle.rm_protocol.proofs.CallLemmas.{IsFew, IsRight, ask_ack-right, close-right, consume-right}
use Rattle.rm_protocol.proofs.CallLemmas.{end-right, nack_missing-right, offer_of-fresh, receive-right, send-right}
use Rattle.rm_protocol.proofs.CallLemmas.{tick-right, verdict-room}
use Rattle.rm_protocol.proofs.FitCalls.{adds-next}
use Rattle.rm_protocol.proofs.HeadlineLemmas.{IsNumbered}
use Rattle.rm_protocol.proofs.NumberLemmas.{says-numbers, whole-few}
use Rattle.rm_protocol.specs.Consumed.{GoesOn}
use Rattle.rm_protocol.proofs.ConsumedLemmas.{goes-on-adds}
use Rattle.rm_protocol.specs.Pair.{IsParked}
use Rattle.rm_protocol.specs.PollLemmas.{AllWaiting}
use Rattle.rm_protocol.proofs.GainLemmas.{backs, gains, polled-parked}
use Rattle.rm_protocol.proofs.StrangerLemmas.{rows-strange}
use Rattle.rm_protocol.proofs.RunLemmas.{bounded-with, leaving, room-bound, small-counter, stands-with}

-- an answer that was read from the records of a node that ever had a, beside one that has b
record IsFair (terms : Terms) (place : ℕ) (a b : List Fact) (answer : Answer) : Type 0 where
  allows : Allows a b answer.delta
  says : AllByRecursion (Says (a ++ answer.delta)) answer.outs
  fetched : AllByRecursion (Says (a ++ answer.delta)) (fetched_message answer.fetched)
  room : has_room terms place answer.delta ≡ true

fair : (terms : Terms) (place : ℕ) (a b : List Fact) (answer : Answer) → IsRight terms place a b answer
    → IsFair terms place a b answer
fair terms place a b answer h = record {
  allows = h.allowed.allows;
  says = h.allowed.says;
  fetched = h.allowed.fetched;
  room = h.room;
}

fair-refusal : (terms : Terms) (place : ℕ) (a b : List Fact) (cause : Cause)
    → IsFair terms place a b (refusal cause)
fair-refusal terms place a b cause = record { allows = tt; says = tt; fetched = tt; room = refl }

-- a sequence may be asked for of any node
create-fair : (terms : Terms) (place : ℕ) (r a b : List Fact) (wish : Wish) → Keeps r a
    → IsFair terms place a b (create terms r place wish)
create-fair terms place r a b wish w =
    elim (nat_lt most_sequences (length (makers r) + wanted wish.offer)) as (λ z. IsFair terms place a b
    (cond z (refusal (TooManySequences (length (makers r)))) (if_room terms place whole))) [
      | true ↦ fair-refusal terms place a b (TooManySequences (length (makers r)))
      | false ↦ elim (has_room terms place (rec ∷ [])) as (λ z. has_room terms place (rec ∷ []) ≡ z
          → IsFair terms place a b (cond z whole (refusal (StoreFull place (terms.size (rec ∷ []) + 6))))) [
            | true ↦ λ e. record {
              allows = allows;
              says = request_at-says (r ++ rec ∷ []) (a ++ rec ∷ []) (length (makers r) + 1)
                  (Keeps-adds r a b (rec ∷ []) allows w);
              fetched = tt;
              room = e;
            }
            | false ↦ λ e. fair-refusal terms place a b (StoreFull place (terms.size (rec ∷ []) + 6))
          ] refl
    ]
  where
    rec : Fact
    rec = Creating (counter r + 1) wish.to wish.via wish.expires (offer_of (counter r) wish.offer)

    whole : Answer
    whole = adds r (rec ∷ []) (λ after. option_to_list (request_at after (length (makers r) + 1)))

    same : counter r ≡ counter a
    same = kept-counter r a w

    allows : Allows a b (rec ∷ [])
    allows = ((ap (λ z. z + 1) same, offer_of-fresh r a wish.offer same), tt, tt)

-- what came: of the other node, or of a stranger
judged-fair : (n : ℕ) (terms : Terms) (place : ℕ) (r a b : List Fact) (now : ℕ) (y : Behaviour) (m : Message)
    (v : Option FaultKind) → AreTerms terms → Keeps r a → Owns n a → IsStranger a b m
    → verdict terms r place now y m ≡ v → IsFair terms place a b (judged terms r now y m v)
judged-fair n terms place r a b now y m (Some kind) t w o h e = record {
  allows = tt;
  says = (
    subst (λ z. Says z (terms.fault (refusal_of m kind) (fault_block r now m kind))) (sym (append-nil a))
        (verdict-says terms r a now m kind t w),
    tt,
  );
  fetched = tt;
  room = refl;
}
judged-fair n terms place r a b now y m None t w o h e =
    let allows = rows-strange n terms r a b now y m w o h in
    record {
      allows = allows;
      says = said-says (r ++ rows terms now y m r) (a ++ rows terms now y m r) now m
          (Keeps-adds r a b (rows terms now y m r) allows w);
      fetched = tt;
      room = verdict-room terms r place now y m e;
    }

-- the answer to a MakeConnection, at a node that said what waits there
polls-fair : (terms : Terms) (place : ℕ) (a b : List Fact) (w : Waiting Message) (content : Result Message Refusal)
    (answer : Answer) → AreSaid a w → IsFair terms place a b answer → IsFair terms place a b (polls w content answer)
polls-fair terms place a b w content answer s h =
    let later : AreSaid (a ++ answer.delta) w =
    AreSaid-grows a (a ++ answer.delta) w (Grows-adds a b answer.delta h.allows) s in
    record {
      allows = h.allows;
      says = outs-all (Says (a ++ answer.delta)) w content answer h.says;
      fetched = fetched-all (Says (a ++ answer.delta)) (of-replies (a ++ answer.delta)) w content answer later h.says;
      room = h.room;
    }

-- each record that may come next has a message number, where it has a number
number-fits : (r : List Fact) (rec : Fact) → fits r rec ≡ true → HasNumber rec
number-fits r (Received s n p) e =
    in-limits (is_incoming_side (maker r s)) (not (has_number (held r s) n) && not (is_stopped r s)) n e
  where
    first : (x y : Bool) → (x && y) ≡ true → x ≡ true
    first true y e = refl
    first false y e = absurd (cc)

    rest : (x y : Bool) → (x && y) ≡ true → y ≡ true
    rest true y e = e
    rest false y e = absurd (cc)

    from_one : (n : ℕ) → nat_le 1 n ≡ true → 1 ≤ n
    from_one n e = grind (arith, nat_tests)

    upto_max : (n : ℕ) → nat_le n max_number ≡ true → n ≤ max_number
    upto_max n e = grind (arith, nat_tests)

    in-limits : (x y : Bool) (n : ℕ) → (x && (nat_le 1 n && (nat_le n max_number && y))) ≡ true
        → (1 ≤ n) × (n ≤ max_number)
    in-limits x y n e =
        let most = rest x (nat_le 1 n && (nat_le n max_number && y)) e in (
          from_one n (first (nat_le 1 n) (nat_le n max_number && y) most),
          upto_max n (first (nat_le n max_number) y (rest (nat_le 1 n) (nat_le n max_number && y) most)),
        )
number-fits r _ e = tt

numbers-fit : (r d : List Fact) → all_fit r d ≡ true → AllByRecursion HasNumber d
numbers-fit r [] e = tt
numbers-fit r (rec ∷ d) e =
    elim (fits r rec) as (λ z. fits r rec ≡ z → (z && all_fit (r ++ rec ∷ []) d) ≡ true
    → HasNumber rec × AllByRecursion HasNumber d) [
      | true ↦ λ f g. (number-fits r rec f, numbers-fit (r ++ rec ∷ []) d g)
      | false ↦ λ f g. absurd (cc)
    ] refl e

received-have : (r : List Fact) (s : ℕ) → AllByRecursion HasNumber r
    → AllByRecursion (λ (m : ℕ × Payload). IsNumbered m.0) (received r s)
received-have [] s h = tt
received-have (Received t i p ∷ r) s h =
    All-append (λ (m : ℕ × Payload). IsNumbered m.0) (received_of s (Received t i p)) (received r s)
    (elim (t == s) as (λ z. AllByRecursion (λ (m : ℕ × Payload). IsNumbered m.0) (cond z ((i, p) ∷ []) [])) [
      | true ↦ (record { from = h.0.0; upto = h.0.1 }, tt)
      | false ↦ tt
    ])
    (received-have r s h.1)
received-have (rec ∷ r) s h = received-have r s h.1

-- what a step makes of a node, while the other one has b
record PairWent (terms : Terms) (x y : Node) (b : List Fact) (outs : List Message) : Type 0 where
  delta : List Fact
  is : y.whole ≡ x.whole ++ delta
  allows : Allows x.whole b delta
  fits : all_fit (records x) delta ≡ true
  goes_on : MayGoOn terms y b y.state
  stands : StandFor (records y) y.whole
  bounded : IsBounded terms y
  numbered : AllByRecursion HasNumber y.whole
  waits : AreSaid y.whole y.polled
  parked : AllWaiting IsParked y.polled
  says : AllByRecursion (Says y.whole) outs

MayGoOn-grows : (terms : Terms) (x : Node) (b c : List Fact) → Grows b c → (state : State)
    → MayGoOn terms x b state → MayGoOn terms x c state
MayGoOn-grows terms x b c g (Writing delta) h = (Allows-grows x.whole b c g delta h.0, h.1, h.2)
MayGoOn-grows terms x b c g Up h = h
MayGoOn-grows terms x b c g (Compacting start) h = h

pair-goes : (terms : Terms) (n m : ℕ) (x y z : Node) (xs ys outs : List Message) → IsPair terms n m x y xs ys
    → PairWent terms x z y.whole outs → IsPair terms n m z y (xs ++ outs) ys
pair-goes terms n m x y z xs ys outs h t =
    let grown : Grows x.whole z.whole =
    subst (Grows x.whole) (sym t.is) (Grows-adds x.whole y.whole t.delta t.allows) in
    record {
      numbers = h.numbers;
      agree = subst (λ k. Agree n m k y.whole) (sym t.is) (Agree-adds n m x.whole y.whole t.delta t.allows h.agree);
      one = record {
        goes_on = t.goes_on;
        stands = t.stands;
        bounded = t.bounded;
        numbered = t.numbered;
        waits = t.waits;
        parked = t.parked;
        says = All-append (Says z.whole) xs outs
            (All-weaker (Says x.whole) (Says z.whole) (λ k s. Says-grows x.whole z.whole k grown s) xs h.one.says)
            t.says;
      };
      two = record {
        goes_on = MayGoOn-grows terms y x.whole z.whole grown y.state h.two.goes_on;
        stands = h.two.stands;
        bounded = h.two.bounded;
        numbered = h.two.numbered;
        waits = h.two.waits;
        parked = h.two.parked;
        says = h.two.says;
      };
    }

-- a node has the same records, and says nothing
stays : (terms : Terms) (x y : Node) (b : List Fact) (xs : List Message) → IsPairNode terms x b xs
    → y.whole ≡ x.whole → MayGoOn terms y b y.state → StandFor (records y) y.whole
    → IsBounded terms y → AreSaid y.whole y.polled → AllWaiting IsParked y.polled → PairWent terms x y b []
stays terms x y b xs h e f k i q p = record {
  delta = [];
  is = e ∙ sym (append-nil x.whole);
  allows = tt;
  fits = refl;
  goes_on = f;
  stands = k;
  bounded = i;
  numbered = subst (AllByRecursion HasNumber) (sym e) h.numbered;
  waits = q;
  parked = p;
  says = tt;
}

same-bound : (terms : Terms) (x : Node) → IsBounded terms x → IsBounded terms x
same-bound terms x i = record { below = i.below; store = i.store }

-- a batch of a node that is up
pair-written : (terms : Terms) (x : Node) (b : List Fact) (xs : List Message) (delta : List Fact) (connected : Bool)
    (fetched outs : List Message) (w : Waiting Message) → AreTerms terms → x.state ≡ Up → IsPairNode terms x b xs
    → Allows x.whole b delta → has_room terms (node_end terms x) delta ≡ true → all_fit (records x) delta ≡ true
    → AllByRecursion (Says (x.whole ++ delta)) fetched → AllByRecursion (Says (x.whole ++ delta)) outs
    → AreSaid (x.whole ++ delta) w → AllWaiting IsParked w
    → PairWent terms x (record (written x delta) { polled = polled_with x.fuse delta x.polled w }) b
    (said_with x.fuse delta fetched ++ sent_of connected (said_with x.fuse delta outs))
pair-written terms x b xs [] connected fetched outs w t up h k room fit s s2 new calm = record {
  delta = [];
  is = sym (append-nil x.whole);
  allows = tt;
  fits = refl;
  goes_on = subst (MayGoOn terms x b) (sym up) tt;
  stands = h.stands;
  bounded = record { below = h.bounded.below; store = h.bounded.store };
  numbered = h.numbered;
  waits = subst (λ z. AreSaid z w) (append-nil x.whole) new;
  parked = calm;
  says = subst (λ z. AllByRecursion (Says z) (fetched ++ sent_of connected outs)) (append-nil x.whole)
      (leaving (x.whole ++ []) connected fetched outs s s2);
}
pair-written terms x b xs (rec ∷ delta) connected fetched outs w t up h k room fit s s2 new calm =
    let fits = room-bound terms (node_end terms x) rec delta room in
    elim (is_short 4 x.fuse) as (λ z. PairWent terms x
    (record (cond z (goes_down x (rec ∷ delta)) (with_batch x (rec ∷ delta))) { polled = cond z x.polled w }) b
    (cond z [] fetched ++ sent_of connected (cond z [] outs))) [
      | true ↦ record {
        delta = [];
        is = sym (append-nil x.whole);
        allows = tt;
        fits = refl;
        goes_on = (k, fits, fit);
        stands = h.stands;
        bounded = record { below = h.bounded.below; store = h.bounded.store };
        numbered = h.numbered;
        waits = h.waits;
        parked = h.parked;
        says = tt;
      }
      | false ↦
          let more = bounded-with terms x (rec ∷ delta) t h.bounded.below fits in
          record {
            delta = rec ∷ delta;
            is = refl;
            allows = k;
            fits = fit;
            goes_on = subst (MayGoOn terms (with_batch x (rec ∷ delta)) b) (sym up) tt;
            stands = stands-with x b (rec ∷ delta) h.stands k fit;
            bounded = record { below = more.0; store = more.1 };
            numbered = All-append HasNumber x.whole (rec ∷ delta) h.numbered
                (numbers-fit (records x) (rec ∷ delta) fit);
            waits = new;
            parked = calm;
            says = leaving (x.whole ++ (rec ∷ delta)) connected fetched outs s s2;
          }
    ]

-- which keys move is nothing to the other node
pair-moved : (terms : Terms) (x y : Node) (b : List Fact) (answer : Answer) (outs : List Message)
    → PairWent terms x y b outs → PairWent terms x (with_moves x answer y) b outs
pair-moved terms x y b answer outs t = record {
  delta = t.delta;
  is = t.is;
  allows = t.allows;
  fits = t.fits;
  goes_on = same y.state t.goes_on;
  stands = t.stands;
  bounded = record { below = t.bounded.below; store = t.bounded.store };
  numbered = t.numbered;
  waits = t.waits;
  parked = t.parked;
  says = t.says;
}
  where
    same : (z : State) → MayGoOn terms y b z → MayGoOn terms (with_moves x answer y) b z
    same Up h = tt
    same (Writing delta) h = h
    same (Compacting start) h = h

-- a call
pair-called : (terms : Terms) (x : Node) (b : List Fact) (xs : List Message) (connected : Bool) (answer : Answer)
    → AreTerms terms → IsPairNode terms x b xs → IsFair terms (node_end terms x) x.whole b answer
    → all_fit (records x) answer.delta ≡ true
    → PairWent terms x (after x answer) b (fetched_after x answer ++ sent_of connected (said_after x answer))
pair-called terms x b xs connected answer t h r fit = by_state x.state refl
  where
    rest : PairWent terms x x b []
    rest = stays terms x x b xs h refl h.goes_on h.stands h.bounded h.waits h.parked

    by_state : (z : State) → x.state ≡ z
        → PairWent terms x (after_by x z answer) b (fetched_by x z answer ++ sent_of connected (said_by x z answer))
    by_state Up e =
        let all = x.whole ++ answer.delta in
        let later : AreSaid all x.polled =
        AreSaid-grows x.whole all x.polled (Grows-adds x.whole b answer.delta r.allows) h.waits in
        pair-moved terms x (with_polled x answer (written x answer.delta)) b answer
        (fetched_by x Up answer ++ sent_of connected (said_by x Up answer))
        (pair-written terms x b xs answer.delta connected (fetched_message answer.fetched) answer.outs
        (polled_after x.polled answer) t e h r.allows r.room fit r.fetched r.says
        (polled_after-said all x.polled answer later r.says) (polled-parked x.polled answer h.parked))
    by_state (Writing delta) e = rest
    by_state (Compacting start) e = rest

-- a crash keeps what the failed call wrote, or leaves it
pair-mounted : SnapshotLaws → (terms : Terms) (x : Node) (b : List Fact) (xs : List Message) (kept : Bool)
    → AreTerms terms → IsPairNode terms x b xs → PairWent terms x (mounted x kept) b []
pair-mounted laws terms x b xs kept t h = by_state x.state kept h.goes_on
  where
    by_state : (z : State) (kept : Bool) → MayGoOn terms x b z
        → PairWent terms x (record x {
          entries = entries_left z kept x.entries;
          start = start_left z kept x.start;
          whole = whole_left z kept x.whole;
          fuse = None;
          state = Up;
          waits = mounted_waits (records_in (entries_left z kept x.entries));
          time = 0;
          polled = nothing_waits;
        }) b []
    by_state (Writing delta) true f =
        let more = bounded-with terms x delta t h.bounded.below f.1 in
        record {
          delta = delta;
          is = refl;
          allows = f.0;
          fits = f.2;
          goes_on = tt;
          stands = stands-with x b delta h.stands f.0 f.2;
          bounded = record { below = more.0; store = more.1 };
          numbered = All-append HasNumber x.whole delta h.numbered (numbers-fit (records x) delta f.2);
          waits = tt;
          parked = tt;
          says = tt;
        }
    by_state (Compacting start) true f =
        stays terms x _ b xs h refl tt (fresh-stands laws x.entries x.whole h.stands)
        (record { below = fresh-below terms start x.entries x.whole t h.stands.kept; store = f }) tt tt
    by_state (Writing delta) false f = stays terms x _ b xs h refl tt h.stands
        (record { below = h.bounded.below; store = h.bounded.store }) tt tt
    by_state (Compacting start) false f = stays terms x _ b xs h refl tt h.stands
        (record { below = h.bounded.below; store = h.bounded.store }) tt tt
    by_state Up kept f = stays terms x _ b xs h refl tt h.stands
        (record { below = h.bounded.below; store = h.bounded.store }) tt tt

-- a list that is written anew, or stays
pair-compacted : SnapshotLaws → (terms : Terms) (x : Node) (b : List Fact) (xs : List Message) → AreTerms terms
    → IsPairNode terms x b xs → PairWent terms x (compacted terms x) b []
pair-compacted laws terms x b xs t h = by_state x.state refl
  where
    rest : PairWent terms x x b []
    rest = stays terms x x b xs h refl h.goes_on h.stands h.bounded h.waits h.parked

    rewritten-went : x.state ≡ Up → may_compact terms x ≡ true → PairWent terms x (rewritten terms x) b []
    rewritten-went up may =
        let place = fresh-HasPlace terms x may h.bounded.store in
        elim (is_short 5 x.fuse) as (λ z. PairWent terms x
        (cond z (stops_compacting terms x) (with_list terms x)) b []) [
          | true ↦ stays terms x (stops_compacting terms x) b xs h refl place h.stands
              (record { below = h.bounded.below; store = h.bounded.store }) h.waits h.parked
          | false ↦ stays terms x (with_list terms x) b xs h refl
              (subst (MayGoOn terms (with_list terms x) b) (sym up) tt)
              (fresh-stands laws x.entries x.whole h.stands)
              (record {
                below = fresh-below terms (fresh_start terms x) x.entries x.whole t h.stands.kept;
                store = place;
              })
              h.waits h.parked
        ]

    by_state : (z : State) → x.state ≡ z → PairWent terms x (compacted_by terms x z) b []
    by_state Up e = elim (may_compact terms x) as (λ z. may_compact terms x ≡ z
        → PairWent terms x (cond z (rewritten terms x) x) b []) [
          | true ↦ λ may. rewritten-went e may
          | false ↦ λ may. rest
        ] refl
    by_state (Writing delta) e = rest
    by_state (Compacting start) e = rest

-- a node of which only what is beside its disk changes: the rest is as it was
pair-armed : (terms : Terms) (x : Node) (b : List Fact) (xs : List Message) (fuse : Option ℕ)
    → IsPairNode terms x b xs → PairWent terms x (record x { fuse = fuse }) b []
pair-armed terms x b xs fuse h = stays terms x (record x { fuse = fuse }) b xs h refl (same x.state h.goes_on) h.stands
    (record { below = h.bounded.below; store = h.bounded.store }) h.waits h.parked
  where
    same : (z : State) → MayGoOn terms x b z → MayGoOn terms (record x { fuse = fuse }) b z
    same Up k = tt
    same (Writing delta) k = k
    same (Compacting start) k = k

pair-granted : (terms : Terms) (x : Node) (b : List Fact) (xs : List Message) (y : Behaviour)
    → IsPairNode terms x b xs → PairWent terms x (record x { granted = y }) b []
pair-granted terms x b xs y h = stays terms x (record x { granted = y }) b xs h refl (same x.state h.goes_on) h.stands
    (record { below = h.bounded.below; store = h.bounded.store }) h.waits h.parked
  where
    same : (z : State) → MayGoOn terms x b z → MayGoOn terms (record x { granted = y }) b z
    same Up k = tt
    same (Writing delta) k = k
    same (Compacting start) k = k

clocked-node : (terms : Terms) (x : Node) (b : List Fact) (xs : List Message) (clock : ℕ) → IsPairNode terms x b xs
    → IsPairNode terms (record x { clock = clock }) b xs
clocked-node terms x b xs clock h = record {
  goes_on = same x.state h.goes_on;
  stands = h.stands;
  bounded = record { below = h.bounded.below; store = h.bounded.store };
  numbered = h.numbered;
  waits = h.waits;
  parked = h.parked;
  says = h.says;
}
  where
    same : (z : State) → MayGoOn terms x b z → MayGoOn terms (record x { clock = clock }) b z
    same Up k = tt
    same (Writing delta) k = k
    same (Compacting start) k = k

-- a call whose clock was set before
clock-aside : (terms : Terms) (x z : Node) (b : List Fact) (outs : List Message) (clock : ℕ)
    → PairWent terms (record x { clock = clock }) z b outs → PairWent terms x z b outs
clock-aside terms x z b outs clock t = record {
  delta = t.delta;
  is = t.is;
  allows = t.allows;
  fits = t.fits;
  goes_on = t.goes_on;
  stands = t.stands;
  bounded = t.bounded;
  numbered = t.numbered;
  waits = t.waits;
  parked = t.parked;
  says = t.says;
}

-- the other node's numbers are few
pair-few : (terms : Terms) (m : ℕ) (y : Node) → Owns m y.whole → IsBounded terms y → IsFew m y.whole
pair-few terms m y o i = record {
  owns = o;
  few = small-counter (counter y.whole) (node_end terms y) i.below i.store;
}

-- what comes may be added, and may come next
record MayBeTaken (terms : Terms) (x : Node) (b : List Fact) (content : Result Message Refusal) : Type 0 where
  fair_ : IsFair terms (node_end terms x) x.whole b
      (receive terms (records x) (node_end terms x) x.clock x.granted content)
  readable : IsReadable content

pub said-numbers : (terms : Terms) (y : Node) (b : List Fact) (ys : List Message) (m : Message)
    → IsPairNode terms y b ys → Says y.whole m → HasNumbers m
said-numbers terms y b ys m h s =
    says-numbers y.whole m (whole-few (records y) y.whole h.stands) (λ t. received-have y.whole t h.numbered) s

taken : (terms : Terms) (n m : ℕ) (x y : Node) (xs ys : List Message) (content : Result Message Refusal)
    → AreTerms terms → IsPair terms n m x y xs ys → MayCome x.whole y.whole ys content
    → MayBeTaken terms x y.whole content
taken terms n m x y xs ys (Err refusal) t h c = record {
  fair_ = fair terms (node_end terms x) x.whole y.whole _ (receive-right n m terms (node_end terms x) (records x)
      x.whole y.whole x.clock x.granted (Err refusal) t h.one.stands.kept h.agree.owns
      (pair-few terms m y h.agree.others h.two.bounded) tt);
  readable = tt;
}
taken terms n m x y xs ys (Ok message) t h (inl among) =
    let says : Says y.whole message = All-numbered (Says y.whole) ys among.0 message h.two.says among.1 in
    record {
      fair_ = fair terms (node_end terms x) x.whole y.whole _ (receive-right n m terms (node_end terms x) (records x)
          x.whole y.whole x.clock x.granted (Ok message) t h.one.stands.kept h.agree.owns
          (pair-few terms m y h.agree.others h.two.bounded) says);
      readable = said-numbers terms y x.whole ys message h.two says;
    }
taken terms n m x y xs ys (Ok message) t h (inr stranger) = record {
  fair_ = judged-fair n terms (node_end terms x) (records x) x.whole y.whole x.clock x.granted message
      (verdict terms (records x) (node_end terms x) x.clock x.granted message) t h.one.stands.kept h.agree.owns
      stranger refl;
  readable = stranger.numbers;
}

befalls : SnapshotLaws → (terms : Terms) (n m : ℕ) (x y : Node) (xs ys : List Message) (act : Act) → AreTerms terms
    → IsPair terms n m x y xs ys → MayBefall x.whole y.whole ys act
    → PairWent terms x (acted terms x act).node y.whole (left (acted terms x act))
befalls laws terms n m x y xs ys act t h c = by_act act c
  where
    b : List Fact
    b = y.whole

    place : ℕ
    place = node_end terms x

    next : AddsNext terms (records x) place
    next = adds-next terms (records x) place t.deadline h.one.stands.fit

    kept : Keeps (records x) x.whole
    kept = h.one.stands.kept

    called : (connected : Bool) (answer : Answer) → IsFair terms place x.whole b answer
        → all_fit (records x) answer.delta ≡ true
        → PairWent terms x (after x answer) b (fetched_after x answer ++ sent_of connected (said_after x answer))
    called connected answer r fit = pair-called terms x b xs connected answer t h.one r fit

    by_act : (act : Act) → MayBefall x.whole b ys act
        → PairWent terms x (acted terms x act).node b (left (acted terms x act))
    by_act (Creates wish) c = called false (create terms (records x) place wish)
        (create-fair terms place (records x) x.whole b wish kept) (next.create_ wish)
    by_act (Grants behaviour) c = pair-granted terms x b xs behaviour h.one
    by_act (Sends seq text) c = called false (send terms (records x) place seq text)
        (fair terms place x.whole b _ (send-right terms place (records x) x.whole b seq text kept))
        (next.send_ seq text)
    by_act (Ticks now) c =
        let clock = (with_clock x now).clock in
        let v : Node = with_clock x now in
        clock-aside terms x _ b _ clock
        (pair-called terms v b xs false (tick terms (records x) place now x.time x.waits) t
        (clocked-node terms x b xs clock h.one)
        (fair terms place x.whole b _ (tick-right terms place (records x) x.whole b now x.time x.waits kept))
        (next.tick_ now (first_due (max x.time now) x.waits)))
    by_act (Closes seq) c = called false (close terms (records x) place seq x.clock)
        (fair terms place x.whole b _ (close-right terms place (records x) x.whole b seq x.clock kept))
        (next.close_ seq x.clock)
    by_act (Ends seq) c = called false (end terms (records x) place seq)
        (fair terms place x.whole b _ (end-right terms place (records x) x.whole b seq kept)) (next.end_ seq)
    by_act (AsksAck seq) c = called false (ask_ack (records x) seq)
        (fair terms place x.whole b _ (ask_ack-right terms place (records x) x.whole b seq)) (next.ask_ack_ seq)
    by_act (NacksMissing seq) c = called false (nack_missing (records x) seq x.clock)
        (fair terms place x.whole b _ (nack_missing-right terms place (records x) x.whole b seq x.clock))
        (next.nack_missing_ seq x.clock)
    by_act (Polls to) c = called false (poll (records x) to)
        (fair terms place x.whole b _ (poll-right terms place (records x) x.whole b to)) refl
    by_act (Consumes seq upto) c = called false (consume terms (records x) place seq upto)
        (fair terms place x.whole b _ (consume-right terms place (records x) x.whole b seq upto))
        (next.consume_ seq upto)
    by_act (Receives content) c =
        let may = taken terms n m x y xs ys content t h c in
        called true (received_by terms x content)
        (polls-fair terms place x.whole b x.polled content
        (receive terms (records x) place x.clock x.granted content) h.one.waits may.fair_)
        (next.receive_ x.clock x.granted content may.readable)
    by_act Compacts c = pair-compacted laws terms x b xs t h.one
    by_act (Arms calls) c = pair-armed terms x b xs (armed calls x.fuse) h.one
    by_act (Crashes kept) c = pair-mounted laws terms x b xs kept t h.one

pair-stays : (terms : Terms) (n m : ℕ) (x y z : Node) (xs ys outs : List Message) (t : ℕ) → IsPair terms n m x y xs ys
    → PairWent terms x z y.whole outs → GoesOn x.whole z.whole t
pair-stays terms n m x y z xs ys outs t h w =
    subst (λ k. GoesOn x.whole k t) (sym w.is)
    (goes-on-adds n m (records x) x.whole y.whole w.delta t h.one.stands.kept h.agree w.allows w.fits)

pub stays-a-pair : SnapshotLaws → StaysAPair
stays-a-pair laws terms n m x y xs ys act t h c =
    let z = (acted terms x act).node in
    let outs = left (acted terms x act) in
    let w = befalls laws terms n m x y xs ys act t h c in
    record {
      pair = pair-goes terms n m x y z xs ys outs h w;
      goes_on = λ seq. pair-stays terms n m x y z xs ys outs seq h w;
      gained = gains terms x act;
      back = backs terms x act h.one.parked;
    }
