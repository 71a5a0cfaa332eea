-- From each world that a script reaches, one fair round brings what a few keys stand for.
use Rattle.std.proofs.Common.{◌≡◌, ℕ, suc, ◌+◌, ◌-◌, ◌<◌, ◌≤◌, nat_le, cond, Bool, true, false, List}
use Rattle.std.proofs.Common.{[], ◌∷◌, ◌++◌, length, refl, sym, ap, ◌∙◌, subst, arith}
use Rattle.std.specs.Prelude.{Option, Some, None, slice_get}
use Rattle.std.specs.List.{AllByRecursion}
use Rattle.std.proofs.lemmas.Bool.{false≢true}
use Rattle.std.proofs.lemmas.Bool.Decides.{nat_tests}
use Rattle.std.proofs.lemmas.Slice.Eq.{bytes_eq-Decides}
use Rattle.rm_base.specs.Numbered.{numbered}
use Rattle.rm_base.specs.NumberSet.{has_number}
use Rattle.rm_base.specs.declared.message.Behaviour.TheVariants.{FollowingFirstGap}
use Rattle.rm_sides.specs.Destination.Incoming.{inbox_of}
use Rattle.rm_sides.specs.Destination.Laws.{FrontIsReached}
use Rattle.rm_sides.specs.Ranges.Laws.{UnionHasBoth}
use Rattle.timers.specs.Keys.Waits.{Wait, due_at, most_emitted}
use Rattle.record_batch.specs.Fact.{Fact}
use Rattle.record_batch.specs.Snapshot.Same.{NumbersAreFromOne}
use Rattle.record_batch.specs.Sequences.Words.{Text}
use Rattle.record_batch.specs.Sequences.Idents.{issue}
use Rattle.record_batch.specs.Sequences.Makers.{Maker, makers, number}
use Rattle.record_batch.specs.Sequences.Sources.{out_ident}
use Rattle.record_batch.specs.Sequences.Destinations.{behaviour, front, held, inbox, items, told}
use Rattle.record_batch.specs.Sequences.Fits.{all_fit}
use Rattle.record_batch.specs.Sequences.Find.{IsIncoming, find_from, find_incoming, incoming_of, is_incoming, is_issued}
use Rattle.rm_protocol.specs.Crashes.{IsLeft, IsLeftWith, KeepsAll}
use Rattle.rm_protocol.specs.Exact.{OthersWaitOn}
use Rattle.rm_protocol.specs.Next.{EachMayComeNext}
use Rattle.rm_protocol.specs.Node.{Node, records}
use Rattle.rm_protocol.specs.Terms.{AreTerms, Terms}
use Rattle.rm_protocol.specs.Word.{KeepsWord, Matches}
use Rattle.rm_protocol.specs.World.{AreMade, Event, One, Side, Two, World, node, other, run, start}
use Rattle.rm_arrival.specs.Fair.{BothStand, IsReached, moment}
use Rattle.rm_arrival.specs.Few.{AllAcked, AreFewDue, IsDueAt, time_at}
use Rattle.rm_arrival.specs.Nodes.{Stands}
use Rattle.rm_arrival.specs.Round.{IsTimely}
use Rattle.rm_arrival.specs.Runs.{AFewArrive, EachRunWaitsRight, HasArrived, WaitsRight}
use Rattle.rm_arrival.proofs.BringLemmas.{round-onward}
use Rattle.rm_arrival.proofs.FewLemmas.{few-brought}
use Rattle.rm_arrival.proofs.MemberLemmas.{numbered-next}
use Rattle.rm_arrival.proofs.OnwardLemmas.{Onward, StaysSound, run-join}
use Rattle.rm_arrival.proofs.StartLemmas.{each-sound}
use Rattle.rm_arrival.proofs.StayLemmas.{find_incoming-stays, front-is, out_ident-stays}
use Rattle.rm_arrival.proofs.ValidLemmas.{number-at, sees}
use Rattle.rm_arrival.proofs.WaitsLemmas.{WaitLaws, run-right, start-right}

-- ---- what waits in a run

pub each-right : WaitLaws → StaysSound → EachRunWaitsRight
each-right laws sound_ terms one two t made events side =
    run-right laws sound_ terms events (start one two) t (each-sound sound_ terms one two t made [])
    (start-right one two) side

-- 64 seconds after the node's time all that waits is due
pub due-then : (time now : ℕ) (waits : List Wait) → time + 64000 ≤ now → AllByRecursion (IsTimely time) waits
    → AllByRecursion (IsDueAt now) waits
due-then time now [] le h = tt
due-then time now (w ∷ waits) le h = (
  record { class_ = h.0.class_; due = omega (arith, le, h.0.soon) },
  due-then time now waits le h.1,
)

few-due : (x : Node) (now : ℕ) → WaitsRight x → Stands x → x.time + 64000 ≤ now
    → length (due_at now x.waits) ≤ most_emitted → AreFewDue x (time_at x now)
few-due x now right stands le few =
    let same : now ≡ time_at x now = omega (arith, le) in
    subst (λ n. AreFewDue x n) same
    (record { exact = right.exact stands.up; each = due-then x.time now x.waits le right.timely; few = few })

-- ---- the two ends of a sequence match

-- the sequence that was found is there, and passes the test
pub record IsFound (f : ℕ → Maker → Bool) (k : ℕ) (ms : List Maker) (s : ℕ) : Type 0 where
  pub maker_ : Maker
  pub above : k < s
  pub there : slice_get ms (s - k - 1) ≡ Some maker_
  pub passes : f s maker_ ≡ true

pub find_from-is : (f : ℕ → Maker → Bool) (k : ℕ) (ms : List Maker) (s : ℕ) → find_from f k ms ≡ Some s
    → IsFound f k ms s
find_from-is f k [] s e = absurd (cc)
find_from-is f k (m ∷ ms) s e =
    elim (f (suc k) m) as (λ b. f (suc k) m ≡ b → cond b (Some (suc k)) (find_from f (suc k) ms) ≡ Some s
    → IsFound f k (m ∷ ms) s) [
      | true ↦ λ d h.
          let same : suc k ≡ s = cc in
          let place : s - k - 1 ≡ 0 = omega (arith, same) in
          record {
            maker_ = m;
            above = omega (arith, same);
            there = rw place refl;
            passes = subst (λ z. f z m ≡ true) same d;
          }
      | false ↦ λ d h.
          let rest = find_from-is f (suc k) ms s h in
          let above : suc k < s = rest.above in
          let place : s - k - 1 ≡ suc (s - suc k - 1) = omega (arith, above) in
          record {
            maker_ = rest.maker_;
            above = omega (arith, above);
            there = subst (λ j. slice_get (m ∷ ms) j ≡ Some rest.maker_) (sym place) rest.there;
            passes = rest.passes;
          }
    ] refl e

-- a sequence that was made so has this identifier
record IsIssued (n : ℕ) (q : Text) (o : Option (ℕ × Text)) : Type 0 where
  counter : ℕ
  message_id : Text
  made : o ≡ Some (counter, message_id)
  is : q ≡ issue n counter

issued-is : (n : ℕ) (q : Text) (o : Option (ℕ × Text)) → is_issued n q o ≡ true → IsIssued n q o
issued-is n q None e = absurd (false≢true e)
issued-is n q (Some x) e = record {
  counter = x.0;
  message_id = x.1;
  made = refl;
  is = sym ((bytes_eq-Decides (issue n x.0) q).0 e);
}

-- the sequence and whom it was made for
pub record IsIncomingFor (r : List Fact) (t : ℕ) (q : Text) : Type 0 where
  pub message_id : Text
  pub incoming : IsIncoming r t q message_id

pub found-incoming : (r : List Fact) (q : Text) (t : ℕ) → find_incoming r q ≡ Some t → IsIncomingFor r t q
found-incoming r q t e =
    let it = find_from-is (is_incoming (number r) q) 0 (makers r) t e in
    let above : 0 < t = it.above in
    let place : t ≡ suc (t - 0 - 1) = omega (arith, above) in
    let made = issued-is (number r) q (incoming_of (number r) it.maker_) it.passes in
    record {
      message_id = made.message_id;
      incoming = record {
        counter = made.counter;
        maker_ = it.maker_;
        there = subst (λ j. numbered (makers r) j ≡ Some it.maker_) (sym place)
            (numbered-next (makers r) (t - 0 - 1) ∙ it.there);
        made = made.made;
        is = made.is;
      };
    }

-- ---- the word of two nodes that stand

left-at : (x : Node) → Stands x → IsLeft x (records x) x.whole
left-at x stands = subst (λ z. IsLeftWith (records x) x.whole z (records x) x.whole) (sym stands.up) (refl, refl)

pub word-at : (w : World) (side : Side) → KeepsAll w → BothStand w
    → KeepsWord (records (node w side)) (node w side).whole (records (node w (other side))) (node w (other side)).whole
word-at w One keeps stand =
    keeps.one (records w.one) w.one.whole (records w.two) w.two.whole (left-at w.one (stand One))
    (left-at w.two (stand Two))
word-at w Two keeps stand =
    keeps.two (records w.two) w.two.whole (records w.one) w.one.whole (left-at w.two (stand Two))
    (left-at w.one (stand One))

-- where 1 to n are held, the front is at n or behind it, and so is the end of the inbox
pub at-front : NumbersAreFromOne → FrontIsReached → (r : List Fact) (t n : ℕ) → all_fit [] r ≡ true
    → ((i : ℕ) → 0 < i → i ≤ n → has_number (held r t) i ≡ true) → n ≤ front r t
at-front from reached r t n fit holds =
    let it = front-is from reached r t fit in
    elim (nat_le n (front r t)) as (λ b. nat_le n (front r t) ≡ b → n ≤ front r t) [
      | true ↦ λ h. grind (arith, nat_tests, h)
      | false ↦ λ h.
          let below : front r t + 1 ≤ n = grind (arith, nat_tests, h) in
          absurd (false≢true (sym it.ends ∙ holds (front r t + 1) (omega arith) below))
    ] refl

in-inbox : NumbersAreFromOne → FrontIsReached → (r : List Fact) (t n : ℕ) → all_fit [] r ≡ true
    → ((i : ℕ) → 0 < i → i ≤ n → has_number (held r t) i ≡ true) → behaviour r t ≡ FollowingFirstGap
    → n ≤ length (inbox r t)
in-inbox from reached r t n fit holds e =
    let same : length (inbox r t) ≡ front r t = ap (λ y. length (inbox_of y (told r t) (items r t))) e in
    let le = at-front from reached r t n fit holds in
    omega (arith, le, same)

-- each run keeps the word
abbrev pub EachRunKeeps : Type 0
EachRunKeeps =
    (terms : Terms) (one two : Text) → AreTerms terms → AreMade terms one two → (events : List Event)
    → KeepsAll (run terms events (start one two))

-- what is acknowledged in the end has arrived
pub arrived : EachRunKeeps → StaysSound → NumbersAreFromOne → FrontIsReached → (terms : Terms) (one two : Text)
    → AreTerms terms → AreMade terms one two → (events more : List Event) (side : Side) (s u : ℕ)
    → IsReached (run terms events (start one two)) side s u
    → Onward (run terms events (start one two)) (run terms more (run terms events (start one two))) → (n : ℕ)
    → AllAcked (run terms more (run terms events (start one two))) side s n
    → HasArrived (run terms more (run terms events (start one two))) side s u n
arrived word sound_ from reached terms one two t made events more side s u at on n acked_ =
    let w = run terms events (start one two) in
    let v = run terms more w in
    let o = other side in
    let sound = each-sound sound_ terms one two t made events in
    let mine = on.grown side in
    let theirs = on.grown o in
    let known : out_ident (records (node v side)) s ≡ Some at.ident =
    subst (λ r. out_ident r s ≡ Some at.ident) (sym mine.1)
    (out_ident-stays (records (node w side)) mine.0 s at.ident at.known) in
    let before = sees terms w o sound in
    let found : find_incoming (records (node v o)) at.ident ≡ Some u =
    subst (λ r. find_incoming r at.ident ≡ Some u) (sym theirs.1)
    (find_incoming-stays (records (node w o)) theirs.0 u before.digit at.ident (number-at w o before) at.theirs) in
    let incoming = found-incoming (records (node v o)) at.ident u found in
    let match : Matches (records (node v side)) (records (node v o)) s u = record {
      ident = at.ident;
      message_id = incoming.message_id;
      outgoing = record { is = known };
      incoming = incoming.incoming;
    } in
    let keeps : KeepsAll v =
    subst KeepsAll (run-join terms events more (start one two)) (word terms one two t made (events ++ more)) in
    let holds : (i : ℕ) → 0 < i → i ≤ n → has_number (held (records (node v o)) u) i ≡ true =
    λ i above le. (word-at v side keeps on.stand).held s u match i (acked_ i above le) in
    let last : all_fit [] (records (node v o)) ≡ true =
    subst (λ z. all_fit [] (records (node z o)) ≡ true) (run-join terms events more (start one two))
    (sees terms (run terms (events ++ more) (start one two)) o
    (each-sound sound_ terms one two t made (events ++ more))).stands.fit in
    record {
      acked_ = acked_;
      held_ = holds;
      released = λ e. in-inbox from reached (records (node v o)) u n last holds e;
    }

pub few-arrive : WaitLaws → EachRunKeeps → StaysSound → EachMayComeNext → OthersWaitOn → NumbersAreFromOne
    → FrontIsReached → UnionHasBoth → AFewArrive
few-arrive laws word sound_ next wait_on from reached both terms one two t made events round stand fair side s u at
    sends late few n below near open_ =
    let w = run terms events (start one two) in
    let sound = each-sound sound_ terms one two t made events in
    let right = each-right laws sound_ terms one two t made events side in
    arrived word sound_ from reached terms one two t made events round side s u at
    (round-onward terms w round stand fair) n
    (few-brought sound_ next wait_on from reached both terms w round t sound stand fair side s u at sends
    (few-due (node w side) (moment fair side) right (stand side) late few) n below near open_)
