-- Where at most 64 keys are due, one fair round has each message acknowledged.
use Rattle.std.proofs.Common.{◌≡◌, ◌⊎◌, ℕ, zero, suc, ◌≤◌, ◌&&◌, ◌||◌, not, nat_le, Bool, true, false, List}
use Rattle.std.proofs.Common.{[], ◌∷◌, ◌++◌, length, refl, sym, ap, ◌∙◌, subst, arith, inl, inr}
use Rattle.std.specs.Prelude.{Option, Some}
use Rattle.std.specs.List.{AllByRecursion}
use Rattle.std.proofs.lemmas.Bool.{le-leb}
use Rattle.rm_sides.specs.Destination.Laws.{FrontIsReached}
use Rattle.rm_sides.specs.Ranges.Laws.{UnionHasBoth}
use Rattle.rm_sides.specs.Ranges.Ranges.{in_ranges}
use Rattle.rm_sides.specs.Ranges.Changes.{united}
use Rattle.timers.specs.declared.slots.timers.Key.{Key}
use Rattle.timers.specs.Keys.KeyLemmas.{same_key-is}
use Rattle.timers.specs.Keys.Waits.{Wait, due_at, first_due, has_key, keys_of, most_emitted, same_key}
use Rattle.wsa_headers.specs.declared.endpoint.Epr.{Epr}
use Rattle.record_batch.specs.Fact.{Fact}
use Rattle.record_batch.specs.Snapshot.Same.{NumbersAreFromOne}
use Rattle.record_batch.specs.Sequences.Makers.{Maker, Outgoing, Taken, maker}
use Rattle.record_batch.specs.Sequences.Sources.{accepted_count, acked, is_sending, phase}
use Rattle.record_batch.specs.Sequences.Find.{peer, peer_of}
use Rattle.record_batch.specs.Sequences.Told.{sending}
use Rattle.rm_protocol.specs.Exact.{OthersWaitOn}
use Rattle.rm_protocol.specs.Next.{EachMayComeNext}
use Rattle.rm_protocol.specs.Node.{records}
use Rattle.rm_protocol.specs.Waiting.{is_waiting, key, waits_in, waits_of}
use Rattle.rm_protocol.specs.World.{node}
use Rattle.rm_arrival.specs.Fair.{moment}
use Rattle.rm_arrival.specs.Few.{ARoundBringsAFew, IsDueAt, time_at}
use Rattle.rm_arrival.proofs.BringLemmas.{round-brings, round-keeps}
use Rattle.rm_arrival.proofs.DueLemmas.{few-emitted}
use Rattle.rm_arrival.proofs.OnwardLemmas.{StaysSound}
use Rattle.rm_arrival.proofs.WaitLemmas.{Has}

-- ---- what isn't acknowledged waits

-- a sequence with a peer is one that sends
waits-by : (r : List Fact) (s i : ℕ) (to : Epr) (o : Option Maker) → peer_of o ≡ Some to
    → waits_in (sending r s) i ≡ true → waits_of r s i o ≡ true
waits-by r s i to (Some (Outgoing ticket at via lapse)) e h = h
waits-by r s i to (Some (Taken message_id ident endpoint)) e h = h
waits-by r s i to _ e h = absurd (cc (e))

all-three : (x y z : Bool) → x ≡ true → y ≡ true → z ≡ false → (x && (y && not z)) ≡ true
all-three x y z ex ey ez = rw (ex, ey, ez) refl

pub waits-else : (r : List Fact) (s i : ℕ) (to : Epr) → peer r s ≡ Some to → is_sending (phase r s) ≡ true
    → suc i ≤ accepted_count r s → (Has r s (suc i)) ⊎ (is_waiting r (key s (suc i)) ≡ true)
waits-else r s i to e sends le =
    elim (in_ranges (united [] (acked r s)) (suc i)) as (λ b. in_ranges (united [] (acked r s)) (suc i) ≡ b
    → (Has r s (suc i)) ⊎ (is_waiting r (key s (suc i)) ≡ true)) [
      | true ↦ λ h. inl h
      | false ↦ λ h. inr (waits-by r s (suc i) to (maker r s) e
          (all-three (is_sending (phase r s)) (nat_le (suc i) (accepted_count r s))
          (in_ranges (united [] (acked r s)) (suc i)) sends (le-leb (suc i) (accepted_count r s) le) h))
    ] refl

-- ---- what waits is emitted

-- where the key stands
pub record Stood (now : ℕ) (k : Key) (waits : List Wait) : Type 0 where
  pub before : List Wait
  pub w : Wait
  pub behind : List Wait
  pub are : waits ≡ before ++ w ∷ behind
  pub is : w.key ≡ k
  pub due : IsDueAt now w

pub stood : (now : ℕ) (k : Key) (waits : List Wait) → AllByRecursion (IsDueAt now) waits
    → has_key (keys_of waits) k ≡ true → Stood now k waits
stood now k [] all h = absurd (cc (h))
stood now k (w ∷ waits) all h =
    elim (same_key k w.key) as (λ b. same_key k w.key ≡ b → (b || has_key (keys_of waits) k) ≡ true
    → Stood now k (w ∷ waits)) [
      | true ↦ λ e g. record {
        before = [];
        w = w;
        behind = waits;
        are = refl;
        is = sym (same_key-is k w.key e);
        due = all.0;
      }
      | false ↦ λ e g. let it = stood now k waits all.1 g in record {
        before = w ∷ it.before;
        w = it.w;
        behind = it.behind;
        are = ap (λ z. w ∷ z) it.are;
        is = it.is;
        due = it.due;
      }
    ] refl h

emitted-of-few : (now : ℕ) (k : Key) (waits : List Wait) → AllByRecursion (IsDueAt now) waits
    → length (due_at now waits) ≤ most_emitted → has_key (keys_of waits) k ≡ true
    → has_key (first_due now waits) k ≡ true
emitted-of-few now k waits all few h =
    let it = stood now k waits all h in
    let few_ : length (due_at now (it.before ++ it.w ∷ it.behind)) ≤ most_emitted =
    subst (λ z. length (due_at now z) ≤ most_emitted) it.are few in
    subst (λ z. has_key (first_due now z) k ≡ true) (sym it.are)
    (subst (λ z. has_key (first_due now (it.before ++ it.w ∷ it.behind)) z ≡ true) it.is
    (few-emitted now it.before it.w it.behind few_ it.due.class_ it.due.due))

pub few-brought : StaysSound → EachMayComeNext → OthersWaitOn → NumbersAreFromOne → FrontIsReached → UnionHasBoth
    → ARoundBringsAFew
few-brought sound_ next wait_on from reached both terms w events t sound stand fair side s u at sends few n
    below near open_ zero above le = absurd (omega (arith, above))
few-brought sound_ next wait_on from reached both terms w events t sound stand fair side s u at sends few n
    below near open_ (suc i) above le =
    elim (waits-else (records (node w side)) s i at.to at.peer_ sends (omega (arith, le, below))) [
      | inl has ↦ round-keeps sound_ both terms w events t sound stand fair side s (suc i) has
      | inr waits ↦
          let now = time_at (node w side) (moment fair side) in
          let due = emitted-of-few now (key s (suc i)) (node w side).waits few.each few.few
          (few.exact (key s (suc i)) ∙ waits) in
          round-brings sound_ next wait_on from reached both terms w events t sound stand fair side s u i at
          (record { waits = waits; due = due }) (omega (arith, le, near)) open_
    ]
