-- What two lists have in common of which one says the same as the other, but for payloads that are gone.
use Rattle.std.proofs.Common.{◌≡◌, ℕ, ◌+◌, ◌-◌, Bool, ◌&&◌, ◌||◌, not, cond, List, [], ◌∷◌, length, refl, sym, ◌∙◌, ap}
use Rattle.std.proofs.Common.{arith, Option, Some, None}
use Rattle.std.specs.Prelude.{suc, is_none}
use Rattle.std.specs.List.{flat_map}
use Rattle.std.specs.Str.{bytes_eq}
use Rattle.rm_sides.specs.Ranges.Changes.{united}
use Rattle.rm_sides.specs.Ranges.Laws.{EndsAreRight, SameNumbersSameRanges, UnionHasBoth}
use Rattle.rm_sides.specs.Ranges.Ranges.{count_of}
use Rattle.rm_base.specs.Numbered.{numbered}
use Rattle.rm_sides.specs.Destination.Incoming.{is_past}
use Rattle.rm_sides.specs.Destination.Messages.{any_true, is_empty}
use Rattle.record_batch.specs.Fact.{Fact}
use Rattle.record_batch.specs.Sequences.Words.{Text, at_seq, first_or, last_or}
use Rattle.record_batch.specs.Sequences.Destinations.{close_of, closes, deadline_of, has_end, is_stopped}
use Rattle.record_batch.specs.Sequences.Find.{accept_of, accepted_by, acks_to, acks_to_of, find_from, is_creating}
use Rattle.record_batch.specs.Sequences.Find.{is_granted}
use Rattle.record_batch.specs.Sequences.Find.{is_incoming, peer_of}
use Rattle.record_batch.specs.Sequences.Idents.{issue}
use Rattle.record_batch.specs.Sequences.Makers.{Maker, Outgoing, Offered, Incoming, Taken, ident_in, maker, makers}
use Rattle.record_batch.specs.Sequences.Makers.{number}
use Rattle.record_batch.specs.Sequences.Makers.{seq_in}
use Rattle.record_batch.specs.Sequences.Sources.{accepted_count, acked, first_phase, is_sending, mark_of, marks}
use Rattle.record_batch.specs.Sequences.Sources.{out_ident}
use Rattle.record_batch.specs.Sequences.Sources.{phase, unacked, unacked_at, unacked_from}
use Rattle.record_batch.specs.Snapshot.AckedLemmas.{unions}
use Rattle.record_batch.specs.Snapshot.FactLemmas.{facts-equal}
use Rattle.record_batch.specs.Snapshot.GoneLemmas.{numbers-from-one}
use Rattle.record_batch.specs.Snapshot.KeepLemmas.{snapshot-says}
use Rattle.record_batch.specs.Snapshot.Same.{SnapshotKnowsAll, FrameDecides, FrameFacts, SameFrame, SameUnacked}
use Rattle.record_batch.specs.Snapshot.Same.{SaysTheSame}
use Rattle.record_batch.specs.Snapshot.Same.{SetsUnite, UnackedIsEqual}
use Rattle.record_batch.specs.Snapshot.Snapshot.{snapshot}
use Rattle.record_batch.specs.Snapshot.WalkLemmas.{snapshot-fits}
use Rattle.record_batch.specs.Snapshot.WrittenLemmas.{snapshot-is-proper}

-- ---- what the frame decides

find_same : (f g : ℕ → Maker → Bool) → ((s : ℕ) (m : Maker) → f s m ≡ g s m) → (k : ℕ) (ms : List Maker)
    → find_from f k ms ≡ find_from g k ms
find_same f g each k [] = refl
find_same f g each k (m ∷ ms) =
    ap (λ b. cond b (Some (suc k)) (find_from f (suc k) ms)) (each (suc k) m)
    ∙ ap (λ o. cond (g (suc k) m) (Some (suc k)) o) (find_same f g each (suc k) ms)

module _ (q r : List Fact) (frame : SameFrame q r) where
  at : {A : Type 0} (s : ℕ) (g : Fact → List (ℕ × A)) → flat_map g q ≡ flat_map g r
      → at_seq s (flat_map g q) ≡ at_seq s (flat_map g r)
  at s g e = ap (λ xs. at_seq s xs) e

  number_same : number q ≡ number r
  number_same = ap (λ ns. first_or 0 ns) frame.nodes

  ident_same : (s : ℕ) → out_ident q s ≡ out_ident r s
  ident_same s = ap (λ cs. ident_in cs s) frame.created_

  marks_same : (s : ℕ) → marks q s ≡ marks r s
  marks_same s = at s mark_of frame.marks_

  pub phase_same : (s : ℕ) → phase q s ≡ phase r s
  phase_same s = ap (λ o. last_or (first_phase o) (marks q s)) (ident_same s)
      ∙ ap (λ ms. last_or (first_phase (out_ident r s)) ms) (marks_same s)

  closes_same : (s : ℕ) → closes q s ≡ closes r s
  closes_same s = at s close_of frame.closes_

  maker_same : (s : ℕ) → maker q s ≡ maker r s
  maker_same s = ap (λ ms. numbered ms s) frame.makers_

  stopped_same : (s : ℕ) → is_stopped q s ≡ is_stopped r s
  stopped_same s = ap (λ cs. not (is_empty cs)) (closes_same s)

  past_same : (s now : ℕ) → is_past (deadline_of (maker q s)) now ≡ is_past (deadline_of (maker r s)) now
  past_same s now = ap (λ m. is_past (deadline_of m) now) (maker_same s)

  accepted_by_same : (s : ℕ) → accepted_by q s ≡ accepted_by r s
  accepted_by_same s = ap (λ xs. first_or None xs) (at s accept_of frame.accepts)

  acks_to_at : (s : ℕ) (m : Option Maker) → acks_to_of q s m ≡ acks_to_of r s m
  acks_to_at s None = refl
  acks_to_at s (Some (Incoming counter message_id acks_to behaviour deadline lapse)) = refl
  acks_to_at s (Some (Offered ticket counter to behaviour)) = accepted_by_same (s - 1)
  acks_to_at s (Some (Outgoing ticket to via lapse)) = refl
  acks_to_at s (Some (Taken message_id ident endpoint)) = refl

  creating_same : (t : Text) (s : ℕ) (m : Maker) → is_creating q t s m ≡ is_creating r t s m
  creating_same t s (Outgoing ticket to via lapse) =
      ap (λ n. bytes_eq (issue n ticket) t && (is_none (out_ident q s) && is_empty (marks q s))) number_same
      ∙ ap (λ o. bytes_eq (issue (number r) ticket) t && (is_none o && is_empty (marks q s))) (ident_same s)
      ∙ ap (λ ms. bytes_eq (issue (number r) ticket) t && (is_none (out_ident r s) && is_empty ms)) (marks_same s)
  creating_same t s (Incoming counter message_id acks_to behaviour deadline lapse) = refl
  creating_same t s (Offered ticket counter to behaviour) = refl
  creating_same t s (Taken message_id ident endpoint) = refl

  frame_facts : FrameFacts q r
  frame_facts = record {
    counter_ = ap length frame.draws;
    number_ = number_same;
    address_ = ap (λ xs. first_or [] xs) frame.addresses;
    phase_ = phase_same;
    out_ident_ = ident_same;
    stopped = stopped_same;
    ended = λ s now. ap (λ cs. any_true cs || is_past (deadline_of (maker q s)) now) (closes_same s)
        ∙ ap (λ b. has_end r s || b) (past_same s now);
    over = λ s now. ap (λ b. b || is_past (deadline_of (maker q s)) now) (stopped_same s)
        ∙ ap (λ b. is_stopped r s || b) (past_same s now);
    peer_ = λ s. ap (λ m. peer_of m) (maker_same s);
    acks_to_ = λ s. ap (λ m. acks_to_of q s m) (maker_same s) ∙ acks_to_at s (maker r s);
    find_incoming_ = λ t. ap (λ ms. find_from (is_incoming (number q) t) 0 ms) frame.makers_
        ∙ ap (λ n. find_from (is_incoming n t) 0 (makers r)) number_same;
    find_outgoing_ = λ t. ap (λ cs. seq_in cs t) frame.created_;
    find_grant_ = λ t. ap (λ ms. find_from (is_granted t) 0 ms) frame.makers_;
    find_creating_ = λ t. ap (λ ms. find_from (is_creating q t) 0 ms) frame.makers_
        ∙ find_same (is_creating q t) (is_creating r t) (creating_same t) 0 (makers r);
  }

pub frame-decides : FrameDecides
frame-decides q r frame = frame_facts q r frame

-- ---- what waits for an acknowledgement

pub sets-unite : UnionHasBoth → SetsUnite
sets-unite both r fit proper s = (unions both [] r s [] tt fit (omega arith) proper).set

module _ (q r : List Fact) (same : SaysTheSame q r)
    (united_ : (s : ℕ) → united [] (acked q s) ≡ united [] (acked r s)) where
  unacked_same : (s : ℕ) → unacked q s ≡ unacked r s
  unacked_same s = ap (λ n. n - count_of (united [] (acked q s))) (same.sent s).count
      ∙ ap (λ xs. accepted_count r s - count_of xs) (united_ s)

  waiting_same : (s : ℕ) → cond (is_sending (phase q s)) (unacked q s) 0 ≡ cond (is_sending (phase r s)) (unacked r s) 0
  waiting_same s = ap (λ p. cond (is_sending p) (unacked q s) 0) (phase_same q r same.frame s)
      ∙ ap (λ n. cond (is_sending (phase r s)) n 0) (unacked_same s)

  unacked_at_same : (s : ℕ) (m : Maker) → unacked_at q s m ≡ unacked_at r s m
  unacked_at_same s (Outgoing ticket to via lapse) = waiting_same s
  unacked_at_same s (Taken message_id ident endpoint) = waiting_same s
  unacked_at_same s (Incoming counter message_id acks_to behaviour deadline lapse) = refl
  unacked_at_same s (Offered ticket counter to behaviour) = refl

  unacked_from_same : (k : ℕ) (ms : List Maker) → unacked_from q k ms ≡ unacked_from r k ms
  unacked_from_same k [] = refl
  unacked_from_same k (m ∷ ms) = ap (λ n. n + unacked_from q (k + 1) ms) (unacked_at_same (k + 1) m)
      ∙ ap (λ n. unacked_at r (k + 1) m + n) (unacked_from_same (k + 1) ms)

  same_unacked : SameUnacked q r
  same_unacked = record {
    united_ = united_;
    unacked_ = unacked_same;
    all_unacked_ = ap (λ ms. unacked_from q 0 ms) same.frame.makers_ ∙ unacked_from_same 0 (makers r);
  }

pub unacked-is-equal : UnionHasBoth → SameNumbersSameRanges → UnackedIsEqual
unacked-is-equal both only q r fit_q proper_q fit_r proper_r same = same_unacked q r same λ s.
    let new = unions both [] q s [] tt fit_q (omega arith) proper_q in
    let old = unions both [] r s [] tt fit_r (omega arith) proper_r in
    only _ _ new.set old.set (λ n. new.same n ∙ (same.sent s).acked_ n ∙ sym (old.same n))

-- ---- of a snapshot

pub snapshot-knows : UnionHasBoth → EndsAreRight → SameNumbersSameRanges → SnapshotKnowsAll
snapshot-knows both ends only r fit proper =
    let says = snapshot-says both ends r fit proper in
    let new = snapshot-fits both ends r fit proper in
    record {
      says = says;
      frame = frame-decides (snapshot r) r says.frame;
      each = λ s. facts-equal (snapshot r) r says s (numbers-from-one r fit s).received_
          (numbers-from-one (snapshot r) new s).purged_;
      unacked_ = unacked-is-equal both only (snapshot r) r new (snapshot-is-proper both ends r fit proper)
          fit proper says;
    }
