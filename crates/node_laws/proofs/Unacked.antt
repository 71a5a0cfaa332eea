-- How many messages are not acknowledged, after one more record.
use Rattle.std.proofs.Common.{◌≡◌, ℕ, ◌+◌, ◌<◌, ◌≤◌, ◌==◌, ◌⊎◌, Bool, true, false, cond, List, []}
use Rattle.std.proofs.Common.{◌∷◌, ◌++◌, length, refl, sym, ap, subst, ◌∙◌, arith, inl, inr}
use Rattle.std.specs.Prelude.{◌&&◌, nat_le, nat_lt}
use Rattle.std.specs.List.{AllByRecursion}
use Rattle.std.proofs.lemmas.Bool.{and_parts, eqb-true, false≢true, leb-true}
use Rattle.std.proofs.lemmas.Bool.Decides.{nat_tests}
use Rattle.rm_sides.specs.Ranges.Changes.{united}
use Rattle.rm_sides.specs.Ranges.Laws.{RangeIsAdded}
use Rattle.rm_sides.specs.Ranges.Ranges.{count_of}
use Rattle.rm_sides.specs.declared.source.phase.OutPhase.{OutPhase}
use Rattle.rm_sides.specs.declared.source.phase.OutPhase.TheVariants as out
use Rattle.record_batch.specs.Fact.{Fact, Creating, Created, Granted, Accepted, Acked, Closing, ClosedOut}
use Rattle.record_batch.specs.Fact.{Dropped, Ending, EndedOut, Failed}
use Rattle.record_batch.specs.Sequences.Words.{at_seq, last_or}
use Rattle.record_batch.specs.Sequences.Makers.{Maker, Outgoing, Taken, makers, makers_of, maker}
use Rattle.record_batch.specs.Sequences.Sources.{accepted, accepted_count, accepted_of, acked, acked_of, dropped_of}
use Rattle.record_batch.specs.Sequences.Sources.{unacked}
use Rattle.record_batch.specs.Sequences.Sources.{unacked_at, unacked_from}
use Rattle.record_batch.specs.Sequences.Sources.{all_unacked, is_sending, phase, mark_of}
use Rattle.record_batch.specs.Sequences.Fits.{fits, all_fit, follows, follows_at, is_outgoing_side}
use Rattle.record_batch.specs.Sequences.Told.{opened_by}
use Rattle.record_batch.specs.Sequences.GatherLemmas.{flat_map-more, united-append}
use Rattle.record_batch.specs.Sequences.NameLemmas.{names-fit, elsewhere_accepted, elsewhere_dropped, unnamed}
use Rattle.record_batch.specs.Sequences.PhaseLemmas.{created-creating, phase-more}
use Rattle.record_batch.specs.Snapshot.SentLemmas.{count-more}
use Rattle.rm_protocol.specs.FitInduction.{creating-accepts-none}
use Rattle.node_laws.specs.Records.{HasValues, AreValues}
use Rattle.rm_base.specs.Message.{max_number}
use Rattle.rm_sides.specs.Source.Outgoing.{first_run}
use Rattle.node_laws.proofs.Near.{TakesNear, drops-none}
use Rattle.node_laws.proofs.Counts.{IsProper, canonical-proper, united-canonical, united-grows}
use Rattle.node_laws.proofs.Lists.{All-append}

-- ---- of one sequence

run-proper : (n : ℕ) → (nat_le 1 n && nat_le n max_number) ≡ true → IsProper (record { lower = 1; upper = n })
run-proper n h =
    let parts = and_parts (nat_le 1 n) (nat_le n max_number) h in
    record { low = omega arith; rises = leb-true 1 n parts.0; high = leb-true n max_number parts.1 }

-- acknowledged ranges are ranges of message numbers
acked-one : (r : List Fact) (s : ℕ) (f : Fact) → fits r f ≡ true → HasValues f → AllByRecursion IsProper (acked_of s f)
acked-one r s (Acked seq ranges) fit h =
    elim (seq == s) as (λ b. AllByRecursion IsProper (cond b ranges [])) [
      | true ↦ canonical-proper 1 ranges (omega arith) h
      | false ↦ tt
    ]
acked-one r s (Dropped seq upto) fit h =
    elim (seq == s) as (λ b. AllByRecursion IsProper (cond b (first_run upto) [])) [
      | true ↦ (
        run-proper upto (and_parts (accepted_count r seq == 0) _ (and_parts (follows_at r seq (Dropped seq upto)) _
            fit).1).1,
        tt,
      )
      | false ↦ tt
    ]
acked-one r s _ fit h = tt

pub acked-proper : (s : ℕ) (before r : List Fact) → all_fit before r ≡ true → AreValues r
    → AllByRecursion IsProper (acked r s)
acked-proper s before [] fit h = tt
acked-proper s before (f ∷ r) fit h =
    let parts = and_parts (fits before f) (all_fit (before ++ f ∷ []) r) fit in
    All-append IsProper (acked_of s f) (acked r s) (acked-one before s f parts.0 h.0)
    (acked-proper s (before ++ f ∷ []) r parts.1 h.1)

-- of a sequence, at most what one more record accepts for it is not acknowledged more
pub unacked-more : RangeIsAdded → (r : List Fact) (f : Fact) (s : ℕ) → AreValues r → HasValues f → all_fit [] r ≡ true
    → fits r f ≡ true → TakesNear r f → unacked (r ++ f ∷ []) s ≤ unacked r s + length (accepted_of s f)
unacked-more law r f s h k all fit near =
    let texts : accepted_count (r ++ f ∷ []) s ≡ accepted_count r s + length (accepted_of s f) =
    count-more r f s (drops-none r f s near) in
    let ranges : united [] (acked (r ++ f ∷ []) s) ≡ united (united [] (acked r s)) (acked_of s f) =
    ap (united []) (flat_map-more (acked_of s) r f) ∙ united-append [] (acked r s) (acked_of s f) in
    let count : count_of (united [] (acked (r ++ f ∷ []) s))
    ≡ count_of (united (united [] (acked r s)) (acked_of s f)) = ap count_of ranges in
    let more : count_of (united [] (acked r s)) ≤ count_of (united (united [] (acked r s)) (acked_of s f)) =
    united-grows law (united [] (acked r s)) (acked_of s f)
    (united-canonical law [] (acked r s) tt (acked-proper s [] r all h)) (acked-one r s f fit k) in
    omega (arith, texts, count, more)

-- nothing was accepted for a sequence that isn't there yet
pub none-accepted : (r : List Fact) (s : ℕ) → all_fit [] r ≡ true → length (makers r) < s → accepted_count r s ≡ 0
none-accepted r s h past =
    ap (λ ns. last_or 0 ns + length (accepted r s))
    (unnamed (dropped_of s) (length (makers r)) s (λ f. elsewhere_dropped f s) past r (names-fit r h))
    ∙ ap (λ ps. 0 + length ps)
    (unnamed (accepted_of s) (length (makers r)) s (λ f. elsewhere_accepted f s) past r (names-fit r h))

pub none-unacked : (r : List Fact) (s : ℕ) → accepted_count r s ≡ 0 → unacked r s ≡ 0
none-unacked r s e = omega (arith, e)

-- ---- sequences that are sent

open-sends : (p : OutPhase) (seq ticket : ℕ) → follows p (Closing seq ticket) ≡ true → is_sending p ≡ true
open-sends out.Open seq ticket e = refl
open-sends _ seq ticket e = absurd (false≢true e)

-- a mark of one sequence
marked : (p : OutPhase) (seq s : ℕ) (q : OutPhase) → is_sending q ≡ false
    → is_sending (last_or p (at_seq s ((seq, q) ∷ []))) ≡ true → is_sending p ≡ true
marked p seq s q still =
    elim (seq == s) as (λ b. is_sending (last_or p (cond b (q ∷ []) [])) ≡ true → is_sending p ≡ true) [
      | true ↦ λ e. absurd (false≢true (sym still ∙ e))
      | false ↦ λ e. e
    ]

-- a sequence that is sent after one more record was sent before it, or was in phase Creating
sends-by : (r : List Fact) (f : Fact) (s : ℕ) → fits r f ≡ true
    → is_sending (last_or (opened_by (phase r s) s f) (at_seq s (mark_of f))) ≡ true
    → (is_sending (phase r s) ≡ true) ⊎ (phase r s ≡ out.Creating)
sends-by r (Created seq ident accept) s fit h =
    elim (seq == s) as (λ b. (seq == s) ≡ b → is_sending (cond b out.Open (phase r s)) ≡ true
    → (is_sending (phase r s) ≡ true) ⊎ (phase r s ≡ out.Creating)) [
      | true ↦ λ e k. inr (subst (λ n. phase r n ≡ out.Creating) (eqb-true seq s e)
          (created-creating r seq ident accept fit))
      | false ↦ λ e k. inl k
    ] refl h
sends-by r (Closing seq ticket) s fit h =
    elim (seq == s) as (λ b. (seq == s) ≡ b → is_sending (last_or (phase r s) (cond b (out.Closing ∷ []) [])) ≡ true
    → (is_sending (phase r s) ≡ true) ⊎ (phase r s ≡ out.Creating)) [
      | true ↦ λ e k.
          let there : follows_at r seq (Closing seq ticket) ≡ true =
          (and_parts _ (follows_at r seq (Closing seq ticket)) fit).1 in
          let may : follows (phase r seq) (Closing seq ticket) ≡ true =
          (and_parts (is_outgoing_side (maker r seq)) _ there).1 in
          inl (subst (λ n. is_sending (phase r n) ≡ true) (eqb-true seq s e)
          (open-sends (phase r seq) seq ticket may))
      | false ↦ λ e k. inl k
    ] refl h
sends-by r (ClosedOut seq) s fit h = inl (marked (phase r s) seq s out.Closed refl h)
sends-by r (Ending seq ticket) s fit h = inl (marked (phase r s) seq s out.Ending refl h)
sends-by r (EndedOut seq) s fit h = inl (marked (phase r s) seq s out.Ended refl h)
sends-by r (Failed seq fault) s fit h = inl (marked (phase r s) seq s out.Failed refl h)
sends-by r _ s fit h = inl h

-- how many of a sequence wait, where it is sent
abbrev waiting : List Fact → ℕ → ℕ
waiting r s = cond (is_sending (phase r s)) (unacked r s) 0

waiting-more : RangeIsAdded → (r : List Fact) (f : Fact) (s : ℕ) → AreValues r → HasValues f → all_fit [] r ≡ true
    → fits r f ≡ true → TakesNear r f → s ≤ length (makers r)
    → waiting (r ++ f ∷ []) s ≤ waiting r s + length (accepted_of s f)
waiting-more law r f s h k all fit near le = by_phase (is_sending (phase (r ++ f ∷ []) s)) refl
  where
    one : unacked (r ++ f ∷ []) s ≤ unacked r s + length (accepted_of s f)
    one = unacked-more law r f s h k all fit near

    by_phase : (b : Bool) → is_sending (phase (r ++ f ∷ []) s) ≡ b
        → cond b (unacked (r ++ f ∷ []) s) 0 ≤ waiting r s + length (accepted_of s f)
    by_phase false e = omega arith
    by_phase true e =
        elim (sends-by r f s fit (subst (λ p. is_sending p ≡ true) (phase-more r f s le fit) e)) [
          | inl sent ↦ rw sent one
          | inr is ↦
              let none : unacked r s ≡ 0 = none-unacked r s (creating-accepts-none r s all is) in
              omega (arith, one, none)
        ]

-- ---- of all sequences

-- what one more record accepts for sequences behind number k
abbrev pub credit : ℕ → Fact → ℕ
credit k (Accepted seq payload) = cond (nat_lt k seq) 1 0
credit k _ = 0

credit-next : (k : ℕ) (f : Fact) → length (accepted_of (k + 1) f) + credit (k + 1) f ≤ credit k f
credit-next k (Accepted seq payload) = by_tests (seq == k + 1) (nat_lt (k + 1) seq) (nat_lt k seq) refl refl refl
  where
    by_tests : (x y z : Bool) → (seq == k + 1) ≡ x → nat_lt (k + 1) seq ≡ y → nat_lt k seq ≡ z
        → length (cond x (payload ∷ []) []) + cond y 1 0 ≤ cond z 1 0
    by_tests true true z a b c = absurd (grind (arith, nat_tests))
    by_tests true false false a b c = absurd (grind (arith, nat_tests))
    by_tests true false true a b c = omega arith
    by_tests false true false a b c = absurd (grind (arith, nat_tests))
    by_tests false true true a b c = omega arith
    by_tests false false z a b c = omega arith
credit-next k _ = omega arith

unacked_at-more : RangeIsAdded → (r : List Fact) (f : Fact) (s : ℕ) (m : Maker) → AreValues r → HasValues f
    → all_fit [] r ≡ true → fits r f ≡ true → TakesNear r f → s ≤ length (makers r)
    → unacked_at (r ++ f ∷ []) s m ≤ unacked_at r s m + length (accepted_of s f)
unacked_at-more law r f s (Outgoing ticket to via lapse) h k all fit near le =
    waiting-more law r f s h k all fit near le
unacked_at-more law r f s (Taken message_id ident endpoint) h k all fit near le =
    waiting-more law r f s h k all fit near le
unacked_at-more law r f s _ h k all fit near le = omega arith

unacked_from-more : RangeIsAdded → (r : List Fact) (f : Fact) (k : ℕ) (ms : List Maker) → AreValues r → HasValues f
    → all_fit [] r ≡ true → fits r f ≡ true → TakesNear r f → k + length ms ≤ length (makers r)
    → unacked_from (r ++ f ∷ []) k ms ≤ unacked_from r k ms + credit k f
unacked_from-more law r f k [] h v all fit near le = omega arith
unacked_from-more law r f k (m ∷ ms) h v all fit near le =
    let rest : unacked_from (r ++ f ∷ []) (k + 1) ms ≤ unacked_from r (k + 1) ms + credit (k + 1) f =
    unacked_from-more law r f (k + 1) ms h v all fit near (omega (arith, le)) in
    let one : unacked_at (r ++ f ∷ []) (k + 1) m ≤ unacked_at r (k + 1) m + length (accepted_of (k + 1) f) =
    unacked_at-more law r f (k + 1) m h v all fit near (omega (arith, le)) in
    omega (arith, rest, one, credit-next k f)

unacked_from-append : (r : List Fact) (k : ℕ) (ms ns : List Maker)
    → unacked_from r k (ms ++ ns) ≡ unacked_from r k ms + unacked_from r (k + length ms) ns
unacked_from-append r k [] ns =
    let none : k + 0 ≡ k = omega arith in
    let same : unacked_from r (k + 0) ns ≡ unacked_from r k ns = ap (λ n. unacked_from r n ns) none in
    omega (arith, same)
unacked_from-append r k (m ∷ ms) ns =
    let rest = unacked_from-append r (k + 1) ms ns in
    let place : k + 1 + length ms ≡ k + length (m ∷ ms) = omega arith in
    let same : unacked_from r (k + 1 + length ms) ns ≡ unacked_from r (k + length (m ∷ ms)) ns =
    ap (λ n. unacked_from r n ns) place in
    omega (arith, rest, same)

none-at : (r : List Fact) (s : ℕ) (m : Maker) → unacked r s ≡ 0 → unacked_at r s m ≡ 0
none-at r s (Outgoing ticket to via lapse) e =
    elim (is_sending (phase r s)) as (λ b. cond b (unacked r s) 0 ≡ 0) [ true ↦ e | false ↦ refl ]
none-at r s (Taken message_id ident endpoint) e =
    elim (is_sending (phase r s)) as (λ b. cond b (unacked r s) 0 ≡ 0) [ true ↦ e | false ↦ refl ]
none-at r s _ e = refl

-- nothing waits of sequences for which nothing was accepted
none-from : (r : List Fact) (k : ℕ) (ms : List Maker) → ((s : ℕ) → k < s → unacked r s ≡ 0)
    → unacked_from r k ms ≡ 0
none-from r k [] h = refl
none-from r k (m ∷ ms) h =
    let one : unacked_at r (k + 1) m ≡ 0 = none-at r (k + 1) m (h (k + 1) (omega arith)) in
    let rest : unacked_from r (k + 1) ms ≡ 0 = none-from r (k + 1) ms (λ s lt. h s (omega (arith, lt))) in
    omega (arith, one, rest)

count-none : (r : List Fact) (f : Fact) (s : ℕ) → dropped_of s f ≡ [] → accepted_of s f ≡ []
    → accepted_count r s ≡ 0 → accepted_count (r ++ f ∷ []) s ≡ 0
count-none r f s drops accepts none = omega (arith, count-more r f s drops, ap length accepts, none)

-- the sequences that a record makes
new-from : (r : List Fact) (f : Fact) → all_fit [] r ≡ true
    → unacked_from (r ++ f ∷ []) (length (makers r)) (makers_of f) ≡ 0
new-from r (Creating ticket to via lapse offer) all =
    let f = Creating ticket to via lapse offer in
    none-from (r ++ f ∷ []) (length (makers r)) (makers_of f)
    (λ s lt. none-unacked (r ++ f ∷ []) s (count-none r f s refl refl (none-accepted r s all lt)))
new-from r (Granted counter message_id acks_to behaviour deadline lapse offer) all =
    let f = Granted counter message_id acks_to behaviour deadline lapse offer in
    none-from (r ++ f ∷ []) (length (makers r)) (makers_of f)
    (λ s lt. none-unacked (r ++ f ∷ []) s (count-none r f s refl refl (none-accepted r s all lt)))
new-from r _ all = refl

-- of all sequences, at most one more waits, and only where the record accepts a message
pub all_unacked-more : RangeIsAdded → (r : List Fact) (f : Fact) → AreValues r → HasValues f → all_fit [] r ≡ true
    → fits r f ≡ true → TakesNear r f → all_unacked (r ++ f ∷ []) ≤ all_unacked r + credit 0 f
all_unacked-more law r f h v all fit near =
    let made : makers (r ++ f ∷ []) ≡ makers r ++ makers_of f = flat_map-more makers_of r f in
    let parts : all_unacked (r ++ f ∷ []) ≡ unacked_from (r ++ f ∷ []) 0 (makers r)
    + unacked_from (r ++ f ∷ []) (0 + length (makers r)) (makers_of f) =
    ap (unacked_from (r ++ f ∷ []) 0) made ∙ unacked_from-append (r ++ f ∷ []) 0 (makers r) (makers_of f) in
    let place : 0 + length (makers r) ≡ length (makers r) = omega arith in
    let new : unacked_from (r ++ f ∷ []) (0 + length (makers r)) (makers_of f) ≡ 0 =
    ap (λ n. unacked_from (r ++ f ∷ []) n (makers_of f)) place ∙ new-from r f all in
    let old : unacked_from (r ++ f ∷ []) 0 (makers r) ≤ all_unacked r + credit 0 f =
    unacked_from-more law r f 0 (makers r) h v all fit near (omega arith) in
    omega (arith, parts, new, old)
