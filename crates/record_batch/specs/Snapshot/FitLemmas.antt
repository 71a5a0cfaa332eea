-- A snapshot is a list of records each of which may come after those before it.
use Rattle.std.proofs.Common.{◌≡◌, ◌⊎◌, ℕ, zero, suc, ◌+◌, ◌≤◌, ◌==◌, ◌^◌, Bool, true, false, ◌&&◌, ◌||◌, cond, List}
use Rattle.std.proofs.Common.{[], ◌∷◌, ◌++◌, length, refl, sym, ◌∙◌, ap, subst, inl, inr, arith, append_assoc}
use Rattle.std.proofs.Common.{length-append, not, max}
use Rattle.std.specs.Prelude.{nat_lt, nat_le}
use Rattle.std.specs.List.{flat_map, list_any, list_all, AllByRecursion}
use Rattle.std.proofs.lemmas.Bool.{and_parts, and_from, cases_Bool, eqb-true, false≢true, true≢false, le-leb}
use Rattle.std.proofs.lemmas.Bool.Decides.{nat_tests}
use Rattle.std.proofs.lemmas.Grind.{flat_map-append}
use Rattle.std.proofs.lemmas.List.{append-nil}
use Rattle.rm_sides.specs.declared.ranges.range.Range.{Range}
use Rattle.rm_sides.specs.Ranges.Ranges.{in_ranges}
use Rattle.rm_base.specs.Message.{max_number}
use Rattle.rm_base.specs.NumberSet.{greatest_of, has_number}
use Rattle.rm_base.specs.Numbered.{numbered}
use Rattle.rm_base.specs.declared.message.Payload.{Payload}
use Rattle.rm_sides.specs.declared.source.phase.OutPhase.{OutPhase}
use Rattle.rm_sides.specs.declared.source.phase.OutPhase.TheVariants as out
use Rattle.rm_sides.specs.Destination.Messages.{without}
use Rattle.rm_sides.specs.Destination.Messages.{is_empty, numbers_of, any_true, gone_items, numbers_in}
use Rattle.rm_sides.specs.Destination.Messages.{there_items}
use Rattle.rm_sides.specs.Destination.Incoming.{inbox_of, is_loose}
use Rattle.record_batch.specs.Fact.{Fact, Made, Creating, Created, Granted, Accepted, Acked, Received, Closing}
use Rattle.record_batch.specs.Fact.{ClosedOut, Closed, Ending, EndedOut, Ended, Failed, Consumed, Dropped, Purged}
use Rattle.record_batch.specs.Sequences.Words.{Text, at_seq, last_or}
use Rattle.record_batch.specs.Sequences.Makers.{counter, created, created_from, draws_of, ident_in, maker, makers}
use Rattle.record_batch.specs.Sequences.Makers.{makers_of}
use Rattle.record_batch.specs.Sequences.Sources.{accepted, accepted_count, accepted_of, dropped, dropped_of}
use Rattle.record_batch.specs.Sequences.Sources.{first_phase}
use Rattle.record_batch.specs.Sequences.Sources.{mark_of, marks, out_ident, phase}
use Rattle.record_batch.specs.Sequences.Destinations.{behaviour, behaviour_of, close_of, cursor, cursor_of, has_end}
use Rattle.record_batch.specs.Sequences.Destinations.{held}
use Rattle.record_batch.specs.Sequences.Destinations.{inbox, is_stopped, items, purged, purged_of, received}
use Rattle.record_batch.specs.Sequences.Destinations.{received_of, told, told_of}
use Rattle.record_batch.specs.Sequences.Fits.{all_fit, fits, follows, follows_at, has_places, is_incoming_side}
use Rattle.record_batch.specs.Sequences.Fits.{is_no_moment, is_outgoing_side, is_up_to, may_be_gone, offer_fits}
use Rattle.record_batch.specs.Sequences.GatherLemmas.{flat_map-more, created_from-more, last_or-append}
use Rattle.record_batch.specs.Snapshot.AckedLemmas.{in_ranges-join}
use Rattle.record_batch.specs.Snapshot.FrameLemmas.{is_item, created_from-append, created_in_place, in_place, no_close}
use Rattle.record_batch.specs.Snapshot.FrameLemmas.{no_draws, no_makers, no_mark, no_told, placed}
use Rattle.record_batch.specs.Snapshot.GoneLemmas.{held-has}
use Rattle.record_batch.specs.Snapshot.GotLemmas.{a_consume, a_message, a_purge, besides as apart_, got_kind, got_with}
use Rattle.record_batch.specs.Snapshot.GotLemmas.{held-length, held-more, message-fits, none-empty, empty-none}
use Rattle.record_batch.specs.Snapshot.GotLemmas.{no-received}
use Rattle.record_batch.specs.Snapshot.GotLemmas.{purge-fits, purge-some, purged-has, received-with, some-not}
use Rattle.record_batch.specs.Snapshot.KeepLemmas.{without-append}
use Rattle.record_batch.specs.Snapshot.PassedLemmas.{has-without, without-no}
use Rattle.record_batch.specs.Snapshot.SentLemmas.{a_drop, a_payload, besides, count-drop, count-more, drop-fits}
use Rattle.record_batch.specs.Snapshot.SentLemmas.{drops_with}
use Rattle.record_batch.specs.Snapshot.SentLemmas.{like, pays_with, quiet_in, sent_kind}
use Rattle.record_batch.specs.Snapshot.Snapshot.{acked_with, acks, instead, left_acked, passed, purged_with, settled}

-- ---- what stands so far, beside the first records

-- of what was received on sequence s
pub record GotSoFar (r q before : List Fact) (s : ℕ) : Type 0 where
  pub received_ : received q s ≡ without (passed r s) (received before s)
  pub purged_none : passed r s ≡ [] → purged q s ≡ purged before s
  pub cursors_none : passed r s ≡ [] → flat_map (cursor_of s) q ≡ flat_map (cursor_of s) before
  pub purged_some : is_empty (passed r s) ≡ false → purged q s ≡ cond (is_empty (held before s)) [] (passed r s)

-- how many were accepted on sequence s
abbrev pub count_so_far : ℕ → ℕ → ℕ
count_so_far d k = cond (k == 0) 0 (max d k)

-- what a snapshot q has of the first records of r, beside what they have
pub record SoFar (r q before : List Fact) : Type 0 where
  pub empty : is_empty before ≡ true → is_empty q ≡ true
  pub makers_ : makers q ≡ makers before
  pub draws : flat_map draws_of q ≡ flat_map draws_of before
  pub created_ : created q ≡ created before
  pub marks_ : flat_map mark_of q ≡ flat_map mark_of before
  pub closes_ : flat_map close_of q ≡ flat_map close_of before
  pub told_ : flat_map told_of q ≡ flat_map told_of before
  pub count_ : (s : ℕ) → accepted_count q s ≡ count_so_far (settled r s) (accepted_count before s)
  pub got_ : (s : ℕ) → GotSoFar r q before s

-- ---- one record more

push_on : {A : Type 0} (g : Fact → List A) (q before xs : List Fact) (f : Fact) → flat_map g q ≡ flat_map g before
    → flat_map g xs ≡ g f → flat_map g (q ++ xs) ≡ flat_map g (before ++ f ∷ [])
push_on g q before xs f same e =
    flat_map-append g q xs ∙ ap (λ ys. ys ++ flat_map g xs) same ∙ ap (λ ys. flat_map g before ++ ys) e
    ∙ sym (flat_map-more g before f)

count-of : (q xs : List Fact) (s : ℕ) → flat_map (dropped_of s) xs ≡ []
    → accepted_count (q ++ xs) s ≡ accepted_count q s + length (accepted xs s)
count-of q xs s none =
    let a : accepted (q ++ xs) s ≡ accepted q s ++ accepted xs s = flat_map-append (accepted_of s) q xs in
    let d : dropped (q ++ xs) s ≡ dropped q s =
    ap (λ us. last_or 0 us) (flat_map-append (dropped_of s) q xs ∙ ap (λ us. flat_map (dropped_of s) q ++ us) none
    ∙ append-nil (flat_map (dropped_of s) q)) in
    omega (arith, d, ap length a, length-append (accepted q s) (accepted xs s))

count-with-drop : (q : List Fact) (s d : ℕ) → accepted_count q s ≡ 0 → accepted_count (q ++ Dropped s d ∷ []) s ≡ d
count-with-drop q s d none =
    let a : accepted (q ++ Dropped s d ∷ []) s ≡ accepted q s =
    flat_map-more (accepted_of s) q (Dropped s d) ∙ append-nil (accepted q s) in
    let e : dropped (q ++ Dropped s d ∷ []) s ≡ d =
    ap (λ xs. last_or 0 xs) (flat_map-more (dropped_of s) q (Dropped s d)
    ∙ ap (λ xs. flat_map (dropped_of s) q ++ xs) (drops_with s d))
    ∙ last_or-append 0 (flat_map (dropped_of s) q) (d ∷ []) in
    omega (arith, e, ap length a, none)

count-on : (r q before : List Fact) (f : Fact) (behind : List Fact) (s : ℕ) → fits before f ≡ true
    → AllByRecursion (λ (u : ℕ). u ≤ settled r s) (dropped_of s f)
    → accepted_count q s ≡ count_so_far (settled r s) (accepted_count before s)
    → accepted_count (q ++ instead r before f behind) s
    ≡ count_so_far (settled r s) (accepted_count (before ++ f ∷ []) s)
count-on r q before f behind s fit big so = elim (sent_kind s f) as (λ g k. fits before g ≡ true
    → AllByRecursion (λ (u : ℕ). u ≤ settled r s) (dropped_of s g)
    → accepted_count (q ++ instead r before g behind) s
    ≡ count_so_far (settled r s) (accepted_count (before ++ g ∷ []) s)) [
      | besides g pays drops ↦ λ fit big.
          let xs = instead r before g behind in
          let no = quiet_in (accepted_of s) g pays xs (like r before g behind) in
          let here = count-of q xs s (quiet_in (dropped_of s) g drops xs (like r before g behind)) in
          let there = count-more before g s (drops g (refl, refl)) in
          let same : accepted_count (before ++ g ∷ []) s ≡ accepted_count before s =
          omega (arith, there, ap length (pays g (refl, refl))) in
          (let e : accepted_count (q ++ xs) s ≡ accepted_count q s = omega (arith, here, ap length no) in e)
          ∙ so ∙ ap (λ k. count_so_far (settled r s) k) (sym same)
      | a_drop u ↦ λ fit big.
          let f_ = drop-fits before s u fit in
          let none : accepted_count q s ≡ 0 = so ∙ ap (λ k. count_so_far (settled r s) k) f_.0 in
          let le : u ≤ settled r s = (subst (λ us. AllByRecursion (λ (u : ℕ). u ≤ settled r s) us)
          (drops_with s u) big).0 in
          let from : 1 ≤ u = f_.1 in
          count-with-drop q s (settled r s) none
          ∙ sym (ap (λ k. count_so_far (settled r s) k) (count-drop before s u fit)
          ∙ (let e : count_so_far (settled r s) u ≡ settled r s = grind (arith, nat_tests, le, from) in e))
      | a_payload p ↦ λ fit big.
          let more : accepted_count (before ++ Accepted s p ∷ []) s ≡ accepted_count before s + 1 =
          count-more before (Accepted s p) s refl ∙ ap (λ xs. accepted_count before s + length xs) (pays_with s p) in
          one p (accepted_count before s) (nat_lt (accepted_count before s) (settled r s)) refl refl so
          ∙ sym (ap (λ k. count_so_far (settled r s) k) more)
    ] fit big
  where
    one : (p : Text) (k : ℕ) (b : Bool) → accepted_count before s ≡ k → nat_lt (accepted_count before s) (settled r s)
        ≡ b
        → accepted_count q s ≡ count_so_far (settled r s) (accepted_count before s)
        → accepted_count (q ++ instead r before (Accepted s p) behind) s ≡ count_so_far (settled r s) (k + 1)
    one p zero true at lt so =
        let none : accepted_count q s ≡ 0 = so ∙ ap (λ k. count_so_far (settled r s) k) at in
        ap (λ b. accepted_count (q ++ cond b (cond (accepted_count before s == 0) (Dropped s (settled r s) ∷ []) [])
        (Accepted s p ∷ [])) s) lt
        ∙ ap (λ k. accepted_count (q ++ cond (k == 0) (Dropped s (settled r s) ∷ []) []) s) at
        ∙ count-with-drop q s (settled r s) none
        ∙ (let e : settled r s ≡ count_so_far (settled r s) (0 + 1) = grind (arith, nat_tests, lt, at) in e)
    one p (suc k) true at lt so =
        let here : (accepted_count before s == 0) ≡ false = grind (arith, nat_tests, at) in
        ap (λ b. accepted_count (q ++ cond b (cond (accepted_count before s == 0) (Dropped s (settled r s) ∷ []) [])
        (Accepted s p ∷ [])) s) lt
        ∙ ap (λ b. accepted_count (q ++ cond b (Dropped s (settled r s) ∷ []) []) s) here
        ∙ ap (λ l. accepted_count l s) (append-nil q)
        ∙ so ∙ (let e : count_so_far (settled r s) (accepted_count before s) ≡ count_so_far (settled r s) (suc k + 1) =
        grind (arith, nat_tests, lt, at) in e)
    one p k false at lt so =
        ap (λ b. accepted_count (q ++ cond b (cond (accepted_count before s == 0) (Dropped s (settled r s) ∷ []) [])
        (Accepted s p ∷ [])) s) lt
        ∙ count-more q (Accepted s p) s refl
        ∙ ap (λ xs. accepted_count q s + length xs) (pays_with s p)
        ∙ (let e : accepted_count q s + 1 ≡ count_so_far (settled r s) (k + 1) =
        grind (arith, nat_tests, lt, at, so) in e)

got-on : (r q before : List Fact) (f : Fact) (behind : List Fact) (s : ℕ) → fits before f ≡ true → GotSoFar r q before s
    → GotSoFar r (q ++ instead r before f behind) (before ++ f ∷ []) s
got-on r q before f behind s fit so = elim (got_kind s f) as (λ g k. fits before g ≡ true
    → GotSoFar r (q ++ instead r before g behind) (before ++ g ∷ []) s) [
      | apart_ g gots purges cursors ↦ λ fit.
          let xs = instead r before g behind in
          let is = like r before g behind in
          let no_p = quiet_in (purged_of s) g purges xs is in
          let no_r = quiet_in (received_of s) g gots xs is in
          let no_c = quiet_in (cursor_of s) g cursors xs is in
          let held_same : is_empty (held before s) ≡ is_empty (held (before ++ g ∷ []) s) =
          empty-same (held before s) (held (before ++ g ∷ []) s)
          (omega (
            arith,
            held-more before g s,
            ap (λ ys. length (numbers_in ys)) (purges g (refl, refl)),
            ap length (gots g (refl, refl)),
          )) in
          record {
            received_ = flat_map-append (received_of s) q xs ∙ ap (λ ys. received q s ++ ys) no_r
                ∙ append-nil (received q s) ∙ so.received_
                ∙ ap (λ ms. without (passed r s) ms) (sym (still_ (received_of s) before g (gots g (refl, refl))));
            purged_none = λ none. push_on (purged_of s) q before xs g (so.purged_none none)
                (no_p ∙ sym (purges g (refl, refl)));
            cursors_none = λ none.
                push_on (cursor_of s) q before xs g (so.cursors_none none) (no_c ∙ sym (cursors g (refl, refl)));
            purged_some = λ some.
                flat_map-append (purged_of s) q xs ∙ ap (λ ys. purged q s ++ ys) no_p ∙ append-nil (purged q s)
                ∙ so.purged_some some ∙ ap (λ b. cond b [] (passed r s)) held_same;
          }
      | a_message n p ↦ λ fit.
          let xs = instead r before (Received s n p) behind in
          let kept = cond (in_ranges (passed r s) n) [] (Received s n p ∷ []) in
          let first = cond (is_empty (held before s)) (purged_with s (passed r s)) [] in
          let after_some : is_empty (held (before ++ Received s n p ∷ []) s) ≡ false =
          some-not _ (omega (arith, held-more before (Received s n p) s, ap length (received-with s n p))) in
          let gots : received xs s ≡ without (passed r s) ((n, p) ∷ []) =
          flat_map-append (received_of s) first kept
          ∙ ap (λ ys. ys ++ received kept s) (none_first (is_empty (held before s)))
          ∙ one n p (in_ranges (passed r s) n) in
          record {
            received_ = flat_map-append (received_of s) q xs ∙ ap (λ ys. ys ++ received xs s) so.received_
                ∙ ap (λ ys. without (passed r s) (received before s) ++ ys) gots
                ∙ sym (without-append (passed r s) (received before s) ((n, p) ∷ []))
                ∙ ap (λ ms. without (passed r s) ms) (sym (flat_map-more (received_of s) before (Received s n p)
                ∙ ap (λ ys. received before s ++ ys) (received-with s n p)));
            purged_none = λ none. push_on (purged_of s) q before xs (Received s n p) (so.purged_none none)
                (ap (λ zs. purged zs s) (plain n p none));
            cursors_none = λ none. push_on (cursor_of s) q before xs (Received s n p) (so.cursors_none none)
                (ap (λ zs. flat_map (cursor_of s) zs) (plain n p none));
            purged_some = λ some.
                flat_map-append (purged_of s) q xs
                ∙ ap (λ ys. ys ++ purged xs s) (so.purged_some some)
                ∙ ap (λ ys. cond (is_empty (held before s)) [] (passed r s) ++ ys)
                (flat_map-append (purged_of s) first kept
                ∙ ap (λ ys. purged first s ++ ys) (no_purged n p (in_ranges (passed r s) n))
                ∙ append-nil (purged first s))
                ∙ joined (is_empty (held before s))
                ∙ sym (ap (λ b. cond b [] (passed r s)) after_some);
          }
      | a_purge ranges ↦ λ fit.
          let xs = instead r before (Purged s ranges) behind in
          let none_before : is_empty (held before s) ≡ true =
          none-empty (held before s) (purge-fits before s ranges fit).0 in
          let after_some : is_empty (held (before ++ Purged s ranges ∷ []) s) ≡ false =
          some-not _ (omega (
            arith,
            held-more before (Purged s ranges) s,
            purge-some before s ranges fit,
            ap (λ ys. length (numbers_in ys)) (got_with s ranges),
          )) in
          record {
            received_ = flat_map-append (received_of s) q xs
                ∙ ap (λ ys. received q s ++ ys) (none_purge ranges (is_empty (passed r s)))
                ∙ append-nil (received q s) ∙ so.received_
                ∙ ap (λ ms. without (passed r s) ms) (sym (still_ (received_of s) before (Purged s ranges) refl));
            purged_none = λ none. push_on (purged_of s) q before xs (Purged s ranges) (so.purged_none none)
                (ap (λ ps. purged (cond (is_empty ps) (Purged s ranges ∷ []) (purged_with s ps)) s) none
                ∙ append-nil (purged_of s (Purged s ranges)));
            cursors_none = λ none. push_on (cursor_of s) q before xs (Purged s ranges) (so.cursors_none none)
                (ap (λ ps. flat_map (cursor_of s) (cond (is_empty ps) (Purged s ranges ∷ []) (purged_with s ps))) none
                ∙ append-nil (cursor_of s (Purged s ranges)));
            purged_some = λ some.
                flat_map-append (purged_of s) q xs
                ∙ ap (λ ys. ys ++ purged xs s) (so.purged_some some ∙ ap (λ b. cond b [] (passed r s)) none_before)
                ∙ ap (λ b. purged (cond b (Purged s ranges ∷ []) (purged_with s (passed r s))) s) some
                ∙ purged-has s (passed r s)
                ∙ sym (ap (λ b. cond b [] (passed r s)) after_some);
          }
      | a_consume upto ↦ λ fit.
          let xs = instead r before (Consumed s upto) behind in
          let held_same : is_empty (held before s) ≡ is_empty (held (before ++ Consumed s upto ∷ []) s) =
          empty-same (held before s) (held (before ++ Consumed s upto ∷ []) s)
          (omega (arith, held-more before (Consumed s upto) s)) in
          record {
            received_ = flat_map-append (received_of s) q xs
                ∙ ap (λ ys. received q s ++ ys) (none_consume upto (is_empty (passed r s)))
                ∙ append-nil (received q s) ∙ so.received_
                ∙ ap (λ ms. without (passed r s) ms) (sym (still_ (received_of s) before (Consumed s upto) refl));
            purged_none = λ none. push_on (purged_of s) q before xs (Consumed s upto) (so.purged_none none)
                (none_consumed upto (is_empty (passed r s)));
            cursors_none = λ none. push_on (cursor_of s) q before xs (Consumed s upto) (so.cursors_none none)
                (ap (λ ps. flat_map (cursor_of s) (cond (is_empty ps) (Consumed s upto ∷ []) [])) none
                ∙ append-nil (cursor_of s (Consumed s upto)));
            purged_some = λ some.
                flat_map-append (purged_of s) q xs
                ∙ ap (λ ys. purged q s ++ ys) (none_consumed upto (is_empty (passed r s)))
                ∙ append-nil (purged q s)
                ∙ so.purged_some some ∙ ap (λ b. cond b [] (passed r s)) held_same;
          }
    ] fit
  where
    still_ : {A : Type 0} (g : Fact → List A) (l : List Fact) (f : Fact) → g f ≡ [] → flat_map g (l ++ f ∷ [])
        ≡ flat_map g l
    still_ g l f none = flat_map-more g l f ∙ ap (λ xs. flat_map g l ++ xs) none ∙ append-nil (flat_map g l)

    empty-same : (xs ys : List ℕ) → length xs ≡ length ys → is_empty xs ≡ is_empty ys
    empty-same [] [] e = refl
    empty-same [] (y ∷ ys) e = absurd (omega (arith, e))
    empty-same (x ∷ xs) [] e = absurd (omega (arith, e))
    empty-same (x ∷ xs) (y ∷ ys) e = refl

    none_first : (b : Bool) → received (cond b (purged_with s (passed r s)) []) s ≡ []
    none_first true = no-received s s (passed r s)
    none_first false = refl

    none_purge : (ranges : List Range) (b : Bool)
        → received (cond b (Purged s ranges ∷ []) (purged_with s (passed r s))) s ≡ []
    none_purge ranges true = refl
    none_purge ranges false = no-received s s (passed r s)

    none_consume : (upto : ℕ) (b : Bool) → received (cond b (Consumed s upto ∷ []) []) s ≡ []
    none_consume upto true = refl
    none_consume upto false = refl

    none_consumed : (upto : ℕ) (b : Bool) → purged (cond b (Consumed s upto ∷ []) []) s ≡ []
    none_consumed upto true = refl
    none_consumed upto false = refl

    one : (n : ℕ) (p : Payload) (b : Bool) → received (cond b [] (Received s n p ∷ [])) s ≡ cond b [] ((n, p) ∷ [])
    one n p true = refl
    one n p false = append-nil (received_of s (Received s n p)) ∙ received-with s n p

    plain : (n : ℕ) (p : Payload) → passed r s ≡ [] → instead r before (Received s n p) behind ≡ Received s n p ∷ []
    plain n p none =
        ap (λ ps. cond (is_empty (held before s)) (purged_with s ps) []
        ++ cond (in_ranges ps n) [] (Received s n p ∷ [])) none
        ∙ over (is_empty (held before s))
      where
        over : (b : Bool) → cond b [] [] ++ Received s n p ∷ [] ≡ Received s n p ∷ []
        over true = refl
        over false = refl

    no_purged : (n : ℕ) (p : Payload) (b : Bool) → purged (cond b [] (Received s n p ∷ [])) s ≡ []
    no_purged n p true = refl
    no_purged n p false = refl

    joined : (b : Bool) → cond b [] (passed r s) ++ purged (cond b (purged_with s (passed r s)) []) s ≡ passed r s
    joined true = purged-has s (passed r s)
    joined false = append-nil (passed r s)

never_empty : (r : List Fact) (f : Fact) → is_empty (r ++ f ∷ []) ≡ false
never_empty [] f = refl
never_empty (x ∷ r) f = refl

pub so-far-on : (r q before : List Fact) (f : Fact) (behind : List Fact) → fits before f ≡ true
    → ((s : ℕ) → AllByRecursion (λ (u : ℕ). u ≤ settled r s) (dropped_of s f))
    → SoFar r q before → SoFar r (q ++ instead r before f behind) (before ++ f ∷ [])
so-far-on r q before f behind fit big so =
    let xs = instead r before f behind in
    let is = placed r before f behind in
    record {
      empty = λ e. absurd (true≢false (sym e ∙ never_empty before f));
      makers_ = push_on makers_of q before xs f so.makers_ (in_place makers_of no_makers f xs is);
      draws = push_on draws_of q before xs f so.draws (in_place draws_of no_draws f xs is);
      created_ =
          created_from-append 0 q xs
          ∙ ap (λ ms. created q ++ created_from (0 + length ms) xs) so.makers_
          ∙ ap (λ cs. cs ++ created_from (0 + length (makers before)) xs) so.created_
          ∙ ap (λ cs. created before ++ cs) (created_in_place (0 + length (makers before)) f xs is)
          ∙ sym (created_from-more 0 before f);
      marks_ = push_on mark_of q before xs f so.marks_ (in_place mark_of no_mark f xs is);
      closes_ = push_on close_of q before xs f so.closes_ (in_place close_of no_close f xs is);
      told_ = push_on told_of q before xs f so.told_ (in_place told_of no_told f xs is);
      count_ = λ s. count-on r q before f behind s fit (big s) (so.count_ s);
      got_ = λ s. got-on r q before f behind s fit (so.got_ s);
    }

-- ---- the tests

made_fits : (q r : List Fact) (b : Bool) → (is_empty r ≡ true → is_empty q ≡ true) → (is_empty r && b) ≡ true
    → (is_empty q && b) ≡ true
made_fits q r b empty fit = let parts = and_parts (is_empty r) b fit in and_from (is_empty q) b (empty parts.0) parts.1

module _ (q r : List Fact) (makers__ : makers q ≡ makers r) (draws__ : flat_map draws_of q ≡ flat_map draws_of r)
    (created__ : created q ≡ created r) (marks__ : flat_map mark_of q ≡ flat_map mark_of r)
    (closes__ : flat_map close_of q ≡ flat_map close_of r) (empty__ : is_empty r ≡ true → is_empty q ≡ true) where
  counter_same : counter q ≡ counter r
  counter_same = ap length draws__

  maker_same : (s : ℕ) → maker q s ≡ maker r s
  maker_same s = ap (λ ms. numbered ms s) makers__

  phase_same : (s : ℕ) → phase q s ≡ phase r s
  phase_same s = ap (λ cs. last_or (first_phase (ident_in cs s)) (marks q s)) created__
      ∙ ap (λ ms. last_or (first_phase (out_ident r s)) (at_seq s ms)) marks__

  follows_same : (s : ℕ) (f : Fact) → follows_at q s f ≡ follows_at r s f
  follows_same s f = ap (λ m. is_outgoing_side m && follows (phase q s) f) (maker_same s)
      ∙ ap (λ p. is_outgoing_side (maker r s) && follows p f) (phase_same s)

  places_same : (f : Fact) → has_places q f ≡ has_places r f
  places_same f = ap (λ ms. nat_le (length ms + length (makers_of f)) 4294967295) makers__

  stopped_same : (s : ℕ) → is_stopped q s ≡ is_stopped r s
  stopped_same s = ap (λ cs. not (is_empty (at_seq s cs))) closes__

  ended_same : (s : ℕ) → has_end q s ≡ has_end r s
  ended_same s = ap (λ cs. any_true (at_seq s cs)) closes__

  incoming_same : (s : ℕ) → is_incoming_side (maker q s) ≡ is_incoming_side (maker r s)
  incoming_same s = ap (λ m. is_incoming_side m) (maker_same s)

  by : (x y : Bool) → x ≡ y → y ≡ true → x ≡ true
  by x y e is = e ∙ is

  fits_here : (f : Fact) → is_item f ≡ false → fits r f ≡ true → fits q f ≡ true
  fits_here (Made node address) plain fit = made_fits q r (nat_le 1 node && nat_lt node (2 ^ 60)) empty__ fit
  fits_here (Creating ticket to via lapse offer) plain fit =
      ap (λ n. (ticket == n + 1) && (offer_fits n offer && has_places q (Creating ticket to via lapse offer)))
      counter_same
      ∙ ap (λ b. (ticket == counter r + 1) && (offer_fits (counter r) offer && b))
      (places_same (Creating ticket to via lapse offer))
      ∙ fit
  fits_here (Created seq ident accept) plain fit = follows_same seq (Created seq ident accept) ∙ fit
  fits_here (Granted drawn message_id acks_to behaviour deadline lapse offer) plain fit =
      ap (λ n. (drawn == n + 1) && (not (is_no_moment deadline)
      && has_places q (Granted drawn message_id acks_to behaviour deadline lapse offer))) counter_same
      ∙ ap (λ b. (drawn == counter r + 1) && (not (is_no_moment deadline) && b))
      (places_same (Granted drawn message_id acks_to behaviour deadline lapse offer))
      ∙ fit
  fits_here (Closing seq ticket) plain fit =
      ap (λ n. (ticket == n + 1) && follows_at q seq (Closing seq ticket)) counter_same
      ∙ ap (λ b. (ticket == counter r + 1) && b) (follows_same seq (Closing seq ticket))
      ∙ fit
  fits_here (ClosedOut seq) plain fit = follows_same seq (ClosedOut seq) ∙ fit
  fits_here (Closed seq cause last) plain fit =
      ap (λ b. b && not (is_stopped q seq)) (incoming_same seq)
      ∙ ap (λ b. is_incoming_side (maker r seq) && not b) (stopped_same seq)
      ∙ fit
  fits_here (Ending seq ticket) plain fit =
      ap (λ n. (ticket == n + 1) && follows_at q seq (Ending seq ticket)) counter_same
      ∙ ap (λ b. (ticket == counter r + 1) && b) (follows_same seq (Ending seq ticket))
      ∙ fit
  fits_here (EndedOut seq) plain fit = follows_same seq (EndedOut seq) ∙ fit
  fits_here (Ended seq cause last) plain fit =
      ap (λ b. b && not (has_end q seq)) (incoming_same seq)
      ∙ ap (λ b. is_incoming_side (maker r seq) && not b) (ended_same seq)
      ∙ fit
  fits_here (Failed seq fault) plain fit = follows_same seq (Failed seq fault) ∙ fit
  fits_here _ plain fit = absurd (true≢false plain)

maker_in : (q before : List Fact) (s : ℕ) → makers q ≡ makers before → maker q s ≡ maker before s
maker_in q before s e = ap (λ ms. numbered ms s) e

message-in : (q before : List Fact) (s n : ℕ) (p : Payload) → makers q ≡ makers before
    → flat_map close_of q ≡ flat_map close_of before → has_number (held q s) n ≡ false
    → fits before (Received s n p) ≡ true → fits q (Received s n p) ≡ true
message-in q before s n p m c new fit =
    let one = and_parts (is_incoming_side (maker before s)) _ fit in
    let two = and_parts (nat_le 1 n) _ one.1 in
    let three = and_parts (nat_le n max_number) _ two.1 in
    let four = and_parts (not (has_number (held before s) n)) (not (is_stopped before s)) three.1 in
    and_from (is_incoming_side (maker q s)) _ (ap (λ o. is_incoming_side o) (maker_in q before s m) ∙ one.0)
    (and_from (nat_le 1 n) _ two.0
    (and_from (nat_le n max_number) _ three.0
    (and_from (not (has_number (held q s) n)) (not (is_stopped q s)) (ap not new)
    (ap (λ cs. not (not (is_empty (at_seq s cs)))) c ∙ four.1))))

incoming-of : (before : List Fact) (s n : ℕ) (p : Payload) → fits before (Received s n p) ≡ true
    → is_incoming_side (maker before s) ≡ true
incoming-of before s n p fit = (and_parts (is_incoming_side (maker before s)) _ fit).0

purge-in : (q before : List Fact) (s : ℕ) (ps : List Range) → makers q ≡ makers before
    → is_incoming_side (maker before s) ≡ true → is_empty (held q s) ≡ true
    → list_all (is_up_to max_number) ps ≡ true → may_be_gone (is_loose (behaviour before s)) ps ≡ true
    → fits q (Purged s ps) ≡ true
purge-in q before s ps m side none cap first =
    and_from (is_incoming_side (maker q s)) _ (ap (λ o. is_incoming_side o) (maker_in q before s m) ∙ side)
    (and_from (is_empty (held q s)) _ none
    (and_from (list_all (is_up_to max_number) ps) (may_be_gone (is_loose (behaviour q s)) ps) cap
    (ap (λ o. may_be_gone (is_loose (behaviour_of o)) ps) (maker_in q before s m) ∙ first)))

-- what a snapshot purges may be purged
pub record MayGo (r : List Fact) (s : ℕ) : Type 0 where
  pub run_ : (passed r s ≡ []) ⊎ (may_be_gone (is_loose (behaviour r s)) (passed r s) ≡ true)
  pub cap : list_all (is_up_to max_number) (passed r s) ≡ true
  pub few : settled r s ≤ max_number

pub purged_with-is : (s : ℕ) (ps : List Range) → is_empty ps ≡ false → purged_with s ps ≡ Purged s ps ∷ []
purged_with-is s [] e = absurd (true≢false e)
purged_with-is s (p ∷ ps) e = refl

held-none : (q before : List Fact) (r : List Fact) (s : ℕ) → GotSoFar r q before s → is_empty (passed r s) ≡ false
    → is_empty (held before s) ≡ true → is_empty (held q s) ≡ true
held-none q before r s so some none =
    let nothing : length (received before s) ≡ 0 =
    omega (arith, held-length before s, empty-none (held before s) none) in
    none-empty (held q s)
    (omega (
      arith,
      held-length q s,
      ap (λ ps. length (numbers_in ps)) (so.purged_some some
          ∙ ap (λ b. cond b [] (passed r s)) none),
      ap length so.received_,
      ap (λ ms. length (without (passed r s) ms))
          (nil (received before s) nothing),
    ))
  where
    nil : (ms : List (ℕ × Payload)) → length ms ≡ 0 → ms ≡ []
    nil [] e = refl
    nil (m ∷ ms) e = absurd (omega (arith, e))

-- what is not passed and not held is not held here
held-not : (q before r : List Fact) (s n : ℕ) → GotSoFar r q before s → in_ranges (passed r s) n ≡ false
    → has_number (held before s) n ≡ false → has_number (held q s) n ≡ false
held-not q before r s n so out new =
    held-has q s n
    ∙ ap (λ ms. in_ranges (purged q s) n || has_number (numbers_of ms) n) so.received_
    ∙ ap (λ b. in_ranges (purged q s) n || b) (has-without (passed r s) (received before s) n out)
    ∙ parts (in_ranges (purged before s) n) (has_number (numbers_of (received before s)) n) (in_ranges (purged q s) n)
    (sym (held-has before s n) ∙ new) gone
  where
    gone : in_ranges (purged before s) n ≡ false → in_ranges (purged q s) n ≡ false
    gone out_of = elim (cases_Bool (is_empty (passed r s))) [
      | inl none ↦ ap (λ ps. in_ranges ps n) (so.purged_none (nil (passed r s) none)) ∙ out_of
      | inr some ↦ ap (λ ps. in_ranges ps n) (so.purged_some some) ∙ over (is_empty (held before s))
    ]
      where
        nil : (ps : List Range) → is_empty ps ≡ true → ps ≡ []
        nil [] e = refl
        nil (p ∷ ps) e = absurd (false≢true e)

        over : (b : Bool) → in_ranges (cond b [] (passed r s)) n ≡ false
        over true = refl
        over false = out

    parts : (a b c : Bool) → (a || b) ≡ false → (a ≡ false → c ≡ false) → (c || b) ≡ false
    parts true b c e h = absurd (true≢false e)
    parts false b c e h = ap (λ x. x || b) (h refl) ∙ e

one-fits : (q : List Fact) (f : Fact) → fits q f ≡ true → all_fit q (f ∷ []) ≡ true
one-fits q f fit = and_from (fits q f) true fit refl

-- what was announced for a sequence that receives is announced for it in all records
abbrev pub SameBehaviour : List Fact → List Fact → Type 0
SameBehaviour r before = (s : ℕ) → is_incoming_side (maker before s) ≡ true → behaviour before s ≡ behaviour r s

-- what is passed may go
may-pass : (r before : List Fact) (s : ℕ) → MayGo r s → SameBehaviour r before
    → is_incoming_side (maker before s) ≡ true → is_empty (passed r s) ≡ false
    → may_be_gone (is_loose (behaviour before s)) (passed r s) ≡ true
may-pass r before s may stays side some =
    ap (λ y. may_be_gone (is_loose y) (passed r s)) (stays s side) ∙ run_some may.run_
  where
    run_some : (passed r s ≡ []) ⊎ (may_be_gone (is_loose (behaviour r s)) (passed r s) ≡ true)
        → may_be_gone (is_loose (behaviour r s)) (passed r s) ≡ true
    run_some (inl none) = absurd (true≢false (sym (ap (λ ps. is_empty ps) none) ∙ some))
    run_some (inr is) = is

received-on : (r q before behind : List Fact) (s n : ℕ) (p : Payload) → SoFar r q before → MayGo r s
    → SameBehaviour r before → fits before (Received s n p) ≡ true
    → all_fit q (instead r before (Received s n p) behind) ≡ true
received-on r q before behind s n p so may stays fit =
    elim (cases_Bool (is_empty (passed r s))) [
      | inl none ↦
          let out : in_ranges (passed r s) n ≡ false = ap (λ ps. in_ranges ps n) (nil (passed r s) none) in
          ap (λ xs. all_fit q (xs ++ kept)) (first_none none (is_empty (held before s)))
          ∙ last_ q so.makers_ so.closes_ (λ o. held-not q before r s n (so.got_ s) o (message-fits before s n p fit).1)
      | inr some ↦ elim (cases_Bool (is_empty (held before s))) [
        | inl fresh ↦
            let ok = purge-in q before s (passed r s) so.makers_ (incoming-of before s n p fit)
            (held-none q before r s (so.got_ s) some fresh) may.cap
            (may-pass r before s may stays (incoming-of before s n p fit) some) in
            ap (λ b. all_fit q (cond b (purged_with s (passed r s)) [] ++ kept)) fresh
            ∙ ap (λ xs. all_fit q (xs ++ kept)) (purged_with-is s (passed r s) some)
            ∙ and_from (fits q (Purged s (passed r s))) (all_fit (q ++ Purged s (passed r s) ∷ []) kept) ok
            (last_ (q ++ Purged s (passed r s) ∷ [])
            (flat_map-more makers_of q (Purged s (passed r s)) ∙ append-nil (makers q) ∙ so.makers_)
            (flat_map-more close_of q (Purged s (passed r s)) ∙ append-nil (flat_map close_of q) ∙ so.closes_)
            (λ o. held-with o (held-not q before r s n (so.got_ s) o (message-fits before s n p fit).1)))
        | inr old ↦
            ap (λ b. all_fit q (cond b (purged_with s (passed r s)) [] ++ kept)) old
            ∙ last_ q so.makers_ so.closes_ (λ o. held-not q before r s n (so.got_ s) o
            (message-fits before s n p fit).1)
      ]
    ]
  where
    kept : List Fact
    kept = cond (in_ranges (passed r s) n) [] (Received s n p ∷ [])

    nil : (ps : List Range) → is_empty ps ≡ true → ps ≡ []
    nil [] e = refl
    nil (p ∷ ps) e = absurd (false≢true e)

    first_none : is_empty (passed r s) ≡ true → (b : Bool) → cond b (purged_with s (passed r s)) [] ≡ []
    first_none none true = ap (λ ps. purged_with s ps) (nil (passed r s) none)
    first_none none false = refl

    last_ : (q2 : List Fact) → makers q2 ≡ makers before → flat_map close_of q2 ≡ flat_map close_of before
        → (in_ranges (passed r s) n ≡ false → has_number (held q2 s) n ≡ false)
        → all_fit q2 (cond (in_ranges (passed r s) n) [] (Received s n p ∷ [])) ≡ true
    last_ q2 m c new = elim (cases_Bool (in_ranges (passed r s) n)) [
      | inl gone ↦ ap (λ b. all_fit q2 (cond b [] (Received s n p ∷ []))) gone
      | inr there ↦
          ap (λ b. all_fit q2 (cond b [] (Received s n p ∷ []))) there
          ∙ one-fits q2 (Received s n p) (message-in q2 before s n p m c (new there) fit)
    ]

    held-with : in_ranges (passed r s) n ≡ false → has_number (held q s) n ≡ false
        → has_number (held (q ++ Purged s (passed r s) ∷ []) s) n ≡ false
    held-with out new =
        held-has (q ++ Purged s (passed r s) ∷ []) s n
        ∙ ap (λ ps. in_ranges ps n || has_number (numbers_of (received (q ++ Purged s (passed r s) ∷ []) s)) n)
        (flat_map-more (purged_of s) q (Purged s (passed r s)) ∙ ap (λ xs. purged q s ++ xs) (got_with s (passed r s)))
        ∙ ap (λ ms. in_ranges (purged q s ++ passed r s) n || has_number (numbers_of ms) n)
        (flat_map-more (received_of s) q (Purged s (passed r s)) ∙ append-nil (received q s))
        ∙ ap (λ b. b || has_number (numbers_of (received q s)) n)
        (in_ranges-join (purged q s) (passed r s) n ∙ ap (λ b. in_ranges (purged q s) n || b) out
        ∙ or_none (in_ranges (purged q s) n))
        ∙ sym (held-has q s n) ∙ new
      where
        or_none : (b : Bool) → (b || false) ≡ b
        or_none true = refl
        or_none false = refl

-- ---- each record

module _ (r q before : List Fact) (so : SoFar r q before) where
  follows_now : (s : ℕ) (f : Fact) → follows_at q s f ≡ follows_at before s f
  follows_now s f = follows_same q before so.makers_ so.draws so.created_ so.marks_ so.closes_ so.empty s f

  follows-drop : (p : OutPhase) (s d : ℕ) (x : Text) → follows p (Accepted s x) ≡ true → follows p (Dropped s d) ≡ true
  follows-drop out.Open s d x e = refl
  follows-drop _ s d x e = absurd (false≢true e)

  drop-in : (s : ℕ) → follows_at before s (Dropped s (settled r s)) ≡ true → accepted_count before s ≡ 0
      → 1 ≤ settled r s → settled r s ≤ max_number → fits q (Dropped s (settled r s)) ≡ true
  drop-in s follow none from cap =
      let zero_ : accepted_count q s ≡ 0 = so.count_ s ∙ ap (λ k. count_so_far (settled r s) k) none in
      and_from (follows_at q s (Dropped s (settled r s))) _ (follows_now s (Dropped s (settled r s)) ∙ follow)
      (and_from (accepted_count q s == 0) _ (ap (λ k. k == 0) zero_)
      (and_from (nat_le 1 (settled r s)) (nat_le (settled r s) max_number) (le-leb 1 (settled r s) from)
      (le-leb (settled r s) max_number cap)))

  accepted-on : (s : ℕ) (p : Text) (behind : List Fact) → MayGo r s → fits before (Accepted s p) ≡ true
      → all_fit q (instead r before (Accepted s p) behind) ≡ true
  accepted-on s p behind may fit =
      let parts = and_parts (follows_at before s (Accepted s p)) (nat_lt (accepted_count before s) max_number) fit in
      let sides = and_parts (is_outgoing_side (maker before s)) (follows (phase before s) (Accepted s p)) parts.0 in
      elim (cases_Bool (nat_lt (accepted_count before s) (settled r s))) [
        | inl lt ↦
            ap (λ b. all_fit q (cond b (cond (accepted_count before s == 0) (Dropped s (settled r s) ∷ []) [])
            (Accepted s p ∷ []))) lt
            ∙ elim (cases_Bool (accepted_count before s == 0)) [
              | inl none ↦
                  let pos : 1 ≤ settled r s = grind (arith, nat_tests, lt) in
                  ap (λ b. all_fit q (cond b (Dropped s (settled r s) ∷ []) [])) none
                  ∙ one-fits q (Dropped s (settled r s))
                  (drop-in s (and_from (is_outgoing_side (maker before s)) _ sides.0
                  (follows-drop (phase before s) s (settled r s) p sides.1))
                  (eqb-true (accepted_count before s) 0 none) pos may.few)
              | inr more ↦ ap (λ b. all_fit q (cond b (Dropped s (settled r s) ∷ []) [])) more
            ]
        | inr ge ↦
            let same : accepted_count q s ≡ accepted_count before s =
            so.count_ s ∙ kept_count (settled r s) (accepted_count before s) ge in
            ap (λ b. all_fit q (cond b (cond (accepted_count before s == 0) (Dropped s (settled r s) ∷ []) [])
            (Accepted s p ∷ []))) ge
            ∙ one-fits q (Accepted s p)
            (and_from (follows_at q s (Accepted s p)) _ (follows_now s (Accepted s p) ∙ parts.0)
            (ap (λ k. nat_lt k max_number) same ∙ parts.1))
      ]
    where
      kept_count : (d k : ℕ) → nat_lt k d ≡ false → count_so_far d k ≡ k
      kept_count d k ge = grind (arith, nat_tests, ge)

  dropped-on : (s u : ℕ) (behind : List Fact) → MayGo r s → fits before (Dropped s u) ≡ true → u ≤ settled r s
      → all_fit q (instead r before (Dropped s u) behind) ≡ true
  dropped-on s u behind may fit big =
      let f_ = drop-fits before s u fit in
      let follow = (and_parts (follows_at before s (Dropped s u)) _ fit).0 in
      one-fits q (Dropped s (settled r s))
      (drop-in s (any_drop (phase before s) (is_outgoing_side (maker before s)) follow) f_.0
      (omega (arith, big, f_.1)) may.few)
    where
      any_drop : (p : OutPhase) (b : Bool) → (b && follows p (Dropped s u)) ≡ true
          → (b && follows p (Dropped s (settled r s))) ≡ true
      any_drop out.Open b e = e
      any_drop _ b e = absurd (false≢true (sym (none b) ∙ e))
        where
          none : (b : Bool) → (b && false) ≡ false
          none true = refl
          none false = refl

  acked-on : (s : ℕ) (ranges : List Range) (behind : List Fact) → fits before (Acked s ranges) ≡ true
      → (list_any (acks s) behind ≡ false → list_all (is_up_to (accepted_count q s)) (left_acked r s) ≡ true)
      → all_fit q (instead r before (Acked s ranges) behind) ≡ true
  acked-on s ranges behind fit left = elim (cases_Bool (list_any (acks s) behind)) [
    | inl more ↦ ap (λ b. all_fit q (cond b [] (acked_with s (left_acked r s)))) more
    | inr none ↦
        ap (λ b. all_fit q (cond b [] (acked_with s (left_acked r s)))) none
        ∙ with_ (left_acked r s) (left none)
  ]
    where
      with_ : (xs : List Range) → list_all (is_up_to (accepted_count q s)) xs ≡ true → all_fit q (acked_with s xs)
          ≡ true
      with_ [] ok = refl
      with_ (x ∷ xs) ok =
          one-fits q (Acked s (x ∷ xs))
          (and_from (is_outgoing_side (maker q s)) _
          (ap (λ o. is_outgoing_side o) (maker_in q before s so.makers_)
          ∙ (and_parts (is_outgoing_side (maker before s)) _ fit).0) ok)

  nil_ : (ps : List Range) → is_empty ps ≡ true → ps ≡ []
  nil_ [] e = refl
  nil_ (p ∷ ps) e = absurd (false≢true e)

  items-same : (s : ℕ) → passed r s ≡ [] → items q s ≡ items before s
  items-same s none =
      ap (λ ps. gone_items (numbers_in ps) ++ there_items (received q s)) ((so.got_ s).purged_none none)
      ∙ ap (λ ms. gone_items (numbers_in (purged before s)) ++ there_items ms)
      ((so.got_ s).received_ ∙ ap (λ ps. without ps (received before s)) none ∙ without-no (received before s))

  purged-on : (s : ℕ) (ranges : List Range) (behind : List Fact) → MayGo r s → SameBehaviour r before
      → fits before (Purged s ranges) ≡ true → all_fit q (instead r before (Purged s ranges) behind) ≡ true
  purged-on s ranges behind may stays fit =
      let one = and_parts (is_incoming_side (maker before s)) _ fit in
      let two = and_parts (is_empty (held before s)) _ one.1 in
      let three = and_parts (list_all (is_up_to max_number) ranges)
      (may_be_gone (is_loose (behaviour before s)) ranges) two.1 in
      elim (cases_Bool (is_empty (passed r s))) [
        | inl none ↦
            ap (λ b. all_fit q (cond b (Purged s ranges ∷ []) (purged_with s (passed r s)))) none
            ∙ one-fits q (Purged s ranges)
            (purge-in q before s ranges so.makers_ one.0
            (ap (λ ms. is_empty (numbers_of ms)) (items-same s (nil_ (passed r s) none)) ∙ two.0) three.0 three.1)
        | inr some ↦
            ap (λ b. all_fit q (cond b (Purged s ranges ∷ []) (purged_with s (passed r s)))) some
            ∙ ap (λ xs. all_fit q xs) (purged_with-is s (passed r s) some)
            ∙ one-fits q (Purged s (passed r s))
            (purge-in q before s (passed r s) so.makers_ one.0 (held-none q before r s (so.got_ s) some two.0) may.cap
            (may-pass r before s may stays one.0 some))
      ]

  consumed-on : (s upto : ℕ) (behind : List Fact) → fits before (Consumed s upto) ≡ true
      → all_fit q (instead r before (Consumed s upto) behind) ≡ true
  consumed-on s upto behind fit = elim (cases_Bool (is_empty (passed r s))) [
    | inl none ↦
        let e = nil_ (passed r s) none in
        let cursors : cursor q s ≡ cursor before s = ap greatest_of ((so.got_ s).cursors_none e) in
        let boxes : inbox q s ≡ inbox before s =
        ap (λ xs. inbox_of (behaviour q s) (told q s) xs) (items-same s e)
        ∙ ap (λ ms. inbox_of (behaviour_of (numbered ms s)) (told q s) (items before s)) so.makers_
        ∙ ap (λ ts. inbox_of (behaviour before s) (at_seq s ts) (items before s)) so.told_ in
        ap (λ b. all_fit q (cond b (Consumed s upto ∷ []) [])) none
        ∙ one-fits q (Consumed s upto)
        (ap (λ o. is_incoming_side o && (nat_lt (cursor q s) upto && nat_le upto (length (inbox q s))))
        (maker_in q before s so.makers_)
        ∙ ap (λ c. is_incoming_side (maker before s) && (nat_lt c upto && nat_le upto (length (inbox q s)))) cursors
        ∙ ap (λ xs. is_incoming_side (maker before s)
        && (nat_lt (cursor before s) upto && nat_le upto (length xs))) boxes
        ∙ fit)
    | inr some ↦ ap (λ b. all_fit q (cond b (Consumed s upto ∷ []) [])) some
  ]

-- what the walk needs of the Acked record of a sequence that is the last
abbrev pub LeftIsUpTo : List Fact → List Fact → List Fact → Fact → List Fact → Type 0
LeftIsUpTo r q before (Acked s ranges) behind =
    list_any (acks s) behind ≡ false → list_all (is_up_to (accepted_count q s)) (left_acked r s) ≡ true
LeftIsUpTo r q before _ behind = Unit {0}

pub fit-on : (r q before : List Fact) (f : Fact) (behind : List Fact) → SoFar r q before → ((s : ℕ) → MayGo r s)
    → SameBehaviour r before → fits before f ≡ true
    → ((s : ℕ) → AllByRecursion (λ (u : ℕ). u ≤ settled r s) (dropped_of s f))
    → LeftIsUpTo r q before f behind → all_fit q (instead r before f behind) ≡ true
fit-on r q before (Accepted s p) behind so may stays fit big left = accepted-on r q before so s p behind (may s) fit
fit-on r q before (Dropped s u) behind so may stays fit big left =
    dropped-on r q before so s u behind (may s) fit
    (subst (λ us. AllByRecursion (λ (u : ℕ). u ≤ settled r s) us) (drops_with s u) (big s)).0
fit-on r q before (Acked s ranges) behind so may stays fit big left = acked-on r q before so s ranges behind fit left
fit-on r q before (Received s n p) behind so may stays fit big left =
    received-on r q before behind s n p so (may s) stays fit
fit-on r q before (Purged s ranges) behind so may stays fit big left =
    purged-on r q before so s ranges behind (may s) stays fit
fit-on r q before (Consumed s upto) behind so may stays fit big left = consumed-on r q before so s upto behind fit
fit-on r q before f behind so may stays fit big left =
    one-fits q f (fits_here q before so.makers_ so.draws so.created_ so.marks_ so.closes_ so.empty f refl fit)

pub fit-append : (q xs ys : List Fact) → all_fit q xs ≡ true → all_fit (q ++ xs) ys ≡ true → all_fit q (xs ++ ys) ≡ true
fit-append q [] ys a b = subst (λ l. all_fit l ys ≡ true) (append-nil q) b
fit-append q (x ∷ xs) ys a b =
    let parts = and_parts (fits q x) (all_fit (q ++ x ∷ []) xs) a in
    and_from (fits q x) (all_fit (q ++ x ∷ []) (xs ++ ys)) parts.0
    (fit-append (q ++ x ∷ []) xs ys parts.1 (subst (λ l. all_fit l ys ≡ true) (sym (append_assoc q (x ∷ []) xs)) b))
