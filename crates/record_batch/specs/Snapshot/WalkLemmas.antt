-- The walk over all records: a snapshot fits.
use Rattle.std.proofs.Common.{◌≡◌, ◌⊎◌, ℕ, ◌+◌, ◌<◌, ◌≤◌, Bool, true, false, ◌||◌, ◌&&◌, not, cond, List, [], ◌∷◌}
use Rattle.std.proofs.Common.{◌++◌, length, take, refl, sym, ◌∙◌, ap, inl, inr, arith, append_assoc}
use Rattle.std.specs.Prelude.{◌==◌, nat_lt, nat_le}
use Rattle.std.specs.List.{flat_map, list_any, list_all, AllByRecursion}
use Rattle.std.proofs.lemmas.Bool.{and_parts, and_from, cases_Bool, false≢true, leb-true, le-leb}
use Rattle.std.proofs.lemmas.Bool.Decides.{nat_tests}
use Rattle.std.proofs.lemmas.Grind.{flat_map-append}
use Rattle.std.proofs.lemmas.List.{append-nil}
use Rattle.rm_sides.specs.Ranges.Changes.{united}
use Rattle.rm_sides.specs.Ranges.Laws.{EndsAreRight, UnionHasBoth}
use Rattle.rm_sides.specs.declared.ranges.range.Range.{Range}
use Rattle.rm_sides.specs.Ranges.Ranges.{RisesFrom, count_of, front_of, in_range, in_ranges, is_between}
use Rattle.rm_base.specs.Message.{max_number}
use Rattle.rm_sides.specs.Destination.Incoming.{is_loose}
use Rattle.rm_sides.specs.Destination.Messages.{is_empty, ranges_onto}
use Rattle.record_batch.specs.Fact.{Fact, Acked}
use Rattle.record_batch.specs.Sequences.Words.{last_or}
use Rattle.record_batch.specs.Sequences.Sources.{accepted_count, acked, acked_of, dropped_of}
use Rattle.record_batch.specs.Sequences.Destinations.{behaviour, cursor, held, inbox}
use Rattle.record_batch.specs.Sequences.Fits.{all_fit, fits, is_set_from, is_up_to, may_be_gone}
use Rattle.record_batch.specs.Sequences.NodeLemmas.{one_more}
use Rattle.record_batch.specs.Sequences.SetLemmas.{is-set, set-up_to}
use Rattle.record_batch.specs.Sequences.StayLemmas.{behaviour-stays}
use Rattle.record_batch.specs.Snapshot.AckedLemmas.{few-on, Drops, acked-within, drops-of, in_ranges-join, more_}
use Rattle.record_batch.specs.Snapshot.AckedLemmas.{no-acks}
use Rattle.record_batch.specs.Snapshot.AckedLemmas.{none_, one_, split-front, union_, ups, within, drops_}
use Rattle.record_batch.specs.Snapshot.FitLemmas.{LeftIsUpTo, MayGo, SoFar, count_so_far, fit-append, fit-on, so-far-on}
use Rattle.record_batch.specs.Snapshot.CapLemmas.{held-cap}
use Rattle.record_batch.specs.Snapshot.PassedLemmas.{Passed, earliest_, first-of, inbox-held, nothing_, passed-is}
use Rattle.record_batch.specs.Snapshot.PassedLemmas.{upto_}
use Rattle.record_batch.specs.Snapshot.LooseLemmas.{AreFirst}
use Rattle.record_batch.specs.Snapshot.Same.{HaveProper}
use Rattle.record_batch.specs.Snapshot.SentLemmas.{count-more, no-later}
use Rattle.record_batch.specs.Snapshot.Snapshot.{acks, instead, left_acked, passed, past_front, settled, snapshot}
use Rattle.record_batch.specs.Snapshot.Snapshot.{snapshot_from}

-- ---- no number is above the greatest

count-cap : (before l : List Fact) (s : ℕ) → all_fit before l ≡ true → accepted_count before s ≤ max_number
    → accepted_count (before ++ l) s ≤ max_number
count-cap before [] s fit cap = omega (arith, cap, ap (λ rs. accepted_count rs s) (append-nil before))
count-cap before (f ∷ l) s fit cap =
    let parts = and_parts (fits before f) (all_fit (before ++ f ∷ []) l) fit in
    let one : accepted_count (before ++ f ∷ []) s ≤ max_number = few-on before f s parts.0 cap in
    omega (
      arith,
      count-cap (before ++ f ∷ []) l s parts.1 one,
      ap (λ rs. accepted_count rs s) (append_assoc before (f ∷ []) l),
    )

-- ---- what is left of acknowledged numbers

rises-up_to : (m low : ℕ) (xs : List Range) → 1 ≤ low → RisesFrom low xs
    → ((n : ℕ) → in_ranges xs n ≡ true → n ≤ m) → list_all (is_up_to m) xs ≡ true
rises-up_to m low [] from rise h = refl
rises-up_to m low (x ∷ xs) from rise h =
    let own : in_range x x.upper ≡ true =
    and_from (nat_le x.lower x.upper) (nat_le x.upper x.upper) (le-leb x.lower x.upper rise.1)
    (le-leb x.upper x.upper (omega arith)) in
    and_from (is_up_to m x) (list_all (is_up_to m) xs)
    (and_from (nat_le 1 x.lower) (nat_le x.upper m) (le-leb 1 x.lower (omega (arith, rise.0, from)))
    (le-leb x.upper m (h x.upper (ap (λ b. b || in_ranges xs x.upper) own))))
    (rises-up_to m (x.upper + 2) xs (omega arith) rise.3 (λ n e. h n (later (in_range x n) (in_ranges xs n) e)))
  where
    later : (a b : Bool) → b ≡ true → (a || b) ≡ true
    later true b e = refl
    later false b e = e

-- those behind the front rise behind it
pub past-rises : (xs : List Range) → RisesFrom 1 xs → (low : ℕ) × (front_of xs < low) × RisesFrom low (past_front xs)
past-rises [] rise = (1, omega arith, tt)
past-rises (x ∷ xs) rise = elim (x.lower == 1) as (λ b. (low : ℕ) × (cond b x.upper 0 < low)
    × RisesFrom low (cond b xs (x ∷ xs))) [
      | true ↦ (x.upper + 2, omega arith, rise.3)
      | false ↦ (1, omega arith, rise)
    ]

rises-above : (low n : ℕ) (xs : List Range) → RisesFrom low xs → in_ranges xs n ≡ true → low ≤ n
rises-above low n [] rise e = absurd (false≢true e)
rises-above low n (x ∷ xs) rise e = elim (cases_Bool (in_range x n)) [
  | inl here ↦ omega (arith, rise.0, leb-true x.lower n (and_parts (nat_le x.lower n) (nat_le n x.upper) here).0)
  | inr later ↦ omega (
    arith,
    rise.0,
    rise.1,
    rises-above (x.upper + 2) n xs rise.3 (sym (ap (λ b. b || in_ranges xs n) later) ∙ e),
  )
]

module _ (both : UnionHasBoth) (ends : EndsAreRight) (r : List Fact) (fit : all_fit [] r ≡ true)
    (proper : HaveProper r) where
  left-numbers : (s : ℕ) (before behind : List Fact) (ranges : List Range) → r ≡ before ++ Acked s ranges ∷ behind
      → all_fit [] (before ++ Acked s ranges ∷ []) ≡ true → all_fit (before ++ Acked s ranges ∷ []) behind ≡ true
      → AllByRecursion (λ (u : ℕ). u ≤ settled r s) (flat_map (dropped_of s) behind)
      → list_any (acks s) behind ≡ false → (n : ℕ) → in_ranges (left_acked r s) n ≡ true → n ≤ accepted_count before s
  left-numbers s before behind ranges split first rest big none n e =
      let u = union_ both ends r s fit proper in
      let after = before ++ Acked s ranges ∷ [] in
      let all : in_ranges (acked r s) n ≡ true =
      sym (u.same n) ∙ split-front (united [] (acked r s)) n
      ∙ ap (λ b. is_between 1 (front_of (united [] (acked r s))) n || b) e ∙ always (is_between 1 (settled r s) n) in
      let parts : (in_ranges (acked after s) n || in_ranges (acked behind s) n) ≡ true =
      sym (ap (λ l. in_ranges (acked l s) n) (split ∙ sym (append_assoc before (Acked s ranges ∷ []) behind))
      ∙ ap (λ xs. in_ranges xs n) (flat_map-append (acked_of s) after behind)
      ∙ in_ranges-join (acked after s) (acked behind s) n) ∙ all in
      let same : accepted_count after s ≡ accepted_count before s + 0 = count-more before (Acked s ranges) s refl in
      elim (cases_Bool (in_ranges (acked after s) n)) [
        | inl here ↦ omega (arith, acked-within [] after s n first here, same)
        | inr later ↦
            let gone : in_ranges (ups (flat_map (dropped_of s) behind)) n ≡ true =
            sym (ap (λ xs. in_ranges xs n) (no-acks behind s none))
            ∙ sym (ap (λ b. b || in_ranges (acked behind s) n) later)
            ∙ parts in
            elim (cases_Bool (nat_lt 0 (accepted_count before s))) [
              | inl some ↦
                  let pos : 0 < accepted_count before s = grind (arith, nat_tests, some) in
                  absurd (false≢true (sym (ap (λ us. in_ranges (ups us) n)
                  (no-later after behind s rest (omega (arith, pos, same))))
                  ∙ gone))
              | inr fresh ↦
                  let zero_ : accepted_count before s ≡ 0 = grind (arith, nat_tests, fresh) in
                  by_drops (flat_map (dropped_of s) behind)
                  (drops-of after behind s rest (omega (arith, zero_, same))) big gone
            ]
      ]
    where
      always : (b : Bool) → (b || true) ≡ true
      always true = refl
      always false = refl

      by_drops : (us : List ℕ) → Drops us → AllByRecursion (λ (u : ℕ). u ≤ settled r s) us
          → in_ranges (ups us) n ≡ true → n ≤ accepted_count before s
      by_drops us none_ le e2 = absurd (false≢true e2)
      by_drops us (one_ u from) le e2 =
          let p = past-rises (united [] (acked r s)) (union_ both ends r s fit proper).set in
          let above = rises-above p.0 n (left_acked r s) p.2 e in
          let top : n ≤ u = grind (arith, nat_tests, e2) in
          absurd (omega (arith, above, p.1, top, le.0))

  left-ok : (q before : List Fact) (s : ℕ) (ranges : List Range) (behind : List Fact) → SoFar r q before
      → r ≡ before ++ Acked s ranges ∷ behind
      → all_fit [] (before ++ Acked s ranges ∷ []) ≡ true → all_fit (before ++ Acked s ranges ∷ []) behind ≡ true
      → AllByRecursion (λ (u : ℕ). u ≤ settled r s) (flat_map (dropped_of s) behind)
      → LeftIsUpTo r q before (Acked s ranges) behind
  left-ok q before s ranges behind so split first rest big none =
      let p = past-rises (united [] (acked r s)) (union_ both ends r s fit proper).set in
      rises-up_to (accepted_count q s) p.0 (left_acked r s) (omega (arith, p.1)) p.2 (λ n e.
      let le = left-numbers s before behind ranges split first rest big none n e in
      let from = rises-above p.0 n (left_acked r s) p.2 e in
      over (settled r s) (accepted_count before s) (accepted_count q s) n (so.count_ s) le (omega (arith, from, p.1)))
    where
      over : (d k c n : ℕ) → c ≡ count_so_far d k → n ≤ k → 1 ≤ n → n ≤ c
      over d k c n e le from = grind (arith, nat_tests, e, le, from)

  pub may-go : (s : ℕ) → MayGo r s
  may-go s = record {
    run_ = run (passed r s) (passed-is r s);
    cap = caps (passed r s) (passed-is r s);
    few = omega (arith, within both ends r s fit proper, count-cap [] r s fit (omega arith));
  }
    where
      first : is_loose (behaviour r s) ≡ true → cursor r s ≤ length (inbox r s)
          → AreFirst r s (cursor r s) (ranges_onto [] (take (cursor r s) (held r s)))
      first loose le = first-of both r s fit loose le

      set-test : (qs : List Range) → 0 < count_of qs → RisesFrom 1 qs → (not (is_empty qs) && is_set_from 1 qs) ≡ true
      set-test [] some rise = absurd (omega (arith, some))
      set-test (x ∷ qs) some rise = is-set 1 (x ∷ qs) rise

      run : (ps : List Range) → Passed r s ps
          → (ps ≡ []) ⊎ (may_be_gone (is_loose (behaviour r s)) ps ≡ true)
      run ps nothing_ = inl refl
      run ps (upto_ c ordered pos cur le) =
          inr (ap (λ b. may_be_gone b (record { lower = 1; upper = c } ∷ [])) ordered ∙ grind (arith, nat_tests, pos))
      run ps (earliest_ loose pos le) =
          let it = first loose le in
          let qs = ranges_onto [] (take (cursor r s) (held r s)) in
          inr (ap (λ b. may_be_gone b qs) loose ∙ set-test qs (omega (arith, it.count, pos)) it.canonical)

      caps : (ps : List Range) → Passed r s ps → list_all (is_up_to max_number) ps ≡ true
      caps ps nothing_ = refl
      caps ps (upto_ c ordered pos cur le) =
          let top = held-cap r s c fit (inbox-held r s c ordered pos le) in
          and_from (is_up_to max_number (record { lower = 1; upper = c })) true
          (le-leb c max_number top) refl
      caps ps (earliest_ loose pos le) =
          set-up_to 1 (ranges_onto [] (take (cursor r s) (held r s))) (omega arith) (first loose le).canonical

  pub drops-settled : (s : ℕ) → AllByRecursion (λ (u : ℕ). u ≤ settled r s) (flat_map (dropped_of s) r)
  drops-settled s = by_drops (flat_map (dropped_of s) r) (drops_ both ends r s fit proper)
      (more_ both ends r s fit proper)
    where
      by_drops : (us : List ℕ) → Drops us → last_or 0 us ≤ settled r s → AllByRecursion (λ (u : ℕ). u ≤ settled r s) us
      by_drops us none_ le = tt
      by_drops us (one_ u from) le = (le, tt)

  walk : (before l q : List Fact) → r ≡ before ++ l → all_fit [] before ≡ true → all_fit before l ≡ true
      → SoFar r q before
      → ((s : ℕ) → AllByRecursion (λ (u : ℕ). u ≤ settled r s) (flat_map (dropped_of s) l))
      → all_fit q (snapshot_from r before l) ≡ true
  walk before [] q split first rest so big = refl
  walk before (f ∷ l) q split first rest so big =
      let parts = and_parts (fits before f) (all_fit (before ++ f ∷ []) l) rest in
      let after : all_fit [] (before ++ f ∷ []) ≡ true =
      one_more.fit before f ∙ and_from (all_fit [] before) (fits before f) first parts.0 in
      let mine : (s : ℕ) → AllByRecursion (λ (u : ℕ). u ≤ settled r s) (dropped_of s f) =
      (λ s. (front-all (settled r s) (dropped_of s f) (flat_map (dropped_of s) l) (big s)).0) in
      let others : (s : ℕ) → AllByRecursion (λ (u : ℕ). u ≤ settled r s) (flat_map (dropped_of s) l) =
      (λ s. (front-all (settled r s) (dropped_of s f) (flat_map (dropped_of s) l) (big s)).1) in
      fit-append q (instead r before f l) (snapshot_from r (before ++ f ∷ []) l)
      (fit-on r q before f l so may-go
      (λ s side. sym (behaviour-stays before (f ∷ l) s side) ∙ sym (ap (λ k. behaviour k s) split))
      parts.0 mine (left_for f split after parts.1 others))
      (walk (before ++ f ∷ []) l (q ++ instead r before f l)
      (split ∙ sym (append_assoc before (f ∷ []) l)) after parts.1
      (so-far-on r q before f l parts.0 mine so) others)
    where
      front-all : (d : ℕ) (xs ys : List ℕ) → AllByRecursion (λ (u : ℕ). u ≤ d) (xs ++ ys)
          → AllByRecursion (λ (u : ℕ). u ≤ d) xs × AllByRecursion (λ (u : ℕ). u ≤ d) ys
      front-all d [] ys h = (tt, h)
      front-all d (x ∷ xs) ys h = let rest = front-all d xs ys h.1 in ((h.0, rest.0), rest.1)

      left_for : (g : Fact) → r ≡ before ++ g ∷ l → all_fit [] (before ++ g ∷ []) ≡ true
          → all_fit (before ++ g ∷ []) l ≡ true
          → ((s : ℕ) → AllByRecursion (λ (u : ℕ). u ≤ settled r s) (flat_map (dropped_of s) l))
          → LeftIsUpTo r q before g l
      left_for (Acked s ranges) split a b others = left-ok q before s ranges l so split a b (others s)
      left_for _ split a b others = tt

  pub start : SoFar r [] []
  start = record {
    empty = λ e. refl;
    makers_ = refl;
    draws = refl;
    created_ = refl;
    marks_ = refl;
    closes_ = refl;
    told_ = refl;
    count_ = λ s. refl;
    got_ = λ s. record {
      received_ = refl;
      purged_none = λ none. refl;
      cursors_none = λ none. refl;
      purged_some = λ some. refl;
    };
  }

  pub fits-all : all_fit [] (snapshot r) ≡ true
  fits-all = walk [] r [] refl refl fit start drops-settled

pub snapshot-fits : UnionHasBoth → EndsAreRight → (r : List Fact) → all_fit [] r ≡ true → HaveProper r
    → all_fit [] (snapshot r) ≡ true
snapshot-fits both ends r fit proper = fits-all both ends r fit proper
