-- A snapshot of a snapshot is the snapshot.
use Rattle.std.proofs.Common.{◌≡◌, ◌⊎◌, ℕ, ◌-◌, ◌<◌, ◌≤◌, ◌==◌, Bool, true, false, ◌&&◌, ◌||◌, cond, List, [], ◌∷◌}
use Rattle.std.proofs.Common.{◌++◌}
use Rattle.std.proofs.Common.{length, take, refl, sym, ◌∙◌, ap, subst, inl, inr, arith, append_assoc}
use Rattle.std.specs.Prelude.{nat_lt, nat_le}
use Rattle.std.specs.List.{flat_map, list_any, AllByRecursion}
use Rattle.std.proofs.lemmas.Bool.{and_parts, cases_Bool, false≢true, leb-true, true≢false}
use Rattle.std.proofs.lemmas.Bool.Decides.{nat_tests}
use Rattle.std.proofs.lemmas.List.{append-nil}
use Rattle.rm_sides.specs.Ranges.Changes.{united}
use Rattle.rm_sides.specs.Ranges.Laws.{EndsAreRight, SameNumbersSameRanges, UnionHasBoth}
use Rattle.rm_sides.specs.declared.ranges.range.Range.{Range}
use Rattle.rm_sides.specs.Ranges.Ranges.{count_of, front_of, in_ranges}
use Rattle.rm_base.specs.declared.message.Payload.{Payload}
use Rattle.rm_base.specs.Numbered.{numbered}
use Rattle.rm_sides.specs.Destination.Incoming.{first_numbers, is_loose}
use Rattle.rm_sides.specs.Destination.ItemLemmas.{length-numbers_in}
use Rattle.rm_sides.specs.Destination.LooseLemmas.{ranges_onto-numbers_in, take-past}
use Rattle.rm_sides.specs.Destination.Messages.{is_empty, numbers_in, numbers_of, ranges_onto}
use Rattle.record_batch.specs.Fact.{Fact, Accepted, Acked, Received, Consumed, Dropped, Purged}
use Rattle.record_batch.specs.Sequences.Fits.{all_fit, fits}
use Rattle.record_batch.specs.Sequences.Sources.{accepted_count, acked, dropped_of}
use Rattle.record_batch.specs.Sequences.Destinations.{behaviour, behaviour_of, cursor, held, inbox, purged, received}
use Rattle.record_batch.specs.Snapshot.AckedLemmas.{union_}
use Rattle.record_batch.specs.Snapshot.FactLemmas.{facts-equal}
use Rattle.record_batch.specs.Snapshot.FitLemmas.{SoFar, count_so_far, purged_with-is, so-far-on}
use Rattle.record_batch.specs.Snapshot.GoneLemmas.{numbers-received, purged-from}
use Rattle.record_batch.specs.Snapshot.GotLemmas.{got_with, held-is, held-length, held-more, purged-new, some-not}
use Rattle.record_batch.specs.Snapshot.KeepLemmas.{snapshot-says}
use Rattle.record_batch.specs.Snapshot.LooseLemmas.{range-is-added}
use Rattle.record_batch.specs.Snapshot.PassedLemmas.{first-of, loose-held, passed-loose, passed-some}
use Rattle.record_batch.specs.Snapshot.Same.{HaveProper, SaysTheSame}
use Rattle.record_batch.specs.Snapshot.Snapshot.{acked_with, acks, instead, left_acked, passed, past_front, purged_with}
use Rattle.record_batch.specs.Snapshot.Snapshot.{settled, snapshot, snapshot_from}
use Rattle.record_batch.specs.Snapshot.WalkLemmas.{drops-settled, fits-all, start}
use Rattle.record_batch.specs.Snapshot.WrittenLemmas.{snapshot-is-proper}

-- ---- no Acked record behind

any-append : (s : ℕ) (xs ys : List Fact) → list_any (acks s) xs ≡ false → list_any (acks s) ys ≡ false
    → list_any (acks s) (xs ++ ys) ≡ false
any-append s [] ys a b = b
any-append s (x ∷ xs) ys a b = elim (cases_Bool (acks s x)) [
  | inl is ↦ absurd (true≢false (sym (ap (λ c. c || list_any (acks s) xs) is) ∙ a))
  | inr not_ ↦
      ap (λ c. c || list_any (acks s) (xs ++ ys)) not_
      ∙ any-append s xs ys (sym (ap (λ c. c || list_any (acks s) xs) not_) ∙ a) b
]

acked-any : (s seq : ℕ) (xs : List Range) → (seq == s) ≡ false → list_any (acks s) (acked_with seq xs) ≡ false
acked-any s seq [] e = refl
acked-any s seq (x ∷ xs) e = ap (λ b. b || false) e

purged-any : (s seq : ℕ) (xs : List Range) → list_any (acks s) (purged_with seq xs) ≡ false
purged-any s seq [] = refl
purged-any s seq (x ∷ xs) = refl

instead-any : (s : ℕ) (r before : List Fact) (f : Fact) (behind : List Fact) → acks s f ≡ false
    → list_any (acks s) (instead r before f behind) ≡ false
instead-any s r before (Acked seq ranges) behind e =
    elim (list_any (acks seq) behind) as (λ b. list_any (acks s) (cond b [] (acked_with seq (left_acked r seq)))
    ≡ false) [
      | true ↦ refl
      | false ↦ acked-any s seq (left_acked r seq) e
    ]
instead-any s r before (Accepted seq p) behind e =
    elim (nat_lt (accepted_count before seq) (settled r seq)) as (λ b. list_any (acks s) (cond b
    (cond (accepted_count before seq == 0) (Dropped seq (settled r seq) ∷ []) []) (Accepted seq p ∷ [])) ≡ false) [
      | true ↦ elim (accepted_count before seq == 0) as (λ b.
          list_any (acks s) (cond b (Dropped seq (settled r seq) ∷ []) []) ≡ false) [
            | true ↦ refl
            | false ↦ refl
          ]
      | false ↦ refl
    ]
instead-any s r before (Received seq n p) behind e =
    any-append s (cond (is_empty (held before seq)) (purged_with seq (passed r seq)) [])
    (cond (in_ranges (passed r seq) n) [] (Received seq n p ∷ []))
    (elim (is_empty (held before seq)) as (λ b. list_any (acks s) (cond b (purged_with seq (passed r seq)) [])
    ≡ false) [
      | true ↦ purged-any s seq (passed r seq)
      | false ↦ refl
    ])
    (elim (in_ranges (passed r seq) n) as (λ b. list_any (acks s) (cond b [] (Received seq n p ∷ [])) ≡ false) [
      | true ↦ refl
      | false ↦ refl
    ])
instead-any s r before (Purged seq ranges) behind e =
    elim (is_empty (passed r seq)) as (λ b.
    list_any (acks s) (cond b (Purged seq ranges ∷ []) (purged_with seq (passed r seq))) ≡ false) [
      | true ↦ refl
      | false ↦ purged-any s seq (passed r seq)
    ]
instead-any s r before (Consumed seq upto) behind e =
    elim (is_empty (passed r seq)) as (λ b. list_any (acks s) (cond b (Consumed seq upto ∷ []) []) ≡ false) [
      | true ↦ refl
      | false ↦ refl
    ]
instead-any s r before _ behind e = refl

none-kept : (s : ℕ) (r before l : List Fact) → list_any (acks s) l ≡ false
    → list_any (acks s) (snapshot_from r before l) ≡ false
none-kept s r before [] e = refl
none-kept s r before (f ∷ l) e = elim (cases_Bool (acks s f)) [
  | inl is ↦ absurd (true≢false (sym (ap (λ b. b || list_any (acks s) l) is) ∙ e))
  | inr not_ ↦
      any-append s (instead r before f l) (snapshot_from r (before ++ f ∷ []) l) (instead-any s r before f l not_)
      (none-kept s r (before ++ f ∷ []) l (sym (ap (λ b. b || list_any (acks s) l) not_) ∙ e))
]

-- ---- what decides is the same

-- ---- each record of a snapshot stays

module _ (both : UnionHasBoth) (ends : EndsAreRight) (only : SameNumbersSameRanges) (r : List Fact)
    (fit : all_fit [] r ≡ true) (whole : HaveProper r) where
  twice_says : SaysTheSame (snapshot r) r
  twice_says = snapshot-says both ends r fit whole

  new-fit : all_fit [] (snapshot r) ≡ true
  new-fit = fits-all both ends r fit whole

  same-union : (s : ℕ) → united [] (acked (snapshot r) s) ≡ united [] (acked r s)
  same-union s =
      let old = union_ both ends r s fit whole in
      let new = union_ both ends (snapshot r) s new-fit (snapshot-is-proper both ends r fit whole) in
      only _ _ new.set old.set (λ n. new.same n ∙ (twice_says.sent s).acked_ n ∙ sym (old.same n))

  same-settled : (s : ℕ) → settled (snapshot r) s ≡ settled r s
  same-settled s = ap front_of (same-union s)

  same-left : (s : ℕ) → left_acked (snapshot r) s ≡ left_acked r s
  same-left s = ap past_front (same-union s)

  -- the first that are held in short are those that went
  first-again : (s : ℕ) → is_loose (behaviour r s) ≡ true → 0 < cursor r s → cursor r s ≤ length (inbox r s)
      → ranges_onto [] (take (cursor r s) (held (snapshot r) s)) ≡ ranges_onto [] (take (cursor r s) (held r s))
  first-again s loose pos le =
      let qs = ranges_onto [] (take (cursor r s) (held r s)) in
      let it = first-of both r s fit loose le in
      let is : passed r s ≡ qs = passed-loose r s loose pos le in
      let some : is_empty (passed r s) ≡ false = ap (λ xs. is_empty xs) is ∙ filled qs (omega (arith, it.count, pos)) in
      let gone : purged (snapshot r) s ≡ qs =
      (purged-new r s some [] r fit refl (omega (arith, pos, le, loose-held r s loose))).0 ∙ is in
      let size : length (numbers_in qs) ≡ cursor r s = length-numbers_in qs ∙ it.count in
      let held_ : held (snapshot r) s ≡ numbers_in qs ++ numbers_of (received (snapshot r) s) =
      held-is (snapshot r) s ∙ ap (λ ps. numbers_in ps ++ numbers_of (received (snapshot r) s)) gone in
      let first : take (cursor r s) (held (snapshot r) s) ≡ numbers_in qs =
      ap (λ ns. take (cursor r s) ns) held_
      ∙ take-past (cursor r s) (numbers_in qs) (numbers_of (received (snapshot r) s)) (omega (arith, size))
      ∙ ap (λ k. numbers_in qs ++ take k (numbers_of (received (snapshot r) s)))
      (let e : cursor r s - length (numbers_in qs) ≡ 0 = omega (arith, size) in e)
      ∙ append-nil (numbers_in qs) in
      ap (λ ns. ranges_onto [] ns) first ∙ ranges_onto-numbers_in (range-is-added both) only qs it.canonical
    where
      filled : (ps : List Range) → 0 < count_of ps → is_empty ps ≡ false
      filled [] lt = absurd (omega (arith, lt))
      filled (p ∷ ps) lt = refl

  pub same-passed : (s : ℕ) → passed (snapshot r) s ≡ passed r s
  same-passed s =
      let len = (facts-equal (snapshot r) r twice_says s (numbers-received [] r s fit)
      (λ n e. purged-from [] (snapshot r) s n new-fit e)).inbox_len in
      let cur = (twice_says.got s).cursor_ in
      let kind : behaviour (snapshot r) s ≡ behaviour r s =
      ap (λ ms. behaviour_of (numbered ms s)) twice_says.frame.makers_ in
      ap (λ c. cond (nat_lt 0 c && nat_le c (length (inbox (snapshot r) s)))
      (first_numbers (is_loose (behaviour (snapshot r) s)) (held (snapshot r) s) c) []) cur
      ∙ ap (λ k. cond (nat_lt 0 (cursor r s) && nat_le (cursor r s) k)
      (first_numbers (is_loose (behaviour (snapshot r) s)) (held (snapshot r) s) (cursor r s)) []) len
      ∙ ap (λ y. cond (nat_lt 0 (cursor r s) && nat_le (cursor r s) (length (inbox r s)))
      (first_numbers (is_loose y) (held (snapshot r) s) (cursor r s)) []) kind
      ∙ elim (cases_Bool (nat_lt 0 (cursor r s) && nat_le (cursor r s) (length (inbox r s)))) [
        | inl some ↦ elim (cases_Bool (is_loose (behaviour r s))) [
          | inl loose ↦
              let parts = and_parts (nat_lt 0 (cursor r s)) (nat_le (cursor r s) (length (inbox r s))) some in
              let pos = parts.0 in
              let from : 0 < cursor r s = grind (arith, nat_tests, pos) in
              let le = leb-true (cursor r s) (length (inbox r s)) parts.1 in
              ap (λ b. cond (nat_lt 0 (cursor r s) && nat_le (cursor r s) (length (inbox r s)))
              (first_numbers b (held (snapshot r) s) (cursor r s)) []) loose
              ∙ ap (λ ps. cond (nat_lt 0 (cursor r s) && nat_le (cursor r s) (length (inbox r s))) ps [])
              (first-again s loose from le)
              ∙ sym (ap (λ b. cond (nat_lt 0 (cursor r s) && nat_le (cursor r s) (length (inbox r s)))
              (first_numbers b (held r s) (cursor r s)) []) loose)
          | inr ordered ↦
              ap (λ b. cond (nat_lt 0 (cursor r s) && nat_le (cursor r s) (length (inbox r s)))
              (first_numbers b (held (snapshot r) s) (cursor r s)) []) ordered
              ∙ sym (ap (λ b. cond (nat_lt 0 (cursor r s) && nat_le (cursor r s) (length (inbox r s)))
              (first_numbers b (held r s) (cursor r s)) []) ordered)
        ]
        | inr none ↦
            ap (λ b. cond b (first_numbers (is_loose (behaviour r s)) (held (snapshot r) s) (cursor r s)) []) none
            ∙ sym (ap (λ b. cond b (first_numbers (is_loose (behaviour r s)) (held r s) (cursor r s)) []) none)
      ]

  -- ---- each record stays

  St : List Fact → List Fact → List Fact → Type 0
  St q xs rest = snapshot_from (snapshot r) q (xs ++ rest) ≡ xs ++ snapshot_from (snapshot r) (q ++ xs) rest

  st-none : (q rest : List Fact) → St q [] rest
  unfolding St
  st-none q rest = ap (λ l. snapshot_from (snapshot r) l rest) (sym (append-nil q))

  st-one : (q rest : List Fact) (x : Fact) → instead (snapshot r) q x rest ≡ x ∷ [] → St q (x ∷ []) rest
  unfolding St
  st-one q rest x e = ap (λ xs. xs ++ snapshot_from (snapshot r) (q ++ x ∷ []) rest) e

  st-two : (q rest xs : List Fact) (x : Fact) → instead (snapshot r) q x (xs ++ rest) ≡ x ∷ []
      → St (q ++ x ∷ []) xs rest
      → St q (x ∷ xs) rest
  unfolding St
  st-two q rest xs x e more =
      ap (λ ys. ys ++ snapshot_from (snapshot r) (q ++ x ∷ []) (xs ++ rest)) e
      ∙ ap (λ ys. x ∷ ys) more
      ∙ ap (λ l. x ∷ (xs ++ snapshot_from (snapshot r) l rest)) (append_assoc q (x ∷ []) xs)

  nil_of : (ps : List Range) → is_empty ps ≡ true → ps ≡ []
  nil_of [] e = refl
  nil_of (p ∷ ps) e = absurd (false≢true e)

  st-drop : (q rest : List Fact) (s : ℕ) → St q (Dropped s (settled r s) ∷ []) rest
  st-drop q rest s = st-one q rest (Dropped s (settled r s)) (ap (λ d. Dropped s d ∷ []) (same-settled s))

  st-acked : (q rest : List Fact) (s : ℕ) → list_any (acks s) rest ≡ false → (xs : List Range) → left_acked r s ≡ xs
      → St q (acked_with s xs) rest
  st-acked q rest s none [] e = st-none q rest
  st-acked q rest s none (x ∷ xs) e =
      st-one q rest (Acked s (x ∷ xs))
      (ap (λ b. cond b [] (acked_with s (left_acked (snapshot r) s))) none
      ∙ ap (λ ys. acked_with s ys) (same-left s ∙ e))

  st-received : (q rest : List Fact) (s n : ℕ) (p : Payload)
      → (is_empty (passed r s) ≡ true) ⊎ (is_empty (held q s) ≡ false)
      → (b : Bool) → in_ranges (passed r s) n ≡ b → St q (cond b [] (Received s n p ∷ [])) rest
  st-received q rest s n p why true e = st-none q rest
  st-received q rest s n p why false e =
      st-one q rest (Received s n p)
      (ap (λ ps. cond (is_empty (held q s)) (purged_with s ps) [] ++ cond (in_ranges ps n) [] (Received s n p ∷ []))
      (same-passed s)
      ∙ ap (λ b. cond (is_empty (held q s)) (purged_with s (passed r s)) [] ++ cond b [] (Received s n p ∷ [])) e
      ∙ ap (λ xs. xs ++ Received s n p ∷ []) (nothing_first why))
    where
      over : (b : Bool) → cond b (purged_with s []) [] ≡ []
      over true = refl
      over false = refl

      nothing_first : (is_empty (passed r s) ≡ true) ⊎ (is_empty (held q s) ≡ false)
          → cond (is_empty (held q s)) (purged_with s (passed r s)) [] ≡ []
      nothing_first (inl none) = ap (λ ps. cond (is_empty (held q s)) (purged_with s ps) []) (nil_of (passed r s) none)
          ∙ over (is_empty (held q s))
      nothing_first (inr old) = ap (λ b. cond b (purged_with s (passed r s)) []) old

  st-purged : (q rest : List Fact) (s : ℕ) → is_empty (passed r s) ≡ false
      → instead (snapshot r) q (Purged s (passed r s)) rest ≡ Purged s (passed r s) ∷ []
  st-purged q rest s some =
      ap (λ ps. cond (is_empty ps) (Purged s (passed r s) ∷ []) (purged_with s ps)) (same-passed s)
      ∙ ap (λ b. cond b (Purged s (passed r s) ∷ []) (purged_with s (passed r s))) some
      ∙ purged_with-is s (passed r s) some

  st-on : (q before : List Fact) (f : Fact) (behind rest : List Fact) → SoFar r q before
      → ((s : ℕ) → list_any (acks s) behind ≡ false → list_any (acks s) rest ≡ false)
      → St q (instead r before f behind) rest
  st-on q before (Accepted s p) behind rest so quiet =
      elim (cases_Bool (nat_lt (accepted_count before s) (settled r s))) [
        | inl lt ↦ subst (λ xs. St q xs rest) (sym (ap (λ b. cond b
            (cond (accepted_count before s == 0) (Dropped s (settled r s) ∷ []) []) (Accepted s p ∷ [])) lt))
            (first (accepted_count before s == 0))
        | inr ge ↦
            let same : accepted_count q s ≡ accepted_count before s =
            so.count_ s ∙ kept (settled r s) (accepted_count before s) ge in
            subst (λ xs. St q xs rest) (sym (ap (λ b. cond b
            (cond (accepted_count before s == 0) (Dropped s (settled r s) ∷ []) []) (Accepted s p ∷ [])) ge))
            (st-one q rest (Accepted s p)
            (ap (λ b. cond b (cond (accepted_count q s == 0) (Dropped s (settled (snapshot r) s) ∷ []) [])
            (Accepted s p ∷ []))
            (ap (λ k. nat_lt k (settled (snapshot r) s)) same
            ∙ ap (λ d. nat_lt (accepted_count before s) d) (same-settled s) ∙ ge)))
      ]
    where
      first : (b : Bool) → St q (cond b (Dropped s (settled r s) ∷ []) []) rest
      first true = st-drop q rest s
      first false = st-none q rest

      kept : (d k : ℕ) → nat_lt k d ≡ false → count_so_far d k ≡ k
      kept d k ge = grind (arith, nat_tests, ge)
  st-on q before (Dropped s u) behind rest so quiet = st-drop q rest s
  st-on q before (Acked s ranges) behind rest so quiet = elim (cases_Bool (list_any (acks s) behind)) [
    | inl more ↦ subst (λ xs. St q xs rest)
        (sym (ap (λ b. cond b [] (acked_with s (left_acked r s))) more)) (st-none q rest)
    | inr none ↦ subst (λ xs. St q xs rest)
        (sym (ap (λ b. cond b [] (acked_with s (left_acked r s))) none))
        (st-acked q rest s (quiet s none) (left_acked r s) refl)
  ]
  st-on q before (Received s n p) behind rest so quiet = elim (cases_Bool (is_empty (passed r s))) [
    | inl none ↦ subst (λ xs. St q (xs ++ cond (in_ranges (passed r s) n) [] (Received s n p ∷ [])) rest)
        (sym (ap (λ ps. cond (is_empty (held before s)) (purged_with s ps) []) (nil_of (passed r s) none)
        ∙ over (is_empty (held before s))))
        (st-received q rest s n p (inl none) (in_ranges (passed r s) n) refl)
    | inr some ↦ elim (cases_Bool (is_empty (held before s))) [
      | inl fresh ↦ subst (λ xs. St q (xs ++ cond (in_ranges (passed r s) n) [] (Received s n p ∷ [])) rest)
          (sym (ap (λ b. cond b (purged_with s (passed r s)) []) fresh ∙ purged_with-is s (passed r s) some))
          (st-two q rest (cond (in_ranges (passed r s) n) [] (Received s n p ∷ [])) (Purged s (passed r s))
          (st-purged q (cond (in_ranges (passed r s) n) [] (Received s n p ∷ []) ++ rest) s some)
          (st-received (q ++ Purged s (passed r s) ∷ []) rest s n p
          (inr (some-not _ (omega (
            arith,
            held-more q (Purged s (passed r s)) s,
            passed-some r s some,
            ap (λ ys. length (numbers_in ys)) (got_with s (passed r s)),
          )))) (in_ranges (passed r s) n) refl))
      | inr old ↦ subst (λ xs. St q (xs ++ cond (in_ranges (passed r s) n) [] (Received s n p ∷ [])) rest)
          (sym (ap (λ b. cond b (purged_with s (passed r s)) []) old))
          (st-received q rest s n p
          (inr (some-not (held q s) (omega (
            arith,
            held-length q s,
            passed-some r s some,
            ap (λ ys. length (numbers_in ys)) ((so.got_ s).purged_some some ∙ ap (λ b. cond b [] (passed r s)) old),
          ))))
          (in_ranges (passed r s) n) refl)
    ]
  ]
    where
      over : (b : Bool) → cond b (purged_with s []) [] ≡ []
      over true = refl
      over false = refl
  st-on q before (Purged s ranges) behind rest so quiet = elim (cases_Bool (is_empty (passed r s))) [
    | inl none ↦ subst (λ xs. St q xs rest)
        (sym (ap (λ b. cond b (Purged s ranges ∷ []) (purged_with s (passed r s))) none))
        (st-one q rest (Purged s ranges)
        (ap (λ ps. cond (is_empty ps) (Purged s ranges ∷ []) (purged_with s ps))
        (same-passed s ∙ nil_of (passed r s) none)))
    | inr some ↦ subst (λ xs. St q xs rest)
        (sym (ap (λ b. cond b (Purged s ranges ∷ []) (purged_with s (passed r s))) some
        ∙ purged_with-is s (passed r s) some))
        (st-one q rest (Purged s (passed r s)) (st-purged q rest s some))
  ]
  st-on q before (Consumed s upto) behind rest so quiet = elim (cases_Bool (is_empty (passed r s))) [
    | inl none ↦ subst (λ xs. St q xs rest) (sym (ap (λ b. cond b (Consumed s upto ∷ []) []) none))
        (st-one q rest (Consumed s upto)
        (ap (λ ps. cond (is_empty ps) (Consumed s upto ∷ []) []) (same-passed s ∙ nil_of (passed r s) none)))
    | inr some ↦ subst (λ xs. St q xs rest) (sym (ap (λ b. cond b (Consumed s upto ∷ []) []) some)) (st-none q rest)
  ]
  st-on q before f behind rest so quiet = st-one q rest f refl

  walk-twice : (before l q : List Fact) → all_fit before l ≡ true → SoFar r q before
      → ((s : ℕ) → AllByRecursion (λ (u : ℕ). u ≤ settled r s) (flat_map (dropped_of s) l))
      → snapshot_from (snapshot r) q (snapshot_from r before l) ≡ snapshot_from r before l
  unfolding St
  walk-twice before [] q fits_ so big = refl
  walk-twice before (f ∷ l) q fits_ so big =
      let parts = and_parts (fits before f) (all_fit (before ++ f ∷ []) l) fits_ in
      let mine : (s : ℕ) → AllByRecursion (λ (u : ℕ). u ≤ settled r s) (dropped_of s f) =
      (λ s. (front-all (settled r s) (dropped_of s f) (flat_map (dropped_of s) l) (big s)).0) in
      let others : (s : ℕ) → AllByRecursion (λ (u : ℕ). u ≤ settled r s) (flat_map (dropped_of s) l) =
      (λ s. (front-all (settled r s) (dropped_of s f) (flat_map (dropped_of s) l) (big s)).1) in
      let rest = snapshot_from r (before ++ f ∷ []) l in
      st-on q before f l rest so (λ s e. none-kept s r (before ++ f ∷ []) l e)
      ∙ ap (λ ys. instead r before f l ++ ys)
      (walk-twice (before ++ f ∷ []) l (q ++ instead r before f l) parts.1
      (so-far-on r q before f l parts.0 mine so) others)
    where
      front-all : (d : ℕ) (xs ys : List ℕ) → AllByRecursion (λ (u : ℕ). u ≤ d) (xs ++ ys)
          → AllByRecursion (λ (u : ℕ). u ≤ d) xs × AllByRecursion (λ (u : ℕ). u ≤ d) ys
      front-all d [] ys h = (tt, h)
      front-all d (x ∷ xs) ys h = let rest = front-all d xs ys h.1 in ((h.0, rest.0), rest.1)

  twice : snapshot (snapshot r) ≡ snapshot r
  twice = walk-twice [] r [] fit (start both ends r fit whole) (drops-settled both ends r fit whole)

pub snapshot-twice : UnionHasBoth → EndsAreRight → SameNumbersSameRanges → (r : List Fact) → all_fit [] r ≡ true
    → HaveProper r → snapshot (snapshot r) ≡ snapshot r
snapshot-twice both ends only r fit whole = twice both ends only r fit whole
