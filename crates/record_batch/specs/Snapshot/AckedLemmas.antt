-- What a snapshot says of acknowledged numbers and of how many payloads are gone.
use Rattle.std.proofs.Common.{◌≡◌, ◌≢◌, ℕ, ◌+◌, ◌-◌, ◌<◌, ◌≤◌, ◌==◌, Bool, true, false, ◌&&◌, ◌||◌, cond, List, [], ◌∷◌}
use Rattle.std.proofs.Common.{◌++◌, length, map, drop, refl, sym, ◌∙◌, ap, subst, inl, inr, arith, append_assoc}
use Rattle.std.specs.Prelude.{IsTrue, nat_lt, nat_le}
use Rattle.std.specs.List.{flat_map, list_any, list_all, AllByRecursion}
use Rattle.std.proofs.lemmas.Bool.{and_parts, cases_Bool, eqb-true, false≢true, true≢false, leb-true, ltb-true}
use Rattle.std.proofs.lemmas.Bool.Decides.{nat_tests}
use Rattle.std.proofs.lemmas.Grind.{flat_map-append}
use Rattle.std.proofs.lemmas.List.{append-nil, length-drop}
use Rattle.rm_sides.specs.Ranges.Changes.{united}
use Rattle.rm_sides.specs.Ranges.Laws.{EndsAreRight, UnionHasBoth}
use Rattle.rm_sides.specs.declared.ranges.range.Range.{Range}
use Rattle.rm_sides.specs.Ranges.Ranges.{IsCanonical, IsFront, front_of, in_range, in_ranges, is_between}
use Rattle.rm_base.specs.Message.{max_number}
use Rattle.record_batch.specs.Fact.{Fact, Accepted, Acked, Received, Consumed, Dropped, Purged}
use Rattle.record_batch.specs.Sequences.Words.{Text, last_or}
use Rattle.record_batch.specs.Sequences.Sources.{accepted, accepted_count, acked, acked_of, dropped, dropped_of}
use Rattle.record_batch.specs.Sequences.Fits.{all_fit, fits, follows_at, is_outgoing_side, is_up_to}
use Rattle.record_batch.specs.Sequences.GatherLemmas.{united-append}
use Rattle.record_batch.specs.Sequences.Makers.{maker}
use Rattle.record_batch.specs.Snapshot.Same.{AreProper, HaveProper, HasProper, SameSent}
use Rattle.record_batch.specs.Snapshot.SentLemmas.{AreLike, a_drop, a_payload, accepted-kept, besides, class}
use Rattle.record_batch.specs.Snapshot.SentLemmas.{count-drop}
use Rattle.record_batch.specs.Snapshot.SentLemmas.{count-more, count-rest, drop-fits, drops_with, like, no-later}
use Rattle.record_batch.specs.Snapshot.SentLemmas.{pays_with}
use Rattle.record_batch.specs.Snapshot.SentLemmas.{quiet_in, sent_kind}
use Rattle.record_batch.specs.Snapshot.Snapshot.{acked_with, acks, instead, left_acked, past_front, settled, snapshot}
use Rattle.record_batch.specs.Snapshot.Snapshot.{snapshot_from}

-- ---- how many are gone

-- the count doesn't fall
count-grows : (before l : List Fact) (s : ℕ) → all_fit before l ≡ true
    → accepted_count before s ≤ accepted_count (before ++ l) s
count-grows before l s fit = elim (cases_Bool (nat_lt 0 (accepted_count before s))) [
  | inl some ↦ omega (arith, count-rest before l s fit (grind (arith, nat_tests, some)))
  | inr none ↦ grind (arith, nat_tests, none)
]

-- each Dropped in a list has a number
abbrev AllSettle : ℕ → List ℕ → Type 0
AllSettle d us = AllByRecursion (λ (u : ℕ). 0 < d) us

module _ (r : List Fact) (s : ℕ) where
  d : ℕ
  d = settled r s

  -- nothing more is left out where something was accepted before
  none-later : (before l : List Fact) → all_fit before l ≡ true → 0 < accepted_count before s
      → flat_map (dropped_of s) (snapshot_from r before l) ≡ []
  none-later before [] fit some = refl
  none-later before (f ∷ l) fit some =
      let parts = and_parts (fits before f) (all_fit (before ++ f ∷ []) l) fit in
      elim (sent_kind s f) as (λ g k. fits before g ≡ true → all_fit (before ++ g ∷ []) l ≡ true
      → flat_map (dropped_of s) (snapshot_from r before (g ∷ l)) ≡ []) [
        | a_payload p ↦ λ one rest.
            let after = before ++ Accepted s p ∷ [] in
            let ih = none-later after l rest (omega (arith, some, count-more before (Accepted s p) s refl)) in
            let other : (accepted_count before s == 0) ≡ false = grind (arith, nat_tests, some) in
            flat_map-append (dropped_of s) (instead r before (Accepted s p) l) (snapshot_from r after l)
            ∙ ap (λ b. flat_map (dropped_of s) (cond (nat_lt (accepted_count before s) (settled r s))
            (cond b (Dropped s (settled r s) ∷ []) []) (Accepted s p ∷ []))
            ++ flat_map (dropped_of s) (snapshot_from r after l)) other
            ∙ over p (nat_lt (accepted_count before s) (settled r s))
            (flat_map (dropped_of s) (snapshot_from r after l))
            ∙ ih
        | a_drop u ↦ λ one rest. absurd (omega (arith, some, (drop-fits before s u one).0))
        | besides g pays drops ↦ λ one rest.
            flat_map-append (dropped_of s) (instead r before g l) (snapshot_from r (before ++ g ∷ []) l)
            ∙ ap (λ xs. xs ++ flat_map (dropped_of s) (snapshot_from r (before ++ g ∷ []) l))
            (quiet_in (dropped_of s) g drops (instead r before g l) (like r before g l))
            ∙ none-later (before ++ g ∷ []) l rest
            (omega (arith, some, count-more before g s (drops g (refl, refl))))
      ] parts.0 parts.1
    where
      over : (p : Text) (b : Bool) (ys : List ℕ)
          → flat_map (dropped_of s) (cond b [] (Accepted s p ∷ [])) ++ ys ≡ ys
      over p true ys = refl
      over p false ys = refl

  dropped-kept : (before l : List Fact) → all_fit before l ≡ true → accepted_count before s ≡ 0
      → AllSettle (settled r s) (flat_map (dropped_of s) l)
      → flat_map (dropped_of s) (snapshot_from r before l)
      ≡ cond (nat_lt 0 (settled r s) && nat_lt 0 (accepted_count (before ++ l) s)) (settled r s ∷ []) []
  dropped-kept before [] fit none settles =
      let e : accepted_count (before ++ []) s ≡ 0 = ap (λ rs. accepted_count rs s) (append-nil before) ∙ none in
      sym (ap (λ n. cond (nat_lt 0 (settled r s) && nat_lt 0 n) (settled r s ∷ []) []) e
      ∙ over (nat_lt 0 (settled r s)))
    where
      over : (b : Bool) → cond (b && false) (settled r s ∷ []) [] ≡ []
      over true = refl
      over false = refl
  dropped-kept before (f ∷ l) fit none settles =
      let parts = and_parts (fits before f) (all_fit (before ++ f ∷ []) l) fit in
      elim (sent_kind s f) as (λ g k. fits before g ≡ true → all_fit (before ++ g ∷ []) l ≡ true
      → AllSettle (settled r s) (flat_map (dropped_of s) (g ∷ l))
      → flat_map (dropped_of s) (snapshot_from r before (g ∷ l))
      ≡ cond (nat_lt 0 (settled r s) && nat_lt 0 (accepted_count ((before ++ g ∷ []) ++ l) s)) (settled r s ∷ []) []) [
        | a_payload p ↦ λ one rest all.
            let after = before ++ Accepted s p ∷ [] in
            let more : accepted_count after s ≡ accepted_count before s + 1 =
            count-more before (Accepted s p) s refl
            ∙ ap (λ xs. accepted_count before s + length xs) (pays_with s p) in
            let there : nat_lt 0 (accepted_count (after ++ l) s) ≡ true =
            (let le = count-grows after l s rest in grind (arith, nat_tests, le, more)) in
            flat_map-append (dropped_of s) (instead r before (Accepted s p) l) (snapshot_from r after l)
            ∙ ap (λ xs. flat_map (dropped_of s) (instead r before (Accepted s p) l) ++ xs)
            (none-later after l rest (omega (arith, more)))
            ∙ append-nil (flat_map (dropped_of s) (instead r before (Accepted s p) l))
            ∙ ap (λ k. flat_map (dropped_of s) (cond (nat_lt k (settled r s))
            (cond (k == 0) (Dropped s (settled r s) ∷ []) []) (Accepted s p ∷ []))) none
            ∙ first p (nat_lt 0 (settled r s))
            ∙ sym (ap (λ b. cond (nat_lt 0 (settled r s) && b) (settled r s ∷ []) []) there)
        | a_drop u ↦ λ one rest all.
            let after = before ++ Dropped s u ∷ [] in
            let fit_u = drop-fits before s u one in
            let more : accepted_count after s ≡ u = count-drop before s u one in
            let there : nat_lt 0 (accepted_count (after ++ l) s) ≡ true =
            (let le = count-grows after l s rest in let pos = fit_u.1 in grind (arith, nat_tests, le, more, pos)) in
            let big : 0 < settled r s = (subst (AllSettle (settled r s))
            (ap (λ xs. xs ++ flat_map (dropped_of s) l) (drops_with s u)) all).0 in
            let is_big : nat_lt 0 (settled r s) ≡ true = grind (arith, nat_tests, big) in
            flat_map-append (dropped_of s) (Dropped s (settled r s) ∷ []) (snapshot_from r after l)
            ∙ ap (λ xs. flat_map (dropped_of s) (Dropped s (settled r s) ∷ []) ++ xs)
            (none-later after l rest (omega (arith, more, fit_u.1)))
            ∙ append-nil (flat_map (dropped_of s) (Dropped s (settled r s) ∷ []))
            ∙ append-nil (dropped_of s (Dropped s (settled r s)))
            ∙ drops_with s (settled r s)
            ∙ sym (ap (λ b. cond (b && nat_lt 0 (accepted_count (after ++ l) s)) (settled r s ∷ []) []) is_big
            ∙ ap (λ b. cond b (settled r s ∷ []) []) there)
        | besides g pays drops ↦ λ one rest all.
            let after = before ++ g ∷ [] in
            flat_map-append (dropped_of s) (instead r before g l) (snapshot_from r after l)
            ∙ ap (λ xs. xs ++ flat_map (dropped_of s) (snapshot_from r after l))
            (quiet_in (dropped_of s) g drops (instead r before g l) (like r before g l))
            ∙ dropped-kept after l rest
            (count-more before g s (drops g (refl, refl))
            ∙ ap (λ xs. accepted_count before s + length xs) (pays g (refl, refl)) ∙ sum (accepted_count before s) none)
            (subst (AllSettle (settled r s)) (ap (λ xs. xs ++ flat_map (dropped_of s) l) (drops g (refl, refl))) all)
      ] parts.0 parts.1 settles
      ∙ ap (λ rs. cond (nat_lt 0 (settled r s) && nat_lt 0 (accepted_count rs s)) (settled r s ∷ []) [])
      (append_assoc before (f ∷ []) l)
    where
      sum : (n : ℕ) → n ≡ 0 → n + 0 ≡ 0
      sum n e = omega (arith, e)

      first : (p : Text) (b : Bool) → flat_map (dropped_of s)
          (cond b (Dropped s (settled r s) ∷ []) (Accepted s p ∷ []))
          ≡ cond (b && true) (settled r s ∷ []) []
      first p true = append-nil (dropped_of s (Dropped s (settled r s))) ∙ drops_with s (settled r s)
      first p false = refl

-- ---- acknowledged numbers

pub in_ranges-join : (xs ys : List Range) (n : ℕ) → in_ranges (xs ++ ys) n ≡ (in_ranges xs n || in_ranges ys n)
in_ranges-join [] ys n = refl
in_ranges-join (x ∷ xs) ys n = ap (λ b. in_range x n || b) (in_ranges-join xs ys n)
    ∙ or_assoc (in_range x n) (in_ranges xs n) (in_ranges ys n)
  where
    or_assoc : (x y z : Bool) → (x || (y || z)) ≡ ((x || y) || z)
    or_assoc true y z = refl
    or_assoc false y z = refl

-- the numbers up to each
abbrev pub ups : List ℕ → List Range
ups us = map (λ (u : ℕ). record { lower = 1; upper = u }) us

ups-append : (us vs : List ℕ) → ups (us ++ vs) ≡ ups us ++ ups vs
ups-append [] vs = refl
ups-append (u ∷ us) vs = ap (λ xs. record { lower = 1; upper = u } ∷ xs) (ups-append us vs)

-- a record that is no Acked acknowledges what it says is gone
acked-ups : (s : ℕ) (h : Fact) → class h ≢ 2 → acked_of s h ≡ ups (dropped_of s h)
acked-ups s (Acked seq ranges) ne = absurd (ne refl)
acked-ups s (Dropped seq u) ne =
    elim (seq == s) as (λ b. cond b (record { lower = 1; upper = u } ∷ []) [] ≡ ups (cond b (u ∷ []) [])) [
      | true ↦ refl
      | false ↦ refl
    ]
acked-ups s _ ne = refl

acked-ups-all : (s : ℕ) (f : Fact) (xs : List Fact) → class f ≢ 2 → AreLike f xs
    → acked xs s ≡ ups (flat_map (dropped_of s) xs)
acked-ups-all s f [] ne are = refl
acked-ups-all s f (x ∷ xs) ne are =
    ap (λ ys. ys ++ acked xs s) (acked-ups s x (λ e. ne (sym are.0.0 ∙ e)))
    ∙ ap (λ ys. ups (dropped_of s x) ++ ys) (acked-ups-all s f xs ne are.1)
    ∙ sym (ups-append (dropped_of s x) (flat_map (dropped_of s) xs))

-- a record is Acked, or tells no acknowledged numbers but of what it says is gone
pub data AckKind : Fact → Type 0 where
  an_ack : (seq : ℕ) (ranges : List Range) → AckKind (Acked seq ranges)
  no_ack : (f : Fact) → class f ≢ 2 → ((s : ℕ) → acks s f ≡ false) → AckKind f

not-two : (n k : ℕ) → n ≡ k → k ≢ 2 → n ≢ 2
not-two n k e ne f = ne (sym e ∙ f)

zero-two : (n : ℕ) → n ≡ 0 → n ≢ 2
zero-two n e f = absurd (omega (arith, e, f))

one-two : (n : ℕ) → n ≡ 1 → n ≢ 2
one-two n e f = absurd (omega (arith, e, f))

three-two : (n : ℕ) → n ≡ 3 → n ≢ 2
three-two n e f = absurd (omega (arith, e, f))

pub ack_kind : (f : Fact) → AckKind f
ack_kind (Acked seq ranges) = an_ack seq ranges
ack_kind (Accepted seq payload) = no_ack (Accepted seq payload) (one-two 1 refl) (λ s. refl)
ack_kind (Dropped seq upto) = no_ack (Dropped seq upto) (one-two 1 refl) (λ s. refl)
ack_kind (Received seq n payload) = no_ack (Received seq n payload) (three-two 3 refl) (λ s. refl)
ack_kind (Consumed seq upto) = no_ack (Consumed seq upto) (three-two 3 refl) (λ s. refl)
ack_kind (Purged seq ranges) = no_ack (Purged seq ranges) (three-two 3 refl) (λ s. refl)
ack_kind f = no_ack f (zero-two 0 refl) (λ s. refl)

-- what an Acked record has of another sequence, and of this one
acked_with-has : (s seq : ℕ) (xs : List Range) (n : ℕ)
    → in_ranges (acked (acked_with seq xs) s) n ≡ ((seq == s) && in_ranges xs n)
acked_with-has s seq [] n = elim (seq == s) as (λ b. false ≡ (b && false)) [
  | true ↦ refl
  | false ↦ refl
]
acked_with-has s seq (x ∷ xs) n = elim (seq == s) as (λ b.
    in_ranges (cond b (x ∷ xs) [] ++ []) n ≡ (b && in_ranges (x ∷ xs) n)) [
      | true ↦ ap (λ ys. in_ranges ys n) (append-nil (x ∷ xs))
      | false ↦ refl
    ]

-- no Acked record says that payloads are gone
acked_with-drops : (s seq : ℕ) (xs : List Range) → flat_map (dropped_of s) (acked_with seq xs) ≡ []
acked_with-drops s seq [] = refl
acked_with-drops s seq (x ∷ xs) = refl

acked-kept : (r before l : List Fact) (s n : ℕ)
    → in_ranges (acked (snapshot_from r before l) s) n
    ≡ (in_ranges (ups (flat_map (dropped_of s) (snapshot_from r before l))) n
    || (list_any (acks s) l && in_ranges (left_acked r s) n))
acked-kept r before [] s n = refl
acked-kept r before (f ∷ l) s n = elim (ack_kind f) as (λ g k. in_ranges (acked (snapshot_from r before (g ∷ l)) s) n
    ≡ (in_ranges (ups (flat_map (dropped_of s) (snapshot_from r before (g ∷ l)))) n
    || (list_any (acks s) (g ∷ l) && in_ranges (left_acked r s) n))) [
      | no_ack g ne quiet ↦
          let xs = instead r before g l in
          let ys = snapshot_from r (before ++ g ∷ []) l in
          ap (λ zs. in_ranges zs n) (flat_map-append (acked_of s) xs ys)
          ∙ in_ranges-join (acked xs s) (acked ys s) n
          ∙ ap (λ zs. in_ranges zs n || in_ranges (acked ys s) n) (acked-ups-all s g xs ne (like r before g l))
          ∙ ap (λ b. in_ranges (ups (flat_map (dropped_of s) xs)) n || b) (acked-kept r (before ++ g ∷ []) l s n)
          ∙ or_three (in_ranges (ups (flat_map (dropped_of s) xs)) n) (in_ranges (ups (flat_map (dropped_of s) ys)) n)
          (list_any (acks s) l && in_ranges (left_acked r s) n)
          ∙ ap (λ b. b || (list_any (acks s) l && in_ranges (left_acked r s) n))
          (sym (in_ranges-join (ups (flat_map (dropped_of s) xs)) (ups (flat_map (dropped_of s) ys)) n)
          ∙ ap (λ zs. in_ranges zs n) (sym (ups-append (flat_map (dropped_of s) xs) (flat_map (dropped_of s) ys))
          ∙ ap ups (sym (flat_map-append (dropped_of s) xs ys))))
          ∙ ap (λ b. in_ranges (ups (flat_map (dropped_of s) (xs ++ ys))) n
          || ((b || list_any (acks s) l) && in_ranges (left_acked r s) n)) (sym (quiet s))
      | an_ack seq ranges ↦
          let ys = snapshot_from r (before ++ Acked seq ranges ∷ []) l in
          let xs = instead r before (Acked seq ranges) l in
          ap (λ zs. in_ranges zs n) (flat_map-append (acked_of s) xs ys)
          ∙ in_ranges-join (acked xs s) (acked ys s) n
          ∙ ap (λ b. in_ranges (acked xs s) n || b) (acked-kept r (before ++ Acked seq ranges ∷ []) l s n)
          ∙ ap (λ b. b || (in_ranges (ups (flat_map (dropped_of s) ys)) n
          || (list_any (acks s) l && in_ranges (left_acked r s) n))) (has seq ranges)
          ∙ last (list_any (acks seq) l) (seq == s) (list_any (acks s) l) (in_ranges (left_acked r s) n)
          (in_ranges (left_acked r seq) n) (in_ranges (ups (flat_map (dropped_of s) ys)) n)
          (λ same. ap (λ k. list_any (acks k) l) (eqb-true seq s same))
          (λ same. ap (λ k. in_ranges (left_acked r k) n) (eqb-true seq s same))
          ∙ ap (λ zs. in_ranges (ups zs) n || (((seq == s) || list_any (acks s) l) && in_ranges (left_acked r s) n))
          (sym (flat_map-append (dropped_of s) xs ys ∙ ap (λ zs. zs ++ flat_map (dropped_of s) ys) (drops seq ranges)))
    ]
  where
    or_three : (a b c : Bool) → (a || (b || c)) ≡ ((a || b) || c)
    or_three true b c = refl
    or_three false b c = refl

    has : (seq : ℕ) (ranges : List Range) → in_ranges (acked (instead r before (Acked seq ranges) l) s) n
        ≡ cond (list_any (acks seq) l) false ((seq == s) && in_ranges (left_acked r seq) n)
    has seq ranges = elim (list_any (acks seq) l) as
        (λ b. in_ranges (acked (cond b [] (acked_with seq (left_acked r seq))) s) n
        ≡ cond b false ((seq == s) && in_ranges (left_acked r seq) n)) [
          | true ↦ refl
          | false ↦ acked_with-has s seq (left_acked r seq) n
        ]

    drops : (seq : ℕ) (ranges : List Range) → flat_map (dropped_of s) (instead r before (Acked seq ranges) l) ≡ []
    drops seq ranges = elim (list_any (acks seq) l) as (λ b.
        flat_map (dropped_of s) (cond b [] (acked_with seq (left_acked r seq))) ≡ []) [
          | true ↦ refl
          | false ↦ acked_with-drops s seq (left_acked r seq)
        ]

    last : (more same any here there gone : Bool) → (same ≡ true → more ≡ any) → (same ≡ true → there ≡ here)
        → (cond more false (same && there) || (gone || (any && here))) ≡ (gone || ((same || any) && here))
    last true false any here there gone em eh = refl
    last false false any here there gone em eh = refl
    last true true any here there gone em eh = ap (λ b. gone || (b && here)) (sym (em refl))
    last false true any here there gone em eh =
        ap (λ b. b || (gone || (any && here))) (eh refl) ∙ ap (λ b. here || (gone || (b && here))) (sym (em refl))
        ∙ swap here gone
      where
        swap : (h g : Bool) → (h || (g || false)) ≡ (g || h)
        swap true true = refl
        swap true false = refl
        swap false true = refl
        swap false false = refl

-- ---- united ranges

-- ranges that have a number each, from 1 to the greatest message number
abbrev AreWithin : List Range → Type 0
AreWithin ys = AllByRecursion (λ (y : Range). IsCanonical (y ∷ [])) ys

-- a record that fits leaves no more messages than message numbers
pub few-on : (before : List Fact) (f : Fact) (s : ℕ) → fits before f ≡ true → accepted_count before s ≤ max_number
    → accepted_count (before ++ f ∷ []) s ≤ max_number
few-on before f s fit few = elim (sent_kind s f) as (λ g k. fits before g ≡ true
    → accepted_count (before ++ g ∷ []) s ≤ max_number) [
      | a_payload p ↦ λ one.
          let lt : accepted_count before s < max_number = ltb-true (accepted_count before s) max_number
          (and_parts (follows_at before s (Accepted s p)) (nat_lt (accepted_count before s) max_number) one).1 in
          omega (arith, lt, count-more before (Accepted s p) s refl, ap length (pays_with s p))
      | a_drop u ↦ λ one. omega (arith, (drop-fits before s u one).2, count-drop before s u one)
      | besides g pays drops ↦ λ one.
          omega (arith, few, count-more before g s (drops g (refl, refl)), ap length (pays g (refl, refl)))
    ] fit

all-within : (m : ℕ) (ys : List Range) → m ≤ max_number → list_all (is_up_to m) ys ≡ true → AreProper ys → AreWithin ys
all-within m [] le all proper = tt
all-within m (y ∷ ys) le all proper =
    let parts = and_parts (is_up_to m y) (list_all (is_up_to m) ys) all in
    let ends = and_parts (nat_le 1 y.lower) (nat_le y.upper m) parts.0 in
    let top = leb-true y.upper m ends.1 in
    ((leb-true 1 y.lower ends.0, proper.0, omega (arith, top, le), tt), all-within m ys le parts.1 proper.1)

within-of : (before : List Fact) (f : Fact) (s : ℕ) → fits before f ≡ true → accepted_count before s ≤ max_number
    → HasProper f → AreWithin (acked_of s f)
within-of before (Acked seq ranges) s fit few has = elim (cases_Bool (seq == s)) [
  | inl same ↦
      let all = (and_parts (is_outgoing_side (maker before seq))
      (list_all (is_up_to (accepted_count before seq)) ranges) fit).1 in
      let le : accepted_count before seq ≤ max_number =
      subst (λ k. accepted_count before k ≤ max_number) (sym (eqb-true seq s same)) few in
      subst (λ b. AreWithin (cond b ranges [])) (sym same) (all-within (accepted_count before seq) ranges le all has)
  | inr other ↦ subst (λ b. AreWithin (cond b ranges [])) (sym other) tt
]
within-of before (Dropped seq u) s fit few has =
    let f = drop-fits before seq u fit in
    elim (seq == s) as (λ b. AreWithin (cond b (record { lower = 1; upper = u } ∷ []) [])) [
      | true ↦ ((omega arith, f.1, f.2, tt), tt)
      | false ↦ tt
    ]
within-of before _ s fit few has = tt

-- the union of ranges is a set of the numbers of both
pub record IsUnion (xs ys : List Range) : Type 0 where
  pub set : IsCanonical (united xs ys)
  pub same : (n : ℕ) → in_ranges (united xs ys) n ≡ (in_ranges xs n || in_ranges ys n)

or_none : (b : Bool) → b ≡ (b || false)
or_none true = refl
or_none false = refl

-- of a set and ranges
pub united-within : UnionHasBoth → (xs ys : List Range) → IsCanonical xs → AreWithin ys → IsUnion xs ys
united-within both xs [] is within = record { set = is; same = λ n. or_none (in_ranges xs n) }
united-within both xs (y ∷ ys) is within =
    let one = both xs (y ∷ []) is within.0 in
    let rest = united-within both (united xs (y ∷ [])) ys one.canonical within.1 in
    record {
      set = rest.set;
      same = λ n.
          rest.same n ∙ ap (λ b. b || in_ranges ys n) (one.numbers n)
          ∙ or_four (in_ranges xs n) (in_range y n) (in_ranges ys n);
    }
  where
    or_four : (a b c : Bool) → ((a || (b || false)) || c) ≡ (a || (b || c))
    or_four true b c = refl
    or_four false true c = refl
    or_four false false c = refl

pub unions : UnionHasBoth → (before l : List Fact) (s : ℕ) (xs : List Range) → IsCanonical xs → all_fit before l ≡ true
    → accepted_count before s ≤ max_number → HaveProper l → IsUnion xs (acked l s)
unions both before [] s xs is fit few proper = record { set = is; same = λ n. or_none (in_ranges xs n) }
unions both before (f ∷ l) s xs is fit few proper =
    let parts = and_parts (fits before f) (all_fit (before ++ f ∷ []) l) fit in
    let one = united-within both xs (acked_of s f) is (within-of before f s parts.0 few proper.0) in
    let rest = unions both (before ++ f ∷ []) l s (united xs (acked_of s f)) one.set parts.1
    (few-on before f s parts.0 few) proper.1 in
    let e = united-append xs (acked_of s f) (acked l s) in
    record {
      set = subst IsCanonical (sym e) rest.set;
      same = λ n.
          ap (λ zs. in_ranges zs n) e ∙ rest.same n ∙ ap (λ b. b || in_ranges (acked l s) n) (one.same n)
          ∙ or_three (in_ranges xs n) (in_ranges (acked_of s f) n) (in_ranges (acked l s) n)
          ∙ ap (λ b. in_ranges xs n || b) (sym (in_ranges-join (acked_of s f) (acked l s) n));
    }
  where
    or_three : (a b c : Bool) → ((a || b) || c) ≡ (a || (b || c))
    or_three true b c = refl
    or_three false b c = refl

-- ---- what is acknowledged was accepted

pub up_to-has : (m n : ℕ) (xs : List Range) → list_all (is_up_to m) xs ≡ true → in_ranges xs n ≡ true → n ≤ m
up_to-has m n [] all e = absurd (false≢true e)
up_to-has m n (x ∷ xs) all e =
    let parts = and_parts (is_up_to m x) (list_all (is_up_to m) xs) all in
    let ends = and_parts (nat_le 1 x.lower) (nat_le x.upper m) parts.0 in
    let top = leb-true x.upper m ends.1 in
    elim (cases_Bool (in_range x n)) [
      | inl here ↦ omega (arith, top, leb-true n x.upper (and_parts (nat_le x.lower n) (nat_le n x.upper) here).1)
      | inr not_here ↦ up_to-has m n xs parts.1 (sym (ap (λ b. b || in_ranges xs n) not_here) ∙ e)
    ]

one_acked : (before : List Fact) (f : Fact) (s n : ℕ) → fits before f ≡ true → in_ranges (acked_of s f) n ≡ true
    → n ≤ accepted_count (before ++ f ∷ []) s
one_acked before (Acked seq ranges) s n fit e = elim (cases_Bool (seq == s)) [
  | inl same ↦
      let at = eqb-true seq s same in
      let all = (and_parts (is_outgoing_side (maker before seq))
      (list_all (is_up_to (accepted_count before seq)) ranges) fit).1 in
      let here : in_ranges ranges n ≡ true = sym (ap (λ b. in_ranges (cond b ranges []) n) same) ∙ e in
      let le : n ≤ accepted_count before seq = up_to-has (accepted_count before seq) n ranges all here in
      omega (arith, le, ap (λ k. accepted_count before k) at, count-more before (Acked seq ranges) s refl)
  | inr other ↦ absurd (false≢true (sym (ap (λ b. in_ranges (cond b ranges []) n) other) ∙ e))
]
one_acked before (Dropped seq u) s n fit e = elim (cases_Bool (seq == s)) [
  | inl same ↦
      let at = eqb-true seq s same in
      let here : in_ranges (record { lower = 1; upper = u } ∷ []) n ≡ true =
      sym (ap (λ b. in_ranges (cond b (record { lower = 1; upper = u } ∷ []) []) n) same) ∙ e in
      let le : n ≤ u = grind (arith, nat_tests, here) in
      omega (arith, le, count-drop before seq u fit, ap (λ k. accepted_count (before ++ Dropped seq u ∷ []) k) at)
  | inr other ↦ absurd (false≢true (sym (ap (λ b. in_ranges
      (cond b (record { lower = 1; upper = u } ∷ []) []) n) other) ∙ e))
]
one_acked before _ s n fit e = absurd (false≢true e)

pub acked-within : (before l : List Fact) (s n : ℕ) → all_fit before l ≡ true → in_ranges (acked l s) n ≡ true
    → n ≤ accepted_count (before ++ l) s
acked-within before [] s n fit e = absurd (false≢true e)
acked-within before (f ∷ l) s n fit e =
    let parts = and_parts (fits before f) (all_fit (before ++ f ∷ []) l) fit in
    let same = ap (λ rs. accepted_count rs s) (append_assoc before (f ∷ []) l) in
    let joined = in_ranges-join (acked_of s f) (acked l s) n in
    elim (cases_Bool (in_ranges (acked_of s f) n)) [
      | inl here ↦ omega (
        arith,
        one_acked before f s n parts.0 here,
        count-grows (before ++ f ∷ []) l s parts.1,
        same,
      )
      | inr not_here ↦ omega (
        arith,
        acked-within (before ++ f ∷ []) l s n parts.1
            (sym (ap (λ b. b || in_ranges (acked l s) n) not_here) ∙ sym joined ∙ e),
        same,
      )
    ]

-- ---- there is one Dropped, or none

-- no number of what is gone, or one
pub data Drops : List ℕ → Type 0 where
  none_ : Drops []
  one_ : (u : ℕ) → 1 ≤ u → Drops (u ∷ [])

pub drops-of : (before l : List Fact) (s : ℕ) → all_fit before l ≡ true → accepted_count before s ≡ 0
    → Drops (flat_map (dropped_of s) l)
drops-of before [] s fit none = none_
drops-of before (f ∷ l) s fit none =
    let parts = and_parts (fits before f) (all_fit (before ++ f ∷ []) l) fit in
    elim (sent_kind s f) as (λ g k. fits before g ≡ true → all_fit (before ++ g ∷ []) l ≡ true
    → Drops (flat_map (dropped_of s) (g ∷ l))) [
      | a_payload p ↦ λ one rest.
          let more : accepted_count (before ++ Accepted s p ∷ []) s ≡ accepted_count before s + 1 =
          count-more before (Accepted s p) s refl
          ∙ ap (λ xs. accepted_count before s + length xs) (pays_with s p) in
          subst Drops (sym (no-later (before ++ Accepted s p ∷ []) l s rest (omega (arith, more)))) none_
      | a_drop u ↦ λ one rest.
          let fit_u = drop-fits before s u one in
          subst Drops (sym (ap (λ xs. xs ++ flat_map (dropped_of s) l) (drops_with s u)
          ∙ ap (λ xs. u ∷ xs) (no-later (before ++ Dropped s u ∷ []) l s rest
          (omega (arith, count-drop before s u one, fit_u.1))))) (one_ u fit_u.1)
      | besides g pays drops ↦ λ one rest.
          subst Drops (sym (ap (λ xs. xs ++ flat_map (dropped_of s) l) (drops g (refl, refl))))
          (drops-of (before ++ g ∷ []) l s rest
          (count-more before g s (drops g (refl, refl))
          ∙ ap (λ xs. accepted_count before s + length xs) (pays g (refl, refl)) ∙ sum (accepted_count before s) none))
    ] parts.0 parts.1
  where
    sum : (n : ℕ) → n ≡ 0 → n + 0 ≡ 0
    sum n e = omega (arith, e)

-- what is gone is acknowledged
ups-in : (l : List Fact) (s n : ℕ) → in_ranges (ups (flat_map (dropped_of s) l)) n ≡ true → in_ranges (acked l s) n
    ≡ true
ups-in [] s n e = absurd (false≢true e)
ups-in (f ∷ l) s n e =
    in_ranges-join (acked_of s f) (acked l s) n
    ∙ over (λ h. ups-in l s n h) (ack_kind f) (in_ranges (ups (flat_map (dropped_of s) l)) n) refl
    (sym (in_ranges-join (ups (dropped_of s f)) (ups (flat_map (dropped_of s) l)) n)
    ∙ ap (λ xs. in_ranges xs n) (sym (ups-append (dropped_of s f) (flat_map (dropped_of s) l))) ∙ e)
  where
    Again : Type 0
    Again = in_ranges (ups (flat_map (dropped_of s) l)) n ≡ true → in_ranges (acked l s) n ≡ true

    rest : Again → (b : Bool) → in_ranges (ups (flat_map (dropped_of s) l)) n ≡ b → b ≡ true → (c : Bool)
        → (c || in_ranges (acked l s) n) ≡ true
    rest again b at is true = refl
    rest again b at is false = again (at ∙ is)

    over : Again → {g : Fact} → AckKind g → (b : Bool) → in_ranges (ups (flat_map (dropped_of s) l)) n ≡ b
        → (in_ranges (ups (dropped_of s g)) n || b) ≡ true → (in_ranges (acked_of s g) n || in_ranges (acked l s) n)
        ≡ true
    over again (an_ack seq ranges) b at is = rest again b at is (in_ranges (acked_of s (Acked seq ranges)) n)
    over again (no_ack g ne quiet) b at is = elim (cases_Bool (in_ranges (ups (dropped_of s g)) n)) [
      | inl here ↦
          ap (λ xs. in_ranges xs n || in_ranges (acked l s) n) (acked-ups s g ne)
          ∙ ap (λ c. c || in_ranges (acked l s) n) here
      | inr not_here ↦ rest again b at (sym (ap (λ c. c || b) not_here) ∙ is) (in_ranges (acked_of s g) n)
    ]

-- without an Acked record, what is gone is all that is acknowledged
pub no-acks : (l : List Fact) (s : ℕ) → list_any (acks s) l ≡ false → acked l s ≡ ups (flat_map (dropped_of s) l)
no-acks [] s none = refl
no-acks (f ∷ l) s none = elim (ack_kind f) as (λ g k. list_any (acks s) (g ∷ l) ≡ false
    → acked (g ∷ l) s ≡ ups (flat_map (dropped_of s) (g ∷ l))) [
      | an_ack seq ranges ↦ λ none. elim (cases_Bool (seq == s)) [
        | inl same ↦ absurd (true≢false (sym (ap (λ b. b || list_any (acks s) l) same) ∙ none))
        | inr other ↦
            ap (λ b. cond b ranges [] ++ acked l s) other
            ∙ no-acks l s (sym (ap (λ b. b || list_any (acks s) l) other) ∙ none)
      ]
      | no_ack g ne quiet ↦ λ none.
          ap (λ xs. xs ++ acked l s) (acked-ups s g ne)
          ∙ ap (λ xs. ups (dropped_of s g) ++ xs)
          (no-acks l s (sym (ap (λ b. b || list_any (acks s) l) (quiet s)) ∙ none))
          ∙ sym (ups-append (dropped_of s g) (flat_map (dropped_of s) l))
    ] none

pub split-front : (xs : List Range) (n : ℕ)
    → in_ranges xs n ≡ (is_between 1 (front_of xs) n || in_ranges (past_front xs) n)
split-front [] n = grind (arith, nat_tests)
split-front (x ∷ xs) n = elim (cases_Bool (x.lower == 1)) [
  | inl first ↦
      ap (λ k. is_between k x.upper n || in_ranges xs n) (eqb-true x.lower 1 first)
      ∙ sym (ap (λ b. is_between 1 (cond b x.upper 0) n || in_ranges (cond b xs (x ∷ xs)) n) first)
  | inr later ↦
      nothing (in_ranges (x ∷ xs) n)
      ∙ sym (ap (λ b. is_between 1 (cond b x.upper 0) n || in_ranges (cond b xs (x ∷ xs)) n) later)
]
  where
    nothing : (b : Bool) → b ≡ (is_between 1 0 n || b)
    nothing b = grind (arith, nat_tests)

-- ---- all of it

is-true : (b : Bool) → IsTrue b → b ≡ true
is-true b h = h

module _ (both : UnionHasBoth) (ends : EndsAreRight) (r : List Fact) (s : ℕ) (fit : all_fit [] r ≡ true)
    (proper : HaveProper r) where
  pub union_ : IsUnion [] (acked r s)
  union_ = unions both [] r s [] tt fit (omega arith) proper

  pub front_ : IsFront (united [] (acked r s)) (settled r s)
  front_ = ends.front (united [] (acked r s)) union_.set

  pub within : settled r s ≤ accepted_count r s
  within = elim (cases_Bool (nat_lt 0 (settled r s))) [
    | inl some ↦
        let lt : 0 < settled r s = grind (arith, nat_tests, some) in
        acked-within [] r s (settled r s) fit
        (sym (union_.same (settled r s)) ∙ is-true _ (front_.inside (settled r s) lt (omega arith)))
    | inr none ↦ grind (arith, nat_tests, none)
  ]

  pub drops_ : Drops (flat_map (dropped_of s) r)
  drops_ = drops-of [] r s fit refl

  pub gone-settled : (us : List ℕ) → flat_map (dropped_of s) r ≡ us → Drops us → last_or 0 us ≤ settled r s
  gone-settled us e none_ = omega arith
  gone-settled us e (one_ u from) = elim (cases_Bool (nat_lt (settled r s) u)) [
    | inl lt ↦
        let under : settled r s < u = grind (arith, nat_tests, lt) in
        let here : in_ranges (ups (u ∷ [])) (settled r s + 1) ≡ true = grind (arith, nat_tests, under) in
        absurd (false≢true (sym front_.ends.1 ∙ union_.same (settled r s + 1)
        ∙ ups-in r s (settled r s + 1) (ap (λ xs. in_ranges (ups xs) (settled r s + 1)) e ∙ here)))
    | inr ge ↦ grind (arith, nat_tests, ge)
  ]

  pub more_ : dropped r s ≤ settled r s
  more_ = gone-settled (flat_map (dropped_of s) r) refl drops_

  settles : (us : List ℕ) → Drops us → last_or 0 us ≤ settled r s → AllSettle (settled r s) us
  settles us none_ le = tt
  settles us (one_ u from) le = (omega (arith, from, le), tt)

  drops-now : flat_map (dropped_of s) (snapshot r)
      ≡ cond (nat_lt 0 (settled r s) && nat_lt 0 (accepted_count r s)) (settled r s ∷ []) []
  drops-now = dropped-kept r s [] r fit refl (settles (flat_map (dropped_of s) r) drops_ more_)

  pub dropped-now : dropped (snapshot r) s ≡ settled r s
  dropped-now = ap (λ xs. last_or 0 xs) drops-now ∙ elim (cases_Bool (nat_lt 0 (settled r s))) [
    | inl some ↦
        let all : nat_lt 0 (accepted_count r s) ≡ true = (let le = within in grind (arith, nat_tests, some, le)) in
        ap (λ b. last_or 0 (cond (b && nat_lt 0 (accepted_count r s)) (settled r s ∷ []) [])) some
        ∙ ap (λ b. last_or 0 (cond b (settled r s ∷ []) [])) all
    | inr none ↦
        ap (λ b. last_or 0 (cond (b && nat_lt 0 (accepted_count r s)) (settled r s ∷ []) [])) none
        ∙ (let e : 0 ≡ settled r s = grind (arith, nat_tests, none) in e)
  ]

  ups-now : (n : ℕ) → in_ranges (ups (flat_map (dropped_of s) (snapshot r))) n ≡ is_between 1 (settled r s) n
  ups-now n = ap (λ xs. in_ranges (ups xs) n) drops-now ∙ elim (cases_Bool (nat_lt 0 (settled r s))) [
    | inl some ↦
        let all : nat_lt 0 (accepted_count r s) ≡ true = (let le = within in grind (arith, nat_tests, some, le)) in
        ap (λ b. in_ranges (ups (cond (b && nat_lt 0 (accepted_count r s)) (settled r s ∷ []) [])) n) some
        ∙ ap (λ b. in_ranges (ups (cond b (settled r s ∷ []) [])) n) all
        ∙ no-more (is_between 1 (settled r s) n)
    | inr none ↦
        ap (λ b. in_ranges (ups (cond (b && nat_lt 0 (accepted_count r s)) (settled r s ∷ []) [])) n) none
        ∙ grind (arith, nat_tests, none)
  ]
    where
      no-more : (b : Bool) → (b || false) ≡ b
      no-more true = refl
      no-more false = refl

  left-none : (us : List ℕ) → Drops us → in_ranges (past_front (united [] (ups us))) ≡ in_ranges []
  left-none us none_ = refl
  left-none us (one_ u from) = refl

  left-now : (n : ℕ) → (list_any (acks s) r && in_ranges (left_acked r s) n) ≡ in_ranges (left_acked r s) n
  left-now n = elim (cases_Bool (list_any (acks s) r)) [
    | inl any ↦ ap (λ b. b && in_ranges (left_acked r s) n) any
    | inr none ↦
        ap (λ b. b && in_ranges (left_acked r s) n) none
        ∙ sym (ap (λ xs. in_ranges (past_front (united [] xs)) n) (no-acks r s none)
        ∙ ap (λ f. f n) (left-none (flat_map (dropped_of s) r) drops_))
  ]

  same-sent : SameSent (snapshot r) r s
  same-sent =
      let start : accepted_count r s - length (accepted r s) ≡ dropped r s = omega arith in
      let left : accepted (snapshot r) s ≡ drop (dropped (snapshot r) s - dropped r s) (accepted r s) =
      accepted-kept r s [] r (accepted_count r s) fit refl
      ∙ ap (λ k. drop (settled r s - k) (accepted r s)) start
      ∙ ap (λ k. drop (k - dropped r s) (accepted r s)) (sym dropped-now) in
      record {
        more = omega (arith, more_, dropped-now);
        accepted_ = left;
        count = omega (
          arith,
          ap length left,
          length-drop (dropped (snapshot r) s - dropped r s) (accepted r s),
          dropped-now,
          within,
          more_,
        );
        acked_ = λ n.
            acked-kept r [] r s n
            ∙ ap (λ b. b || (list_any (acks s) r && in_ranges (left_acked r s) n)) (ups-now n)
            ∙ ap (λ b. is_between 1 (settled r s) n || b) (left-now n)
            ∙ sym (split-front (united [] (acked r s)) n)
            ∙ union_.same n;
      }

pub sent-stays : UnionHasBoth → EndsAreRight → (r : List Fact) → all_fit [] r ≡ true → HaveProper r → (s : ℕ)
    → SameSent (snapshot r) r s
sent-stays both ends r fit proper s = same-sent both ends r s fit proper
