-- What a snapshot says of what was sent.
use Rattle.std.proofs.Common.{◌≡◌, ◌≢◌, ℕ, zero, suc, ◌+◌, ◌-◌, ◌<◌, ◌≤◌, ◌==◌, Bool, true, false, ◌&&◌, cond, List, []}
use Rattle.std.proofs.Common.{◌∷◌, ◌++◌, length, drop, refl, sym, ◌∙◌, ap, subst, inl, inr, arith, append_assoc}
use Rattle.std.proofs.Common.{length-append}
use Rattle.std.specs.Prelude.{nat_lt, nat_le}
use Rattle.std.specs.List.{flat_map, list_any, AllByRecursion}
use Rattle.std.proofs.lemmas.Bool.{and_parts, cases_Bool, eqb-true, leb-true}
use Rattle.std.proofs.lemmas.Bool.Decides.{nat_tests}
use Rattle.std.proofs.lemmas.Grind.{flat_map-append}
use Rattle.std.proofs.lemmas.List.{append-nil}
use Rattle.rm_sides.specs.declared.ranges.range.Range.{Range}
use Rattle.rm_sides.specs.Ranges.Ranges.{in_ranges}
use Rattle.rm_base.specs.Message.{max_number}
use Rattle.rm_sides.specs.Destination.Messages.{is_empty}
use Rattle.record_batch.specs.Fact.{Fact, Accepted, Acked, Received, Consumed, Dropped, Purged}
use Rattle.record_batch.specs.Sequences.Words.{Text, last_or}
use Rattle.record_batch.specs.Sequences.Sources.{accepted, accepted_count, accepted_of, dropped, dropped_of}
use Rattle.record_batch.specs.Sequences.Destinations.{held}
use Rattle.record_batch.specs.Sequences.Fits.{all_fit, fits, follows_at}
use Rattle.record_batch.specs.Sequences.GatherLemmas.{flat_map-more, last_or-append}
use Rattle.record_batch.specs.Sequences.NameLemmas.{elsewhere_accepted, elsewhere_dropped}
use Rattle.record_batch.specs.Sequences.Told.{names}
use Rattle.record_batch.specs.Snapshot.Snapshot.{acked_with, acks, instead, left_acked, passed, purged_with, settled}
use Rattle.record_batch.specs.Snapshot.Snapshot.{snapshot_from}

-- ---- what stands for a record is of its kind and of its sequence

-- of the node and the frame, of what was sent, of acknowledgements, of what was received
abbrev pub class : Fact → ℕ
class (Accepted seq payload) = 1
class (Dropped seq upto) = 1
class (Acked seq ranges) = 2
class (Received seq n payload) = 3
class (Consumed seq upto) = 3
class (Purged seq ranges) = 3
class _ = 0

-- a record of the same kind and the same sequence
abbrev pub IsLike : Fact → Fact → Type 0
IsLike f h = (class h ≡ class f) × (names h ≡ names f)

-- each is such
abbrev pub AreLike : Fact → List Fact → Type 0
AreLike f xs = AllByRecursion (IsLike f) xs

both-like : (f : Fact) (xs ys : List Fact) → AreLike f xs → AreLike f ys → AreLike f (xs ++ ys)
both-like f [] ys h g = g
both-like f (x ∷ xs) ys h g = (h.0, both-like f xs ys h.1 g)

acked-like : (seq : ℕ) (rs xs : List Range) → AreLike (Acked seq rs) (acked_with seq xs)
acked-like seq rs [] = tt
acked-like seq rs (x ∷ xs) = ((refl, refl), tt)

purged-like : (f : Fact) (seq : ℕ) (xs : List Range) → class f ≡ 3 → names f ≡ seq → AreLike f (purged_with seq xs)
purged-like f seq [] c n = tt
purged-like f seq (x ∷ xs) c n = ((sym c, sym n), tt)

pub like : (r before : List Fact) (f : Fact) (behind : List Fact) → AreLike f (instead r before f behind)
like r before (Acked seq ranges) behind =
    elim (list_any (acks seq) behind) as (λ b. AreLike (Acked seq ranges)
    (cond b [] (acked_with seq (left_acked r seq)))) [
      | true ↦ tt
      | false ↦ acked-like seq ranges (left_acked r seq)
    ]
like r before (Accepted seq payload) behind =
    elim (nat_lt (accepted_count before seq) (settled r seq)) as (λ b. AreLike (Accepted seq payload) (cond b
    (cond (accepted_count before seq == 0) (Dropped seq (settled r seq) ∷ []) []) (Accepted seq payload ∷ []))) [
      | true ↦ elim (accepted_count before seq == 0) as (λ b.
          AreLike (Accepted seq payload) (cond b (Dropped seq (settled r seq) ∷ []) [])) [
            | true ↦ ((refl, refl), tt)
            | false ↦ tt
          ]
      | false ↦ ((refl, refl), tt)
    ]
like r before (Dropped seq upto) behind = ((refl, refl), tt)
like r before (Received seq n payload) behind =
    both-like (Received seq n payload) (cond (is_empty (held before seq)) (purged_with seq (passed r seq)) [])
    (cond (in_ranges (passed r seq) n) [] (Received seq n payload ∷ []))
    (elim (is_empty (held before seq)) as (λ b.
    AreLike (Received seq n payload) (cond b (purged_with seq (passed r seq)) [])) [
      | true ↦ purged-like (Received seq n payload) seq (passed r seq) refl refl
      | false ↦ tt
    ])
    (elim (in_ranges (passed r seq) n) as (λ b.
    AreLike (Received seq n payload) (cond b [] (Received seq n payload ∷ []))) [
      | true ↦ tt
      | false ↦ ((refl, refl), tt)
    ])
like r before (Purged seq ranges) behind =
    elim (is_empty (passed r seq)) as (λ b.
    AreLike (Purged seq ranges) (cond b (Purged seq ranges ∷ []) (purged_with seq (passed r seq)))) [
      | true ↦ ((refl, refl), tt)
      | false ↦ purged-like (Purged seq ranges) seq (passed r seq) refl refl
    ]
like r before (Consumed seq upto) behind =
    elim (is_empty (passed r seq)) as (λ b. AreLike (Consumed seq upto) (cond b (Consumed seq upto ∷ []) [])) [
      | true ↦ ((refl, refl), tt)
      | false ↦ tt
    ]
like r before _ behind = ((refl, refl), tt)

-- what no record of this kind and sequence gives, neither it nor what stands for it gives
pub quiet_in : {A : Type 0} (g : Fact → List A) (f : Fact) → ((h : Fact) → IsLike f h → g h ≡ []) → (xs : List Fact)
    → AreLike f xs → flat_map g xs ≡ []
quiet_in g f none [] are = refl
quiet_in g f none (x ∷ xs) are = ap (λ ys. ys ++ flat_map g xs) (none x are.0) ∙ quiet_in g f none xs are.1

-- ---- what was sent on sequence s

-- what a record is to what sequence s sends: a payload, how many are gone, or nothing
pub data SentKind (s : ℕ) : Fact → Type 0 where
  a_payload : (p : Text) → SentKind s (Accepted s p)
  a_drop : (u : ℕ) → SentKind s (Dropped s u)
  besides : (f : Fact) → ((h : Fact) → IsLike f h → accepted_of s h ≡ [])
      → ((h : Fact) → IsLike f h → dropped_of s h ≡ [])
      → SentKind s f

-- a record of no payload gives none
no-payload : (s c : ℕ) (h : Fact) → class h ≡ c → c ≢ 1 → accepted_of s h ≡ []
no-payload s c (Accepted seq payload) e ne = absurd (ne (sym e))
no-payload s c _ e ne = refl

pub no-drop : (s c : ℕ) (h : Fact) → class h ≡ c → c ≢ 1 → dropped_of s h ≡ []
no-drop s c (Dropped seq upto) e ne = absurd (ne (sym e))
no-drop s c _ e ne = refl

apart : (s : ℕ) (f : Fact) → names f ≢ s → SentKind s f
apart s f ne = besides f (λ h is. elsewhere_accepted h s (λ e. ne (sym is.1 ∙ e)))
    (λ h is. elsewhere_dropped h s (λ e. ne (sym is.1 ∙ e)))

not-sent : (s : ℕ) (f : Fact) → class f ≢ 1 → SentKind s f
not-sent s f ne = besides f (λ h is. no-payload s (class f) h is.0 ne) (λ h is. no-drop s (class f) h is.0 ne)

pub two-not-one : (n : ℕ) → n ≡ 2 → n ≢ 1
two-not-one n e f = absurd (omega (arith, e, f))

three-not-one : (n : ℕ) → n ≡ 3 → n ≢ 1
three-not-one n e f = absurd (omega (arith, e, f))

zero-not-one : (n : ℕ) → n ≡ 0 → n ≢ 1
zero-not-one n e f = absurd (omega (arith, e, f))

pub differ : (a b : ℕ) → (a == b) ≡ false → a ≢ b
differ a b e same = grind (arith, nat_tests, e, same)

pub sent_kind : (s : ℕ) (f : Fact) → SentKind s f
sent_kind s (Accepted seq payload) = elim (cases_Bool (seq == s)) [
  | inl same ↦ subst (λ k. SentKind s (Accepted k payload)) (sym (eqb-true seq s same)) (a_payload payload)
  | inr other ↦ apart s (Accepted seq payload) (differ seq s other)
]
sent_kind s (Dropped seq upto) = elim (cases_Bool (seq == s)) [
  | inl same ↦ subst (λ k. SentKind s (Dropped k upto)) (sym (eqb-true seq s same)) (a_drop upto)
  | inr other ↦ apart s (Dropped seq upto) (differ seq s other)
]
sent_kind s (Acked seq ranges) = not-sent s (Acked seq ranges) (two-not-one 2 refl)
sent_kind s (Received seq n payload) = not-sent s (Received seq n payload) (three-not-one 3 refl)
sent_kind s (Consumed seq upto) = not-sent s (Consumed seq upto) (three-not-one 3 refl)
sent_kind s (Purged seq ranges) = not-sent s (Purged seq ranges) (three-not-one 3 refl)
sent_kind s f = not-sent s f (zero-not-one 0 refl)

-- ---- the count, record by record

pub same-seq : (s : ℕ) → (s == s) ≡ true
same-seq s = grind (arith, nat_tests)

pub count-more : (before : List Fact) (f : Fact) (s : ℕ) → dropped_of s f ≡ []
    → accepted_count (before ++ f ∷ []) s ≡ accepted_count before s + length (accepted_of s f)
count-more before f s none =
    let a : accepted (before ++ f ∷ []) s ≡ accepted before s ++ accepted_of s f =
    flat_map-more (accepted_of s) before f in
    let d : dropped (before ++ f ∷ []) s ≡ dropped before s =
    ap (λ xs. last_or 0 xs) (flat_map-more (dropped_of s) before f
    ∙ ap (λ xs. flat_map (dropped_of s) before ++ xs) none
    ∙ append-nil (flat_map (dropped_of s) before)) in
    omega (arith, d, ap length a, length-append (accepted before s) (accepted_of s f))

-- Dropped comes where nothing was accepted, and has a number
pub drop-fits : (before : List Fact) (s u : ℕ) → fits before (Dropped s u) ≡ true
    → (accepted_count before s ≡ 0) × (1 ≤ u) × (u ≤ max_number)
drop-fits before s u fit =
    let one = and_parts (follows_at before s (Dropped s u)) _ fit in
    let two = and_parts (accepted_count before s == 0) (nat_le 1 u && nat_le u max_number) one.1 in
    let three = and_parts (nat_le 1 u) (nat_le u max_number) two.1 in
    (eqb-true _ _ two.0, leb-true 1 u three.0, leb-true u max_number three.1)

-- where something was accepted, no Dropped comes
pub no-later : (before l : List Fact) (s : ℕ) → all_fit before l ≡ true → 0 < accepted_count before s
    → flat_map (dropped_of s) l ≡ []
no-later before [] s fit some = refl
no-later before (f ∷ l) s fit some =
    let parts = and_parts (fits before f) (all_fit (before ++ f ∷ []) l) fit in
    elim (sent_kind s f) as (λ g k. fits before g ≡ true → all_fit (before ++ g ∷ []) l ≡ true
    → flat_map (dropped_of s) (g ∷ l) ≡ []) [
      | a_payload p ↦ λ one rest. no-later (before ++ Accepted s p ∷ []) l s rest
          (omega (arith, some, count-more before (Accepted s p) s refl))
      | a_drop u ↦ λ one rest. absurd (omega (arith, some, (drop-fits before s u one).0))
      | besides g pays drops ↦ λ one rest.
          ap (λ xs. xs ++ flat_map (dropped_of s) l) (drops g (refl, refl))
          ∙ no-later (before ++ g ∷ []) l s rest
          (omega (arith, some, count-more before g s (drops g (refl, refl))))
    ] parts.0 parts.1

-- ---- the walk

pub pays_with : (s : ℕ) (p : Text) → accepted_of s (Accepted s p) ≡ p ∷ []
pays_with s p = ap (λ b. cond b (p ∷ []) []) (same-seq s)

pub drops_with : (s u : ℕ) → dropped_of s (Dropped s u) ≡ u ∷ []
drops_with s u = ap (λ b. cond b (u ∷ []) []) (same-seq s)

pub count-drop : (before : List Fact) (s u : ℕ) → fits before (Dropped s u) ≡ true
    → accepted_count (before ++ Dropped s u ∷ []) s ≡ u
count-drop before s u fit =
    let none = (drop-fits before s u fit).0 in
    let a : accepted (before ++ Dropped s u ∷ []) s ≡ accepted before s =
    flat_map-more (accepted_of s) before (Dropped s u) ∙ append-nil (accepted before s) in
    let d : dropped (before ++ Dropped s u ∷ []) s ≡ u =
    ap (λ xs. last_or 0 xs) (flat_map-more (dropped_of s) before (Dropped s u)
    ∙ ap (λ xs. flat_map (dropped_of s) before ++ xs) (drops_with s u))
    ∙ last_or-append 0 (flat_map (dropped_of s) before) (u ∷ []) in
    omega (arith, d, ap length a, none)

-- of records that fit, the count in the end is that of the first, and of those that follow
pub count-rest : (before l : List Fact) (s : ℕ) → all_fit before l ≡ true → 0 < accepted_count before s
    → accepted_count (before ++ l) s ≡ accepted_count before s + length (accepted l s)
count-rest before l s fit some =
    let a : accepted (before ++ l) s ≡ accepted before s ++ accepted l s = flat_map-append (accepted_of s) before l in
    let d : dropped (before ++ l) s ≡ dropped before s =
    ap (λ xs. last_or 0 xs) (flat_map-append (dropped_of s) before l
    ∙ ap (λ xs. flat_map (dropped_of s) before ++ xs) (no-later before l s fit some)
    ∙ append-nil (flat_map (dropped_of s) before)) in
    omega (arith, d, ap length a, length-append (accepted before s) (accepted l s))

module _ (r : List Fact) (s : ℕ) where
  left_pays : (before behind : List Fact) (p : Text) → nat_lt (accepted_count before s) (settled r s) ≡ true
      → accepted (instead r before (Accepted s p) behind) s ≡ []
  left_pays before behind p lt =
      ap (λ b. accepted (cond b (cond (accepted_count before s == 0) (Dropped s (settled r s) ∷ []) [])
      (Accepted s p ∷ [])) s) lt ∙ over (accepted_count before s == 0)
    where
      over : (b : Bool) → accepted (cond b (Dropped s (settled r s) ∷ []) []) s ≡ []
      over true = refl
      over false = refl

  kept_pays : (before behind : List Fact) (p : Text) → nat_lt (accepted_count before s) (settled r s) ≡ false
      → instead r before (Accepted s p) behind ≡ Accepted s p ∷ []
  kept_pays before behind p ge =
      ap (λ b. cond b (cond (accepted_count before s == 0) (Dropped s (settled r s) ∷ []) []) (Accepted s p ∷ [])) ge

  pub accepted-kept : (before l : List Fact) (n : ℕ) → all_fit before l ≡ true → accepted_count (before ++ l) s ≡ n
      → accepted (snapshot_from r before l) s ≡ drop (settled r s - (n - length (accepted l s))) (accepted l s)
  accepted-kept before [] n fit count = sym (nothing (settled r s - (n - 0)))
    where
      nothing : (k : ℕ) → drop {A = Text} k [] ≡ []
      nothing zero = refl
      nothing (suc k) = refl
  accepted-kept before (f ∷ l) n fit count =
      let parts = and_parts (fits before f) (all_fit (before ++ f ∷ []) l) fit in
      elim (sent_kind s f) as (λ g k. all_fit (before ++ g ∷ []) l ≡ true
      → accepted_count ((before ++ g ∷ []) ++ l) s ≡ n
      → accepted (snapshot_from r before (g ∷ l)) s
      ≡ drop (settled r s - (n - length (accepted (g ∷ l) s))) (accepted (g ∷ l) s)) [
        | a_payload p ↦ λ rest total.
            let after = before ++ Accepted s p ∷ [] in
            let more : accepted_count after s ≡ accepted_count before s + 1 =
            count-more before (Accepted s p) s refl
            ∙ ap (λ xs. accepted_count before s + length xs) (pays_with s p) in
            let all : accepted_count (after ++ l) s ≡ accepted_count after s + length (accepted l s) =
            count-rest after l s rest (omega (arith, more)) in
            let ih = accepted-kept after l n rest total in
            flat_map-append (accepted_of s) (instead r before (Accepted s p) l) (snapshot_from r after l)
            ∙ elim (cases_Bool (nat_lt (accepted_count before s) (settled r s))) [
              | inl lt ↦
                  let under : accepted_count before s < settled r s = grind (arith, nat_tests, lt) in
                  let e : settled r s - (n - suc (length (accepted l s)))
                  ≡ suc (settled r s - (n - length (accepted l s))) =
                  omega (arith, under, more, all, total) in
                  ap (λ xs. xs ++ accepted (snapshot_from r after l) s) (left_pays before l p lt)
                  ∙ ih
                  ∙ sym (ap (λ xs. drop (settled r s - (n - length (xs ++ accepted l s))) (xs ++ accepted l s))
                  (pays_with s p)
                  ∙ ap (λ k. drop k (p ∷ accepted l s)) e)
              | inr ge ↦
                  let over : settled r s ≤ accepted_count before s = grind (arith, nat_tests, ge) in
                  let e : settled r s - (n - length (accepted l s)) ≡ 0 = omega (arith, over, more, all, total) in
                  let e2 : settled r s - (n - suc (length (accepted l s))) ≡ 0 =
                  omega (arith, over, more, all, total) in
                  ap (λ xs. accepted xs s ++ accepted (snapshot_from r after l) s) (kept_pays before l p ge)
                  ∙ ap (λ xs. (xs ++ []) ++ accepted (snapshot_from r after l) s) (pays_with s p)
                  ∙ ap (λ xs. p ∷ xs) (ih ∙ ap (λ k. drop k (accepted l s)) e)
                  ∙ sym (ap (λ xs. drop (settled r s - (n - length (xs ++ accepted l s))) (xs ++ accepted l s))
                  (pays_with s p)
                  ∙ ap (λ k. drop k (p ∷ accepted l s)) e2)
            ]
        | a_drop u ↦ λ rest total. accepted-kept (before ++ Dropped s u ∷ []) l n rest total
        | besides g pays drops ↦ λ rest total.
            let ih = accepted-kept (before ++ g ∷ []) l n rest total in
            flat_map-append (accepted_of s) (instead r before g l) (snapshot_from r (before ++ g ∷ []) l)
            ∙ ap (λ xs. xs ++ accepted (snapshot_from r (before ++ g ∷ []) l) s)
            (quiet_in (accepted_of s) g pays (instead r before g l) (like r before g l))
            ∙ ih
            ∙ sym (ap (λ xs. drop (settled r s - (n - length (xs ++ accepted l s))) (xs ++ accepted l s))
            (pays g (refl, refl)))
      ] parts.1 (ap (λ rs. accepted_count rs s) (append_assoc before (f ∷ []) l) ∙ count)
