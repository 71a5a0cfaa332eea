-- From masks to lists.
use Rattle.std.proofs.Common.{◌||◌, zero, ◌+◌, ◌≤◌, ◌<◌, length, drop, take, get_or, add-one, arith, ◌≡◌, ◌↔◌, ℕ, suc}
use Rattle.std.proofs.Common.{◌==◌}
use Rattle.std.proofs.Common.{Bool, List, [], ◌∷◌, map, cond, true, false, refl, ap, sym, ◌∙◌, subst, ◌⊎◌, inl, inr}
use Rattle.std.proofs.Common.{⊎_elim}
use Rattle.std.specs.Prelude.{if◌then◌else◌}
use Rattle.std.proofs.lemmas.Cmp.{tied_itself}
use Rattle.std.specs.BTreeSet.{insert_key}
use Rattle.std.specs.Int.{bit_at}
use Rattle.std.specs.FinSet.{insert, from_list, slice_cmp-IsAntisymmetric}
use Rattle.std.specs.List.{AllByRecursion}
use Rattle.std.specs.Ordering.{match_ordering, is_eq, ordering_then, ordering_reverse}
use Rattle.std.specs.declared.cmp.Ordering.{Ordering}
use Rattle.std.specs.declared.cmp.Ordering.TheVariants.{Less, Equal, Greater}
use Rattle.rm_policy.proofs.AlternativesLemmas.OrderLemmas.{term_cmp_total, term_cmp_exact}
use Rattle.rm_policy.specs.Alternatives.Masks.{chosen_from, chosen, picked_list, has_mask, is_listed, AreTermsApart}
use Rattle.rm_policy.specs.Alternatives.Masks.{MasksOf, MasksAnswer, AreListed, Gathered, IsTermList, HasNoTermList}
use Rattle.rm_policy.specs.Alternatives.Answers.{Normalises, HasFewTerms}
use Rattle.rm_policy.specs.Alternatives.Limits.{Mentions, HasTerms}
use Rattle.rm_policy.proofs.AlternativesLemmas.GatherLemmas.{has_terms}
use Rattle.std.proofs.Common.{Err}
use Rattle.rm_policy.specs.declared.alternatives.error.WspError.{WspError}
use Rattle.rm_policy.specs.declared.alternatives.error.WspError.TheVariants.{Memory, Envelope, Malformed}
use Rattle.rm_policy.specs.declared.alternatives.error.WspError.TheVariants.{SecurityUnsupported, TooLarge}
use Rattle.rm_policy.specs.declared.alternatives.error.WspError.TheVariants.{TooManyTerms}
use Rattle.rm_policy.specs.declared.alternatives.error.WspError.TheVariants.{TooManyAlternatives}
use Rattle.rm_policy.specs.Alternatives.Listed.{ListedSoFar, mask_cmp, mask_order, has_any, order_step}
use Rattle.rm_policy.specs.Alternatives.Admits.{Admits}
use Rattle.rm_policy.specs.Alternatives.Tree.{Policy}
use Rattle.rm_policy.proofs.AlternativesLemmas.RisingLemmas.{Rises-insert_key}
use Rattle.rm_policy.proofs.AlternativesLemmas.MaskLemmas.{or_left, or_right, either_has}
use Rattle.std.proofs.lemmas.Bool.{false≢true}
use Rattle.std.proofs.lemmas.Bool.Decides.{nat_tests}
use Rattle.std.proofs.lemmas.Cmp.{lists_total}
use Rattle.rm_policy.specs.Alternatives.Normal.{Holds, IsNormal}
use Rattle.rm_policy.specs.Alternatives.Sets.{TermSet, Rises, list_cmp}
use Rattle.rm_policy.specs.Alternatives.Terms.{term_cmp}
use Rattle.rm_policy.specs.declared.alternatives.term.Term.{Term}

-- the list of a mask is of its set
pub from_picked : (i : ℕ) (ts : List Term) (m : ℕ) → from_list {R = term_cmp} (picked_list i ts m) ≡ chosen_from i ts m
from_picked i [] m = refl
from_picked i (t ∷ ts) m = elim (bit_at m i == 1) as (λ b. from_list {R = term_cmp} (cond b (t ∷ picked_list (suc i) ts
    m) (picked_list (suc i) ts m))
    ≡ cond b (insert (chosen_from (suc i) ts m) t) (chosen_from (suc i) ts m)) [
      | true ↦ ap (λ (s : TermSet). insert s t) (from_picked (suc i) ts m)
      | false ↦ from_picked (suc i) ts m
    ]

all_picked : (P : Term → Type 0) (i : ℕ) (ts : List Term) (m : ℕ) → AllByRecursion P ts
    → AllByRecursion P (picked_list i ts m)
all_picked P i [] m h = tt
all_picked P i (t ∷ ts) m h = elim (bit_at m i == 1) as (λ b. AllByRecursion P (cond b (t ∷ picked_list (suc i) ts m)
    (picked_list (suc i) ts m))) [
      | true ↦ (h.0, all_picked P (suc i) ts m h.1)
      | false ↦ all_picked P (suc i) ts m h.1
    ]

-- and rises with the terms
pub Rises-picked : (i : ℕ) (ts : List Term) (m : ℕ) → Rises term_cmp ts → Rises term_cmp (picked_list i ts m)
Rises-picked i [] m h = tt
Rises-picked i (t ∷ ts) m h = elim (bit_at m i == 1) as (λ b. Rises term_cmp (cond b (t ∷ picked_list (suc i) ts m)
    (picked_list (suc i) ts m))) [
      | true ↦ (all_picked (λ y. term_cmp t y ≡ Less) (suc i) ts m h.0, Rises-picked (suc i) ts m h.1)
      | false ↦ Rises-picked (suc i) ts m h.1
    ]

-- one alternative more
pub all-insert_key : (P : List Term → Type 0) (ls : List (List Term)) (k : List Term) → P k → AllByRecursion P ls
    → AllByRecursion P (insert_key list_cmp ls k)
all-insert_key P [] k p h = (p, tt)
all-insert_key P (y ∷ ls) k p h = elim (list_cmp k y) as (λ r. AllByRecursion P (match_ordering r (k ∷ y ∷ ls) (y ∷ ls)
    (y ∷ insert_key list_cmp ls k))) [
      | Less ↦ (p, h)
      | Equal ↦ h
      | Greater ↦ (h.0, all-insert_key P ls k p h.1)
    ]

pub Holds-insert_key : (ls : List (List Term)) (k : List Term) (x : TermSet) → Holds (insert_key list_cmp ls k) x
    ↔ ((x ≡ from_list k) ⊎ Holds ls x)
Holds-insert_key [] k x = ((λ h. h), (λ h. h))
Holds-insert_key (y ∷ ls) k x =
    let rest = Holds-insert_key ls k x in
    elim (list_cmp k y) as (λ r. list_cmp k y ≡ r → Holds (match_ordering r (k ∷ y ∷ ls) (y ∷ ls) (y ∷ insert_key
    list_cmp ls k)) x ↔ ((x ≡ from_list k) ⊎ Holds (y ∷ ls) x)) [
      | Less ↦ λ e. ((λ h. h), (λ h. h))
      | Equal ↦ λ e.
          let same : k ≡ y = slice_cmp-IsAntisymmetric term_cmp_exact k y e in
          ((λ h. inr h), (λ h. ⊎_elim (λ l. inl (l ∙ ap (λ z. from_list z) same)) (λ r. r) h))
      | Greater ↦ λ e. (
        (λ h. ⊎_elim (λ l. inr (inl l)) (λ r. ⊎_elim (λ a. inl a) (λ b. inr (inr b)) (rest.0 r)) h),
        (λ h. ⊎_elim (λ l. inr (rest.1 (inl l))) (λ r. ⊎_elim (λ a. inl a) (λ b. inr (rest.1 (inr b))) r) h),
      )
    ] refl

less_nil : (b : List Term) (i : ℕ) → i < length b → list_cmp [] (drop i b) ≡ Less
less_nil [] i g = absurd (omega arith)
less_nil (y ∷ b) zero g = refl
less_nil (y ∷ b) (suc i) g = less_nil b i (omega arith)

-- a list that ends first comes first
pub less_at_end : (a b : List Term) (i : ℕ) → length a ≤ i → i < length b → list_cmp (drop i a) (drop i b) ≡ Less
less_at_end [] [] i h g = absurd (omega arith)
less_at_end [] (y ∷ b) zero h g = refl
less_at_end [] (y ∷ b) (suc i) h g = less_nil b i (omega arith)
less_at_end (x ∷ a) [] i h g = absurd (omega arith)
less_at_end (x ∷ a) (y ∷ b) zero h g = absurd (omega arith)
less_at_end (x ∷ a) (y ∷ b) (suc i) h g = less_at_end a b i (omega arith) (omega arith)

none_listed : (t : Term) (ts : List Term) → AllByRecursion (λ y. term_cmp t y ≡ Less) ts → is_listed ts t ≡ false
none_listed t [] h = refl
none_listed t (y ∷ ts) h = ap (λ r. is_eq r || is_listed ts t) h.0 ∙ none_listed t ts h.1

-- terms that rise are apart
pub apart_terms : (ts : List Term) → Rises term_cmp ts → AreTermsApart ts
apart_terms [] h = tt
apart_terms (t ∷ ts) h = (none_listed t ts h.0, apart_terms ts h.1)

all_taken : (ms : List ℕ) (i : ℕ) → length ms ≤ i → take i ms ≡ ms
all_taken [] zero h = refl
all_taken [] (suc i) h = refl
all_taken (m ∷ ms) zero h = absurd (omega arith)
all_taken (m ∷ ms) (suc i) h = ap (λ l. m ∷ l) (all_taken ms i (omega arith))

pub listed-more : (ts : List Term) (seen later : ℕ → Type 0) (n : ℕ) (ls : List (List Term)) → Rises term_cmp ts
    → ((m : ℕ) → later m ↔ (seen m ⊎ (n ≡ m))) → ListedSoFar ts seen ls → ListedSoFar ts later (insert_key list_cmp ls
    (picked_list 0 ts n))
listed-more ts seen later n ls up next s = record {
  rises = Rises-insert_key (lists_total term_cmp_total) (slice_cmp-IsAntisymmetric term_cmp_exact) ls (picked_list 0 ts
      n) s.rises;
  each = all-insert_key (Rises term_cmp) ls (picked_list 0 ts n) (Rises-picked 0 ts n up) s.each;
  exact = λ x.
      let one = Holds-insert_key ls (picked_list 0 ts n) x in (
        (λ h. ⊎_elim (λ l. (n, (next n).1 (inr refl), l ∙ from_picked 0 ts n)) (λ r. let w = (s.exact x).0
            r in (w.0, (next w.0).1 (inl w.1), w.2)) (one.0 h)),
        (λ h. one.1 (⊎_elim (λ l. inr ((s.exact x).1 (h.0, l, h.2)))
            (λ r. inl (h.2 ∙ ap (chosen ts) (sym r) ∙ sym (from_picked 0 ts n))) ((next h.0).0 h.1))),
      );
}

-- and in the end the normal form
pub listed-normal : (ts : List Term) (p : Policy) (ms : List ℕ) (ls : List (List Term)) → MasksOf ts p ms
    → ListedSoFar ts (λ m. has_mask ms m ≡ true) ls → IsNormal p ls
listed-normal ts p ms ls f s = record {
  are = record { rises = s.rises; each = s.each };
  exact = λ x. (
    (λ a. (s.exact x).1 (f.whole x a)),
    (λ h. let w = (s.exact x).0 h in subst (Admits p) (sym w.2)
        (f.sound w.0 w.1)),
  );
}

seen_suc : (ms : List ℕ) (i m : ℕ) → i < length ms → (has_mask (take (suc i) ms) m ≡ true) ↔ ((has_mask (take i ms) m
    ≡ true) ⊎ (get_or ms i 0 ≡ m))
seen_suc [] i m h = absurd (omega arith)
seen_suc (x ∷ ms) zero m h = (
  (λ e. ⊎_elim (λ l. inr (grind (arith, nat_tests, l))) (λ r. absurd (false≢true r)) (either_has (x == m) false e)),
  (λ e. ⊎_elim (λ l. absurd (false≢true l)) (λ r. or_left (x == m) false (grind (arith, nat_tests, r))) e),
)
seen_suc (x ∷ ms) (suc i) m h =
    let rest = seen_suc ms i m (omega arith) in (
      (λ e. ⊎_elim (λ l. inl (or_left (x == m) (has_mask (take i ms) m) l)) (λ r. ⊎_elim (λ a. inl (or_right (x == m)
          a)) (λ b. inr b) (rest.0 r)) (either_has (x == m) (has_mask (take (suc i) ms) m) e)),
      (λ e. ⊎_elim (λ l. ⊎_elim (λ a. or_left (x == m) (has_mask (take (suc i) ms) m) a) (λ b. or_right (x == m)
          (rest.1 (inl b))) (either_has (x == m) (has_mask (take i ms) m) l))
          (λ r. or_right (x == m) (rest.1 (inr r))) e),
    )

pub seen_more : (ms : List ℕ) (i m : ℕ) → i < length ms → (has_mask (take (i + 1) ms) m ≡ true)
    ↔ ((has_mask (take i ms) m ≡ true) ⊎ (get_or ms i 0 ≡ m))
seen_more ms i m h = rw add-one (seen_suc ms i m h)

pub seen_all : (ts : List Term) (ms : List ℕ) (i : ℕ) (ls : List (List Term)) → length ms ≤ i
    → ListedSoFar ts (λ m. has_mask (take i ms) m ≡ true) ls → ListedSoFar ts (λ m. has_mask ms m ≡ true) ls
seen_all ts ms i ls h s = subst (λ l. ListedSoFar ts (λ m. has_mask l m ≡ true) ls) (all_taken ms i h) s

-- what was gathered, from no terms on
pub gathered_terms : (p : Policy) (old new : List Term) → old ≡ []
    → (Rises term_cmp old → Gathered (Mentions p) old new) → Rises term_cmp new × HasTerms p (length new)
    × AreListed new p
gathered_terms p old new e g =
    let from : Gathered (Mentions p) [] new =
    subst (λ l. Gathered (Mentions p) l new) e (g (subst (Rises term_cmp) (sym e) tt)) in (
      from.rises,
      has_terms p new (apart_terms new from.rises) from.terms,
      record { each = λ t m. (from.terms t).1 (inl m) },
    )

pub masks_err : (ts : List Term) (p : Policy) → HasFewTerms p → (e : WspError) → MasksAnswer ts p (Err e)
    → Normalises p (Err e)
masks_err ts p few Memory a = tt
masks_err ts p few (Envelope e) a = a
masks_err ts p few Malformed a = a
masks_err ts p few (SecurityUnsupported name) a = a
masks_err ts p few (TooLarge n) a = a
masks_err ts p few (TooManyTerms n) a = absurd a
masks_err ts p few TooManyAlternatives a = (few, a)

-- masks in the order of their alternatives
pub map-insert_key : (ts : List Term) (ms : List ℕ) (m : ℕ) → map (picked_list 0 ts) (insert_key (mask_cmp ts) ms m)
    ≡ insert_key list_cmp (map (picked_list 0 ts) ms) (picked_list 0 ts m)
map-insert_key ts [] m = refl
map-insert_key ts (n ∷ ms) m = elim (mask_cmp ts m n) as (λ r.
    map (picked_list 0 ts) (match_ordering r (m ∷ n ∷ ms) (n ∷ ms) (n ∷ insert_key (mask_cmp ts) ms m))
    ≡ match_ordering r (picked_list 0 ts m ∷ picked_list 0 ts n ∷ map (picked_list 0 ts) ms)
    (picked_list 0 ts n ∷ map (picked_list 0 ts) ms)
    (picked_list 0 ts n ∷ insert_key list_cmp (map (picked_list 0 ts) ms) (picked_list 0 ts m))) [
      | Less ↦ refl
      | Equal ↦ refl
      | Greater ↦ ap (λ l. picked_list 0 ts n ∷ l) (map-insert_key ts ms m)
    ]

below_first : (t : Term) (a b : List Term) → AllByRecursion (λ y. term_cmp t y ≡ Less) b
    → list_cmp (t ∷ a) b ≡ (if has_any b then Less else Greater)
below_first t a [] h = refl
below_first t a (u ∷ b) h = ap (λ r. ordering_then r (list_cmp a b)) h.0

above_first : (t : Term) (a b : List Term) → AllByRecursion (λ y. term_cmp t y ≡ Less) a
    → list_cmp a (t ∷ b) ≡ (if has_any a then Greater else Less)
above_first t [] b h = refl
above_first t (u ∷ a) b h = ap (λ r. ordering_then r (list_cmp a b)) (term_cmp_total.antisymm u t
    ∙ ap ordering_reverse h.0)

same_first : (t : Term) (a b : List Term) → list_cmp (t ∷ a) (t ∷ b) ≡ list_cmp a b
same_first t a b = ap (λ r. ordering_then r (list_cmp a b)) (tied_itself term_cmp_total t)

-- how the alternatives of two masks are ordered from a term on
pub step_at : (i : ℕ) (t : Term) (ts : List Term) (m n : ℕ) → AllByRecursion (λ y. term_cmp t y ≡ Less) ts
    → list_cmp (picked_list i (t ∷ ts) m) (picked_list i (t ∷ ts) n) ≡ order_step (bit_at m i == 1) (bit_at n i == 1)
    (has_any (picked_list (suc i) ts m)) (has_any (picked_list (suc i) ts n))
    (list_cmp (picked_list (suc i) ts m) (picked_list (suc i) ts n))
step_at i t ts m n h =
    let a = picked_list (suc i) ts m in
    let b = picked_list (suc i) ts n in
    elim (bit_at m i == 1) as (λ (x : Bool). list_cmp (cond x (t ∷ a) a) (picked_list i (t ∷ ts) n)
    ≡ order_step x (bit_at n i == 1) (has_any a) (has_any b) (list_cmp a b)) [
      | true ↦ elim (bit_at n i == 1) as (λ (y : Bool). list_cmp (t ∷ a) (cond y (t ∷ b) b)
          ≡ order_step true y (has_any a) (has_any b) (list_cmp a b)) [
            | true ↦ same_first t a b
            | false ↦ below_first t a b (all_picked (λ y. term_cmp t y ≡ Less) (suc i) ts n h)
          ]
      | false ↦ elim (bit_at n i == 1) as (λ (y : Bool). list_cmp a (cond y (t ∷ b) b)
          ≡ order_step false y (has_any a) (has_any b) (list_cmp a b)) [
            | true ↦ above_first t a b (all_picked (λ y. term_cmp t y ≡ Less) (suc i) ts m h)
            | false ↦ refl
          ]
    ]

or_none : (b : Bool) → (b || false) ≡ b
or_none true = refl
or_none false = refl

pub any_at : (i : ℕ) (t : Term) (ts : List Term) (m : ℕ)
    → has_any (picked_list i (t ∷ ts) m) ≡ (has_any (picked_list (suc i) ts m) || (bit_at m i == 1))
any_at i t ts m = elim (bit_at m i == 1) as (λ (x : Bool).
    has_any (cond x (t ∷ picked_list (suc i) ts m) (picked_list (suc i) ts m))
    ≡ (has_any (picked_list (suc i) ts m) || x)) [
      | true ↦ sym (or_right (has_any (picked_list (suc i) ts m)) refl)
      | false ↦ sym (or_none (has_any (picked_list (suc i) ts m)))
    ]

-- the order, and whether there are any, with the term at a place
order_from : (ts : List Term) (k i m n : ℕ) → k < length ts → Rises term_cmp ts
    → list_cmp (picked_list i (drop k ts) m) (picked_list i (drop k ts) n) ≡ order_step (bit_at m i == 1)
    (bit_at n i == 1)
    (has_any (picked_list (suc i) (drop (suc k) ts) m)) (has_any (picked_list (suc i) (drop (suc k) ts) n))
    (list_cmp (picked_list (suc i) (drop (suc k) ts) m) (picked_list (suc i) (drop (suc k) ts) n))
order_from [] k i m n w up = absurd (omega arith)
order_from (t ∷ ts) zero i m n w up = step_at i t ts m n up.0
order_from (t ∷ ts) (suc k) i m n w up = order_from ts k i m n (omega arith) up.1

pub order_at : (ts : List Term) (i m n : ℕ) → i < length ts → Rises term_cmp ts
    → mask_order ts i m n ≡ order_step (bit_at m i == 1) (bit_at n i == 1) (has_any (picked_list (i + 1) (drop (i + 1)
    ts) m))
    (has_any (picked_list (i + 1) (drop (i + 1) ts) n)) (mask_order ts (i + 1) m n)
order_at ts i m n w up = rw add-one (order_from ts i i m n w up)

some_from : (ts : List Term) (k i m : ℕ) → k < length ts → has_any (picked_list i (drop k ts) m)
    ≡ (has_any (picked_list (suc i) (drop (suc k) ts) m) || (bit_at m i == 1))
some_from [] k i m w = absurd (omega arith)
some_from (t ∷ ts) zero i m w = any_at i t ts m
some_from (t ∷ ts) (suc k) i m w = some_from ts k i m (omega arith)

pub some_at : (ts : List Term) (i m : ℕ) → i < length ts → has_any (picked_list i (drop i ts) m)
    ≡ (has_any (picked_list (i + 1) (drop (i + 1) ts) m) || (bit_at m i == 1))
some_at ts i m w = rw add-one (some_from ts i i m w)

-- the terms are few
pub few_terms : (p : Policy) (ts : List Term) → IsTermList p ts → HasFewTerms p
few_terms p ts l = (length ts, l.terms, l.few)

-- why they could not be listed
pub terms_err : (p : Policy) (e : WspError) → HasNoTermList p e → Normalises p (Err e)
terms_err p Memory a = tt
terms_err p (Envelope e) a = a
terms_err p Malformed a = a
terms_err p (SecurityUnsupported name) a = a
terms_err p (TooLarge n) a = a
terms_err p (TooManyTerms n) a = a
terms_err p TooManyAlternatives a = absurd a

pub slice_terms : (p : Policy) (slice ts : List Term) → slice ≡ ts → IsTermList p ts → IsTermList p slice
slice_terms p slice ts e l = subst (IsTermList p) (sym e) l

-- the order of two masks, and whether they have any terms, with one place more
pub masks_step : (ts : List Term) (i j m n : ℕ) → i ≡ j + 1 → Rises term_cmp ts → i ≤ length ts → (order : Ordering)
    (some other_some : Bool) → order ≡ mask_order ts i m n → some ≡ has_any (picked_list i (drop i ts) m)
    → other_some ≡ has_any (picked_list i (drop i ts) n)
    → (j ≤ length ts)
    × (order_step (bit_at m j == 1) (bit_at n j == 1) some other_some order ≡ mask_order ts j m n)
    × ((some || (bit_at m j == 1)) ≡ has_any (picked_list j (drop j ts) m))
    × ((other_some || (bit_at n j == 1)) ≡ has_any (picked_list j (drop j ts) n))
masks_step ts i j m n e up w order some other_some o s t =
    let there : j < length ts = omega arith in
    let o2 : order ≡ mask_order ts (j + 1) m n = o ∙ ap (λ k. mask_order ts k m n) e in
    let s2 : some ≡ has_any (picked_list (j + 1) (drop (j + 1) ts) m) =
    s ∙ ap (λ k. has_any (picked_list k (drop k ts) m)) e in
    let t2 : other_some ≡ has_any (picked_list (j + 1) (drop (j + 1) ts) n) =
    t ∙ ap (λ k. has_any (picked_list k (drop k ts) n)) e in (
      omega arith,
      ap (λ r. order_step (bit_at m j == 1) (bit_at n j == 1) some other_some r) o2
          ∙ ap (λ x. order_step (bit_at m j == 1) (bit_at n j == 1) x other_some (mask_order ts (j + 1) m n)) s2
          ∙ ap (λ y. order_step (bit_at m j == 1) (bit_at n j == 1)
          (has_any (picked_list (j + 1) (drop (j + 1) ts) m)) y (mask_order ts (j + 1) m n)) t2
          ∙ sym (order_at ts j m n there up),
      ap (λ x. x || (bit_at m j == 1)) s2 ∙ sym (some_at ts j m there),
      ap (λ y. y || (bit_at n j == 1)) t2 ∙ sym (some_at ts j n there),
    )
