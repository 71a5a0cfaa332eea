-- What two rising lists of alternatives have in common.
use Rattle.std.proofs.Common.{◌≡◌, ◌≤◌, ◌<◌, ◌+◌, ℕ, zero, suc, List, [], ◌∷◌, ◌++◌, Bool, true, false, cond, refl, ap}
use Rattle.std.proofs.Common.{sym, ◌∙◌, subst, arith, inl, inr, ⊎_elim, length, drop, get_or, add-one, append_assoc}
use Rattle.std.proofs.Common.{length-append, Err}
use Rattle.std.specs.declared.cmp.Ordering.{Ordering}
use Rattle.std.specs.declared.cmp.Ordering.TheVariants.{Less}
use Rattle.std.specs.Cmp.{IsTotalOrder}
use Rattle.std.specs.FinSet.{FinSet, IsAntisymmetric, contains, union, from_list, len, len-empty, len-insert}
use Rattle.std.specs.FinSet.{contains-from_list}
use Rattle.std.specs.List.{AllByRecursion, list_any, filter}
use Rattle.std.specs.Ordering.{eq_by_cmp}
use Rattle.std.proofs.Math.ListN.{drop_of_length-le}
use Rattle.std.proofs.lemmas.Bool.{false≢true}
use Rattle.rm_policy.proofs.AlternativesLemmas.LawLemmas.{found, held, list_cmp_total, list_cmp_exact}
use Rattle.rm_policy.proofs.AlternativesLemmas.OrderLemmas.{term_cmp_total, term_cmp_exact}
use Rattle.rm_policy.proofs.AlternativesLemmas.RisingLemmas.{below_none}
use Rattle.rm_policy.proofs.AlternativesLemmas.SetLemmas.{len-part-le, union-same, same_from_parts}
use Rattle.rm_policy.specs.Alternatives.Answers.{AddsAnswer, Intersects}
use Rattle.rm_policy.specs.Alternatives.Normal.{AreAlternatives, Holds, HasMoreInCommon, InCommon, IsIntersection}
use Rattle.rm_policy.specs.Alternatives.Sets.{TermSet, Rises, list_cmp}
use Rattle.rm_policy.specs.Alternatives.Terms.{term_cmp}
use Rattle.rm_policy.specs.declared.alternatives.error.WspError.{WspError}
use Rattle.rm_policy.specs.declared.alternatives.error.WspError.TheVariants.{Memory, Envelope, Malformed}
use Rattle.rm_policy.specs.declared.alternatives.error.WspError.TheVariants.{SecurityUnsupported, TooLarge}
use Rattle.rm_policy.specs.declared.alternatives.error.WspError.TheVariants.{TooManyTerms, TooManyAlternatives}
use Rattle.rm_policy.specs.declared.alternatives.term.Term.{Term}

module _ {K : Type 0} {R : K → K → Ordering} (o : IsTotalOrder R) (exact : IsAntisymmetric R) where
  -- a rising list is as long as its set
  len_rising : (xs : List K) → Rises R xs → len (from_list {R = R} xs) ≡ length xs
  len_rising [] h = len-empty R
  len_rising (x ∷ xs) h =
      let s : FinSet R = from_list xs in
      let lacks : contains s x ≡ false = contains-from_list o xs x ∙ below_none o exact x xs h.0 in
      let more : len (from_list {R = R} (x ∷ xs)) ≡ len s + 1 =
      len-insert o s x ∙ ap (λ b. cond b (len s) (len s + 1)) lacks in
      let rest : len s ≡ length xs = len_rising xs h.1 in
      omega (arith, more, rest)

  -- a part of it is no longer
  pub length-part : (xs ys : List K) → Rises R xs → Rises R ys
      → ((q : K) → list_any (eq_by_cmp R q) xs ≡ true → list_any (eq_by_cmp R q) ys ≡ true) → length xs ≤ length ys
  length-part xs ys h g part =
      let few : len (from_list {R = R} xs) ≤ len (from_list {R = R} ys) = len-part-le o exact (from_list xs)
      (from_list ys)
      (λ q e. contains-from_list o ys q ∙ part q (sym (contains-from_list o xs q) ∙ e)) in
      let one : len (from_list {R = R} xs) ≡ length xs = len_rising xs h in
      let other : len (from_list {R = R} ys) ≡ length ys = len_rising ys g in
      omega (arith, few, one, other)

all_filter : {K : Type 0} (P : K → Type 0) (p : K → Bool) (xs : List K) → AllByRecursion P xs
    → AllByRecursion P (filter p xs)
all_filter P p [] h = tt
all_filter P p (x ∷ xs) h = elim (p x) as (λ b. AllByRecursion P (cond b (x ∷ filter p xs) (filter p xs))) [
  | true ↦ (h.0, all_filter P p xs h.1)
  | false ↦ all_filter P p xs h.1
]

Rises-filter : (p : List Term → Bool) (xs : List (List Term)) → Rises list_cmp xs → Rises list_cmp (filter p xs)
Rises-filter p [] h = tt
Rises-filter p (x ∷ xs) h = elim (p x) as (λ b. Rises list_cmp (cond b (x ∷ filter p xs) (filter p xs))) [
  | true ↦ (all_filter (λ y. list_cmp x y ≡ Less) p xs h.0, Rises-filter p xs h.1)
  | false ↦ Rises-filter p xs h.1
]

-- what a filtered list holds it held before, as a list that passes
of_filter : (p : List Term → Bool) (xs : List (List Term)) (x : TermSet) → Holds (filter p xs) x
    → Holds xs x × ((ts : List Term) × (p ts ≡ true) × (x ≡ from_list ts))
of_filter p [] x h = absurd h
of_filter p (t ∷ xs) x h = elim (p t) as (λ b. p t ≡ b → Holds (cond b (t ∷ filter p xs) (filter p xs)) x
    → Holds (t ∷ xs) x × ((ts : List Term) × (p ts ≡ true) × (x ≡ from_list ts))) [
      | true ↦ λ e g. ⊎_elim (λ l. (inl l, (t, e, l))) (λ r. let w = of_filter p xs x r in (inr w.0, w.1)) g
      | false ↦ λ e g. let w = of_filter p xs x g in (inr w.0, w.1)
    ] refl h

-- and what passes it holds
to_filter : (p : List Term → Bool) (xs : List (List Term)) (x : TermSet) → AllByRecursion (Rises term_cmp) xs
    → ((ts : List Term) → Rises term_cmp ts → x ≡ from_list ts → p ts ≡ true) → Holds xs x → Holds (filter p xs) x
to_filter p [] x each pass h = h
to_filter p (t ∷ xs) x each pass h = elim (p t) as (λ b. p t ≡ b → Holds (cond b (t ∷ filter p xs) (filter p xs)) x) [
  | true ↦ λ e. ⊎_elim (λ l. inl l) (λ r. inr (to_filter p xs x each.1 pass r)) h
  | false ↦ λ e. ⊎_elim (λ l. absurd (false≢true (sym e ∙ pass t each.0 l))) (λ r. to_filter p xs x each.1 pass r) h
] refl

-- whether an alternative is among others
abbrev pub is_in : List (List Term) → List Term → Bool
is_in b ts = list_any (eq_by_cmp list_cmp ts) b

-- what two sets of alternatives have in common, as the alternatives of the first that are in the second
abbrev pub common : List (List Term) → List (List Term) → List (List Term)
common a b = filter (is_in b) a

module _ (a b : List (List Term)) (f : AreAlternatives a) (g : AreAlternatives b) where
  are_common : AreAlternatives (common a b)
  are_common = record {
    rises = Rises-filter (is_in b) a f.rises;
    each = all_filter (Rises term_cmp) (is_in b) a f.each;
  }

  -- an alternative of both is the union of it and itself
  from_common : (x : TermSet) → Holds (common a b) x → InCommon a b x
  from_common x h =
      let w = of_filter (is_in b) a x h in
      let other : Holds b x = subst (Holds b) (sym w.1.2) (held w.1.0 b g.each w.1.1).1 in
      (x, x, w.0, other, ((λ t k. k), (λ t k. k)), sym (union-same term_cmp_total term_cmp_exact x))

  -- compatible alternatives are one
  to_common : (x : TermSet) → InCommon a b x → Holds (common a b) x
  to_common x r =
      let y : TermSet = r.0 in
      let z : TermSet = r.1 in
      let same : y ≡ z = same_from_parts term_cmp_total term_cmp_exact y z r.4.0 r.4.1 in
      let is_y : x ≡ y = r.5 ∙ ap (union y) (sym same) ∙ union-same term_cmp_total term_cmp_exact y in
      to_filter (is_in b) a x f.each
      (λ ts up e. found ts b up g.each (subst (Holds b) (sym (is_y ∙ same) ∙ e) r.3)) (subst (Holds a) (sym is_y) r.2)

  pub common-is : IsIntersection a b (common a b)
  common-is = record { are = are_common; exact = λ x. (from_common x, to_common x) }

  pub common-more : 256 < length (common a b) → HasMoreInCommon 256 a b
  common-more h = record { lists = common a b; are = are_common; sound = from_common; more = h }

  pub common-few : length (common a b) ≤ 256 → HasMoreInCommon 256 a b → ⊥
  common-few h m =
      let part : length m.lists ≤ length (common a b) = length-part list_cmp_total list_cmp_exact m.lists (common a b)
      m.are.rises are_common.rises (λ q e.
      let w = held q m.lists m.are.each e in
      found q (common a b) w.0 are_common.each (to_common (from_list q) (m.sound (from_list q) w.1))) in
      let more : 256 < length m.lists = m.more in
      omega (arith, part, more, h)

-- ---- one alternative more
filter_from : (p : List Term → Bool) (xs : List (List Term)) (i : ℕ) (t : List Term) → i < length xs → t ≡ get_or xs i t
    → filter p (drop i xs) ≡ cond (p t) (t ∷ filter p (drop (suc i) xs)) (filter p (drop (suc i) xs))
filter_from p [] i t w e = absurd (omega arith)
filter_from p (x ∷ xs) zero t w e = ap (λ y. cond (p y) (y ∷ filter p xs) (filter p xs)) (sym e)
filter_from p (x ∷ xs) (suc i) t w e = filter_from p xs i t (omega arith) e

filter_at : (p : List Term → Bool) (xs : List (List Term)) (i : ℕ) (t : List Term) → i < length xs → t ≡ get_or xs i t
    → filter p (drop i xs) ≡ cond (p t) (t ∷ filter p (drop (i + 1) xs)) (filter p (drop (i + 1) xs))
filter_at p xs i t w e = rw add-one (filter_from p xs i t w e)

module _ (a b so_far : List (List Term)) (i : ℕ) (t : List Term) (w : i < length a) (e : t ≡ get_or a i t)
    (h : so_far ++ filter (is_in b) (drop i a) ≡ common a b) where
  -- one that is in both
  pub common-put : is_in b t ≡ true → (so_far ++ t ∷ []) ++ filter (is_in b) (drop (i + 1) a) ≡ common a b
  common-put k =
      append_assoc so_far (t ∷ []) (filter (is_in b) (drop (i + 1) a))
      ∙ ap (λ l. so_far ++ l) (sym (filter_at (is_in b) a i t w e
      ∙ ap (λ c. cond c (t ∷ filter (is_in b) (drop (i + 1) a)) (filter (is_in b) (drop (i + 1) a))) k)) ∙ h

  -- and one that is not
  pub common-pass : is_in b t ≡ false → so_far ++ filter (is_in b) (drop (i + 1) a) ≡ common a b
  common-pass k =
      ap (λ l. so_far ++ l) (sym (filter_at (is_in b) a i t w e
      ∙ ap (λ c. cond c (t ∷ filter (is_in b) (drop (i + 1) a)) (filter (is_in b) (drop (i + 1) a))) k)) ∙ h

  -- where so many are there already, there are more
  pub common-full : is_in b t ≡ true → 256 ≤ length so_far → 256 < length (common a b)
  common-full k full =
      let all : length (common a b) ≡ length ((so_far ++ t ∷ []) ++ filter (is_in b) (drop (i + 1) a)) =
      ap length (sym (common-put k)) in
      let outer : length ((so_far ++ t ∷ []) ++ filter (is_in b) (drop (i + 1) a))
      ≡ length (so_far ++ t ∷ []) + length (filter (is_in b) (drop (i + 1) a)) =
      length-append (so_far ++ t ∷ []) (filter (is_in b) (drop (i + 1) a)) in
      let inner : length (so_far ++ t ∷ []) ≡ length so_far + 1 = length-append so_far (t ∷ []) in
      omega (arith, all, outer, inner, full)

-- why there is no intersection
pub adds_err : (a b old new : List (List Term)) (t : List Term) → AreAlternatives a → AreAlternatives b
    → (256 ≤ length old → 256 < length (common a b)) → (e : WspError) → AddsAnswer old t new (Err e)
    → Intersects a b (Err e)
adds_err a b old new t f g full Memory h = tt
adds_err a b old new t f g full (Envelope e) h = h
adds_err a b old new t f g full Malformed h = h
adds_err a b old new t f g full (SecurityUnsupported name) h = h
adds_err a b old new t f g full (TooLarge n) h = h
adds_err a b old new t f g full (TooManyTerms n) h = h
adds_err a b old new t f g full TooManyAlternatives h = common-more a b f g (full h)

nothing_more : (l : List (List Term)) → l ++ [] ≡ l
nothing_more [] = refl
nothing_more (x ∷ l) = ap (λ k. x ∷ k) (nothing_more l)

pub common-done : (a b so_far : List (List Term)) (i : ℕ) → length a ≤ i
    → so_far ++ filter (is_in b) (drop i a) ≡ common a b → so_far ≡ common a b
common-done a b so_far i w h =
    sym (nothing_more so_far) ∙ ap (λ l. so_far ++ filter (is_in b) l) (sym (drop_of_length-le a w)) ∙ h
