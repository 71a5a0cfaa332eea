-- The masks of operators, a policy at a time.
use Rattle.std.proofs.Common.{Err, ◌==◌, ◌≡◌, ℕ, zero, suc, ◌<◌, ◌≤◌, ◌+◌, ◌^◌, true, false, Bool, List, [], ◌∷◌}
use Rattle.std.proofs.Common.{◌++◌, length, get_or, take, map, refl, ap, sym, ◌∙◌, subst, arith, ◌⊎◌, inl, inr}
use Rattle.std.proofs.Common.{⊎_elim, add-one}
use Rattle.std.specs.Int.RustNames.{bit_or}
use Rattle.std.specs.Cmp.{nat_cmp_is}
use Rattle.std.specs.declared.cmp.Ordering.TheVariants.{Less}
use Rattle.std.specs.FinSet.{empty, insert, union, contains, len}
use Rattle.std.proofs.lemmas.Bool.{false≢true}
use Rattle.std.proofs.lemmas.Bool.Decides.{nat_tests}
use Rattle.std.proofs.Math.Pow.{pow-lt}
use Rattle.std.proofs.Common.{pow_pos}
use Rattle.std.proofs.lemmas.Nat.{or_lt}
use Rattle.rm_policy.proofs.AlternativesLemmas.AdmitsLemmas.{OneAdmits-push, OneAdmits-of_push, EachAdmits-push}
use Rattle.rm_policy.proofs.AlternativesLemmas.AdmitsLemmas.{EachAdmits-of_push}
use Rattle.rm_policy.proofs.AlternativesLemmas.BitLemmas.{chosen-or, choices-of, choices-has, len-choices, chosen-zero}
use Rattle.rm_policy.proofs.AlternativesLemmas.BitLemmas.{chosen-pow}
use Rattle.rm_policy.proofs.AlternativesLemmas.MaskLemmas.{apart_rising, or_right, or_left, either_has}
use Rattle.rm_policy.proofs.AlternativesLemmas.OrderLemmas.{set_cmp_total, set_cmp_exact}
use Rattle.rm_policy.proofs.AlternativesLemmas.SetLemmas.{len-part-le}
use Rattle.rm_policy.specs.Alternatives.Admits.{Admits, EachAdmits}
use Rattle.rm_policy.specs.Alternatives.Limits.{HasMore, HasTooMany, OneHasTooMany, Mentions, OneMentions}
use Rattle.rm_policy.specs.Alternatives.Masks.{has_mask, AreTermsApart, AreExactly, AreMany, OfEither, OfBoth}
use Rattle.rm_policy.specs.Alternatives.Masks.{AreListed}
use Rattle.rm_policy.specs.Alternatives.Masks.{MasksOf, MasksAnswer, Gathers, GathersAnswer, SoFar, chosen, choices_of}
use Rattle.rm_policy.specs.Alternatives.Tree.{policy_view, Policy, Policies, all, exactly_one, assertion, none, and}
use Rattle.rm_policy.specs.Alternatives.Tree.{first}
use Rattle.rm_policy.specs.Alternatives.Tree.{policies_of}
use Rattle.rm_policy.specs.declared.alternatives.policy.Policy.{Policy as CodePolicy}
use Rattle.rm_policy.specs.declared.alternatives.term.Term.{Term}
use Rattle.rm_policy.specs.declared.alternatives.error.WspError.{WspError}
use Rattle.rm_policy.specs.declared.alternatives.error.WspError.TheVariants.{Memory, Envelope, Malformed}
use Rattle.rm_policy.specs.declared.alternatives.error.WspError.TheVariants.{SecurityUnsupported, TooLarge}
use Rattle.rm_policy.specs.declared.alternatives.error.WspError.TheVariants.{TooManyTerms}
use Rattle.rm_policy.specs.declared.alternatives.error.WspError.TheVariants.{TooManyAlternatives}

-- ---- a policy has no more alternatives than masks
pub not_more : (ts : List Term) (p : Policy) (ms : List ℕ) → AreTermsApart ts → MasksOf ts p ms → HasMore 256 p → ⊥
not_more ts p ms t m h =
    let c = h.0 in
    let few : len (choices_of ts ms) ≡ length ms = len-choices ts ms t m.below (apart_rising ms m.rises) in
    let part : len c ≤ len (choices_of ts ms) = len-part-le set_cmp_total set_cmp_exact c (choices_of ts ms) (λ x e.
    let r = m.whole x (h.1 x e) in
    subst (λ y. contains (choices_of ts ms) y ≡ true) (sym r.2) (choices-has ts ms r.0 r.1)) in
    let small : length ms ≤ 256 = m.small in
    let more : 256 < len c = h.2 in
    omega (arith, few, part, small, more)

-- and more where masks are many
pub more_from : (ts : List Term) (p : Policy) (P : ℕ → Type 0) → AreTermsApart ts → AreMany P
    → ((m : ℕ) → P m → m < 2 ^ length ts) → ((m : ℕ) → P m → Admits p (chosen ts m)) → HasMore 256 p
more_from ts p P t many below sound = (
  choices_of ts many.masks,
  (λ x e. let r = choices-of ts many.masks x e in subst (Admits p) (sym r.2) (sound r.0 (many.sound r.0 r.1))),
  (let few : len (choices_of ts many.masks) ≡ length many.masks = len-choices ts many.masks t (λ m h. below m
      (many.sound m h)) (apart_rising many.masks many.rises) in
      let more : 256 < length many.masks = many.many in
      omega (arith, few, more)),
)

-- ---- one policy more
module _ (ts : List Term) (ps : List Policy) (p : Policy) (a b : List ℕ) where
  pub one_below : MasksOf ts (exactly_one (policies_of ps)) a → MasksOf ts p b → (m : ℕ) → OfEither a b m
      → m < 2 ^ length ts
  one_below f g m h = ⊎_elim (λ l. f.below m l) (λ r. g.below m r) (either_has (has_mask a m) (has_mask b m) h)

  pub one_sound : MasksOf ts (exactly_one (policies_of ps)) a → MasksOf ts p b → (m : ℕ) → OfEither a b m
      → Admits (exactly_one (policies_of (ps ++ p ∷ []))) (chosen ts m)
  one_sound f g m h =
      OneAdmits-push ps p (chosen ts m)
      (⊎_elim (λ l. inl (f.sound m l)) (λ r. inr (g.sound m r)) (either_has (has_mask a m) (has_mask b m) h))

  pub one_more : (c : List ℕ) → MasksOf ts (exactly_one (policies_of ps)) a → MasksOf ts p b
      → AreExactly (OfEither a b) c
      → MasksOf ts (exactly_one (policies_of (ps ++ p ∷ []))) c
  one_more c f g e = record {
    rises = e.rises;
    small = e.small;
    below = λ m h. one_below f g m (e.sound m h);
    sound = λ m h. one_sound f g m (e.sound m h);
    whole = λ x h. ⊎_elim
        (λ l. let r = f.whole x l in (r.0, e.whole r.0 (or_left (has_mask a r.0) (has_mask b r.0) r.1), r.2))
        (λ r. let s = g.whole x r in (s.0, e.whole s.0 (or_right (has_mask a s.0) s.1), s.2))
        (OneAdmits-of_push ps p x h);
  }

  pub each_below : MasksOf ts (all (policies_of ps)) a → MasksOf ts p b → (m : ℕ) → OfBoth a b m → m < 2 ^ length ts
  each_below f g m h =
      subst (λ k. k < 2 ^ length ts) (sym h.4) (or_lt (length ts) h.0 h.1 (f.below h.0 h.2) (g.below h.1 h.3))

  pub each_sound : MasksOf ts (all (policies_of ps)) a → MasksOf ts p b → (m : ℕ) → OfBoth a b m
      → Admits (all (policies_of (ps ++ p ∷ []))) (chosen ts m)
  each_sound f g m h =
      subst (EachAdmits (policies_of (ps ++ p ∷ []))) (sym (ap (chosen ts) h.4 ∙ chosen-or ts h.0 h.1))
      (EachAdmits-push ps p (chosen ts h.0) (chosen ts h.1) (f.sound h.0 h.2) (g.sound h.1 h.3))

  pub each_more : (c : List ℕ) → MasksOf ts (all (policies_of ps)) a → MasksOf ts p b → AreExactly (OfBoth a b) c
      → MasksOf ts (all (policies_of (ps ++ p ∷ []))) c
  each_more c f g e = record {
    rises = e.rises;
    small = e.small;
    below = λ m h. each_below f g m (e.sound m h);
    sound = λ m h. each_sound f g m (e.sound m h);
    whole = λ x h.
        let s = EachAdmits-of_push ps p x h in
        let y = f.whole s.0 s.2 in
        let z = g.whole s.1 s.3 in (
          bit_or y.0 z.0,
          e.whole (bit_or y.0 z.0) (y.0, z.0, y.1, z.1, refl),
          s.4 ∙ ap (λ w. union w s.1) y.2 ∙ ap (union (chosen ts y.0)) z.2 ∙ sym (chosen-or ts y.0 z.0),
        );
  }

-- ---- limits
OneHasTooMany-of_push : (n : ℕ) (ps : List Policy) (p : Policy) → OneHasTooMany n (policies_of (ps ++ p ∷ []))
    → OneHasTooMany n (policies_of ps) ⊎ HasTooMany n p
OneHasTooMany-of_push n [] p h = ⊎_elim (λ l. inr l) (λ r. absurd r) h
OneHasTooMany-of_push n (q ∷ ps) p h =
    ⊎_elim (λ l. inl (inl l)) (λ r. ⊎_elim (λ a. inl (inr a)) (λ b. inr b) (OneHasTooMany-of_push n ps p r)) h

-- a prefix of one policy more is a prefix without it, or all
first_push : (k : ℕ) (ps : List Policy) (p : Policy)
    → (first k (policies_of (ps ++ p ∷ [])) ≡ first k (policies_of ps)) ⊎ (first k (policies_of (ps ++ p ∷ []))
    ≡ policies_of (ps ++ p ∷ []))
first_push zero ps p = inl refl
first_push (suc k) [] p = elim k as (λ k. (first (suc k) (and p none) ≡ none) ⊎ (first (suc k) (and p none)
    ≡ and p none)) [
      | zero ↦ inr refl
      | suc j ↦ inr refl
    ]
first_push (suc k) (q ∷ ps) p = ⊎_elim (λ l. inl (ap (and q) l)) (λ r. inr (ap (and q) r)) (first_push k ps p)

pub so_far-more : (op : Policies → Policy) (ts : List Term) (ps : List Policy) (p : Policy) (a c : List ℕ)
    → AreTermsApart ts
    → SoFar op ts ps a → (HasTooMany 256 p → ⊥) → MasksOf ts (op (policies_of (ps ++ p ∷ []))) c
    → SoFar op ts (ps ++ p ∷ []) c
so_far-more op ts ps p a c t s fits m = record {
  masks = m;
  inner = λ h. ⊎_elim s.inner fits (OneHasTooMany-of_push 256 ps p h);
  prefixes = λ k h. ⊎_elim
      (λ e. s.prefixes k (subst (λ q. HasMore 256 (op q)) e h))
      (λ e. not_more ts _ c t m (subst (λ q. HasMore 256 (op q)) e h)) (first_push k ps p);
}

-- ---- a policy among others
module _ {X : Type 0} (f : X → Policy) where
  by_suc : (xs : List X) (i : ℕ) (x : X) → i < length xs → x ≡ get_or xs i x → take (suc i) (map f xs)
      ≡ take i (map f xs) ++ f x ∷ []
  by_suc [] i x h e = absurd (omega arith)
  by_suc (y ∷ xs) zero x h e = ap (λ z. f z ∷ []) (sym e)
  by_suc (y ∷ xs) (suc i) x h e = ap (λ l. f y ∷ l) (by_suc xs i x (omega arith) e)

  pub take_more_map : (xs : List X) (i : ℕ) (x : X) → i < length xs → x ≡ get_or xs i x → take (i + 1) (map f xs)
      ≡ take i (map f xs) ++ f x ∷ []
  take_more_map xs i x h e = rw add-one (by_suc xs i x h e)

  pub at_too_many : (n : ℕ) (xs : List X) (i : ℕ) (x : X) → i < length xs → x ≡ get_or xs i x → HasTooMany n (f x)
      → OneHasTooMany n (policies_of (map f xs))
  at_too_many n [] i x h e m = absurd (omega arith)
  at_too_many n (y ∷ xs) zero x h e m = inl (subst (λ z. HasTooMany n (f z)) e m)
  at_too_many n (y ∷ xs) (suc i) x h e m = inr (at_too_many n xs i x (omega arith) e m)

  pub at_mentions : (t : Term) (xs : List X) (i : ℕ) (x : X) → i < length xs → x ≡ get_or xs i x → Mentions (f x) t
      → OneMentions (policies_of (map f xs)) t
  at_mentions t [] i x h e m = absurd (omega arith)
  at_mentions t (y ∷ xs) zero x h e m = inl (subst (λ z. Mentions (f z) t) e m)
  at_mentions t (y ∷ xs) (suc i) x h e m = inr (at_mentions t xs i x (omega arith) e m)

pub first_take : (k : ℕ) (ps : List Policy) → first k (policies_of ps) ≡ policies_of (take k ps)
first_take zero [] = refl
first_take zero (p ∷ ps) = refl
first_take (suc k) [] = refl
first_take (suc k) (p ∷ ps) = ap (and p) (first_take k ps)

take_all_map : {X : Type 0} (f : X → Policy) (xs : List X) (i : ℕ) → length xs ≤ i → take i (map f xs) ≡ map f xs
take_all_map f [] zero h = refl
take_all_map f [] (suc i) h = refl
take_all_map f (x ∷ xs) zero h = absurd (omega arith)
take_all_map f (x ∷ xs) (suc i) h = ap (λ l. f x ∷ l) (take_all_map f xs i (omega arith))

-- where a prefix has too many, with the last of its policies
pub prefix_has_more : {X : Type 0} (op : Policies → Policy) (f : X → Policy) (xs : List X) (i : ℕ) (x : X)
    → i < length xs → x ≡ get_or xs i x
    → HasMore 256 (op (policies_of (take i (map f xs) ++ f x ∷ []))) → (k : ℕ)
    × HasMore 256 (op (first k (policies_of (map f xs))))
prefix_has_more op f xs i x h e m = (
  i + 1,
  subst (λ q. HasMore 256 (op q)) (sym (first_take (i + 1) (map f xs)
      ∙ ap policies_of (take_more_map f xs i x h e))) m,
)

-- ---- the whole
pub one_whole : {X : Type 0} (f : X → Policy) (ts : List Term) (xs : List X) (i : ℕ) (ms : List ℕ) → length xs ≤ i
    → SoFar exactly_one ts (take i (map f xs)) ms
    → MasksOf ts (exactly_one (policies_of (map f xs))) ms × (HasTooMany 256 (exactly_one (policies_of (map f xs))) → ⊥)
one_whole f ts xs i ms h s =
    let w = subst (λ ps. SoFar exactly_one ts ps ms) (take_all_map f xs i h) s in
    (w.masks, λ m. ⊎_elim w.inner (λ r. w.prefixes r.0 r.1) m)

pub each_whole : {X : Type 0} (f : X → Policy) (ts : List Term) (xs : List X) (i : ℕ) (ms : List ℕ) → length xs ≤ i
    → SoFar all ts (take i (map f xs)) ms
    → MasksOf ts (all (policies_of (map f xs))) ms × (HasTooMany 256 (all (policies_of (map f xs))) → ⊥)
each_whole f ts xs i ms h s =
    let w = subst (λ ps. SoFar all ts ps ms) (take_all_map f xs i h) s in
    (w.masks, λ m. ⊎_elim w.inner (λ r. w.prefixes r.0 r.1) m)

-- ---- an error that is handed on
pub handed : (ts : List Term) (p q : Policy) → (HasTooMany 256 p → HasTooMany 256 q) → (e : WspError)
    → MasksAnswer ts p (Err e) → MasksAnswer ts q (Err e)
handed ts p q f Memory a = tt
handed ts p q f (Envelope e) a = a
handed ts p q f Malformed a = a
handed ts p q f (SecurityUnsupported name) a = a
handed ts p q f (TooLarge n) a = a
handed ts p q f (TooManyTerms n) a = a
handed ts p q f TooManyAlternatives a = f a

pub gathered : (ts : List Term) (q : Policy) (P : ℕ → Type 0) → (AreMany P → HasTooMany 256 q) → (e : WspError)
    → GathersAnswer P (Err e) → MasksAnswer ts q (Err e)
gathered ts q P f Memory a = tt
gathered ts q P f (Envelope e) a = a
gathered ts q P f Malformed a = a
gathered ts q P f (SecurityUnsupported name) a = a
gathered ts q P f (TooLarge n) a = a
gathered ts q P f (TooManyTerms n) a = a
gathered ts q P f TooManyAlternatives a = f a

pub gathered_in : (ts : List Term) (q : Policy) (P : ℕ → Type 0) (ms : List ℕ) → (AreMany P → HasTooMany 256 q)
    → (e : WspError) → Gathers P ms (Err e) → MasksAnswer ts q (Err e)
gathered_in ts q P ms f Memory a = tt
gathered_in ts q P ms f (Envelope e) a = a
gathered_in ts q P ms f Malformed a = a
gathered_in ts q P ms f (SecurityUnsupported name) a = a
gathered_in ts q P ms f (TooLarge n) a = a
gathered_in ts q P ms f (TooManyTerms n) a = a
gathered_in ts q P ms f TooManyAlternatives a = f a

-- ---- where it begins
below_some : (n : ℕ) → 0 < 2 ^ n
below_some n = pow_pos n

no_policies : (op : Policies → Policy) → (k : ℕ) → first k none ≡ none
no_policies op zero = refl
no_policies op (suc k) = refl

pub one_start : (ts : List Term) → AreTermsApart ts → SoFar exactly_one ts [] []
one_start ts t =
    let m : MasksOf ts (exactly_one none) [] = record {
      rises = tt;
      small = omega arith;
      below = λ m h. absurd (false≢true h);
      sound = λ m h. absurd (false≢true h);
      whole = λ x h. absurd h;
    } in
    record {
      masks = m;
      inner = λ h. h;
      prefixes = λ k h. not_more ts _ [] t m (subst (λ q. HasMore 256 (exactly_one q)) (no_policies exactly_one k) h);
    }

zero_mask : (m : ℕ) → has_mask (0 ∷ []) m ≡ true → 0 ≡ m
zero_mask m h = grind (arith, nat_tests, h)

pub each_start : (ts : List Term) → AreTermsApart ts → SoFar all ts [] (0 ∷ [])
each_start ts t =
    let m : MasksOf ts (all none) (0 ∷ []) = record {
      rises = (tt, tt);
      small = omega arith;
      below = λ m h. subst (λ k. k < 2 ^ length ts) (zero_mask m h) (below_some (length ts));
      sound = λ m h. subst (λ k. chosen ts k ≡ empty) (zero_mask m h) (chosen-zero ts);
      whole = λ x h. (0, refl, h ∙ sym (chosen-zero ts));
    } in
    record {
      masks = m;
      inner = λ h. h;
      prefixes = λ k h. not_more ts _ (0 ∷ []) t m (subst (λ q. HasMore 256 (all q)) (no_policies all k) h);
    }

-- ---- assertions
one_mask : (n m : ℕ) → has_mask (n ∷ []) m ≡ true → n ≡ m
one_mask n m h = grind (arith, nat_tests, h)

has_first : (n : ℕ) (ms : List ℕ) → has_mask (n ∷ ms) n ≡ true
has_first n ms = grind (arith, nat_tests)

two_masks : (n m : ℕ) → has_mask (0 ∷ n ∷ []) m ≡ true → (0 ≡ m) ⊎ (n ≡ m)
two_masks n m h = ⊎_elim (λ l. inl (grind (arith, nat_tests, l))) (λ r. inr (one_mask n m r)) (either_has (0 == m)
    (has_mask (n ∷ []) m) h)

pub term_alone : (ts : List Term) (t : Term) (o : Bool) (k : ℕ) → o ≡ false → k < length ts → ((d : Term)
    → get_or ts k d ≡ t)
    → MasksOf ts (assertion t o) (2 ^ k ∷ [])
term_alone ts t o k off h at =
    let is : chosen ts (2 ^ k) ≡ insert empty t = chosen-pow ts k t h ∙ ap (insert empty) (at t) in
    record {
      rises = (tt, tt);
      small = omega arith;
      below = λ m e. subst (λ n. n < 2 ^ length ts) (one_mask (2 ^ k) m e) (pow-lt h);
      sound = λ m e. inl (subst (λ n. chosen ts n ≡ insert empty t) (one_mask (2 ^ k) m e) is);
      whole = λ x a. ⊎_elim (λ l. (2 ^ k, has_first (2 ^ k) [], l ∙ sym is)) (λ r. absurd (false≢true (sym off ∙ r.0)))
          a;
    }

pub term_or_none : (ts : List Term) (t : Term) (o : Bool) (k : ℕ) → o ≡ true → k < length ts → ((d : Term)
    → get_or ts k d ≡ t)
    → MasksOf ts (assertion t o) (0 ∷ 2 ^ k ∷ [])
term_or_none ts t o k on h at =
    let is : chosen ts (2 ^ k) ≡ insert empty t = chosen-pow ts k t h ∙ ap (insert empty) (at t) in
    let some : 0 < 2 ^ k = below_some k in
    record {
      rises = ((sym (nat_cmp_is 0 (2 ^ k) Less some), tt), (tt, tt));
      small = omega arith;
      below = λ m e. ⊎_elim (λ l. subst (λ n. n < 2 ^ length ts) l (below_some (length ts))) (λ r. subst
          (λ n. n < 2 ^ length ts) r (pow-lt h)) (two_masks (2 ^ k) m e);
      sound = λ m e. ⊎_elim (λ l. inr (on, subst (λ n. chosen ts n ≡ empty) l (chosen-zero ts)))
          (λ r. inl (subst (λ n. chosen ts n ≡ insert empty t) r is)) (two_masks (2 ^ k) m e);
      whole = λ x a. ⊎_elim (λ l. (2 ^ k, or_right (0 == 2 ^ k) (has_first (2 ^ k) []), l ∙ sym is)) (λ r. (
        0,
        refl,
        r.1
            ∙ sym (chosen-zero ts),
      )) a;
    }

-- ---- what an operator lists, its policies list
pub one_listed : (ts : List Term) (xs : List CodePolicy) (i : ℕ) (x : CodePolicy)
    → AreListed ts (exactly_one (policies_of (map policy_view xs)))
    → i < length xs → x ≡ get_or xs i x → AreListed ts (policy_view x)
one_listed ts xs i x l h e = record { each = λ t m. l.each t (at_mentions policy_view t xs i x h e m) }

pub each_listed : (ts : List Term) (xs : List CodePolicy) (i : ℕ) (x : CodePolicy)
    → AreListed ts (all (policies_of (map policy_view xs)))
    → i < length xs → x ≡ get_or xs i x → AreListed ts (policy_view x)
each_listed ts xs i x l h e = record { each = λ t m. l.each t (at_mentions policy_view t xs i x h e m) }
