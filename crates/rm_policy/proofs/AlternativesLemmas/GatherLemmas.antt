-- The terms of a policy.
use Rattle.std.proofs.Common.{◌≡◌, ◌↔◌, ◌+◌, List, [], ◌∷◌, ◌++◌, length, cond, Bool, true, false, ◌||◌, ap, sym, ◌∙◌}
use Rattle.std.proofs.Common.{arith, ◌⊎◌, inl, inr, ⊎_elim}
use Rattle.std.specs.BTreeSet.{insert_key}
use Rattle.std.specs.FinSet.{contains, from_list, len, contains-from_list, len-empty, len-insert}
use Rattle.std.specs.Ordering.{eq_by_cmp, is_eq}
use Rattle.std.proofs.lemmas.Bool.{false≢true}
use Rattle.std.proofs.lemmas.Cmp.{tied_itself}
use Rattle.rm_policy.proofs.AlternativesLemmas.RisingLemmas.{list_any-insert_key, Rises-insert_key}
use Rattle.rm_policy.proofs.AlternativesLemmas.MaskLemmas.{or_right, or_left, either_has}
use Rattle.rm_policy.proofs.AlternativesLemmas.OrderLemmas.{term_cmp_total, term_cmp_exact, same_term}
use Rattle.rm_policy.specs.Alternatives.Limits.{Mentions, OneMentions, HasTerms}
use Rattle.rm_policy.specs.Alternatives.Masks.{Gathered, GathersTerms, is_listed, AreTermsApart}
use Rattle.rm_policy.specs.Alternatives.Sets.{Rises}
use Rattle.rm_policy.specs.Alternatives.Terms.{term_cmp}
use Rattle.rm_policy.specs.Alternatives.Tree.{Policy, policies_of}
use Rattle.rm_policy.specs.Alternatives.Tree.{policy_view, policies_view, assertion, exactly_one, all}
use Rattle.rm_policy.specs.declared.alternatives.policy.Policy.{the_lemmas}
use Rattle.rm_policy.specs.declared.alternatives.policy.Policies.{Policies as CodePolicies}
use Rattle.rm_policy.specs.declared.alternatives.policy.Policy.TheVariants.{All, ExactlyOne, Assert}
use Rattle.std.proofs.Common.{rules}
use Rattle.rm_policy.specs.declared.alternatives.term.Term.{Term}

itself : (t : Term) → eq_by_cmp term_cmp t t ≡ true
itself t = ap is_eq (tied_itself term_cmp_total t)

gathers-insert : (old : List Term) (t : Term) → GathersTerms (λ u. u ≡ t) old (insert_key term_cmp old t)
gathers-insert old t u =
    let e : is_listed (insert_key term_cmp old t) u ≡ (eq_by_cmp term_cmp u t || is_listed old u) = list_any-insert_key
    term_cmp_total term_cmp_exact u old t in (
      (λ h. ⊎_elim (λ l. inl (same_term u t l)) (λ r. inr r) (either_has (eq_by_cmp term_cmp u t) (is_listed old u)
          (sym e ∙ h))),
      (λ h. e ∙ ⊎_elim (λ l. or_left (eq_by_cmp term_cmp u t) (is_listed old u) (ap (λ v. eq_by_cmp term_cmp v t) l
          ∙ itself t))
          (λ r. or_right (eq_by_cmp term_cmp u t) r) h),
    )

gathers-none : (old : List Term) → GathersTerms (λ u. ⊥) old old
gathers-none old u = ((λ h. inr h), (λ h. ⊎_elim (λ l. absurd l) (λ r. r) h))

OneMentions-push : (ps : List Policy) (p : Policy) (t : Term) → OneMentions (policies_of (ps ++ p ∷ [])) t
    ↔ (OneMentions (policies_of ps) t ⊎ Mentions p t)
OneMentions-push [] p t = ((λ h. ⊎_elim (λ l. inr l) (λ r. absurd r) h), (λ h. ⊎_elim (λ l. absurd l) (λ r. inl r) h))
OneMentions-push (q ∷ ps) p t =
    let rest = OneMentions-push ps p t in (
      (λ h. ⊎_elim (λ l. inl (inl l)) (λ r. ⊎_elim (λ a. inl (inr a)) (λ b. inr b) (rest.0 r)) h),
      (λ h. ⊎_elim (λ l. ⊎_elim (λ a. inl a) (λ b. inr (rest.1 (inl b))) l) (λ r. inr (rest.1 (inr r))) h),
    )

-- one policy more
gathers-more : (ps : List Policy) (p : Policy) (a b c : List Term) → GathersTerms (OneMentions (policies_of ps)) a b
    → GathersTerms (Mentions p) b c
    → GathersTerms (OneMentions (policies_of (ps ++ p ∷ []))) a c
gathers-more ps p a b c f g t =
    let push = OneMentions-push ps p t in (
      (λ h. ⊎_elim (λ l. inl (push.1 (inr l))) (λ r. ⊎_elim (λ x. inl (push.1 (inl x))) (λ y. inr y) ((f t).0 r))
          ((g t).0 h)),
      (λ h. (g t).1 (⊎_elim (λ l. ⊎_elim (λ x. inr ((f t).1 (inl x))) (λ y. inl y) (push.0 l))
          (λ r. inr ((f t).1 (inr r))) h)),
    )

pub gathered-insert : (old : List Term) (t : Term) → Rises term_cmp old
    → Gathered (λ u. u ≡ t) old (insert_key term_cmp old t)
gathered-insert old t up = record {
  rises = Rises-insert_key term_cmp_total term_cmp_exact old t up;
  terms = gathers-insert old t;
}

pub gathered-none : (old : List Term) → Rises term_cmp old → Gathered (λ u. ⊥) old old
gathered-none old up = record { rises = up; terms = gathers-none old }

pub gathered-more : (ps : List Policy) (p : Policy) (a b c : List Term) → Gathered (OneMentions (policies_of ps)) a b
    → Gathered (Mentions p) b c → Gathered (OneMentions (policies_of (ps ++ p ∷ []))) a c
gathered-more ps p a b c f g = record { rises = g.rises; terms = gathers-more ps p a b c f.terms g.terms }

-- listed terms are as many as their set
pub len-terms : (ts : List Term) → AreTermsApart ts → len (from_list {R = term_cmp} ts) ≡ length ts
len-terms [] h = len-empty term_cmp
len-terms (t ∷ ts) h =
    let lacks : contains (from_list {R = term_cmp} ts) t ≡ false = contains-from_list term_cmp_total ts t ∙ h.0 in
    let more : len (from_list {R = term_cmp} (t ∷ ts)) ≡ len (from_list {R = term_cmp} ts) + 1 =
    len-insert term_cmp_total (from_list ts) t ∙ ap (λ c. cond c (len (from_list {R = term_cmp} ts))
    (len (from_list {R = term_cmp} ts) + 1)) lacks in
    let rest : len (from_list {R = term_cmp} ts) ≡ length ts = len-terms ts h.1 in
    omega (arith, more, rest)

-- what was gathered in an empty list are the policy's terms
pub has_terms : (p : Policy) (ts : List Term) → AreTermsApart ts → GathersTerms (Mentions p) [] ts
    → HasTerms p (length ts)
has_terms p ts h g = (
  from_list ts,
  (λ t. let e : contains (from_list ts) t ≡ is_listed ts t = contains-from_list term_cmp_total ts t in
      ((λ m. e ∙ (g t).1 (inl m)), (λ k. ⊎_elim (λ l. l) (λ r. absurd (false≢true r)) ((g t).0 (sym e ∙ k))))),
  sym (len-terms ts h),
)

-- the code's policies, by their variants
pub view-Assert : (t : Term) (o : Bool) → policy_view (Assert t o) ≡ assertion t o
view-Assert t o = search (rules, the_lemmas)

pub view-ExactlyOne : (v : CodePolicies) → policy_view (ExactlyOne v) ≡ exactly_one (policies_view v.items.items)
view-ExactlyOne v = search (rules, the_lemmas)

pub view-All : (v : CodePolicies) → policy_view (All v) ≡ all (policies_view v.items.items)
view-All v = search (rules, the_lemmas)
