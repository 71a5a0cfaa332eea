-- What All and ExactlyOne admit over one policy more.
use Rattle.std.proofs.Common.{◌≡◌, List, [], ◌∷◌, ◌++◌, refl, ap, sym, ◌∙◌, ◌⊎◌, inl, inr, ⊎_elim}
use Rattle.std.specs.FinSet.{empty, union}
use Rattle.rm_policy.proofs.AlternativesLemmas.OrderLemmas.{term_cmp_total, term_cmp_exact}
use Rattle.rm_policy.proofs.AlternativesLemmas.SetLemmas.{union-empty_left, union-empty_right, union-union}
use Rattle.rm_policy.specs.Alternatives.Admits.{Admits, OneAdmits, EachAdmits}
use Rattle.rm_policy.specs.Alternatives.Sets.{TermSet}
use Rattle.rm_policy.specs.Alternatives.Tree.{Policy, policies_of}

pub OneAdmits-push : (ps : List Policy) (p : Policy) (x : TermSet) → OneAdmits (policies_of ps) x ⊎ Admits p x
    → OneAdmits (policies_of (ps ++ p ∷ [])) x
OneAdmits-push [] p x h = ⊎_elim (λ l. absurd l) (λ r. inl r) h
OneAdmits-push (q ∷ ps) p x h =
    ⊎_elim (λ l. ⊎_elim (λ a. inl a) (λ b. inr (OneAdmits-push ps p x (inl b))) l) (λ r. inr (OneAdmits-push ps p x
    (inr r))) h

pub OneAdmits-of_push : (ps : List Policy) (p : Policy) (x : TermSet) → OneAdmits (policies_of (ps ++ p ∷ [])) x
    → OneAdmits (policies_of ps) x ⊎ Admits p x
OneAdmits-of_push [] p x h = ⊎_elim (λ l. inr l) (λ r. absurd r) h
OneAdmits-of_push (q ∷ ps) p x h =
    ⊎_elim (λ l. inl (inl l))
    (λ r. ⊎_elim (λ a. inl (inr a)) (λ b. inr b) (OneAdmits-of_push ps p x r)) h

pub EachAdmits-push : (ps : List Policy) (p : Policy) (y z : TermSet) → EachAdmits (policies_of ps) y → Admits p z
    → EachAdmits (policies_of (ps ++ p ∷ [])) (union y z)
EachAdmits-push [] p y z h g = (
  z,
  empty,
  g,
  refl,
  ap (λ s. union s z) h ∙ union-empty_left term_cmp_total term_cmp_exact z
      ∙ sym (union-empty_right term_cmp_total term_cmp_exact z),
)
EachAdmits-push (q ∷ ps) p y z h g = (
  h.0,
  union h.1 z,
  h.2,
  EachAdmits-push ps p h.1 z h.3 g,
  ap (λ s. union s z) h.4 ∙ sym (union-union term_cmp_total term_cmp_exact h.0 h.1 z),
)

pub EachAdmits-of_push : (ps : List Policy) (p : Policy) (x : TermSet) → EachAdmits (policies_of (ps ++ p ∷ [])) x
    → (y : TermSet) × (z : TermSet) × EachAdmits (policies_of ps) y × Admits p z × (x ≡ union y z)
EachAdmits-of_push [] p x h = (
  empty,
  h.0,
  refl,
  h.2,
  h.4 ∙ ap (union h.0) h.3 ∙ union-empty_right term_cmp_total term_cmp_exact h.0
      ∙ sym (union-empty_left term_cmp_total term_cmp_exact h.0),
)
EachAdmits-of_push (q ∷ ps) p x h =
    let r = EachAdmits-of_push ps p h.1 h.3 in (
      union h.0 r.0,
      r.1,
      (h.0, r.0, h.2, r.2, refl),
      r.3,
      h.4 ∙ ap (union h.0) r.4 ∙ union-union term_cmp_total term_cmp_exact h.0 r.0 r.1,
    )
