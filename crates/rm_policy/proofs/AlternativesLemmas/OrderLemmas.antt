-- The orders of terms and of sets of terms are total, and only equal ones tie.
use Rattle.std.proofs.Common.{◌≡◌, ℕ, List, [], ◌∷◌, Bool, true, false, refl, ap, sym, ◌∙◌, eqb}
use Rattle.std.specs.List.{list_any}
use Rattle.std.specs.Ordering.{eq_by_cmp}
use Rattle.std.specs.Ordering.{is_eq}
use Rattle.std.specs.declared.cmp.Ordering.TheVariants.{Less, Equal, Greater}
use Rattle.std.proofs.lemmas.Bool.{false≢true}
use Rattle.std.specs.Cmp.{IsTotalOrder}
use Rattle.std.proofs.lemmas.Cmp.{on_total, lists_total, nat_list_cmp_total}
use Rattle.std.specs.FinSet.{IsAntisymmetric, nat_cmp-IsAntisymmetric, slice_cmp-IsAntisymmetric, items}
use Rattle.std.specs.FinSet.{contains-items, same_set}
use Rattle.rm_policy.specs.declared.assertion.Assurance.{Assurance}
use Rattle.rm_policy.specs.declared.assertion.Assurance.TheVariants.{Unsaid, ExactlyOnce, AtLeastOnce, AtMostOnce}
use Rattle.rm_policy.specs.Alternatives.Sets.{TermSet, set_cmp}
use Rattle.rm_policy.specs.Alternatives.Terms.{term_cmp, term_key, assurance_place, bool_place}
use Rattle.rm_policy.specs.declared.alternatives.term.Term.{Term}
use Rattle.rm_policy.specs.declared.alternatives.term.Term.TheVariants.{Rm, Other}

pub term_cmp_total : IsTotalOrder term_cmp
term_cmp_total = on_total term_key (lists_total nat_list_cmp_total)

pub set_cmp_total : IsTotalOrder set_cmp
set_cmp_total = on_total items (lists_total term_cmp_total)

-- the assurance of a place, and the truth value of one
assurance_at : ℕ → Assurance
assurance_at n = elim (eqb n 0) [
  | true ↦ Unsaid
  | false ↦ elim (eqb n 1) [
    | true ↦ ExactlyOnce
    | false ↦ elim (eqb n 2) [ true ↦ AtLeastOnce | false ↦ AtMostOnce ]
  ]
]

assurance_back : (a : Assurance) → assurance_at (assurance_place a) ≡ a
unfolding assurance_at
assurance_back Unsaid = refl
assurance_back ExactlyOnce = refl
assurance_back AtLeastOnce = refl
assurance_back AtMostOnce = refl

bool_back : (b : Bool) → eqb (bool_place b) 1 ≡ b
bool_back true = refl
bool_back false = refl

-- the term of a key
term_at : List (List ℕ) → Term
term_at ([] ∷ (a ∷ b ∷ more) ∷ others) = Rm (assurance_at a) (eqb b 1)
term_at ((x ∷ xs) ∷ space ∷ local ∷ others) = Other (record { space = space; local = local })
term_at keys = Rm Unsaid false

term_back : (t : Term) → term_at (term_key t) ≡ t
unfolding term_at
term_back (Rm a b) = λ i. Rm (assurance_back a i) (bool_back b i)
term_back (Other name) = refl

pub term_cmp_exact : IsAntisymmetric term_cmp
term_cmp_exact t u tie =
    sym (term_back t)
    ∙ ap term_at (slice_cmp-IsAntisymmetric (slice_cmp-IsAntisymmetric nat_cmp-IsAntisymmetric) (term_key t)
    (term_key u) tie)
    ∙ term_back u

-- sets with one list are one
pub same_items : (x y : TermSet) → items x ≡ items y → x ≡ y
same_items x y e =
    same_set term_cmp_total term_cmp_exact x y (λ q.
    contains-items x q ∙ ap (λ ks. list_any (eq_by_cmp term_cmp q) ks) e ∙ sym (contains-items y q))

pub set_cmp_exact : IsAntisymmetric set_cmp
set_cmp_exact x y tie = same_items x y (slice_cmp-IsAntisymmetric term_cmp_exact (items x) (items y) tie)

-- what ties is the same
pub same_term : (t u : Term) → eq_by_cmp term_cmp t u ≡ true → t ≡ u
same_term t u h = elim (term_cmp t u) as (λ o. term_cmp t u ≡ o → is_eq o ≡ true → t ≡ u) [
  | Less ↦ λ _ f. absurd (false≢true f)
  | Equal ↦ λ e _. term_cmp_exact t u e
  | Greater ↦ λ _ f. absurd (false≢true f)
] refl h
