-- Normal forms tell policies apart.
use Rattle.std.proofs.Common.{◌≡◌, List, [], ◌∷◌, Bool, true, false, ◌||◌, refl, ap, sym, ◌∙◌, subst, inl, inr, ⊎_elim}
use Rattle.std.specs.declared.cmp.Ordering.TheVariants.{Less, Equal, Greater}
use Rattle.std.specs.Cmp.{IsTotalOrder}
use Rattle.std.specs.FinSet.{IsAntisymmetric, slice_cmp-IsAntisymmetric, contains, from_list, contains-from_list}
use Rattle.std.specs.List.{AllByRecursion, list_any}
use Rattle.std.specs.Ordering.{eq_by_cmp, is_eq}
use Rattle.std.proofs.lemmas.Bool.{false≢true}
use Rattle.std.proofs.lemmas.Cmp.{lists_total, tied_itself}
use Rattle.rm_policy.proofs.AlternativesLemmas.MaskLemmas.{or_right}
use Rattle.rm_policy.proofs.AlternativesLemmas.OrderLemmas.{term_cmp_total, term_cmp_exact}
use Rattle.rm_policy.proofs.AlternativesLemmas.RisingLemmas.{Rises-same}
use Rattle.rm_policy.specs.Alternatives.Laws.{AdmitSame}
use Rattle.rm_policy.specs.Alternatives.Normal.{Holds, IsNormal}
use Rattle.rm_policy.specs.Alternatives.Sets.{TermSet, Rises, list_cmp}
use Rattle.rm_policy.specs.Alternatives.Terms.{term_cmp}
use Rattle.rm_policy.specs.Alternatives.Tree.{Policy}
use Rattle.rm_policy.specs.declared.alternatives.term.Term.{Term}

pub list_cmp_total : IsTotalOrder list_cmp
list_cmp_total = lists_total term_cmp_total

pub list_cmp_exact : IsAntisymmetric list_cmp
list_cmp_exact = slice_cmp-IsAntisymmetric term_cmp_exact

-- rising lists of one set are one
same_set_list : (xs ys : List Term) → Rises term_cmp xs → Rises term_cmp ys → from_list {R = term_cmp} xs ≡ from_list ys
    → xs ≡ ys
same_set_list xs ys h g e = Rises-same term_cmp_total term_cmp_exact xs ys h g (λ q.
    sym (contains-from_list term_cmp_total xs q) ∙ ap (λ (s : TermSet). contains s q) e
    ∙ contains-from_list term_cmp_total ys q)

-- a list is among others, where its set is
pub found : (x : List Term) (lists : List (List Term)) → Rises term_cmp x → AllByRecursion (Rises term_cmp) lists
    → Holds lists (from_list x) → list_any (eq_by_cmp list_cmp x) lists ≡ true
found x [] h g f = absurd f
found x (y ∷ lists) h g f =
    ⊎_elim
    (λ l. ap (λ k. eq_by_cmp list_cmp x k || list_any (eq_by_cmp list_cmp x) lists) (sym (same_set_list x y h g.0 l))
    ∙ ap (λ r. is_eq r || list_any (eq_by_cmp list_cmp x) lists) (tied_itself list_cmp_total x))
    (λ r. or_right (eq_by_cmp list_cmp x y) (found x lists h g.1 r)) f

-- and it is a rising one, whose set is there, where it is among rising ones
pub held : (q : List Term) (lists : List (List Term)) → AllByRecursion (Rises term_cmp) lists
    → list_any (eq_by_cmp list_cmp q) lists ≡ true → Rises term_cmp q × Holds lists (from_list q)
held q [] g f = absurd (false≢true f)
held q (y ∷ lists) g f = elim (list_cmp q y) as (λ r. list_cmp q y ≡ r → (is_eq r || list_any (eq_by_cmp list_cmp q)
    lists) ≡ true
    → Rises term_cmp q × Holds (y ∷ lists) (from_list q)) [
      | Less ↦ λ _ r. let w = held q lists g.1 r in (w.0, inr w.1)
      | Greater ↦ λ _ r. let w = held q lists g.1 r in (w.0, inr w.1)
      | Equal ↦ λ t _.
          let is : q ≡ y = list_cmp_exact q y t in
          (subst (Rises term_cmp) (sym is) g.0, inl (ap (λ k. from_list k) is))
    ] refl f

pub normal-same : (p q : Policy) (lists : List (List Term)) → IsNormal p lists → IsNormal q lists → AdmitSame p q
normal-same p q lists f g x = ((λ a. (g.exact x).1 ((f.exact x).0 a)), (λ a. (f.exact x).1 ((g.exact x).0 a)))

across : (p q : Policy) (lists others : List (List Term)) → IsNormal p lists → IsNormal q others → AdmitSame p q
    → (k : List Term) → list_any (eq_by_cmp list_cmp k) lists ≡ true → list_any (eq_by_cmp list_cmp k) others ≡ true
across p q lists others f g h k e =
    let w = held k lists f.are.each e in
    found k others w.0 g.are.each ((g.exact (from_list k)).0 ((h (from_list k)).0 ((f.exact (from_list k)).1 w.1)))

both : (a b : Bool) → (a ≡ true → b ≡ true) → (b ≡ true → a ≡ true) → a ≡ b
both true b f g = sym (f refl)
both false true f g = g refl
both false false f g = refl

pub normal-one : (p q : Policy) (lists others : List (List Term)) → IsNormal p lists → IsNormal q others → AdmitSame p q
    → lists ≡ others
normal-one p q lists others f g h =
    Rises-same list_cmp_total list_cmp_exact lists others f.are.rises g.are.rises (λ k.
    both _ _ (across p q lists others f g h k)
    (across q p others lists g f (λ x. ((h x).1, (h x).0)) k))
