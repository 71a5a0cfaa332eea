-- Sets in an order in which only equal keys tie.
use Rattle.std.proofs.Common.{◌≡◌, ◌≤◌, ◌<◌, ◌+◌, ◌-◌, List, [], ◌∷◌, Bool, true, false, not, cond, ◌&&◌, ◌||◌, refl}
use Rattle.std.proofs.Common.{ap, sym, ◌∙◌, subst, ltb, arith}
use Rattle.std.specs.Ordering.{eq_by_cmp}
use Rattle.std.specs.declared.cmp.Ordering.{Ordering}
use Rattle.std.specs.declared.cmp.Ordering.TheVariants.{Less, Equal, Greater}
use Rattle.std.specs.Cmp.{IsTotalOrder}
use Rattle.std.proofs.lemmas.Bool.{false≢true, ltb-true, ltb-false}
use Rattle.std.proofs.lemmas.Cmp.{tied_itself}
use Rattle.std.specs.FinSet.{FinSet, IsAntisymmetric, empty, insert, remove, union, contains, len, items, from_list}
use Rattle.std.specs.FinSet.{same_set}
use Rattle.std.specs.FinSet.{contains-items, contains-empty, contains-insert, contains-remove, contains-from_list}
use Rattle.std.specs.FinSet.{contains-union}
use Rattle.std.specs.FinSet.{len-empty, len-insert, len-remove, empty_of_len}

or_none : (b : Bool) → (b || false) ≡ b
or_none true = refl
or_none false = refl

or_assoc : (a b c : Bool) → (a || (b || c)) ≡ ((a || b) || c)
or_assoc true b c = refl
or_assoc false b c = refl

or_same : (b : Bool) → (b || b) ≡ b
or_same true = refl
or_same false = refl

or_true : (b : Bool) → (b || true) ≡ true
or_true true = refl
or_true false = refl

both : (a b : Bool) → (a ≡ true → b ≡ true) → (b ≡ true → a ≡ true) → a ≡ b
both true b f g = sym (f refl)
both false true f g = g refl
both false false f g = refl

module _ {K : Type 0} {R : K → K → Ordering} (o : IsTotalOrder R) (same : IsAntisymmetric R) where
  pub from_items : (s : FinSet R) → from_list (items s) ≡ s
  from_items s = same_set o same _ s (λ q. contains-from_list o (items s) q ∙ sym (contains-items s q))

  -- a set that has a key has some
  has_some : (s : FinSet R) (k : K) → contains s k ≡ true → 0 < len s
  has_some s k h = elim (ltb 0 (len s)) as (λ b. ltb 0 (len s) ≡ b → 0 < len s) [
    | true ↦ λ e. ltb-true 0 (len s) e
    | false ↦ λ e.
        let le : len s ≤ 0 = ltb-false 0 (len s) e in
        let none : len s ≡ 0 = omega arith in
        absurd (false≢true (sym (contains-empty R k) ∙ ap (λ (t : FinSet R). contains t k) (sym (empty_of_len s none))
        ∙ h))
  ] refl

  itself : (k : K) → eq_by_cmp R k k ≡ true
  itself k = rw (tied_itself o k) refl

  -- a key of the set is not the one that the set lacks
  differs : (s : FinSet R) (k q : K) → contains s k ≡ false → contains s q ≡ true → eq_by_cmp R q k ≡ false
  differs s k q lacks has = elim (R q k) as (λ r. R q k ≡ r → eq_by_cmp R q k ≡ false) [
    | Equal ↦ λ e. absurd (false≢true (sym lacks ∙ ap (contains s) (sym (same q k e)) ∙ has))
    | Less ↦ λ e. rw e refl
    | Greater ↦ λ e. rw e refl
  ] refl

  len_list_le : (ks : List K) (t : FinSet R) → ((q : K) → contains (from_list {R = R} ks) q ≡ true → contains t q
      ≡ true) → len (from_list {R = R} ks) ≤ len t
  len_list_le [] t h = rw (len-empty R) (omega arith)
  len_list_le (k ∷ ks) t h =
      let s : FinSet R = from_list ks in
      let has_k : contains t k ≡ true = h k (contains-insert o s k k ∙ ap (λ b. b || contains s k) (itself k)) in
      elim (contains s k) as (λ b. contains s k ≡ b → len (insert s k) ≤ len t) [
        | true ↦ λ e.
            let rest : len s ≤ len t = len_list_le ks t (λ q g. h q (contains-insert o s k q
            ∙ ap (λ b. eq_by_cmp R q k || b) g ∙ or_true (eq_by_cmp R q k))) in
            let here : len (insert s k) ≡ len s = len-insert o s k ∙ ap (λ b. cond b (len s) (len s + 1)) e in
            omega (arith, rest, here)
        | false ↦ λ e.
            let rest : len s ≤ len (remove t k) = len_list_le ks (remove t k) (λ q g.
            contains-remove o t k q
            ∙ ap (λ b. not b && contains t q) (differs s k q e g)
            ∙ h q (contains-insert o s k q ∙ ap (λ b. eq_by_cmp R q k || b) g ∙ or_true (eq_by_cmp R q k))) in
            let here : len (insert s k) ≡ len s + 1 = len-insert o s k ∙ ap (λ b. cond b (len s) (len s + 1)) e in
            let gone : len (remove t k) ≡ len t - 1 = len-remove o t k ∙ ap (λ b. cond b (len t - 1) (len t)) has_k in
            let some : 0 < len t = has_some t k has_k in
            omega (arith, rest, here, gone, some)
      ] refl

  -- a part of a set has no more keys
  pub len-part-le : (s t : FinSet R) → ((q : K) → contains s q ≡ true → contains t q ≡ true) → len s ≤ len t
  len-part-le s t h =
      subst (λ x. len x ≤ len t) (from_items s)
      (len_list_le (items s) t (λ q e. h q (subst (λ x. contains x q ≡ true) (from_items s) e)))

  pub union-empty_left : (s : FinSet R) → union empty s ≡ s
  union-empty_left s = same_set o same _ _ (λ q. contains-union o empty s q ∙ ap (λ b. b || contains s q)
      (contains-empty R q))

  pub union-empty_right : (s : FinSet R) → union s empty ≡ s
  union-empty_right s = same_set o same _ _ (λ q. contains-union o s empty q ∙ ap (λ b. contains s q || b)
      (contains-empty R q) ∙ or_none (contains s q))

  pub union-union : (s t u : FinSet R) → union s (union t u) ≡ union (union s t) u
  union-union s t u = same_set o same _ _ (λ q.
      contains-union o s (union t u) q
      ∙ ap (λ b. contains s q || b) (contains-union o t u q)
      ∙ or_assoc (contains s q) (contains t q) (contains u q)
      ∙ sym (contains-union o (union s t) u q ∙ ap (λ b. b || contains u q) (contains-union o s t q)))

  pub union-same : (s : FinSet R) → union s s ≡ s
  union-same s = same_set o same _ _ (λ q. contains-union o s s q ∙ or_same (contains s q))

  -- two sets with equal terms each of the other are one
  pub same_from_parts : (s t : FinSet R) → ((q : K) → contains s q ≡ true → contains t q ≡ true)
      → ((q : K) → contains t q ≡ true → contains s q ≡ true) → s ≡ t
  same_from_parts s t f g = same_set o same s t (λ q. both (contains s q) (contains t q) (f q) (g q))
