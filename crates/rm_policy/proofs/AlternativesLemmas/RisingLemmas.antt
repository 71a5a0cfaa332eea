-- Rising lists: a key more at its place, what a search in halves finds, and that one set has one of them.
use Rattle.std.proofs.Common.{◌≡◌, ◌≤◌, ◌<◌, ◌+◌, ℕ, zero, suc, List, [], ◌∷◌, Bool, true, false, ◌||◌, refl, ap}
use Rattle.std.proofs.Common.{sym, ◌∙◌, subst, arith, length, get_or, ltb, Err}
use Rattle.std.specs.BTreeSet.{insert_key}
use Rattle.std.specs.declared.cmp.Ordering.{Ordering}
use Rattle.std.specs.declared.cmp.Ordering.TheVariants.{Less, Equal, Greater}
use Rattle.std.specs.Cmp.{IsTotalOrder}
use Rattle.std.specs.FinSet.{IsAntisymmetric, insert, from_list, same_set, contains-from_list, contains-insert}
use Rattle.std.specs.List.{AllByRecursion, list_any, AllWithin, HoldsAt, insert as inserted}
use Rattle.std.specs.List.Sorted.{IsBinarySearchResult, IsNonDecreasingBy}
use Rattle.std.specs.Ordering.{eq_by_cmp, is_eq, ordering_reverse, ordering_index, match_ordering}
use Rattle.std.proofs.lemmas.Bool.{false≢true, ltb-true, ltb-false}
use Rattle.std.proofs.lemmas.Cmp.{tied_itself}
use Rattle.rm_policy.specs.Alternatives.Sets.{Rises}

swap_or : (a b c : Bool) → (a || (b || c)) ≡ (b || (a || c))
swap_or true true c = refl
swap_or true false c = refl
swap_or false b c = refl

or_twice : (a b : Bool) → (a || (a || b)) ≡ (a || b)
or_twice true b = refl
or_twice false b = refl

or_true : (b : Bool) → (b || true) ≡ true
or_true true = refl
or_true false = refl

index_within : (r : Ordering) → ordering_index r ≤ 2
index_within Less = omega arith
index_within Equal = omega arith
index_within Greater = omega arith

module _ {K : Type 0} {R : K → K → Ordering} (o : IsTotalOrder R) (exact : IsAntisymmetric R) where
  turned : (x y : K) (r : Ordering) → R x y ≡ r → R y x ≡ ordering_reverse r
  turned x y r e = o.antisymm y x ∙ ap ordering_reverse e

  below_all : (x y : K) (ys : List K) → R x y ≡ Less → AllByRecursion (λ z. R y z ≡ Less) ys
      → AllByRecursion (λ z. R x z ≡ Less) ys
  below_all x y [] l h = tt
  below_all x y (z ∷ ys) l h = (o.trans x y z l h.0, below_all x y ys l h.1)

  pub below_none : (x : K) (ys : List K) → AllByRecursion (λ y. R x y ≡ Less) ys → list_any (eq_by_cmp R x) ys ≡ false
  below_none x [] h = refl
  below_none x (y ∷ ys) h = ap (λ r. is_eq r || list_any (eq_by_cmp R x) ys) h.0 ∙ below_none x ys h.1

  here : (x : K) (xs : List K) → list_any (eq_by_cmp R x) (x ∷ xs) ≡ true
  here x xs = ap (λ r. is_eq r || list_any (eq_by_cmp R x) xs) (tied_itself o x)

  lower_none : (x y : K) (ys : List K) → R x y ≡ Less → Rises R (y ∷ ys)
      → list_any (eq_by_cmp R x) (y ∷ ys) ≡ false
  lower_none x y ys l h = below_none x (y ∷ ys) (l, below_all x y ys l h.0)

  -- ---- a key more
  all_insert : (x k : K) (ys : List K) → R x k ≡ Less → AllByRecursion (λ z. R x z ≡ Less) ys
      → AllByRecursion (λ z. R x z ≡ Less) (insert_key R ys k)
  all_insert x k [] l h = (l, tt)
  all_insert x k (y ∷ ys) l h = elim (R k y) as (λ r.
      AllByRecursion (λ z. R x z ≡ Less) (match_ordering r (k ∷ y ∷ ys) (y ∷ ys) (y ∷ insert_key R ys k))) [
        | Less ↦ (l, h)
        | Equal ↦ h
        | Greater ↦ (h.0, all_insert x k ys l h.1)
      ]

  pub Rises-insert_key : (ys : List K) (k : K) → Rises R ys → Rises R (insert_key R ys k)
  Rises-insert_key [] k h = (tt, tt)
  Rises-insert_key (y ∷ ys) k h = elim (R k y) as (λ r.
      R k y ≡ r → Rises R (match_ordering r (k ∷ y ∷ ys) (y ∷ ys) (y ∷ insert_key R ys k))) [
        | Less ↦ λ e. ((e, below_all k y ys e h.0), h)
        | Equal ↦ λ e. h
        | Greater ↦ λ e. (all_insert y k ys (turned k y Greater e) h.0, Rises-insert_key ys k h.1)
      ] refl

  pub list_any-insert_key : (q : K) (ys : List K) (k : K)
      → list_any (eq_by_cmp R q) (insert_key R ys k) ≡ (eq_by_cmp R q k || list_any (eq_by_cmp R q) ys)
  list_any-insert_key q [] k = refl
  list_any-insert_key q (y ∷ ys) k = elim (R k y) as (λ r. R k y ≡ r →
      list_any (eq_by_cmp R q) (match_ordering r (k ∷ y ∷ ys) (y ∷ ys) (y ∷ insert_key R ys k))
      ≡ (eq_by_cmp R q k || (eq_by_cmp R q y || list_any (eq_by_cmp R q) ys))) [
        | Less ↦ λ e. refl
        | Equal ↦ λ e. sym (ap (λ z. eq_by_cmp R q z || (eq_by_cmp R q y || list_any (eq_by_cmp R q) ys)) (exact k y e)
            ∙ or_twice (eq_by_cmp R q y) (list_any (eq_by_cmp R q) ys))
        | Greater ↦ λ e. ap (λ b. eq_by_cmp R q y || b) (list_any-insert_key q ys k)
            ∙ swap_or (eq_by_cmp R q y) (eq_by_cmp R q k) (list_any (eq_by_cmp R q) ys)
      ] refl

  pub length-insert_key : (ys : List K) (k : K) → list_any (eq_by_cmp R k) ys ≡ false
      → length (insert_key R ys k) ≡ length ys + 1
  length-insert_key [] k h = omega arith
  length-insert_key (y ∷ ys) k h = elim (R k y) as (λ r. (is_eq r || list_any (eq_by_cmp R k) ys) ≡ false
      → length (match_ordering r (k ∷ y ∷ ys) (y ∷ ys) (y ∷ insert_key R ys k)) ≡ length (y ∷ ys) + 1) [
        | Less ↦ λ _. omega arith
        | Equal ↦ λ f. absurd (false≢true (sym f))
        | Greater ↦ λ f. let rest : length (insert_key R ys k) ≡ length ys + 1 = length-insert_key ys k f in omega arith
      ] h

  -- one that is there changes nothing
  pub insert_key-has : (ys : List K) (k : K) → Rises R ys → list_any (eq_by_cmp R k) ys ≡ true → insert_key R ys k ≡ ys
  insert_key-has [] k h e = absurd (false≢true e)
  insert_key-has (y ∷ ys) k h e = elim (R k y) as (λ r. R k y ≡ r
      → match_ordering r (k ∷ y ∷ ys) (y ∷ ys) (y ∷ insert_key R ys k) ≡ y ∷ ys) [
        | Less ↦ λ l. absurd (false≢true (sym (lower_none k y ys l h) ∙ e))
        | Equal ↦ λ _. refl
        | Greater ↦ λ g. ap (λ l. y ∷ l)
            (insert_key-has ys k h.1 (ap (λ r. is_eq r || list_any (eq_by_cmp R k) ys) (sym g) ∙ e))
      ] refl

  -- its set has one key more
  pub from_list-insert_key : (ys : List K) (k : K) → from_list {R = R} (insert_key R ys k) ≡ insert (from_list ys) k
  from_list-insert_key ys k = same_set o exact _ _ (λ q.
      contains-from_list o (insert_key R ys k) q
      ∙ list_any-insert_key q ys k
      ∙ ap (λ b. eq_by_cmp R q k || b) (sym (contains-from_list o ys q))
      ∙ sym (contains-insert o (from_list ys) k q))

  -- ---- a search in halves
  below_at : (x : K) (ys : List K) (j : ℕ) (d : K) → AllByRecursion (λ y. R x y ≡ Less) ys → j < length ys
      → R x (get_or ys j d) ≡ Less
  below_at x [] j d h l = absurd (omega arith)
  below_at x (y ∷ ys) zero d h l = h.0
  below_at x (y ∷ ys) (suc j) d h l = below_at x ys j d h.1 (omega arith)

  rises_at : (xs : List K) (i j : ℕ) (d : K) → Rises R xs → i < j → j < length xs
      → R (get_or xs i d) (get_or xs j d) ≡ Less
  rises_at [] i j d h l g = absurd (omega arith)
  rises_at (x ∷ xs) i zero d h l g = absurd (omega arith)
  rises_at (x ∷ xs) zero (suc j) d h l g = below_at x xs j d h.0 (omega arith)
  rises_at (x ∷ xs) (suc i) (suc j) d h l g = rises_at xs i j d h.1 (omega arith) (omega arith)

  steps : (x y k : K) → R x y ≡ Less → ordering_index (R x k) ≤ ordering_index (R y k)
  steps x y k l = elim (R y k) as (λ r. R y k ≡ r → ordering_index (R x k) ≤ ordering_index r) [
    | Less ↦ λ e. let low : R x k ≡ Less = o.trans x y k l e in rw low (omega arith)
    | Equal ↦ λ e. let low : R x k ≡ Less = subst (λ z. R x z ≡ Less) (exact y k e) l in rw low (omega arith)
    | Greater ↦ λ _. index_within (R x k)
  ] refl

  pub answers_rise : (xs : List K) (k : K) → Rises R xs → IsNonDecreasingBy (λ y. ordering_index (R y k)) xs
  answers_rise xs k h i j d le l = elim (ltb i j) as (λ b. ltb i j ≡ b
      → ordering_index (R (get_or xs i d) k) ≤ ordering_index (R (get_or xs j d) k)) [
        | true ↦ λ e. steps (get_or xs i d) (get_or xs j d) k (rises_at xs i j d h (ltb-true i j e) l)
        | false ↦ λ e.
            let over : j ≤ i = ltb-false i j e in
            let same : i ≡ j = omega arith in
            rw same (omega arith)
      ] refl

  inserted_there : (xs : List K) (k : K) (i : ℕ) → i ≤ length xs → AllWithin (λ y. R y k ≡ Less) xs 0 i
      → AllWithin (λ y. R y k ≡ Greater) xs i (length xs) → insert_key R xs k ≡ inserted xs i k
  inserted_there [] k zero w b a = refl
  inserted_there [] k (suc i) w b a = absurd (omega arith)
  inserted_there (x ∷ xs) k zero w b a =
      let less : R k x ≡ Less = turned x k Greater (a 0 x (omega arith) (omega arith)) in rw less refl
  inserted_there (x ∷ xs) k (suc i) w b a =
      let more : R k x ≡ Greater = turned x k Less (b 0 x (omega arith) (omega arith)) in
      let rest : insert_key R xs k ≡ inserted xs i k = inserted_there xs k i (omega arith)
      (λ j d p q. b (suc j) d (omega arith) (omega arith)) (λ j d p q. a (suc j) d (omega arith) (omega arith)) in
      rw more (ap (λ l. x ∷ l) rest)

  none_there : (xs : List K) (k : K) (i : ℕ) → i ≤ length xs → AllWithin (λ y. R y k ≡ Less) xs 0 i
      → AllWithin (λ y. R y k ≡ Greater) xs i (length xs) → list_any (eq_by_cmp R k) xs ≡ false
  none_there [] k i w b a = refl
  none_there (x ∷ xs) k zero w b a =
      let less : R k x ≡ Less = turned x k Greater (a 0 x (omega arith) (omega arith)) in
      ap (λ r. is_eq r || list_any (eq_by_cmp R k) xs) less
      ∙ none_there xs k 0 (omega arith) (λ j d p q. absurd (omega arith))
      (λ j d p q. a (suc j) d (omega arith) (omega arith))
  none_there (x ∷ xs) k (suc i) w b a =
      let more : R k x ≡ Greater = turned x k Less (b 0 x (omega arith) (omega arith)) in
      ap (λ r. is_eq r || list_any (eq_by_cmp R k) xs) more
      ∙ none_there xs k i (omega arith) (λ j d p q. b (suc j) d (omega arith) (omega arith))
      (λ j d p q. a (suc j) d (omega arith) (omega arith))

  -- where a key is missing it is to be put at the place that is answered
  pub missing-at : (xs : List K) (k : K) (i : ℕ) → i ≤ length xs → IsBinarySearchResult (λ y. R y k) xs (Err i)
      → Rises R xs → (insert_key R xs k ≡ inserted xs i k) × (list_any (eq_by_cmp R k) xs ≡ false)
  missing-at xs k i w r h =
      let parted = r (answers_rise xs k h) in
      (inserted_there xs k i w parted.0 parted.1, none_there xs k i w parted.0 parted.1)

  pub present-at : (xs : List K) (k : K) (i : ℕ) → i < length xs → HoldsAt (λ y. R y k ≡ Equal) xs i
      → list_any (eq_by_cmp R k) xs ≡ true
  present-at [] k i w r = absurd (omega arith)
  present-at (x ∷ xs) k zero w r =
      let tie : R k x ≡ Equal = turned x k Equal (r x) in ap (λ t. is_eq t || list_any (eq_by_cmp R k) xs) tie
  present-at (x ∷ xs) k (suc i) w r =
      ap (λ b. eq_by_cmp R k x || b) (present-at xs k i (omega arith) r) ∙ or_true (eq_by_cmp R k x)

  -- what a list is after what was missing was put to it
  pub put_more : (now slice new : List K) (k put : K) (i : ℕ) → slice ≡ now → i ≤ length slice
      → IsBinarySearchResult (λ y. R y k) slice (Err i) → put ≡ k → new ≡ inserted now i put → Rises R now
      → new ≡ insert_key R now k
  put_more now slice new k put i same w r is e up =
      let rises : Rises R slice = subst (Rises R) (sym same) up in
      e ∙ ap (λ x. inserted now i x) is ∙ ap (λ l. inserted l i k) (sym same) ∙ sym (missing-at slice k i w r rises).0
      ∙ ap (λ l. insert_key R l k) same

  pub put_none : (now slice : List K) (k : K) (i : ℕ) → slice ≡ now → i < length slice
      → HoldsAt (λ y. R y k ≡ Equal) slice i → Rises R now → now ≡ insert_key R now k
  put_none now slice k i same w r up =
      sym (insert_key-has now k up (ap (list_any (eq_by_cmp R k)) (sym same) ∙ present-at slice k i w r))

  -- ---- one set, one list
  rest_same : (x q : K) (xs ys : List K) → AllByRecursion (λ y. R x y ≡ Less) xs
      → AllByRecursion (λ y. R x y ≡ Less) ys
      → list_any (eq_by_cmp R q) (x ∷ xs) ≡ list_any (eq_by_cmp R q) (x ∷ ys)
      → list_any (eq_by_cmp R q) xs ≡ list_any (eq_by_cmp R q) ys
  rest_same x q xs ys h g e = elim (R q x) as (λ r. R q x ≡ r
      → (is_eq r || list_any (eq_by_cmp R q) xs) ≡ (is_eq r || list_any (eq_by_cmp R q) ys)
      → list_any (eq_by_cmp R q) xs ≡ list_any (eq_by_cmp R q) ys) [
        | Less ↦ λ _ f. f
        | Greater ↦ λ _ f. f
        | Equal ↦ λ t _.
            let is : q ≡ x = exact q x t in
            subst (λ k. list_any (eq_by_cmp R k) xs ≡ list_any (eq_by_cmp R k) ys) (sym is)
            (below_none x xs h ∙ sym (below_none x ys g))
      ] refl e

  -- rising lists of the same keys are one
  pub Rises-same : (xs ys : List K) → Rises R xs → Rises R ys
      → ((q : K) → list_any (eq_by_cmp R q) xs ≡ list_any (eq_by_cmp R q) ys) → xs ≡ ys
  Rises-same [] [] h g e = refl
  Rises-same [] (y ∷ ys) h g e = absurd (false≢true (e y ∙ here y ys))
  Rises-same (x ∷ xs) [] h g e = absurd (false≢true (sym (e x) ∙ here x xs))
  Rises-same (x ∷ xs) (y ∷ ys) h g e = elim (R x y) as (λ r. R x y ≡ r → x ∷ xs ≡ y ∷ ys) [
    | Less ↦ λ l. absurd (false≢true (sym (lower_none x y ys l g) ∙ sym (e x) ∙ here x xs))
    | Greater ↦ λ l.
        let less : R y x ≡ Less = turned x y Greater l in
        absurd (false≢true (sym (lower_none y x xs less h) ∙ e y ∙ here y ys))
    | Equal ↦ λ t.
        let first : x ≡ y = exact x y t in
        let above : AllByRecursion (λ z. R x z ≡ Less) ys =
        subst (λ k. AllByRecursion (λ z. R k z ≡ Less) ys) (sym first) g.0 in
        let rest : xs ≡ ys = Rises-same xs ys h.1 g.1 (λ q.
        rest_same x q xs ys h.0 above (e q ∙ ap (λ k. list_any (eq_by_cmp R q) (k ∷ ys)) (sym first))) in
        λ i. first i ∷ rest i
  ] refl
