-- Lists of masks that grow.
use Rattle.std.proofs.Common.{◌≡◌, ℕ, zero, suc, ◌<◌, ◌≤◌, ◌+◌, true, false, ◌==◌, ◌||◌, Bool, List, [], ◌∷◌, length}
use Rattle.std.proofs.Common.{drop, get_or, refl, ap, sym, ◌∙◌, subst, arith, ◌⊎◌, inl, inr, ⊎_elim, Ok, Err, add-one}
use Rattle.std.specs.BTreeSet.{insert_key}
use Rattle.std.specs.FinSet.{nat_cmp-IsAntisymmetric}
use Rattle.std.specs.List.{list_any, HoldsAt, insert as inserted}
use Rattle.std.specs.List.Sorted.{IsBinarySearchResult}
use Rattle.std.specs.Ordering.{eq_by_cmp, is_eq, nat_cmp}
use Rattle.std.specs.declared.cmp.Ordering.TheVariants.{Less, Equal, Greater}
use Rattle.std.proofs.lemmas.Cmp.{nat_cmp_total, ranked}
use Rattle.rm_policy.proofs.AlternativesLemmas.RisingLemmas.{below_none, insert_key-has, length-insert_key}
use Rattle.rm_policy.proofs.AlternativesLemmas.RisingLemmas.{list_any-insert_key}
use Rattle.rm_policy.proofs.AlternativesLemmas.RisingLemmas.{missing-at, present-at, Rises-insert_key}
use Rattle.rm_policy.specs.Alternatives.Sets.{Rises}
use Rattle.std.proofs.Math.ListN.{drop_of_length-le}
use Rattle.std.proofs.lemmas.Bool.{false≢true}
use Rattle.std.proofs.lemmas.Bool.Decides.{nat_tests}
use Rattle.rm_policy.specs.Alternatives.Masks.{has_mask, AreApart, AddAnswer, Gathers, GathersAnswer, AreExactly}
use Rattle.rm_policy.specs.Alternatives.Masks.{AreMany}
use Rattle.rm_policy.specs.Alternatives.Masks.{Gathering, OfBoth}
use Rattle.std.specs.Int.RustNames.{bit_or}
use Rattle.rm_policy.specs.declared.alternatives.error.WspError.{WspError}
use Rattle.rm_policy.specs.declared.alternatives.error.WspError.TheVariants.{Memory, Envelope, Malformed}
use Rattle.rm_policy.specs.declared.alternatives.error.WspError.TheVariants.{SecurityUnsupported, TooLarge}
use Rattle.rm_policy.specs.declared.alternatives.error.WspError.TheVariants.{TooManyTerms}
use Rattle.rm_policy.specs.declared.alternatives.error.WspError.TheVariants.{TooManyAlternatives}

pub either_has : (a b : Bool) → (a || b) ≡ true → (a ≡ true) ⊎ (b ≡ true)
either_has true b h = inl refl
either_has false b h = inr h

pub or_left : (a b : Bool) → a ≡ true → (a || b) ≡ true
or_left true b h = refl
or_left false b h = absurd (false≢true h)

pub or_right : (a : Bool) {b : Bool} → b ≡ true → (a || b) ≡ true
or_right true h = refl
or_right false h = h

test_ties : (m n : ℕ) → (m == n) ≡ eq_by_cmp nat_cmp n m
test_ties m n = elim (nat_cmp n m) as (λ r. nat_cmp n m ≡ r → (m == n) ≡ is_eq r) [
  | Less ↦ λ e. let low : n < m = ranked n m Less (sym e) in grind (arith, nat_tests, low)
  | Equal ↦ λ e. let same : n ≡ m = nat_cmp-IsAntisymmetric n m e in grind (arith, nat_tests, same)
  | Greater ↦ λ e. let high : m < n = ranked n m Greater (sym e) in grind (arith, nat_tests, high)
] refl

-- whether a mask is there, in std's words
pub has_mask-any : (ms : List ℕ) (n : ℕ) → has_mask ms n ≡ list_any (eq_by_cmp nat_cmp n) ms
has_mask-any [] n = refl
has_mask-any (m ∷ ms) n =
    ap (λ b. b || has_mask ms n) (test_ties m n) ∙ ap (λ b. eq_by_cmp nat_cmp n m || b) (has_mask-any ms n)

pub has_mask-insert_key : (xs : List ℕ) (m n : ℕ) → has_mask (insert_key nat_cmp xs m) n ≡ ((m == n) || has_mask xs n)
has_mask-insert_key xs m n =
    has_mask-any (insert_key nat_cmp xs m) n ∙ list_any-insert_key nat_cmp_total nat_cmp-IsAntisymmetric n xs m
    ∙ ap (λ b. b || list_any (eq_by_cmp nat_cmp n) xs) (sym (test_ties m n))
    ∙ ap (λ b. (m == n) || b) (sym (has_mask-any xs n))

-- masks that rise are apart
pub apart_rising : (ms : List ℕ) → Rises nat_cmp ms → AreApart ms
apart_rising [] h = tt
apart_rising (m ∷ ms) h = (
  has_mask-any ms m ∙ below_none nat_cmp_total nat_cmp-IsAntisymmetric m ms h.0,
  apart_rising ms h.1,
)

-- a mask is the one that was put to the others, or was there
of_insert : (xs : List ℕ) (m n : ℕ) → has_mask (insert_key nat_cmp xs m) n ≡ true → (has_mask xs n ≡ true) ⊎ (m ≡ n)
of_insert xs m n h =
    ⊎_elim (λ l. inr (grind (arith, nat_tests, l))) (λ r. inl r)
    (either_has (m == n) (has_mask xs n) (sym (has_mask-insert_key xs m n) ∙ h))

inserted_old : (xs : List ℕ) (m n : ℕ) → has_mask xs n ≡ true → has_mask (insert_key nat_cmp xs m) n ≡ true
inserted_old xs m n h = has_mask-insert_key xs m n ∙ or_right (m == n) h

inserted_new : (xs : List ℕ) (m n : ℕ) → m ≡ n → has_mask (insert_key nat_cmp xs m) n ≡ true
inserted_new xs m n h =
    has_mask-insert_key xs m n ∙ or_left (m == n) (has_mask xs n) (grind (arith, nat_tests, h))

-- they are no more than they may be
within : (xs : List ℕ) (m : ℕ) → Rises nat_cmp xs → length xs ≤ 256 → (has_mask xs m ≡ true) ⊎ (length xs < 256)
    → length (insert_key nat_cmp xs m) ≤ 256
within xs m up few room = elim (has_mask xs m) as (λ b. has_mask xs m ≡ b → length (insert_key nat_cmp xs m) ≤ 256) [
  | true ↦ λ e.
      let same : insert_key nat_cmp xs m ≡ xs =
      insert_key-has nat_cmp_total nat_cmp-IsAntisymmetric xs m up (sym (has_mask-any xs m) ∙ e) in
      rw same few
  | false ↦ λ e.
      let more : length (insert_key nat_cmp xs m) ≡ length xs + 1 =
      length-insert_key nat_cmp_total nat_cmp-IsAntisymmetric xs m (sym (has_mask-any xs m) ∙ e) in
      let free : length xs < 256 = ⊎_elim (λ l. absurd (false≢true (sym e ∙ l))) (λ r. r) room in
      omega arith
] refl

module _ {P Left Later : ℕ → Type 0} where
  pub gathering-add : (old : List ℕ) (x : ℕ) (new : List ℕ) → Gathering P Left old → P x
      → ((m : ℕ) → Left m → (x ≡ m) ⊎ Later m) → AddAnswer old x new (Ok tt) → Gathering P Later new
  gathering-add old x new g p next a =
      subst (Gathering P Later) (sym (a g.rises).0) (record {
        rises = Rises-insert_key nat_cmp_total nat_cmp-IsAntisymmetric old x g.rises;
        small = within old x g.rises g.small (a g.rises).1;
        sound = λ m h. ⊎_elim (λ l. g.sound m l) (λ r. subst P r p) (of_insert old x m h);
        whole = λ m q. ⊎_elim (λ l. inl (inserted_old old x m l))
            (λ r. ⊎_elim (λ here. inl (inserted_new old x m here)) (λ later. inr later) (next m r)) (g.whole m q);
      })

module _ {P Left : ℕ → Type 0} where
  pub gathering-many : (old : List ℕ) (x : ℕ) (new : List ℕ) → Gathering P Left old → P x
      → AddAnswer old x new (Err TooManyAlternatives) → AreMany P
  gathering-many old x new g p a = record {
    masks = insert_key nat_cmp old x;
    rises = Rises-insert_key nat_cmp_total nat_cmp-IsAntisymmetric old x g.rises;
    many =
        let more : length (insert_key nat_cmp old x) ≡ length old + 1 =
        length-insert_key nat_cmp_total nat_cmp-IsAntisymmetric old x (sym (has_mask-any old x) ∙ (a g.rises).0) in
        let full : 256 ≤ length old = (a g.rises).1 in
        omega arith;
    sound = λ m h. ⊎_elim (λ l. g.sound m l) (λ r. subst P r p) (of_insert old x m h);
  }

  pub gathering-done : (ms : List ℕ) → Gathering P Left ms → ((m : ℕ) → Left m → ⊥) → AreExactly P ms
  gathering-done ms g none = record {
    rises = g.rises;
    small = g.small;
    sound = g.sound;
    whole = λ m q. ⊎_elim (λ l. l) (λ r. absurd (none m r)) (g.whole m q);
  }

  pub gathers_err : (old : List ℕ) (x : ℕ) (new : List ℕ) → Gathering P Left old → P x
      → (e : WspError) → AddAnswer old x new (Err e) → Gathers P new (Err e)
  gathers_err old x new g p Memory a = tt
  gathers_err old x new g p (Envelope e) a = a
  gathers_err old x new g p Malformed a = a
  gathers_err old x new g p (SecurityUnsupported name) a = a
  gathers_err old x new g p (TooLarge n) a = a
  gathers_err old x new g p (TooManyTerms n) a = a
  gathers_err old x new g p TooManyAlternatives a = gathering-many old x new g p a

-- the same of a new list
pub gathers_new : (P : ℕ → Type 0) (ms : List ℕ) (e : WspError) → Gathers P ms (Err e) → GathersAnswer P (Err e)
gathers_new P ms Memory a = tt
gathers_new P ms (Envelope e) a = a
gathers_new P ms Malformed a = a
gathers_new P ms (SecurityUnsupported name) a = a
gathers_new P ms (TooLarge n) a = a
gathers_new P ms (TooManyTerms n) a = a
gathers_new P ms TooManyAlternatives a = a

next_mask : (xs : List ℕ) (i m : ℕ) → i < length xs → has_mask (drop i xs) m ≡ true
    → (get_or xs i 0 ≡ m) ⊎ (has_mask (drop (suc i) xs) m ≡ true)
next_mask [] i m h e = absurd (omega arith)
next_mask (x ∷ xs) zero m h e =
    elim (x == m) as (λ b. (x == m) ≡ b → (b || has_mask xs m) ≡ true → (x ≡ m) ⊎ (has_mask xs m ≡ true)) [
      | true ↦ λ t _. inl (grind (arith, nat_tests, t))
      | false ↦ λ _ r. inr r
    ] refl e
next_mask (x ∷ xs) (suc i) m h e = next_mask xs i m (omega arith) e

-- what is left of a list, by its next mask
pub left_next : (xs : List ℕ) (i m : ℕ) → i < length xs → has_mask (drop i xs) m ≡ true
    → (get_or xs i 0 ≡ m) ⊎ (has_mask (drop (i + 1) xs) m ≡ true)
left_next xs i m h e = rw add-one (next_mask xs i m h e)

-- at its end nothing is left
pub left_none : (xs : List ℕ) (i m : ℕ) → length xs ≤ i → has_mask (drop i xs) m ≡ true → ⊥
left_none xs i m h e = false≢true (ap (λ l. has_mask l m) (sym (drop_of_length-le xs h)) ∙ e)

pub has_mask-get : (xs : List ℕ) (i : ℕ) → i < length xs → has_mask xs (get_or xs i 0) ≡ true
has_mask-get [] i h = absurd (omega arith)
has_mask-get (x ∷ xs) zero h = grind (arith, nat_tests)
has_mask-get (x ∷ xs) (suc i) h =
    let rest : has_mask xs (get_or xs i 0) ≡ true = has_mask-get xs i (omega arith) in
    grind (arith, nat_tests, rest)

-- what is left of the pairs, at a next first mask
pub pairs_next : (a b : List ℕ) (i m : ℕ) → i < length a → OfBoth (drop i a) b m
    → ((y : ℕ) × (has_mask b y ≡ true) × (m ≡ bit_or (get_or a i 0) y)) ⊎ OfBoth (drop (i + 1) a) b m
pairs_next a b i m h p =
    ⊎_elim (λ here. inl (p.1, p.3, p.4 ∙ ap (λ x. bit_or x p.1) (sym here))) (λ later. inr (p.0, p.1, later, p.3, p.4))
    (left_next a i p.0 h p.2)

-- and at a next second one
pub row_next : (b : List ℕ) (x j m : ℕ) → j < length b
    → ((y : ℕ) × (has_mask (drop j b) y ≡ true) × (m ≡ bit_or x y))
    → (bit_or x (get_or b j 0) ≡ m) ⊎ ((y : ℕ) × (has_mask (drop (j + 1) b) y ≡ true) × (m ≡ bit_or x y))
row_next b x j m h p =
    ⊎_elim (λ here. inl (ap (bit_or x) here ∙ sym p.2)) (λ later. inr (p.0, later, p.2)) (left_next b j p.0 h p.1)

-- what a search among masks that rise says
pub found_mask : (xs : List ℕ) (m i : ℕ) → i < length xs → HoldsAt (λ y. nat_cmp y m ≡ Equal) xs i → has_mask xs m
    ≡ true
found_mask xs m i w r = has_mask-any xs m ∙ present-at nat_cmp_total nat_cmp-IsAntisymmetric xs m i w r

pub missing_mask : (xs : List ℕ) (m i : ℕ) → i ≤ length xs → IsBinarySearchResult (λ y. nat_cmp y m) xs (Err i)
    → Rises nat_cmp xs → (insert_key nat_cmp xs m ≡ inserted xs i m) × (has_mask xs m ≡ false)
missing_mask xs m i w r up =
    let at = missing-at nat_cmp_total nat_cmp-IsAntisymmetric xs m i w r up in (at.0, has_mask-any xs m ∙ at.1)

pub insert_key-found : (xs : List ℕ) (m : ℕ) → Rises nat_cmp xs → has_mask xs m ≡ true → insert_key nat_cmp xs m ≡ xs
insert_key-found xs m up e =
    insert_key-has nat_cmp_total nat_cmp-IsAntisymmetric xs m up (sym (has_mask-any xs m) ∙ e)

-- what adding a mask answers, by what the search says
pub add_more : (now inside slice new : List ℕ) (m i : ℕ) → inside ≡ now → slice ≡ inside → i ≤ length slice
    → IsBinarySearchResult (λ y. nat_cmp y m) slice (Err i) → new ≡ inserted inside i m → length slice < 256
    → AddAnswer now m new (Ok tt)
add_more now inside slice new m i p q w r e room up =
    let at = missing_mask slice m i w r (subst (Rises nat_cmp) (sym (q ∙ p)) up) in (
      e ∙ ap (λ l. inserted l i m) (sym q) ∙ sym at.0 ∙ ap (λ l. insert_key nat_cmp l m) (q ∙ p),
      inr (subst (λ l. length l < 256) (q ∙ p) room),
    )

pub add_found : (now slice : List ℕ) (m i : ℕ) → slice ≡ now → i < length slice
    → HoldsAt (λ y. nat_cmp y m ≡ Equal) slice i → AddAnswer now m now (Ok tt)
add_found now slice m i e w r up =
    let has : has_mask now m ≡ true = ap (λ l. has_mask l m) (sym e) ∙ found_mask slice m i w r in
    (sym (insert_key-found now m up has), inl has)

pub add_full : (now slice : List ℕ) (m i : ℕ) → slice ≡ now → i ≤ length slice
    → IsBinarySearchResult (λ y. nat_cmp y m) slice (Err i) → 256 ≤ length slice
    → AddAnswer now m now (Err TooManyAlternatives)
add_full now slice m i e w r full up = (
  ap (λ l. has_mask l m) (sym e) ∙ (missing_mask slice m i w r (subst (Rises nat_cmp) (sym e) up)).1,
  subst (λ l. 256 ≤ length l) e full,
)
