-- Masks as sets of listed terms.
use Rattle.std.proofs.Common.{◌≡◌, ℕ, zero, suc, ◌<◌, ◌≤◌, ◌+◌, ◌^◌, max, true, false, cond, ◌==◌, ◌||◌, ◌&&◌, Bool}
use Rattle.std.proofs.Common.{List, [], ◌∷◌, length, get_or, refl, ap, sym, ◌∙◌, subst, arith}
use Rattle.std.specs.Int.{bit_at}
use Rattle.std.specs.Int.RustNames.{bit_or}
use Rattle.std.specs.Ordering.{eq_by_cmp, is_eq}
use Rattle.std.specs.declared.cmp.Ordering.TheVariants.{Less, Equal, Greater}
use Rattle.std.specs.FinSet.{empty, insert, union, contains, len, same_set, contains-empty, contains-insert}
use Rattle.std.specs.FinSet.{contains-union, len-empty, len-insert}
use Rattle.std.proofs.lemmas.Bool.{false≢true}
use Rattle.std.proofs.lemmas.Bool.Decides.{nat_tests}
use Rattle.std.proofs.lemmas.Cmp.{tied_itself}
use Rattle.std.proofs.lemmas.Nat.Bits.{bit_at_or, bit_at-lt, bit_at-zero, bit_at-pow_same, bit_at-pow_other}
use Rattle.std.proofs.lemmas.Nat.Bits.{same_from_bits_below}
use Rattle.rm_policy.proofs.AlternativesLemmas.MaskLemmas.{or_right}
use Rattle.rm_policy.proofs.AlternativesLemmas.OrderLemmas.{term_cmp_total, term_cmp_exact, set_cmp_total}
use Rattle.rm_policy.proofs.AlternativesLemmas.OrderLemmas.{set_cmp_exact}
use Rattle.rm_policy.specs.Alternatives.Masks.{has_mask, AreApart, AreMasks, AreTermsApart, is_listed, is_picked}
use Rattle.rm_policy.specs.Alternatives.Masks.{chosen_from, chosen, choices_of}
use Rattle.rm_policy.specs.Alternatives.Sets.{TermSet, set_cmp}
use Rattle.rm_policy.specs.Alternatives.Terms.{term_cmp}
use Rattle.rm_policy.specs.declared.alternatives.term.Term.{Term}

pub contains-chosen : (i : ℕ) (ts : List Term) (m : ℕ) (q : Term) → contains (chosen_from i ts m) q ≡ is_picked i ts m q
contains-chosen i [] m q = contains-empty term_cmp q
contains-chosen i (t ∷ ts) m q =
    elim (bit_at m i == 1) as (λ b. contains (cond b (insert (chosen_from (suc i) ts m) t) (chosen_from (suc i) ts m)) q
    ≡ ((b && eq_by_cmp term_cmp q t) || is_picked (suc i) ts m q)) [
      | true ↦ contains-insert term_cmp_total (chosen_from (suc i) ts m) t q ∙ ap (λ b. eq_by_cmp term_cmp q t || b)
          (contains-chosen (suc i) ts m q)
      | false ↦ contains-chosen (suc i) ts m q
    ]

bits_or : (a b e x y : Bool) → (((a || b) && e) || (x || y)) ≡ (((a && e) || x) || ((b && e) || y))
bits_or true true true x y = refl
bits_or true true false x y = refl
bits_or true false true x y = refl
bits_or true false false x y = refl
bits_or false true true true y = refl
bits_or false true true false y = refl
bits_or false true false x y = refl
bits_or false false true x y = refl
bits_or false false false x y = refl

max_test : (a b : ℕ) → a < 2 → b < 2 → (max a b == 1) ≡ ((a == 1) || (b == 1))
max_test a b h g = grind (arith, nat_tests)

or_none : (b : Bool) → (b || false) ≡ b
or_none true = refl
or_none false = refl

bit_or_test : (m n i : ℕ) → (bit_at (bit_or m n) i == 1) ≡ ((bit_at m i == 1) || (bit_at n i == 1))
bit_or_test m n i =
    let e : bit_at (bit_or m n) i ≡ max (bit_at m i) (bit_at n i) = bit_at_or m n i in
    rw e (max_test (bit_at m i) (bit_at n i) (bit_at-lt m i) (bit_at-lt n i))

pub is_picked-or : (i : ℕ) (ts : List Term) (m n : ℕ) (q : Term)
    → is_picked i ts (bit_or m n) q ≡ (is_picked i ts m q || is_picked i ts n q)
is_picked-or i [] m n q = refl
is_picked-or i (t ∷ ts) m n q =
    ap (λ b. (b && eq_by_cmp term_cmp q t) || is_picked (suc i) ts (bit_or m n) q) (bit_or_test m n i)
    ∙ ap (λ r. (((bit_at m i == 1) || (bit_at n i == 1)) && eq_by_cmp term_cmp q t) || r) (is_picked-or (suc i) ts m n
    q)
    ∙ bits_or (bit_at m i == 1) (bit_at n i == 1) (eq_by_cmp term_cmp q t) (is_picked (suc i) ts m q) (is_picked (suc i)
    ts n q)

-- the masks' bits together are the union of the sets
pub chosen-or : (ts : List Term) (m n : ℕ) → chosen ts (bit_or m n) ≡ union (chosen ts m) (chosen ts n)
chosen-or ts m n = same_set term_cmp_total term_cmp_exact _ _ (λ q.
    contains-chosen 0 ts (bit_or m n) q
    ∙ is_picked-or 0 ts m n q
    ∙ sym (contains-union term_cmp_total (chosen ts m) (chosen ts n) q
    ∙ ap (λ b. b || contains (chosen ts n) q) (contains-chosen 0 ts m q)
    ∙ ap (λ b. is_picked 0 ts m q || b) (contains-chosen 0 ts n q)))

is_picked-none : (i : ℕ) (ts : List Term) (m : ℕ) (q : Term) → ((j : ℕ) → i ≤ j → bit_at m j ≡ 0) → is_picked i ts m q
    ≡ false
is_picked-none i [] m q h = refl
is_picked-none i (t ∷ ts) m q h =
    ap (λ b. ((b == 1) && eq_by_cmp term_cmp q t) || is_picked (suc i) ts m q) (h i (omega arith))
    ∙ is_picked-none (suc i) ts m q (λ j le. h j (omega arith))

-- no bits are the empty set
pub chosen-zero : (ts : List Term) → chosen ts 0 ≡ empty
chosen-zero ts = same_set term_cmp_total term_cmp_exact _ _ (λ q.
    contains-chosen 0 ts 0 q ∙ is_picked-none 0 ts 0 q (λ j _. bit_at-zero j) ∙ sym (contains-empty term_cmp q))

is_picked-pow : (i k p : ℕ) (ts : List Term) (d q : Term) → p ≡ i + k → k < length ts
    → is_picked i ts (2 ^ p) q ≡ eq_by_cmp term_cmp q (get_or ts k d)
is_picked-pow i k p [] d q e h = absurd (omega arith)
is_picked-pow i zero p (t ∷ ts) d q e h =
    let here : p ≡ i = omega arith in
    ap (λ b. ((b == 1) && eq_by_cmp term_cmp q t) || is_picked (suc i) ts (2 ^ p) q) (ap (bit_at (2 ^ p)) (sym here)
    ∙ bit_at-pow_same p)
    ∙ ap (λ r. eq_by_cmp term_cmp q t || r) (is_picked-none (suc i) ts (2 ^ p) q (λ j le. bit_at-pow_other p j
    (λ f. omega arith)))
    ∙ or_none (eq_by_cmp term_cmp q t)
is_picked-pow i (suc k) p (t ∷ ts) d q e h =
    ap (λ b. ((b == 1) && eq_by_cmp term_cmp q t) || is_picked (suc i) ts (2 ^ p) q) (bit_at-pow_other p i (λ f. omega
    arith))
    ∙ is_picked-pow (suc i) k p ts d q (omega arith) (omega arith)

-- one bit is one term
pub chosen-pow : (ts : List Term) (k : ℕ) (d : Term) → k < length ts → chosen ts (2 ^ k) ≡ insert empty (get_or ts k d)
chosen-pow ts k d h = same_set term_cmp_total term_cmp_exact _ _ (λ q.
    contains-chosen 0 ts (2 ^ k) q
    ∙ is_picked-pow 0 k k ts d q (omega arith) h
    ∙ sym (contains-insert term_cmp_total empty (get_or ts k d) q
    ∙ ap (λ b. eq_by_cmp term_cmp q (get_or ts k d) || b) (contains-empty term_cmp q)
    ∙ or_none (eq_by_cmp term_cmp q (get_or ts k d))))

-- what is picked is listed
is_picked-listed : (i : ℕ) (ts : List Term) (m : ℕ) (q : Term) → is_listed ts q ≡ false → is_picked i ts m q ≡ false
is_picked-listed i [] m q h = refl
is_picked-listed i (t ∷ ts) m q h =
    elim (eq_by_cmp term_cmp q t) as (λ e. (e || is_listed ts q) ≡ false
    → (((bit_at m i == 1) && e) || is_picked (suc i) ts m q) ≡ false) [
      | true ↦ λ f. absurd (false≢true (sym f))
      | false ↦ λ f. elim (bit_at m i == 1) as (λ b. ((b && false) || is_picked (suc i) ts m q) ≡ false) [
        | true ↦ is_picked-listed (suc i) ts m q f
        | false ↦ is_picked-listed (suc i) ts m q f
      ]
    ] h

and_or : (b : Bool) → ((b && true) || false) ≡ b
and_or true = refl
and_or false = refl

and_false : (b r : Bool) → ((b && false) || r) ≡ r
and_false true r = refl
and_false false r = refl

set_itself : (x : TermSet) → eq_by_cmp set_cmp x x ≡ true
set_itself x = rw (tied_itself set_cmp_total x) refl

itself : (t : Term) → eq_by_cmp term_cmp t t ≡ true
itself t = rw (tied_itself term_cmp_total t) refl

bit_test : (a b : ℕ) → a < 2 → b < 2 → (a == 1) ≡ (b == 1) → a ≡ b
bit_test a b h g e = grind (arith, nat_tests, e)

-- of the term that is listed first, one bit tells
first_bit : (i : ℕ) (t : Term) (ts : List Term) (m : ℕ) → is_listed ts t ≡ false → is_picked i (t ∷ ts) m t
    ≡ (bit_at m i == 1)
first_bit i t ts m h =
    ap (λ r. ((bit_at m i == 1) && eq_by_cmp term_cmp t t) || r) (is_picked-listed (suc i) ts m t h)
    ∙ ap (λ e. ((bit_at m i == 1) && e) || false) (itself t)
    ∙ and_or (bit_at m i == 1)

-- and of the others the other bits
other_bits : (i : ℕ) (t : Term) (ts : List Term) (m : ℕ) (q : Term) → eq_by_cmp term_cmp q t ≡ false
    → is_picked i (t ∷ ts) m q ≡ is_picked (suc i) ts m q
other_bits i t ts m q h =
    ap (λ e. ((bit_at m i == 1) && e) || is_picked (suc i) ts m q) h ∙ and_false (bit_at m i == 1) (is_picked (suc i) ts
    m q)

same_rest : (i : ℕ) (t : Term) (ts : List Term) (m n : ℕ) → is_listed ts t ≡ false
    → ((q : Term) → is_picked i (t ∷ ts) m q ≡ is_picked i (t ∷ ts) n q)
    → (q : Term) → is_picked (suc i) ts m q ≡ is_picked (suc i) ts n q
same_rest i t ts m n apart h q = elim (term_cmp q t) as (λ r. term_cmp q t ≡ r → is_picked (suc i) ts m q
    ≡ is_picked (suc i) ts n q) [
      | Equal ↦ λ e.
          let unlisted : is_listed ts q ≡ false = ap (is_listed ts) (term_cmp_exact q t e) ∙ apart in
          is_picked-listed (suc i) ts m q unlisted ∙ sym (is_picked-listed (suc i) ts n q unlisted)
      | Less ↦ λ e. sym (other_bits i t ts m q (rw e refl)) ∙ h q ∙ other_bits i t ts n q (rw e refl)
      | Greater ↦ λ e. sym (other_bits i t ts m q (rw e refl)) ∙ h q ∙ other_bits i t ts n q (rw e refl)
    ] refl

same_bits : (i : ℕ) (ts : List Term) (m n : ℕ) → AreTermsApart ts
    → ((q : Term) → is_picked i ts m q ≡ is_picked i ts n q)
    → (k : ℕ) → k < length ts → bit_at m (i + k) ≡ bit_at n (i + k)
same_bits i [] m n apart h k l = absurd (omega arith)
same_bits i (t ∷ ts) m n apart h zero l =
    let e : (bit_at m i == 1) ≡ (bit_at n i == 1) = sym (first_bit i t ts m apart.0) ∙ h t
    ∙ first_bit i t ts n apart.0 in
    let at : i + zero ≡ i = omega arith in
    rw at (bit_test (bit_at m i) (bit_at n i) (bit_at-lt m i) (bit_at-lt n i) e)
same_bits i (t ∷ ts) m n apart h (suc k) l =
    let at : i + suc k ≡ suc i + k = omega arith in
    rw at (same_bits (suc i) ts m n apart.1 (same_rest i t ts m n apart.0 h) k (omega arith))

-- of different masks come different sets
pub chosen-same : (ts : List Term) (m n : ℕ) → AreTermsApart ts → m < 2 ^ length ts → n < 2 ^ length ts
    → chosen ts m ≡ chosen ts n → m ≡ n
chosen-same ts m n apart h g e =
    same_from_bits_below (length ts) m n h g (λ k l.
    let r : bit_at m (0 + k) ≡ bit_at n (0 + k) = same_bits 0 ts m n apart
    (λ q. sym (contains-chosen 0 ts m q) ∙ ap (λ (s : TermSet). contains s q) e ∙ contains-chosen 0 ts n q) k l in
    let at : 0 + k ≡ k = omega arith in
    subst (λ j. bit_at m j ≡ bit_at n j) at r)

-- the alternatives of masks
pub choices-of : (ts : List Term) (ms : List ℕ) (x : TermSet) → contains (choices_of ts ms) x ≡ true
    → (m : ℕ) × (has_mask ms m ≡ true) × (x ≡ chosen ts m)
choices-of ts [] x h = absurd (false≢true (sym (contains-empty set_cmp x) ∙ h))
choices-of ts (m ∷ ms) x h =
    let e : (eq_by_cmp set_cmp x (chosen ts m) || contains (choices_of ts ms) x)
    ≡ true = sym (contains-insert set_cmp_total (choices_of ts ms) (chosen ts m) x) ∙ h in
    elim (set_cmp x (chosen ts m)) as (λ r. set_cmp x (chosen ts m) ≡ r → (m' : ℕ) × (has_mask (m ∷ ms) m' ≡ true)
    × (x ≡ chosen ts m')) [
      | Equal ↦ λ d. (m, grind (arith, nat_tests), set_cmp_exact x (chosen ts m) d)
      | Less ↦ λ d. let r = choices-of ts ms x (subst (λ o. (is_eq o || contains (choices_of ts ms) x)
          ≡ true) d e) in (r.0, or_right (m == r.0) r.1, r.2)
      | Greater ↦ λ d. let r = choices-of ts ms x (subst (λ o. (is_eq o || contains (choices_of ts ms) x)
          ≡ true) d e) in (r.0, or_right (m == r.0) r.1, r.2)
    ] refl

pub choices-has : (ts : List Term) (ms : List ℕ) (m : ℕ) → has_mask ms m ≡ true → contains (choices_of ts ms)
    (chosen ts m) ≡ true
choices-has ts [] m h = absurd (false≢true h)
choices-has ts (n ∷ ms) m h =
    contains-insert set_cmp_total (choices_of ts ms) (chosen ts n) (chosen ts m)
    ∙ elim (n == m) as (λ b. (n == m) ≡ b → (b || has_mask ms m) ≡ true
    → (eq_by_cmp set_cmp (chosen ts m) (chosen ts n) || contains (choices_of ts ms) (chosen ts m)) ≡ true) [
      | true ↦ λ e _.
          let same : n ≡ m = grind (arith, nat_tests, e) in
          ap (λ b. b || contains (choices_of ts ms) (chosen ts m)) (ap (λ k. eq_by_cmp set_cmp (chosen ts m)
          (chosen ts k)) same ∙ set_itself (chosen ts m))
      | false ↦ λ _ r. or_right (eq_by_cmp set_cmp (chosen ts m) (chosen ts n)) (choices-has ts ms m r)
    ] refl h

-- are as many as the masks
pub len-choices : (ts : List Term) (ms : List ℕ) → AreTermsApart ts → AreMasks ts ms → AreApart ms
    → len (choices_of ts ms) ≡ length ms
len-choices ts [] t b a = len-empty set_cmp
len-choices ts (m ∷ ms) t b a =
    let rest : len (choices_of ts ms) ≡ length ms = len-choices ts ms t (λ n h. b n (or_right (m == n) h)) a.1 in
    let below : m < 2 ^ length ts = b m (grind (arith, nat_tests)) in
    elim (contains (choices_of ts ms) (chosen ts m)) as (λ c. contains (choices_of ts ms) (chosen ts m) ≡ c
    → len (choices_of ts (m ∷ ms)) ≡ length (m ∷ ms)) [
      | true ↦ λ e.
          let r = choices-of ts ms (chosen ts m) e in
          let same : m ≡ r.0 = chosen-same ts m r.0 t below (b r.0 (or_right (m == r.0) r.1)) r.2 in
          absurd (false≢true (sym a.0 ∙ ap (has_mask ms) same ∙ r.1))
      | false ↦ λ e.
          let more : len (choices_of ts (m ∷ ms)) ≡ len (choices_of ts ms) + 1 =
          len-insert set_cmp_total (choices_of ts ms) (chosen ts m) ∙ ap (λ c. cond c (len (choices_of ts ms))
          (len (choices_of ts ms) + 1)) e in
          omega (arith, more, rest)
    ] refl
