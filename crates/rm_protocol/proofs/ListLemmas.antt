-- Facts of each item of a list, items by their numbers, and pairs of numbers and texts.
use Rattle.std.proofs.Common.{◌≡◌, ◌⊎◌, ℕ, zero, suc, ◌+◌, ◌-◌, ◌<◌, ◌≤◌, ◌==◌, Bool, true, false, cond, List, []}
use Rattle.std.proofs.Common.{◌∷◌, ◌++◌, length, refl, sym, ap, ◌∙◌, arith, subst, inl, inr, map}
use Rattle.std.specs.Prelude.{Option, Some, None, slice_get, IfSome}
use Rattle.std.specs.List.{AllByRecursion, filter}
use Rattle.std.specs.Str.{bytes_eq}
use Rattle.std.proofs.lemmas.Bool.{eqb-true}
use Rattle.std.proofs.lemmas.Bool.Decides.{nat_tests}
use Rattle.std.proofs.lemmas.Slice.Eq.{bytes_eq-Decides}
use Rattle.rm_base.specs.Numbered.{numbered}
use Rattle.rm_base.specs.NumberSet.{has_number}
use Rattle.rm_sides.specs.Destination.Messages.{is_empty}
use Rattle.record_batch.specs.Sequences.Words.{Text, at_seq}
use Rattle.record_batch.specs.Sequences.Makers.{Maker, ident_in, seq_in}
use Rattle.record_batch.specs.Sequences.Find.{find_from}
use Rattle.rm_protocol.specs.Sound.{Rises, highest}

pub IfSome-weaker : {A : Type 0} (P Q : A → Type 0) → ((x : A) → P x → Q x) → (o : Option A) → IfSome o P → IfSome o Q
IfSome-weaker P Q f None h = tt
IfSome-weaker P Q f (Some x) h = f x h

-- what follows from P holds of each item where P does
pub All-weaker : {A : Type 0} (P Q : A → Type 0) → ((x : A) → P x → Q x) → (xs : List A) → AllByRecursion P xs
    → AllByRecursion Q xs
All-weaker P Q f [] h = tt
All-weaker P Q f (x ∷ xs) h = (f x h.0, All-weaker P Q f xs h.1)

-- one item more at the end
pub All-push : {A : Type 0} (P : A → Type 0) (xs : List A) (x : A) → AllByRecursion P xs → P x
    → AllByRecursion P (xs ++ x ∷ [])
All-push P [] x h p = (p, tt)
All-push P (y ∷ ys) x h p = (h.0, All-push P ys x h.1 p)

pub All-append : {A : Type 0} (P : A → Type 0) (xs ys : List A) → AllByRecursion P xs → AllByRecursion P ys
    → AllByRecursion P (xs ++ ys)
All-append P [] ys h p = p
All-append P (x ∷ xs) ys h p = (h.0, All-append P xs ys h.1 p)

-- the item at a place
pub All-at : {A : Type 0} (P : A → Type 0) (xs : List A) (k : ℕ) (x : A) → AllByRecursion P xs
    → slice_get xs k ≡ Some x → P x
All-at P [] k x h e = absurd (cc)
All-at P (y ∷ ys) zero x h e = let same : y ≡ x = cc in subst P same h.0
All-at P (y ∷ ys) (suc k) x h e = All-at P ys k x h.1 e

-- the item with number n + 1 stands at place n
pub numbered-next : {A : Type 0} (xs : List A) (n : ℕ) → numbered xs (suc n) ≡ slice_get xs n
numbered-next xs n =
    let other : (suc n == 0) ≡ false = grind (arith, nat_tests) in
    let place : suc n - 1 ≡ n = omega arith in
    rw (other, place) refl

pub All-numbered : {A : Type 0} (P : A → Type 0) (xs : List A) (n : ℕ) (x : A) → AllByRecursion P xs
    → numbered xs n ≡ Some x → P x
All-numbered P xs zero x h e = absurd (cc)
All-numbered P xs (suc n) x h e = All-at P xs n x h (sym (numbered-next xs n) ∙ e)

pub slice_get-append : {A : Type 0} (xs ys : List A) (k : ℕ) (x : A) → slice_get xs k ≡ Some x
    → slice_get (xs ++ ys) k ≡ Some x
slice_get-append [] ys k x e = absurd (cc)
slice_get-append (z ∷ zs) ys zero x e = e
slice_get-append (z ∷ zs) ys (suc k) x e = slice_get-append zs ys k x e

-- an item keeps its number when more come
pub numbered-append : {A : Type 0} (xs ys : List A) (n : ℕ) (x : A) → numbered xs n ≡ Some x
    → numbered (xs ++ ys) n ≡ Some x
numbered-append xs ys zero x e = absurd (cc)
numbered-append xs ys (suc n) x e = numbered-next (xs ++ ys) n
    ∙ slice_get-append xs ys n x (sym (numbered-next xs n) ∙ e)

slice_get-last : {A : Type 0} (xs : List A) (y : A) → slice_get (xs ++ y ∷ []) (length xs) ≡ Some y
slice_get-last [] y = refl
slice_get-last (x ∷ xs) y = slice_get-last xs y

-- the next item has the next number
pub numbered-last : {A : Type 0} (xs : List A) (y : A) → numbered (xs ++ y ∷ []) (length xs + 1) ≡ Some y
numbered-last xs y =
    let number : length xs + 1 ≡ suc (length xs) = omega arith in
    rw number (numbered-next (xs ++ y ∷ []) (length xs) ∙ slice_get-last xs y)

slice_get-map : {A B : Type 0} (f : A → B) (xs : List A) (k : ℕ) (x : A) → slice_get xs k ≡ Some x
    → slice_get (map f xs) k ≡ Some (f x)
slice_get-map f [] k x e = absurd (cc)
slice_get-map f (y ∷ ys) zero x e = let same : y ≡ x = cc in ap (λ z. Some (f z)) same
slice_get-map f (y ∷ ys) (suc k) x e = slice_get-map f ys k x e

pub numbered-map : {A B : Type 0} (f : A → B) (xs : List A) (n : ℕ) (x : A) → numbered xs n ≡ Some x
    → numbered (map f xs) n ≡ Some (f x)
numbered-map f xs zero x e = absurd (cc)
numbered-map f xs (suc n) x e = numbered-next (map f xs) n ∙ slice_get-map f xs n x (sym (numbered-next xs n) ∙ e)

pub has_number-append : (xs ys : List ℕ) (n : ℕ) → has_number xs n ≡ true → has_number (xs ++ ys) n ≡ true
has_number-append [] ys n e = absurd (cc)
has_number-append (x ∷ xs) ys n e =
    let rest : has_number xs n ≡ true → has_number (xs ++ ys) n ≡ true = has_number-append xs ys n in
    grind (arith, nat_tests)

-- rising numbers, and more above them
pub Rises-append : (low : ℕ) (xs ys : List (Option ℕ)) → Rises low xs → Rises (highest low xs) ys → Rises low (xs ++ ys)
Rises-append low [] ys h k = k
Rises-append low (None ∷ xs) ys h k = Rises-append low xs ys h k
Rises-append low (Some x ∷ xs) ys h k = (h.0, Rises-append x xs ys h.1 k)

pub highest-append : (low : ℕ) (xs ys : List (Option ℕ)) → highest low (xs ++ ys) ≡ highest (highest low xs) ys
highest-append low [] ys = refl
highest-append low (None ∷ xs) ys = highest-append low xs ys
highest-append low (Some x ∷ xs) ys = highest-append x xs ys

Rises-above : (low : ℕ) (xs : List (Option ℕ)) (k x : ℕ) → Rises low xs → slice_get xs k ≡ Some (Some x) → low < x
Rises-above low [] k x h e = absurd (cc)
Rises-above low (None ∷ ys) zero x h e = absurd (cc)
Rises-above low (None ∷ ys) (suc k) x h e = Rises-above low ys k x h e
Rises-above low (Some y ∷ ys) zero x h e = let same : y ≡ x = cc in let l : low < y = h.0 in omega arith
Rises-above low (Some y ∷ ys) (suc k) x h e =
    let l : low < y = h.0 in let m : y < x = Rises-above y ys k x h.1 e in omega arith

Rises-once : (low : ℕ) (xs : List (Option ℕ)) (i j x : ℕ) → Rises low xs → slice_get xs i ≡ Some (Some x)
    → slice_get xs j ≡ Some (Some x) → i ≡ j
Rises-once low [] i j x h e f = absurd (cc)
Rises-once low (None ∷ ys) zero j x h e f = absurd (cc)
Rises-once low (None ∷ ys) (suc i) zero x h e f = absurd (cc)
Rises-once low (None ∷ ys) (suc i) (suc j) x h e f = ap suc (Rises-once low ys i j x h e f)
Rises-once low (Some y ∷ ys) zero zero x h e f = refl
Rises-once low (Some y ∷ ys) zero (suc j) x h e f =
    let same : y ≡ x = cc in let l : y < x = Rises-above y ys j x h.1 f in absurd (omega arith)
Rises-once low (Some y ∷ ys) (suc i) zero x h e f =
    let same : y ≡ x = cc in let l : y < x = Rises-above y ys i x h.1 e in absurd (omega arith)
Rises-once low (Some y ∷ ys) (suc i) (suc j) x h e f = ap suc (Rises-once y ys i j x h.1 e f)

-- a number stands at one place among rising ones
pub Rises-unique : (xs : List (Option ℕ)) (i j x : ℕ) → Rises 0 xs → numbered xs i ≡ Some (Some x)
    → numbered xs j ≡ Some (Some x) → i ≡ j
Rises-unique xs zero j x h e f = absurd (cc)
Rises-unique xs (suc i) zero x h e f = absurd (cc)
Rises-unique xs (suc i) (suc j) x h e f =
    ap suc (Rises-once 0 xs i j x h (sym (numbered-next xs i) ∙ e) (sym (numbered-next xs j) ∙ f))

slice_get-within : {A : Type 0} (xs : List A) (k : ℕ) (x : A) → slice_get xs k ≡ Some x → k < length xs
slice_get-within [] k x e = absurd (cc)
slice_get-within (y ∷ ys) zero x e = omega arith
slice_get-within (y ∷ ys) (suc k) x e = let h : k < length ys = slice_get-within ys k x e in omega arith

pub numbered-within : {A : Type 0} (xs : List A) (n : ℕ) (x : A) → numbered xs n ≡ Some x → n ≤ length xs
numbered-within xs zero x e = absurd (cc)
numbered-within xs (suc n) x e =
    let there : n < length xs = slice_get-within xs n x (sym (numbered-next xs n) ∙ e) in omega arith

-- what is looked up stays
pub ident_in-append : (cs ds : List (ℕ × Text)) (s : ℕ) (q : Text) → ident_in cs s ≡ Some q
    → ident_in (cs ++ ds) s ≡ Some q
ident_in-append [] ds s q e = absurd (cc)
ident_in-append (c ∷ cs) ds s q e =
    elim (c.0 == s) as (λ b. cond b (Some c.1) (ident_in cs s) ≡ Some q
    → cond b (Some c.1) (ident_in (cs ++ ds) s) ≡ Some q) [
      | true ↦ λ h. h
      | false ↦ λ h. ident_in-append cs ds s q h
    ] e

-- what is looked up after one more is old or is that one
pub ident_in-push : (cs : List (ℕ × Text)) (t : ℕ) (p : Text) (s : ℕ) (q : Text)
    → ident_in (cs ++ (t, p) ∷ []) s ≡ Some q → (ident_in cs s ≡ Some q) ⊎ ((t ≡ s) × (p ≡ q))
ident_in-push [] t p s q e =
    elim (t == s) as (λ b. (t == s) ≡ b → cond b (Some p) None ≡ Some q
    → (ident_in [] s ≡ Some q) ⊎ ((t ≡ s) × (p ≡ q))) [
      | true ↦ λ d h. inr (eqb-true t s d, cc)
      | false ↦ λ d h. absurd (cc)
    ] refl e
ident_in-push (c ∷ cs) t p s q e =
    elim (c.0 == s) as (λ b. cond b (Some c.1) (ident_in (cs ++ (t, p) ∷ []) s) ≡ Some q
    → (cond b (Some c.1) (ident_in cs s) ≡ Some q) ⊎ ((t ≡ s) × (p ≡ q))) [
      | true ↦ λ h. inl h
      | false ↦ λ h. ident_in-push cs t p s q h
    ] e

-- an identifier that isn't found is no sequence's
pub seq_in-none : (cs : List (ℕ × Text)) (s : ℕ) (q : Text) → seq_in cs q ≡ None → ident_in cs s ≡ Some q → ⊥
seq_in-none [] s q n e = absurd (cc)
seq_in-none (c ∷ cs) s q n e =
    elim (bytes_eq c.1 q) as (λ a. bytes_eq c.1 q ≡ a → cond a (Some c.0) (seq_in cs q) ≡ None → ⊥) [
      | true ↦ λ d h. absurd (cc)
      | false ↦ λ d h. elim (c.0 == s) as (λ b. cond b (Some c.1) (ident_in cs s) ≡ Some q → ⊥) [
        | true ↦ λ k.
            let same : c.1 ≡ q = cc in
            let yes : bytes_eq c.1 q ≡ true =
            subst (λ z. bytes_eq c.1 z ≡ true) same ((bytes_eq-Decides c.1 c.1).1 refl) in
            absurd (cc)
        | false ↦ λ k. seq_in-none cs s q h k
      ] e
    ] refl n

-- what is found after one more is old or is that one
pub seq_in-push : (cs : List (ℕ × Text)) (t : ℕ) (p : Text) (s : ℕ) (q : Text)
    → seq_in (cs ++ (t, p) ∷ []) q ≡ Some s → (seq_in cs q ≡ Some s) ⊎ ((t ≡ s) × (p ≡ q))
seq_in-push [] t p s q e =
    elim (bytes_eq p q) as (λ b. bytes_eq p q ≡ b → cond b (Some t) None ≡ Some s
    → (seq_in [] q ≡ Some s) ⊎ ((t ≡ s) × (p ≡ q))) [
      | true ↦ λ d h. inr (cc, (bytes_eq-Decides p q).0 d)
      | false ↦ λ d h. absurd (cc)
    ] refl e
seq_in-push (c ∷ cs) t p s q e =
    elim (bytes_eq c.1 q) as (λ b. cond b (Some c.0) (seq_in (cs ++ (t, p) ∷ []) q) ≡ Some s
    → (cond b (Some c.0) (seq_in cs q) ≡ Some s) ⊎ ((t ≡ s) × (p ≡ q))) [
      | true ↦ λ h. inl h
      | false ↦ λ h. seq_in-push cs t p s q h
    ] e

pub ident_in-last : (cs : List (ℕ × Text)) (t : ℕ) (p : Text) → ident_in cs t ≡ None
    → ident_in (cs ++ (t, p) ∷ []) t ≡ Some p
ident_in-last [] t p n = let same : (t == t) ≡ true = grind (arith, nat_tests) in rw same refl
ident_in-last (c ∷ cs) t p n =
    elim (c.0 == t) as (λ b. cond b (Some c.1) (ident_in cs t) ≡ None
    → cond b (Some c.1) (ident_in (cs ++ (t, p) ∷ []) t) ≡ Some p) [
      | true ↦ λ h. absurd (cc)
      | false ↦ λ h. ident_in-last cs t p h
    ] n

-- the sequence that was found is there, and passes the test
pub find_from-is : (f : ℕ → Maker → Bool) (k : ℕ) (ms : List Maker) (s : ℕ) → find_from f k ms ≡ Some s
    → (m : Maker) × (k < s) × (slice_get ms (s - k - 1) ≡ Some m) × (f s m ≡ true)
find_from-is f k [] s e = absurd (cc)
find_from-is f k (m ∷ ms) s e =
    elim (f (suc k) m) as (λ b. f (suc k) m ≡ b → cond b (Some (suc k)) (find_from f (suc k) ms) ≡ Some s
    → (n : Maker) × (k < s) × (slice_get (m ∷ ms) (s - k - 1) ≡ Some n) × (f s n ≡ true)) [
      | true ↦ λ d h.
          let same : suc k ≡ s = cc in
          let place : s - k - 1 ≡ 0 = omega arith in
          (m, omega arith, rw place refl, subst (λ z. f z m ≡ true) same d)
      | false ↦ λ d h.
          let rest = find_from-is f (suc k) ms s h in
          let above : suc k < s = rest.1 in
          let place : s - k - 1 ≡ suc (s - suc k - 1) = omega arith in
          (rest.0, omega arith, subst (λ j. slice_get (m ∷ ms) j ≡ Some rest.0) (sym place) rest.2, rest.3)
    ] refl e

pub find-is : (f : ℕ → Maker → Bool) (ms : List Maker) (s : ℕ) → find_from f 0 ms ≡ Some s
    → (m : Maker) × (numbered ms s ≡ Some m) × (f s m ≡ true)
find-is f ms s e =
    let found = find_from-is f 0 ms s e in
    let above : 0 < s = found.1 in
    let place : s ≡ suc (s - 0 - 1) = omega arith in
    (found.0, subst (λ j. numbered ms j ≡ Some found.0) (sym place) (numbered-next ms (s - 0 - 1) ∙ found.2), found.3)

pub at_seq-append : {A : Type 0} (s : ℕ) (xs ys : List (ℕ × A)) → at_seq s (xs ++ ys) ≡ at_seq s xs ++ at_seq s ys
at_seq-append s [] ys = refl
at_seq-append s (x ∷ xs) ys =
    elim (x.0 == s) as (λ b. cond b (x.1 ∷ at_seq s (xs ++ ys)) (at_seq s (xs ++ ys))
    ≡ cond b (x.1 ∷ at_seq s xs) (at_seq s xs) ++ at_seq s ys) [
      | true ↦ ap (λ z. x.1 ∷ z) (at_seq-append s xs ys)
      | false ↦ at_seq-append s xs ys
    ]

pub is_empty-append : {A : Type 0} (xs ys : List A) → is_empty xs ≡ false → is_empty (xs ++ ys) ≡ false
is_empty-append [] ys e = absurd (cc)
is_empty-append (x ∷ xs) ys e = refl

Rises-at_most : (low : ℕ) (xs : List (Option ℕ)) → Rises low xs → low ≤ highest low xs
Rises-at_most low [] h = omega arith
Rises-at_most low (None ∷ xs) h = Rises-at_most low xs h
Rises-at_most low (Some x ∷ xs) h = let l : low < x = h.0 in let m : x ≤ highest x xs = Rises-at_most x xs h.1 in
    omega arith

Rises-within : (low : ℕ) (xs : List (Option ℕ)) (k x : ℕ) → Rises low xs → slice_get xs k ≡ Some (Some x)
    → x ≤ highest low xs
Rises-within low [] k x h e = absurd (cc)
Rises-within low (None ∷ ys) zero x h e = absurd (cc)
Rises-within low (None ∷ ys) (suc k) x h e = Rises-within low ys k x h e
Rises-within low (Some y ∷ ys) zero x h e = let same : y ≡ x = cc in
    subst (λ z. z ≤ highest y ys) same (Rises-at_most y ys h.1)
Rises-within low (Some y ∷ ys) (suc k) x h e = Rises-within y ys k x h.1 e

-- a number among rising ones is at most the last
pub Rises-below : (xs : List (Option ℕ)) (i x : ℕ) → Rises 0 xs → numbered xs i ≡ Some (Some x) → x ≤ highest 0 xs
Rises-below xs zero x h e = absurd (cc)
Rises-below xs (suc i) x h e = Rises-within 0 xs i x h (sym (numbered-next xs i) ∙ e)

pub All-filter : {A : Type 0} (P : A → Type 0) (test : A → Bool) (xs : List A) → AllByRecursion P xs
    → AllByRecursion P (filter test xs)
All-filter P test [] h = tt
All-filter P test (x ∷ xs) h =
    elim (test x) as (λ b. AllByRecursion P (cond b (x ∷ filter test xs) (filter test xs))) [
      | true ↦ (h.0, All-filter P test xs h.1)
      | false ↦ All-filter P test xs h.1
    ]
