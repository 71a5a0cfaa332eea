-- What tests of bytes say of them: lemmas that stand beside the definitions, since the layers above need them too.
use Rattle.std.proofs.Common.{◌≡◌, ◌≢◌, ℕ, Bool, true, false, nat_eq, List, [], ◌∷◌, ◌++◌, length, drop, refl, sym}
use Rattle.std.proofs.Common.{ap, ap₂, ◌∙◌, arith}
use Rattle.std.specs.List.{AllByRecursion, list_all}
use Rattle.std.specs.Str.{bytes_eq}
use Rattle.std.proofs.lemmas.Bool.{eqb-true, eq-eqb, ne_eqb, and_parts, true≢false, false_from_ne_true}
use Rattle.std.proofs.lemmas.Slice.Eq.{bytes_eq-Decides}
use Rattle.soap_lex.specs.Tests.{begins, is_nil}

-- each element passes, as a test
pub all_passes : (p : ℕ → Bool) (xs : List ℕ) → AllByRecursion (λ c. p c ≡ true) xs → list_all p xs ≡ true
all_passes p [] each = refl
all_passes p (x ∷ xs) each = rw (each.0, all_passes p xs each.1)

pub all_from_passes : (p : ℕ → Bool) (xs : List ℕ) → list_all p xs ≡ true → AllByRecursion (λ c. p c ≡ true) xs
all_from_passes p [] all = tt
all_from_passes p (x ∷ xs) all = let (here, later) = and_parts (p x) (list_all p xs) all in (
  here,
  all_from_passes p
      xs later,
)

pub all_weaker : (P Q : ℕ → Type 0) → ((c : ℕ) → P c → Q c) → (xs : List ℕ) → AllByRecursion P xs → AllByRecursion Q xs
all_weaker P Q f [] h = tt
all_weaker P Q f (x ∷ xs) h = (f x h.0, all_weaker P Q f xs h.1)

-- a byte that passes a test is none that fails it
pub other : (p : ℕ → Bool) (c k : ℕ) → p c ≡ true → p k ≡ false → nat_eq c k ≡ false
other p c k passes fails = ne_eqb c k (λ e. true≢false (sym passes ∙ ap p e ∙ fails))

pub same : (a b : List ℕ) → bytes_eq a b ≡ true → a ≡ b
same a b e = (bytes_eq-Decides a b).0 e

pub differ : (a b : List ℕ) → a ≢ b → bytes_eq a b ≡ false
differ a b h = false_from_ne_true (bytes_eq a b) (λ e. h (same a b e))

pub equal : (a b : List ℕ) → a ≡ b → bytes_eq a b ≡ true
equal a b e = (bytes_eq-Decides a b).1 e

pub not_nil : (name : List ℕ) → name ≢ [] → is_nil name ≡ false
not_nil [] h = absurd (h refl)
not_nil (c ∷ name) h = refl

-- two tests of one fact
pub same_test : (P : Type 0) (r t : Bool) → (r ≡ true → P) → (P → r ≡ true) → (t ≡ true → P) → (P → t ≡ true) → r ≡ t
same_test P true true a b c d = refl
same_test P true false a b c d = sym (d (a refl))
same_test P false true a b c d = b (c refl)
same_test P false false a b c d = refl

pub nil_from_len : {A : Type 0} (xs : List A) (n : ℕ) → n ≡ length xs → nat_eq n 0 ≡ true → xs ≡ []
nil_from_len [] n e h = refl
nil_from_len (x ∷ xs) n e h = absurd (omega (arith, e, eqb-true n 0 h))

-- ---- a word in front

pub begins-append : (word after : List ℕ) → begins word (word ++ after) ≡ true
begins-append [] after = refl
begins-append (w ∷ word) after = rw (eq-eqb w w refl, begins-append word after)

pub front_from_begins : (word bytes : List ℕ) → begins word bytes ≡ true → bytes ≡ word ++ drop (length word) bytes
front_from_begins [] bytes e = refl
front_from_begins (w ∷ word) [] e = cc
front_from_begins (w ∷ word) (b ∷ bytes) e =
    let (here, later) = and_parts (nat_eq w b) (begins word bytes) e in
    let head = eqb-true w b here in
    let tail = front_from_begins word bytes later in
    ap₂ (λ (x : ℕ) (xs : List ℕ). x ∷ xs) (sym head) tail
