-- The first byte that passes a test, and what stands around it.
use Rattle.std.proofs.Common.{◌≡◌, ℕ, suc, ◌+◌, ◌-◌, ◌≤◌, ◌<◌, List, [], ◌∷◌, ◌++◌, Bool, true, false, Option}
use Rattle.std.proofs.Common.{◌||◌, Some, None, length, get_or, take, drop, sym, ap, refl, ◌∙◌, arith, length-drop}
use Rattle.std.proofs.Common.{drop-cons, subst, inl, inr}
use Prim.Native.Nat.{zero}
use Rattle.std.specs.List.{AllByRecursion}
use Rattle.std.proofs.Math.Numerals.{add-one}
use Rattle.std.proofs.lemmas.List.{take-append-drop, get_or-drop}
use Rattle.std.proofs.lemmas.Bool.{false_from_ne_true, cases_lt}
use Rattle.std.specs.Prelude.{option_map}
use Rattle.memchr.specs.Find.{IsFirstByte}

-- what stands before it fails
pub before_first : (p : ℕ → Bool) (bytes : List ℕ) (n : ℕ) → n ≤ length bytes → ((k : ℕ) → k < n
    → p (get_or bytes k 0) ≡ true → ⊥) → AllByRecursion (λ c. p c ≡ false) (take n bytes)
before_first p [] zero h f = tt
before_first p [] (suc n) h f = absurd (omega arith)
before_first p (c ∷ bytes) zero h f = tt
before_first p (c ∷ bytes) (suc n) h f = (
  false_from_ne_true (p c) (λ e. f 0 (omega arith) e),
  before_first p bytes
      n (omega arith) (λ k less e. f (suc k) (omega arith) e),
)

pub all_fail : (p : ℕ → Bool) (bytes : List ℕ) → IsFirstByte p bytes None → AllByRecursion (λ c. p c ≡ false) bytes
all_fail p bytes none = rw (sym (take_whole bytes)) (before_first p bytes (length bytes) (omega arith) (λ k less e.
    none k (omega arith) less e))
  where
    take_whole : (xs : List ℕ) → take (length xs) xs ≡ xs
    take_whole [] = refl
    take_whole (x ∷ xs) = ap (λ (y : List ℕ). x ∷ y) (take_whole xs)

pub or_same : (t : Bool) → (t || t) ≡ t
or_same true = refl
or_same false = refl

-- it is the first that passes another test too, where the tests say the same
pub first_same : (p q : ℕ → Bool) (bytes : List ℕ) (r : Option ℕ) → ((c : ℕ) → p c ≡ q c) → IsFirstByte p bytes r
    → IsFirstByte q bytes r
first_same p q bytes None same none = λ k low less e. none k low less (same (get_or bytes k 0) ∙ e)
first_same p q bytes (Some n) same found = (
  record {
    low = found.0.low;
    high = found.0.high;
    before = λ k low less e. found.0.before k low less (same (get_or bytes k 0) ∙ e);
  },
  sym (same (get_or bytes n 0)) ∙ found.1,
)

-- the parts of the bytes around it
pub around : (p : ℕ → Bool) (bytes : List ℕ) (n : ℕ) → IsFirstByte p bytes (Some n) → bytes
    ≡ take n bytes ++ get_or bytes n 0 ∷ drop (n + 1) bytes
around p bytes n found = let h : n < length bytes = found.0.high in sym (take-append-drop n bytes)
    ∙ ap (λ (x : List ℕ). take n bytes ++ x) (rw add-one (drop-cons bytes n 0 h))

pub front_fails : (p : ℕ → Bool) (bytes : List ℕ) (n : ℕ) → IsFirstByte p bytes (Some n) → AllByRecursion (λ c. p c
    ≡ false) (take n bytes)
front_fails p bytes n found = let h : n < length bytes = found.0.high in before_first p bytes n (omega arith) (λ k
    less e. found.0.before k (omega arith) less e)

take_all_of : (k : ℕ) (xs : List ℕ) → length xs ≤ k → take k xs ≡ xs
take_all_of zero [] h = refl
take_all_of (suc k) [] h = refl
take_all_of zero (x ∷ xs) h = absurd (omega arith)
take_all_of (suc k) (x ∷ xs) h = ap (λ (y : List ℕ). x ∷ y) (take_all_of k xs (omega arith))

pub take_rest : (n : ℕ) (xs : List ℕ) → take (length xs - n) (drop n xs) ≡ drop n xs
take_rest n xs = take_all_of (length xs - n) (drop n xs) (omega (arith, length-drop n xs))

-- the same byte, counted from place n on
further : (p : ℕ → Bool) (bytes : List ℕ) (n k : ℕ) → n ≤ k → p (get_or bytes k 0) ≡ true
    → p (get_or (drop n bytes) (k - n) 0) ≡ true
further p bytes n k h e =
    let there : n + (k - n) ≡ k = omega arith in
    ap p (get_or-drop n bytes (k - n) 0 ∙ ap (λ (i : ℕ). get_or bytes i 0) there) ∙ e

first_in_rest : (p : ℕ → Bool) (bytes : List ℕ) (n : ℕ) (r : Option ℕ) → n ≤ length bytes
    → ((k : ℕ) → k < n → p (get_or bytes k 0) ≡ true → ⊥) → IsFirstByte p (drop n bytes) r
    → IsFirstByte p bytes (option_map (λ k. n + k) r)
first_in_rest p bytes n None h front none = λ k low high e. elim (cases_lt k n) as (λ _. ⊥) [
  | inl near ↦ front k near e
  | inr far ↦ none (k - n) (omega arith) (omega (arith, length-drop n bytes)) (further p bytes n k far e)
]
first_in_rest p bytes n (Some j) h front found =
    let high : j < length (drop n bytes) = found.0.high in (
      record {
        low = omega arith;
        high = omega (arith, length-drop n bytes);
        before = λ k low less e. elim (cases_lt k n) as (λ _. ⊥) [
          | inl near ↦ front k near e
          | inr far ↦ found.0.before (k - n) (omega arith) (omega arith) (further p bytes n k far e)
        ];
      },
      ap p (sym (get_or-drop n bytes j 0)) ∙ found.1,
    )

-- where none of the first n bytes passes, the first that does is the first of the rest
pub first_further : (p : ℕ → Bool) (bytes : List ℕ) (n : ℕ) (r : Option ℕ) → n ≤ length bytes
    → ((k : ℕ) → k < n → p (get_or bytes k 0) ≡ true → ⊥) → IsFirstByte p (take (length bytes - n) (drop n bytes)) r
    → IsFirstByte p bytes (option_map (λ k. n + k) r)
first_further p bytes n r h front found =
    first_in_rest p bytes n r h front (subst (λ (rest : List ℕ). IsFirstByte p rest r) (take_rest n bytes) found)
