-- Lemmas on rising lists of numbers, which the crates above use: membership, and a number more.
use Rattle.std.proofs.Common.{◌≡◌, ℕ, zero, suc, ◌<◌, ◌≤◌, true, false, cond, ◌==◌, nat_lt, ◌||◌, List, [], ◌∷◌, ◌++◌}
use Rattle.std.proofs.Common.{length, get_or, refl, arith, ◌⊎◌, inl, inr}
use Rattle.std.proofs.lemmas.Bool.{ltb-true, ltb-false}
use Rattle.std.proofs.lemmas.Bool.Decides.{nat_tests}
use Rattle.rm_base.specs.NumberSet.{Rises, has_number, with_number, greatest_of}

-- what rises above b rises above a smaller a
pub Rises-weaker : (a b : ℕ) (xs : List ℕ) → a ≤ b → Rises b xs → Rises a xs
Rises-weaker a b [] h r = tt
Rises-weaker a b (x ∷ xs) h r = (omega (arith, r.0), r.1)

-- a number that is below all is none of them
pub has_number-below : (low n : ℕ) (xs : List ℕ) → Rises low xs → n ≤ low → has_number xs n ≡ false
has_number-below low n [] r h = refl
has_number-below low n (x ∷ xs) r h =
    let above : n < x = omega (arith, r.0) in
    let rest : has_number xs n ≡ false = has_number-below x n xs r.1 (omega arith) in
    grind (arith, nat_tests, rest)

-- each is above low
pub Rises-above : (low : ℕ) (xs : List ℕ) → Rises low xs → (i : ℕ) → i < length xs → low < get_or xs i 0
Rises-above low [] r i h = absurd (omega arith)
Rises-above low (x ∷ xs) r zero h = r.0
Rises-above low (x ∷ xs) r (suc i) h =
    let e : x < get_or xs i 0 = Rises-above x xs r.1 i (omega arith) in
    omega (arith, r.0)

-- a rising list doesn't fall
pub Rises-places : (low : ℕ) (xs : List ℕ) → Rises low xs → (i j : ℕ) → i ≤ j → j < length xs
    → get_or xs i 0 ≤ get_or xs j 0
Rises-places low [] r i j h l = absurd (omega arith)
Rises-places low (x ∷ xs) r zero zero h l = omega arith
Rises-places low (x ∷ xs) r zero (suc j) h l =
    let rest : x < get_or xs j 0 = Rises-above x xs r.1 j (omega arith) in omega arith
Rises-places low (x ∷ xs) r (suc i) zero h l = absurd (omega arith)
Rises-places low (x ∷ xs) r (suc i) (suc j) h l = Rises-places x xs r.1 i j (omega arith) (omega arith)

-- a number that stands at a place is one of them
pub has_number-at : (xs : List ℕ) (i n : ℕ) → i < length xs → get_or xs i 0 ≡ n → has_number xs n ≡ true
has_number-at [] i n h e = absurd (omega arith)
has_number-at (x ∷ xs) zero n h e = grind (arith, nat_tests)
has_number-at (x ∷ xs) (suc i) n h e =
    let rest : has_number xs n ≡ true = has_number-at xs i n (omega arith) e in
    grind (arith, nat_tests)

pub Rises-with_number : (low n : ℕ) (xs : List ℕ) → Rises low xs → low < n → Rises low (with_number xs n)
Rises-with_number low n [] r h = (h, tt)
Rises-with_number low n (x ∷ xs) r h =
    elim (nat_lt n x) as
    (λ b. nat_lt n x ≡ b → Rises low (cond b (n ∷ x ∷ xs) (cond (n == x) (x ∷ xs) (x ∷ with_number xs n)))) [
      | true ↦ λ e. (h, (ltb-true n x e, r.1))
      | false ↦ λ e.
          elim (n == x) as (λ b. (n == x) ≡ b → Rises low (cond b (x ∷ xs) (x ∷ with_number xs n))) [
            | true ↦ λ _. r
            | false ↦ λ d. (r.0, Rises-with_number x n xs r.1 (grind (arith, nat_tests, e, d)))
          ] refl
    ] refl

-- a number above the greatest goes to the end
pub Rises-push : (low n : ℕ) (xs : List ℕ) → Rises low xs → low < n → greatest_of xs < n → Rises low (xs ++ n ∷ [])
Rises-push low n [] r h g = (h, tt)
Rises-push low n (x ∷ xs) r h g = (r.0, Rises-push x n xs r.1 (omega arith) (omega arith))

-- one of two numbers is below the other, or not
pub lt-or-le : (a b : ℕ) → (a < b) ⊎ (b ≤ a)
lt-or-le a b = elim (nat_lt a b) as (λ t. nat_lt a b ≡ t → (a < b) ⊎ (b ≤ a)) [
  | true ↦ λ e. inl (ltb-true a b e)
  | false ↦ λ e. inr (ltb-false a b e)
] refl

-- a number more is among the numbers
pub has_number-with : (xs : List ℕ) (n m : ℕ) → has_number (with_number xs n) m ≡ (has_number xs m || (n == m))
has_number-with [] n m = grind (arith, nat_tests)
has_number-with (x ∷ xs) n m =
    let rest : has_number (with_number xs n) m ≡ (has_number xs m || (n == m)) = has_number-with xs n m in
    grind (arith, nat_tests, rest)

-- two rising lists with the same numbers are one
pub Rises-same : (low : ℕ) (xs ys : List ℕ) → Rises low xs → Rises low ys
    → ((n : ℕ) → has_number xs n ≡ has_number ys n) → xs ≡ ys
Rises-same low [] [] r s h = refl
Rises-same low [] (y ∷ ys) r s h = let e : has_number [] y ≡ has_number (y ∷ ys) y = h y in grind (arith, nat_tests, e)
Rises-same low (x ∷ xs) [] r s h = let e : has_number (x ∷ xs) x ≡ has_number [] x = h x in grind (arith, nat_tests, e)
Rises-same low (x ∷ xs) (y ∷ ys) r s h =
    let at_x : has_number (x ∷ xs) x ≡ has_number (y ∷ ys) x = h x in
    let at_y : has_number (x ∷ xs) y ≡ has_number (y ∷ ys) y = h y in
    let below_y : x ≤ y → has_number ys x ≡ false = has_number-below y x ys s.1 in
    let below_x : y ≤ x → has_number xs y ≡ false = has_number-below x y xs r.1 in
    let first : x ≡ y = grind (arith, nat_tests, at_x, at_y, below_x, below_y) in
    let rest : xs ≡ ys = Rises-same x xs ys r.1 (rw first s.1) (λ n.
    let e : has_number (x ∷ xs) n ≡ has_number (y ∷ ys) n = h n in
    let none_x : n ≤ x → has_number xs n ≡ false = has_number-below x n xs r.1 in
    let none_y : n ≤ y → has_number ys n ≡ false = has_number-below y n ys s.1 in
    grind (arith, nat_tests, e, none_x, none_y, first)) in
    cc
