-- The front of rising numbers: what is up to it is there, and the next number is not.
use Rattle.std.proofs.Common.{◌≡◌, ℕ, ◌+◌, ◌<◌, ◌≤◌, true, false, List, [], ◌∷◌, refl, arith}
use Rattle.std.proofs.lemmas.Bool.Decides.{nat_tests}
use Rattle.rm_base.specs.NumberSetLemmas.{has_number-below}
use Rattle.rm_base.specs.NumberSet.{Rises, has_number, front_after}

-- the front goes up from n
pub front_after-from : (n : ℕ) (xs : List ℕ) → n ≤ front_after n xs
front_after-from n [] = omega arith
front_after-from n (x ∷ xs) =
    let rest : x ≤ front_after x xs = front_after-from x xs in
    grind (arith, nat_tests)

-- each number up to the front is there
pub front_after-has : (n : ℕ) (xs : List ℕ) (i : ℕ) → n < i → i ≤ front_after n xs → has_number xs i ≡ true
front_after-has n [] i h g = absurd (omega arith)
front_after-has n (x ∷ xs) i h g =
    let rest : x < i → i ≤ front_after x xs → has_number xs i ≡ true = front_after-has x xs i in
    grind (arith, nat_tests)

-- the number past the front is not there
pub front_after-next : (n : ℕ) (xs : List ℕ) → Rises n xs → has_number xs (front_after n xs + 1) ≡ false
front_after-next n [] r = refl
front_after-next n (x ∷ xs) r =
    let rest : has_number xs (front_after x xs + 1) ≡ false = front_after-next x xs r.1 in
    let up : x ≤ front_after x xs = front_after-from x xs in
    let none : n + 1 ≤ x → has_number xs (n + 1) ≡ false = has_number-below x (n + 1) xs r.1 in
    let above : n < x = r.0 in
    grind (arith, nat_tests)
