-- Messages by number: what one more changes, which numbers there are, and what is up to the first gap.
use Rattle.std.proofs.Common.{◌≡◌, ℕ, zero, suc, ◌+◌, ◌<◌, ◌≤◌, true, false, cond, ◌||◌, ◌==◌, List, [], ◌∷◌, ◌++◌}
use Rattle.std.proofs.Common.{length, take, get_or, refl, ap, ◌∙◌, arith}
use Rattle.std.specs.List.{insert}
use Rattle.std.proofs.lemmas.Bool.Decides.{nat_tests}
use Rattle.rm_sides.specs.declared.ranges.range.Range.{Range}
use Rattle.rm_sides.specs.Ranges.Changes.{with_range}
use Rattle.rm_base.specs.NumberSet.{has_number, with_number, front_after}
use Rattle.rm_base.specs.NumberSetLemmas.{has_number-with}
use Rattle.rm_sides.specs.Destination.Messages.{with_message, sorted_onto, by_number, without_gap, numbers_of}
use Rattle.rm_sides.specs.Destination.Messages.{contents_of}
use Rattle.rm_sides.specs.Destination.Messages.{AreOnce, ranges_onto}

-- the message that came last is put in last
pub sorted_onto-push : {A : Type 0} → (sorted came : List (ℕ × A)) (m : ℕ × A)
    → sorted_onto sorted (came ++ m ∷ []) ≡ with_message (sorted_onto sorted came) m.0 m.1
sorted_onto-push sorted [] m = refl
sorted_onto-push sorted (x ∷ came) m = sorted_onto-push (with_message sorted x.0 x.1) came m

-- so is its number
pub ranges_onto-push : (ranges : List Range) (ns : List ℕ) (n : ℕ)
    → ranges_onto ranges (ns ++ n ∷ []) ≡ with_range (ranges_onto ranges ns) n n
ranges_onto-push ranges [] n = refl
ranges_onto-push ranges (x ∷ ns) n = ranges_onto-push (with_range ranges x x) ns n

-- a message more at the end has its number at the end
pub numbers_of-push : {A : Type 0} → (ms : List (ℕ × A)) (m : ℕ × A)
    → numbers_of (ms ++ m ∷ []) ≡ numbers_of ms ++ m.0 ∷ []
numbers_of-push [] m = refl
numbers_of-push (x ∷ ms) m = ap (λ (ns : List ℕ). x.0 ∷ ns) (numbers_of-push ms m)

-- a message more has the numbers and one more
pub numbers_of-with_message : {A : Type 0} → (ms : List (ℕ × A)) (n : ℕ) (x : A)
    → numbers_of (with_message ms n x) ≡ with_number (numbers_of ms) n
numbers_of-with_message [] n x = refl
numbers_of-with_message (m ∷ ms) n x =
    let rest : numbers_of (with_message ms n x) ≡ with_number (numbers_of ms) n = numbers_of-with_message ms n x in
    grind (arith, nat_tests, rest)

-- a message goes in where the numbers before it are smaller and those behind it greater
pub with_message-at : {A : Type 0} → (ms : List (ℕ × A)) (n : ℕ) (x : A) (i : ℕ) → i ≤ length ms
    → ((k : ℕ) → k < i → get_or (numbers_of ms) k 0 < n)
    → ((k : ℕ) → i ≤ k → k < length ms → n < get_or (numbers_of ms) k 0)
    → with_message ms n x ≡ insert ms i (n, x)
with_message-at [] n x zero h below above = refl
with_message-at [] n x (suc i) h below above = absurd (omega arith)
with_message-at (m ∷ ms) n x zero h below above =
    let first : n < m.0 = above 0 (omega arith) (omega arith) in
    grind (arith, nat_tests)
with_message-at (m ∷ ms) n x (suc i) h below above =
    let first : m.0 < n = below 0 (omega arith) in
    let rest : with_message ms n x ≡ insert ms i (n, x) =
    with_message-at ms n x i (omega arith) (λ k l. below (suc k) (omega arith))
    (λ k l g. above (suc k) (omega arith) (omega arith)) in
    grind (arith, nat_tests, rest)

-- the numbers of all that was put in
pub has_number-sorted : {A : Type 0} → (sorted came : List (ℕ × A)) (n : ℕ)
    → has_number (numbers_of (sorted_onto sorted came)) n
    ≡ (has_number (numbers_of sorted) n || has_number (numbers_of came) n)
has_number-sorted sorted [] n = grind (arith, nat_tests)
has_number-sorted sorted (x ∷ came) n =
    let rest : has_number (numbers_of (sorted_onto (with_message sorted x.0 x.1) came)) n
    ≡ (has_number (numbers_of (with_message sorted x.0 x.1)) n || has_number (numbers_of came) n) =
    has_number-sorted (with_message sorted x.0 x.1) came n in
    let one : has_number (numbers_of (with_message sorted x.0 x.1)) n
    ≡ (has_number (numbers_of sorted) n || (x.0 == n)) =
    ap (λ (ns : List ℕ). has_number ns n) (numbers_of-with_message sorted x.0 x.1)
    ∙ has_number-with (numbers_of sorted) x.0 n in
    grind (arith, nat_tests, rest, one)

-- sorting keeps the numbers
pub has_number-by_number : {A : Type 0} → (came : List (ℕ × A)) (n : ℕ)
    → has_number (numbers_of (by_number came)) n ≡ has_number (numbers_of came) n
has_number-by_number came n = has_number-sorted [] came n

-- up to the first gap there are as many messages as numbers from n to the front
pub length-without_gap : {A : Type 0} → (n : ℕ) (ms : List (ℕ × A))
    → n + length (without_gap n ms) ≡ front_after n (numbers_of ms)
length-without_gap n [] = omega arith
length-without_gap n (m ∷ ms) =
    let rest : m.0 + length (without_gap m.0 ms) ≡ front_after m.0 (numbers_of ms) = length-without_gap m.0 ms in
    grind (arith, nat_tests)

-- they are the first
pub without_gap-take : {A : Type 0} → (n : ℕ) (ms : List (ℕ × A))
    → without_gap n ms ≡ take (length (without_gap n ms)) (contents_of ms)
without_gap-take n [] = refl
without_gap-take n (m ∷ ms) =
    let rest : without_gap m.0 ms ≡ take (length (without_gap m.0 ms)) (contents_of ms) = without_gap-take m.0 ms in
    elim (m.0 == n + 1) as (λ b. cond b (m.1 ∷ without_gap m.0 ms) []
    ≡ take (length (cond b (m.1 ∷ without_gap m.0 ms) [])) (m.1 ∷ contents_of ms)) [
      | true ↦ ap (λ xs. m.1 ∷ xs) rest
      | false ↦ refl
    ]

-- a number more at the end
pub has_number-push : (xs : List ℕ) (n k : ℕ) → has_number (xs ++ n ∷ []) k ≡ (has_number xs k || (k == n))
has_number-push [] n k = grind (arith, nat_tests)
has_number-push (x ∷ xs) n k =
    let rest : has_number (xs ++ n ∷ []) k ≡ (has_number xs k || (k == n)) = has_number-push xs n k in
    grind (arith, nat_tests, rest)

-- one more with a new number
pub once-more : {A : Type 0} → (ms : List (ℕ × A)) (n : ℕ) (p : A) → AreOnce ms → has_number (numbers_of ms) n ≡ false
    → AreOnce (ms ++ (n, p) ∷ [])
once-more [] n p once new = (refl, tt)
once-more (m ∷ ms) n p once new =
    let rest : has_number (numbers_of ms) n ≡ false = grind (arith, nat_tests, new) in
    let pushed : numbers_of (ms ++ (n, p) ∷ []) ≡ numbers_of ms ++ n ∷ [] = numbers_of-push ms (n, p) in
    let here : has_number (numbers_of ms) m.0 ≡ false = once.0 in
    let more : has_number (numbers_of ms ++ n ∷ []) m.0 ≡ (has_number (numbers_of ms) m.0 || (m.0 == n)) =
    has_number-push (numbers_of ms) n m.0 in
    (rw pushed (grind (arith, nat_tests, new, here, more)), once-more ms n p once.1 rest)
