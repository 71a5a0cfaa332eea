-- How many numbers ranges have: fewer than there are message numbers, and as many as stand in a list of them.
use Rattle.std.proofs.Common.{◌≡◌, ℕ, zero, suc, ◌+◌, ◌-◌, ◌<◌, ◌≤◌, ◌||◌, ◌&&◌, ◌==◌, nat_le, nat_lt, List, [], ◌∷◌}
use Rattle.std.proofs.Common.{◌++◌, length, take, drop, refl, sym, ap, ◌∙◌, arith, length-append}
use Rattle.std.proofs.lemmas.Bool.Decides.{nat_tests}
use Rattle.std.proofs.lemmas.List.{take_more, take_all}
use Rattle.std.proofs.lemmas.List.Sums.{sum_by-cons, sum_by_push, sum_by-append, sum_by-take-drop}
use Rattle.rm_base.specs.Message.{max_number}
use Rattle.rm_base.specs.NumberSet.{Rises, IsRising, has_number}
use Rattle.rm_base.specs.NumberSetLemmas.{Rises-weaker, Rises-same}
use Rattle.rm_sides.specs.declared.ranges.range.Range.{Range}
use Rattle.rm_sides.specs.Ranges.Ranges.{in_range, in_ranges, RisesFrom, IsCanonical, size_of, count_of}
use Rattle.rm_sides.specs.Ranges.Places.{range_at}
use Rattle.rm_sides.proofs.RangesLemmas.RangesLemmas.{or_assoc}

-- no more than there are message numbers from the first on
count_of-from : (first : ℕ) (rs : List Range) → RisesFrom first rs → count_of rs ≤ max_number + 1 - first
count_of-from first [] h = omega arith
count_of-from first (r ∷ rs) h =
    let rest : count_of rs ≤ max_number + 1 - (r.upper + 2) = count_of-from (r.upper + 2) rs h.3 in
    omega (arith, sum_by-cons size_of r rs, h.0, h.1, h.2)

-- canonical ranges have no more numbers than there are
pub count_of-few : (rs : List Range) → IsCanonical rs → count_of rs ≤ max_number
count_of-few rs h = let few : count_of rs ≤ max_number + 1 - 1 = count_of-from 1 rs h in omega arith

-- the first ranges have no more numbers than all
pub count_of-take : (rs : List Range) (i : ℕ) → count_of (take i rs) ≤ count_of rs
count_of-take rs i =
    let all : count_of (take i rs) + count_of (drop i rs) ≡ count_of rs = sum_by-take-drop size_of rs i in omega arith

-- one range more of the first
pub count_of-take-more : (rs : List Range) (i : ℕ) → i < length rs →
    count_of (take (i + 1) rs) ≡ count_of (take i rs) + size_of (range_at rs i)
count_of-take-more rs i h =
    ap count_of (take_more rs i (record { lower = 0; upper = 0 }) h)
    ∙ sum_by_push size_of (take i rs) (range_at rs i)

-- what is counted from the first to behind the last is all
pub count_of-all : (rs : List Range) (n count : ℕ) → count + count_of (take 0 rs) ≡ count_of (take n rs) →
    n ≡ length rs → count ≡ count_of rs
count_of-all rs n count h e =
    let all : count_of (take n rs) ≡ count_of rs = ap count_of (take_all n rs (omega arith)) in
    let none : count_of (take 0 rs) ≡ 0 = refl in omega arith

-- ranges in the place of some others
pub count_of-joined : (rs : List Range) (from to : ℕ) (r : Range) →
    count_of (take from rs ++ r ∷ drop to rs) + count_of (take to rs)
    ≡ count_of rs + count_of (take from rs) + size_of r
count_of-joined rs from to r =
    let new : count_of (take from rs ++ r ∷ drop to rs) ≡ count_of (take from rs) + count_of (r ∷ drop to rs) =
    sum_by-append size_of (take from rs) (r ∷ drop to rs) in
    let first : count_of (r ∷ drop to rs) ≡ size_of r + count_of (drop to rs) = sum_by-cons size_of r (drop to rs) in
    let all : count_of (take to rs) + count_of (drop to rs) ≡ count_of rs = sum_by-take-drop size_of rs to in
    omega arith

-- the numbers from low on, so many
run : ℕ → ℕ → List ℕ
run low zero = []
run low (suc k) = low ∷ run (low + 1) k

length-run : (low k : ℕ) → length (run low k) ≡ k
unfolding run
length-run low zero = refl
length-run low (suc k) = let rest : length (run (low + 1) k) ≡ k = length-run (low + 1) k in omega arith

has_number-append : (xs ys : List ℕ) (n : ℕ) → has_number (xs ++ ys) n ≡ (has_number xs n || has_number ys n)
has_number-append [] ys n = refl
has_number-append (x ∷ xs) ys n =
    ap (λ b. (x == n) || b) (has_number-append xs ys n) ∙ or_assoc (x == n) (has_number xs n) (has_number ys n)

has_number-run : (low k n : ℕ) → has_number (run low k) n ≡ (nat_le low n && nat_lt n (low + k))
unfolding run
has_number-run low zero n = grind (arith, nat_tests)
has_number-run low (suc k) n =
    let rest : has_number (run (low + 1) k) n ≡ (nat_le (low + 1) n && nat_lt n (low + 1 + k)) =
    has_number-run (low + 1) k n in
    grind (arith, nat_tests, rest)

Rises-run : (below low k : ℕ) (ys : List ℕ) → below < low → Rises (low + k - 1) ys → Rises below (run low k ++ ys)
unfolding run
Rises-run below low zero ys h r = Rises-weaker below (low + 0 - 1) ys (omega arith) r
Rises-run below low (suc k) ys h r =
    let e : low + 1 + k - 1 ≡ low + suc k - 1 = omega arith in
    (h, Rises-run low (low + 1) k ys (omega arith) (rw e r))

-- all numbers of the ranges
numbers_of : List Range → List ℕ
numbers_of [] = []
numbers_of (r ∷ rs) = run r.lower (size_of r) ++ numbers_of rs

length-numbers_of : (rs : List Range) → length (numbers_of rs) ≡ count_of rs
unfolding numbers_of
length-numbers_of [] = refl
length-numbers_of (r ∷ rs) =
    let rest : length (numbers_of rs) ≡ count_of rs = length-numbers_of rs in
    let here : length (run r.lower (size_of r)) ≡ size_of r = length-run r.lower (size_of r) in
    let first : count_of (r ∷ rs) ≡ size_of r + count_of rs = sum_by-cons size_of r rs in
    length-append (run r.lower (size_of r)) (numbers_of rs) ∙ omega arith

has_number-numbers_of : (first : ℕ) (rs : List Range) (n : ℕ) → RisesFrom first rs →
    has_number (numbers_of rs) n ≡ in_ranges rs n
unfolding numbers_of
has_number-numbers_of first [] n h = refl
has_number-numbers_of first (r ∷ rs) n h =
    let rest : has_number (numbers_of rs) n ≡ in_ranges rs n = has_number-numbers_of (r.upper + 2) rs n h.3 in
    let size : r.lower + size_of r ≡ r.upper + 1 = omega (arith, h.1) in
    let run_has : has_number (run r.lower (size_of r)) n ≡ (nat_le r.lower n && nat_lt n (r.lower + size_of r)) =
    has_number-run r.lower (size_of r) n in
    let here : has_number (run r.lower (size_of r)) n ≡ in_range r n =
    (rw size at run_has) ∙ grind (arith, nat_tests) in
    has_number-append (run r.lower (size_of r)) (numbers_of rs) n
    ∙ ap (λ b. b || has_number (numbers_of rs) n) here ∙ ap (λ b. in_range r n || b) rest

Rises-numbers_of : (first below : ℕ) (rs : List Range) → RisesFrom first rs → below < first →
    Rises below (numbers_of rs)
unfolding numbers_of
Rises-numbers_of first below [] h lt = tt
Rises-numbers_of first below (r ∷ rs) h lt =
    let last : r.lower + size_of r - 1 ≡ r.upper = omega (arith, h.1, h.0) in
    Rises-run below r.lower (size_of r) (numbers_of rs) (omega (arith, h.0))
    (rw last (Rises-numbers_of (r.upper + 2) r.upper rs h.3 (omega arith)))

-- the count is the length of the rising list of the same numbers
pub count_of-length : (xs : List Range) (numbers : List ℕ) → IsCanonical xs → IsRising numbers →
    ((n : ℕ) → has_number numbers n ≡ in_ranges xs n) → count_of xs ≡ length numbers
count_of-length xs numbers h r same =
    sym (length-numbers_of xs)
    ∙ ap length (Rises-same 0 (numbers_of xs) numbers (Rises-numbers_of 1 0 xs h (omega arith)) r
    (λ n. has_number-numbers_of 1 xs n h ∙ sym (same n)))
