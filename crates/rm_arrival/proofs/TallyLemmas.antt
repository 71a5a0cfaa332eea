-- How many numbers a list of ranges has, counted number by number.
use Rattle.std.proofs.Common.{◌≡◌, ℕ, zero, suc, ◌+◌, ◌-◌, ◌<◌, ◌≤◌, ◌||◌, min, max, Bool}
use Rattle.std.proofs.Common.{true, false, List, [], ◌∷◌, refl, sym, ap, ◌∙◌, arith}
use Rattle.std.proofs.lemmas.Bool.Decides.{nat_tests}
use Rattle.std.proofs.lemmas.List.Sums.{sum_by-cons}
use Rattle.rm_sides.specs.declared.ranges.range.Range.{Range}
use Rattle.rm_sides.specs.Destination.LooseLemmas.{within-from}
use Rattle.rm_sides.specs.Ranges.Ranges.{IsCanonical, RisesFrom, count_of, in_range, in_ranges, is_between, size_of}

-- 1 where it is so
abbrev bit : Bool → ℕ
bit true = 1
bit false = 0

-- how many of the numbers from 1 to k pass the test
abbrev tally : (ℕ → Bool) → ℕ → ℕ
tally f zero = 0
tally f (suc k) = bit (f (suc k)) + tally f k

tally-most : (f : ℕ → Bool) (k : ℕ) → tally f k ≤ k
tally-most f zero = omega arith
tally-most f (suc k) =
    let rest = tally-most f k in
    elim (f (suc k)) as (λ b. bit b + tally f k ≤ suc k) [
      | true ↦ omega (arith, rest)
      | false ↦ omega (arith, rest)
    ]

tally-more : (f g : ℕ → Bool) (k : ℕ) → ((n : ℕ) → f n ≡ true → g n ≡ true) → tally f k ≤ tally g k
tally-more f g zero h = omega arith
tally-more f g (suc k) h =
    let rest = tally-more f g k h in
    elim (f (suc k)) as (λ b. f (suc k) ≡ b → bit b + tally f k ≤ bit (g (suc k)) + tally g k) [
      | true ↦ λ e. let one : bit (g (suc k)) ≡ 1 = ap bit (h (suc k) e) in omega (arith, rest, one)
      | false ↦ λ e. omega (arith, rest)
    ] refl

tally-same : (f g : ℕ → Bool) (k : ℕ) → ((n : ℕ) → f n ≡ g n) → tally f k ≡ tally g k
tally-same f g zero h = refl
tally-same f g (suc k) h =
    ap (λ b. bit b + tally f k) (h (suc k)) ∙ ap (λ n. bit (g (suc k)) + n) (tally-same f g k h)

tally-none : (k : ℕ) → tally (λ n. false) k ≡ 0
tally-none zero = refl
tally-none (suc k) = let rest = tally-none k in omega (arith, rest)

tally-apart : (f g : ℕ → Bool) (k : ℕ) → ((n : ℕ) → f n ≡ true → g n ≡ false)
    → tally (λ n. f n || g n) k ≡ tally f k + tally g k
tally-apart f g zero h = refl
tally-apart f g (suc k) h =
    let rest = tally-apart f g k h in
    elim (f (suc k)) as (λ b. f (suc k) ≡ b → bit (b || g (suc k)) + tally (λ n. f n || g n) k
    ≡ bit b + tally f k + (bit (g (suc k)) + tally g k)) [
      | true ↦ λ e. let off : bit (g (suc k)) ≡ 0 = ap bit (h (suc k) e) in omega (arith, rest, off)
      | false ↦ λ e. omega (arith, rest)
    ] refl

tally-between : (l u k : ℕ) → 0 < l → tally (is_between l u) k ≡ min k u + 1 - l
tally-between l u zero above = omega (arith, above)
tally-between l u (suc k) above =
    let rest = tally-between l u k above in
    elim (is_between l u (suc k)) as (λ b. is_between l u (suc k) ≡ b
    → bit b + tally (is_between l u) k ≡ min (suc k) u + 1 - l) [
      | true ↦ λ e.
          let low : l ≤ suc k = grind (arith, nat_tests, e) in
          let top : suc k ≤ u = grind (arith, nat_tests, e) in
          omega (arith, rest, low, top, above)
      | false ↦ λ e. grind (arith, nat_tests, e, rest, above)
    ] refl

or-second : (x y : Bool) → y ≡ true → (x || y) ≡ true
or-second true y h = refl
or-second false y h = h

upper-in : (x : Range) → x.lower ≤ x.upper → in_range x x.upper ≡ true
upper-in x le = grind (arith, nat_tests, le)

or-first : (x y : Bool) → x ≡ true → (x || y) ≡ true
or-first true y h = refl
or-first false y h = absurd (cc (h))

-- what lies in a range lies in none behind it
apart : (x : Range) (rs : List Range) → RisesFrom (x.upper + 2) rs → (n : ℕ) → in_range x n ≡ true
    → in_ranges rs n ≡ false
apart x rs rises n here =
    elim (in_ranges rs n) as (λ b. in_ranges rs n ≡ b → b ≡ false) [
      | true ↦ λ e.
          let low = (within-from (x.upper + 2) n rs rises e).0 in
          let top : n ≤ x.upper = grind (arith, nat_tests, here) in
          absurd (omega (arith, low, top))
      | false ↦ λ e. refl
    ] refl

-- the ranges have as many numbers as there are up to a greatest one
count-tally : (first m : ℕ) (rs : List Range) → RisesFrom first rs → 0 < first
    → ((n : ℕ) → in_ranges rs n ≡ true → n ≤ m) → count_of rs ≡ tally (in_ranges rs) m
count-tally first m [] rises above h = sym (tally-same (in_ranges []) (λ n. false) m (λ n. refl) ∙ tally-none m)
count-tally first m (x ∷ rs) rises above h =
    let low = rises.0 in
    let lower : 0 < x.lower = omega (arith, low, above) in
    let rest = count-tally (x.upper + 2) m rs rises.3 (omega arith)
    (λ n e. h n (or-second (in_range x n) (in_ranges rs n) e)) in
    let upper : x.upper ≤ m = h x.upper (or-first (in_range x x.upper) (in_ranges rs x.upper) (upper-in x rises.1)) in
    let all : count_of (x ∷ rs) ≡ x.upper + 1 - x.lower + count_of rs = sum_by-cons size_of x rs in
    let split : tally (in_ranges (x ∷ rs)) m ≡ tally (is_between x.lower x.upper) m + tally (in_ranges rs) m =
    tally-same (in_ranges (x ∷ rs)) (λ n. is_between x.lower x.upper n || in_ranges rs n) m (λ n. refl)
    ∙ tally-apart (is_between x.lower x.upper) (in_ranges rs) m (apart x rs rises.3) in
    let here = tally-between x.lower x.upper m lower in
    omega (arith, rest, upper, all, split, here)

-- no number of the ranges is above m: they have at most m
pub count-most : (m : ℕ) (rs : List Range) → IsCanonical rs → ((n : ℕ) → in_ranges rs n ≡ true → n ≤ m)
    → count_of rs ≤ m
count-most m rs is h =
    let same = count-tally 1 m rs is (omega arith) h in
    let most = tally-most (in_ranges rs) m in
    omega (arith, same, most)

abbrev top : List Range → ℕ
top [] = 0
top (x ∷ rs) = max x.upper (top rs)

in-top : (rs : List Range) (n : ℕ) → in_ranges rs n ≡ true → n ≤ top rs
in-top [] n h = absurd (cc (h))
in-top (x ∷ rs) n h =
    elim (in_range x n) as (λ b. in_range x n ≡ b → (b || in_ranges rs n) ≡ true → n ≤ max x.upper (top rs)) [
      | true ↦ λ e g. let le : n ≤ x.upper = grind (arith, nat_tests, e) in omega (arith, le)
      | false ↦ λ e g. let le = in-top rs n g in omega (arith, le)
    ] refl h

-- ranges that have all numbers of others have at least as many
pub count-more : (xs ys : List Range) → IsCanonical xs → IsCanonical ys
    → ((n : ℕ) → in_ranges xs n ≡ true → in_ranges ys n ≡ true) → count_of xs ≤ count_of ys
count-more xs ys is there h =
    let m = top ys in
    let one = count-tally 1 m xs is (omega arith) (λ n e. in-top ys n (h n e)) in
    let two = count-tally 1 m ys there (omega arith) (in-top ys) in
    let more = tally-more (in_ranges xs) (in_ranges ys) m h in
    omega (arith, one, two, more)
