-- All that was received, where the messages 1 to g are gone and the others came behind them.
use Rattle.std.proofs.Common.{◌≡◌, ℕ, zero, suc, ◌+◌, ◌-◌, ◌<◌, ◌≤◌, false, ◌==◌, ◌||◌, List, [], ◌∷◌, ◌++◌}
use Rattle.std.proofs.Common.{cond, length, min, max, refl, sym, ap, subst, ◌∙◌, arith, inl, inr, Some, None}
use Rattle.std.proofs.lemmas.List.Sums.{sum_by-cons}
use Rattle.std.proofs.lemmas.Bool.{cases_Bool}
use Rattle.std.specs.Prelude.{◌&&◌, nat_le, nat_lt, slice_get}
use Rattle.std.proofs.lemmas.Bool.Decides.{nat_tests}
use Rattle.std.proofs.lemmas.List.{append-nil, append_assoc, length-append}
use Rattle.rm_sides.specs.Ranges.Changes.{with_range}
use Rattle.rm_sides.specs.declared.ranges.range.Range.{Range}
use Rattle.rm_sides.specs.Ranges.Ranges.{in_range, in_ranges, is_between, count_of, size_of}
use Rattle.rm_base.specs.NumberSet.{IsRising, Rises, has_number}
use Rattle.rm_base.specs.NumberSetLemmas.{has_number-below, lt-or-le}
use Rattle.rm_base.specs.declared.message.Payload.{Payload}
use Rattle.rm_sides.specs.Destination.MessageLemmas.{has_number-by_number}
use Rattle.rm_sides.specs.Destination.Messages.{Item, with_message, sorted_onto, by_number, numbers_of, contents_of}
use Rattle.rm_sides.specs.Destination.Messages.{ranges_onto, run_of, run_to, numbers_in, gone_items, there_items}
use Rattle.rm_sides.specs.Destination.Messages.{items_of}
use Rattle.rm_sides.specs.Destination.Messages.{above, payload_in, item_at}

-- messages that all come behind the first one are put in behind it
pub sorted_onto-front : {A : Type 0} → (m : ℕ × A) (sorted came : List (ℕ × A))
    → ((n : ℕ) → n ≤ m.0 → has_number (numbers_of came) n ≡ false)
    → sorted_onto (m ∷ sorted) came ≡ m ∷ sorted_onto sorted came
sorted_onto-front m sorted [] above = refl
sorted_onto-front m sorted (x ∷ came) above =
    let behind : m.0 < x.0 = elim (lt-or-le m.0 x.0) [
      | inl so ↦ so
      | inr before ↦
          let none : has_number (numbers_of (x ∷ came)) x.0 ≡ false = above x.0 before in
          absurd (grind (arith, nat_tests, none))
    ] in
    let put : with_message (m ∷ sorted) x.0 x.1 ≡ m ∷ with_message sorted x.0 x.1 = grind (arith, nat_tests, behind) in
    ap (λ s. sorted_onto s came) put
    ∙ sorted_onto-front m (with_message sorted x.0 x.1) came (λ n le.
    let none : has_number (numbers_of (x ∷ came)) n ≡ false = above n le in
    grind (arith, nat_tests, none))

-- the numbers of a run
pub has_number-run : (lower k n : ℕ) → has_number (run_of lower k) n ≡ (nat_le lower n && nat_lt n (lower + k))
has_number-run lower zero n = grind (arith, nat_tests)
has_number-run lower (suc k) n =
    let rest : has_number (run_of (lower + 1) k) n ≡ (nat_le (lower + 1) n && nat_lt n (lower + 1 + k)) =
    has_number-run (lower + 1) k n in
    grind (arith, nat_tests, rest)

-- the numbers of ranges that are one run from 1
pub numbers_in-run_to : (g : ℕ) → numbers_in (run_to g) ≡ run_of 1 g
numbers_in-run_to zero = refl
numbers_in-run_to (suc g) =
    let size : suc g + 1 - 1 ≡ suc g = omega arith in
    ap (λ k. run_of 1 k ++ []) size ∙ append-nil (run_of 1 (suc g))

-- what is there has the numbers that it has
pub numbers_of-there : (ms : List (ℕ × Payload)) → numbers_of (there_items ms) ≡ numbers_of ms
numbers_of-there [] = refl
numbers_of-there (m ∷ ms) = ap (λ ns. m.0 ∷ ns) (numbers_of-there ms)

-- what is gone too, with what is there behind it
pub numbers_of-both : (ns : List ℕ) (ms : List (ℕ × Payload))
    → numbers_of (gone_items ns ++ there_items ms) ≡ ns ++ numbers_of ms
numbers_of-both [] ms = numbers_of-there ms
numbers_of-both (n ∷ ns) ms = ap (λ xs. n ∷ xs) (numbers_of-both ns ms)

pub has_number-gone : (ns : List ℕ) (ms : List (ℕ × Item)) (n : ℕ)
    → has_number (numbers_of (gone_items ns ++ ms)) n ≡ (has_number ns n || has_number (numbers_of ms) n)
has_number-gone [] ms n = refl
has_number-gone (x ∷ ns) ms n =
    let rest : has_number (numbers_of (gone_items ns ++ ms)) n ≡ (has_number ns n || has_number (numbers_of ms) n) =
    has_number-gone ns ms n in
    grind (arith, nat_tests, rest)

-- the numbers of lists that are joined
pub has-more : (xs ys : List ℕ) (n : ℕ) → has_number (xs ++ ys) n ≡ (has_number xs n || has_number ys n)
has-more [] ys n = refl
has-more (x ∷ xs) ys n =
    let rest : has_number (xs ++ ys) n ≡ (has_number xs n || has_number ys n) = has-more xs ys n in
    grind (arith, nat_tests, rest)

-- the numbers of ranges, one by one
pub numbers-in : (ps : List Range) (n : ℕ) → has_number (numbers_in ps) n ≡ in_ranges ps n
numbers-in [] n = refl
numbers-in (x ∷ ps) n = has-more (run_of x.lower (size_of x)) (numbers_in ps) n
    ∙ ap (λ b. b || has_number (numbers_in ps) n) (one x.lower x.upper)
    ∙ ap (λ b. in_range x n || b) (numbers-in ps n)
  where
    one : (lower upper : ℕ) → has_number (run_of lower (upper + 1 - lower)) n ≡ is_between lower upper n
    one lower upper =
        let all = has_number-run lower (upper + 1 - lower) n in
        grind (arith, nat_tests, all)

-- the numbers of all that was received
pub has_number-held : (ps : List Range) (ms : List (ℕ × Payload)) (n : ℕ)
    → has_number (numbers_of (items_of ps ms)) n ≡ (in_ranges ps n || has_number (numbers_of ms) n)
has_number-held ps ms n =
    has_number-gone (numbers_in ps) (there_items ms) n
    ∙ ap (λ b. b || has_number (numbers_of (there_items ms)) n) (numbers-in ps n)
    ∙ ap (λ ns. in_ranges ps n || has_number ns n) (numbers_of-there ms)

-- one message more comes last
pub there_items-push : (ms : List (ℕ × Payload)) (m : ℕ × Payload)
    → there_items (ms ++ m ∷ []) ≡ there_items ms ++ (m.0, Some m.1) ∷ []
there_items-push [] m = refl
there_items-push (x ∷ ms) m = ap (λ xs. (x.0, Some x.1) ∷ xs) (there_items-push ms m)

pub items_of-push : (ps : List Range) (ms : List (ℕ × Payload)) (m : ℕ × Payload)
    → items_of ps (ms ++ m ∷ []) ≡ items_of ps ms ++ (m.0, Some m.1) ∷ []
items_of-push ps ms m =
    ap (λ xs. gone_items (numbers_in ps) ++ xs) (there_items-push ms m)
    ∙ sym (append_assoc (gone_items (numbers_in ps)) (there_items ms) ((m.0, Some m.1) ∷ []))

-- all that was received has the numbers of what is gone and of what is there
pub numbers_of-items : (g : ℕ) (ms : List (ℕ × Payload))
    → numbers_of (items_of (run_to g) ms) ≡ run_of 1 g ++ numbers_of ms
numbers_of-items g ms =
    ap (λ ns. numbers_of (gone_items ns ++ there_items ms)) (numbers_in-run_to g) ∙ numbers_of-both (run_of 1 g) ms

pub has_number-items : (g : ℕ) (ms : List (ℕ × Payload)) (n : ℕ)
    → has_number (numbers_of (items_of (run_to g) ms)) n
    ≡ ((nat_le 1 n && nat_lt n (1 + g)) || has_number (numbers_of ms) n)
has_number-items g ms n =
    ap (λ ns. has_number (numbers_of (gone_items ns ++ there_items ms)) n) (numbers_in-run_to g)
    ∙ has_number-gone (run_of 1 g) (there_items ms) n
    ∙ ap (λ b. b || has_number (numbers_of (there_items ms)) n) (has_number-run 1 g n)
    ∙ ap (λ ns. (nat_le 1 n && nat_lt n (1 + g)) || has_number ns n) (numbers_of-there ms)

-- sorting looks at numbers alone
pub there-with_message : (ms : List (ℕ × Payload)) (n : ℕ) (p : Payload)
    → with_message (there_items ms) n (Some p) ≡ there_items (with_message ms n p)
there-with_message [] n p = refl
there-with_message (m ∷ ms) n p =
    let rest : with_message (there_items ms) n (Some p) ≡ there_items (with_message ms n p) =
    there-with_message ms n p in
    grind (arith, nat_tests, rest)

pub there-sorted : (sorted came : List (ℕ × Payload))
    → sorted_onto (there_items sorted) (there_items came) ≡ there_items (sorted_onto sorted came)
there-sorted sorted [] = refl
there-sorted sorted (m ∷ came) =
    ap (λ s. sorted_onto s (there_items came)) (there-with_message sorted m.0 m.1)
    ∙ there-sorted (with_message sorted m.0 m.1) came

-- a run stays before the messages that come behind it
pub sorted-run : (lower k : ℕ) (ms : List (ℕ × Item))
    → ((n : ℕ) → n < lower + k → has_number (numbers_of ms) n ≡ false)
    → sorted_onto [] (gone_items (run_of lower k) ++ ms) ≡ gone_items (run_of lower k) ++ sorted_onto [] ms
sorted-run lower zero ms above = refl
sorted-run lower (suc k) ms above =
    sorted_onto-front (lower, None) [] (gone_items (run_of (lower + 1) k) ++ ms) (λ n le.
    let both = has_number-gone (run_of (lower + 1) k) ms n in
    let run = has_number-run (lower + 1) k n in
    let none : has_number (numbers_of ms) n ≡ false = above n (omega arith) in
    grind (arith, nat_tests, both, run, none))
    ∙ ap (λ xs. (lower, None) ∷ xs) (sorted-run (lower + 1) k ms (λ n lt. above n (omega arith)))

-- by number, what is gone stands before what is there
pub by_number-items : (g : ℕ) (came : List (ℕ × Payload)) → Rises g (numbers_of (by_number came))
    → by_number (items_of (run_to g) came) ≡ gone_items (run_of 1 g) ++ there_items (by_number came)
by_number-items g came rising =
    ap (λ ns. by_number (gone_items ns ++ there_items came)) (numbers_in-run_to g)
    ∙ sorted-run 1 g (there_items came) (λ n lt.
    ap (λ ns. has_number ns n) (numbers_of-there came)
    ∙ sym (has_number-by_number came n)
    ∙ has_number-below g n (numbers_of (by_number came)) rising (omega arith))
    ∙ ap (λ ms. gone_items (run_of 1 g) ++ ms) (there-sorted [] came)

-- a run before numbers that rise behind it
pub Rises-run : (lower k : ℕ) (xs : List ℕ) → Rises (lower + k) xs → Rises lower (run_of (lower + 1) k ++ xs)
Rises-run lower zero xs r =
    let same : lower + 0 ≡ lower = omega arith in
    subst (λ n. Rises n xs) same r
Rises-run lower (suc k) xs r =
    let same : lower + suc k ≡ lower + 1 + k = omega arith in
    (omega arith, Rises-run (lower + 1) k xs (subst (λ n. Rises n xs) same r))

pub Rises-items : (g : ℕ) (came : List (ℕ × Payload)) → Rises g (numbers_of (by_number came))
    → IsRising (numbers_of (by_number (items_of (run_to g) came)))
Rises-items g came rising =
    let same : 0 + g ≡ g = omega arith in
    subst IsRising (sym (ap numbers_of (by_number-items g came rising) ∙ numbers_of-both (run_of 1 g) (by_number came)))
    (Rises-run 0 g (numbers_of (by_number came)) (subst (λ n. Rises n (numbers_of (by_number came))) (sym same) rising))

-- how many they are
pub length-run : (lower k : ℕ) → length (run_of lower k) ≡ k
length-run lower zero = refl
length-run lower (suc k) = ap (λ n. suc n) (length-run (lower + 1) k)

pub length-numbers_in : (ps : List Range) → length (numbers_in ps) ≡ count_of ps
length-numbers_in [] = refl
length-numbers_in (x ∷ ps) =
    let size : length (run_of x.lower (size_of x)) ≡ size_of x = length-run x.lower (size_of x) in
    let both = length-append (run_of x.lower (size_of x)) (numbers_in ps) in
    let rest = length-numbers_in ps in
    let all : count_of (x ∷ ps) ≡ size_of x + count_of ps = sum_by-cons size_of x ps in
    omega (arith, size, both, rest, all)

pub length-both : (ns : List ℕ) (ms : List (ℕ × Payload))
    → length (gone_items ns ++ there_items ms) ≡ length ns + length ms
length-both [] [] = refl
length-both [] (m ∷ ms) = let rest = length-both [] ms in omega (arith, rest)
length-both (n ∷ ns) ms = let rest = length-both ns ms in omega (arith, rest)

pub length-items_of : (ps : List Range) (ms : List (ℕ × Payload)) → length (items_of ps ms) ≡ count_of ps + length ms
length-items_of ps ms = omega (arith, length-both (numbers_in ps) ms, length-numbers_in ps)

pub length-items : (g : ℕ) (came : List (ℕ × Payload)) → Rises g (numbers_of (by_number came))
    → length (by_number (items_of (run_to g) came)) ≡ g + length (by_number came)
length-items g came rising =
    let all = ap length (by_number-items g came rising) in
    omega (arith, all, length-both (run_of 1 g) (by_number came), length-run 1 g)

-- what stands at a place of the gone ones is gone
at-gone : (ns : List ℕ) (ms : List (ℕ × Payload)) (j : ℕ) → j < length ns
    → payload_in (slice_get (contents_of (gone_items ns ++ there_items ms)) j) ≡ None
at-gone [] ms j lt = absurd (omega arith)
at-gone (n ∷ ns) ms zero lt = refl
at-gone (n ∷ ns) ms (suc j) lt = at-gone ns ms j (omega (arith, lt))

-- and behind them the others stand
at-there : (ns : List ℕ) (ms : List (ℕ × Payload)) (j : ℕ)
    → payload_in (slice_get (contents_of (gone_items ns ++ there_items ms)) (length ns + j))
    ≡ slice_get (contents_of ms) j
at-there [] [] j = refl
at-there [] (m ∷ ms) zero = refl
at-there [] (m ∷ ms) (suc j) =
    let same : 0 + suc j ≡ suc (0 + j) = omega arith in
    rw same (at-there [] ms j)
at-there (n ∷ ns) ms j =
    let same : suc (length ns) + j ≡ suc (length ns + j) = omega arith in
    rw same (at-there ns ms j)

-- the payload at a place of all that was received, as it came
pub item_at-earliest : (ps : List Range) (ms : List (ℕ × Payload)) (i : ℕ) → i ≤ count_of ps
    → item_at (contents_of (items_of ps ms)) i ≡ None
item_at-earliest ps ms zero le = refl
item_at-earliest ps ms (suc i) le =
    let off : (suc i == 0) ≡ false = grind (arith, nat_tests) in
    let place : suc i - 1 ≡ i = omega arith in
    rw (off, place) (at-gone (numbers_in ps) ms i (omega (arith, le, length-numbers_in ps)))

pub item_at-later : (ps : List Range) (ms : List (ℕ × Payload)) (i : ℕ) → count_of ps < i
    → item_at (contents_of (items_of ps ms)) i ≡ slice_get (contents_of ms) (i - count_of ps - 1)
item_at-later ps ms i lt =
    let off : (i == 0) ≡ false = grind (arith, nat_tests) in
    let place : i - 1 ≡ length (numbers_in ps) + (i - count_of ps - 1) = omega (arith, lt, length-numbers_in ps) in
    rw (off, place) (at-there (numbers_in ps) ms (i - count_of ps - 1))

-- the payload at a place of all that was received, by number
pub item_at-gone : (g : ℕ) (came : List (ℕ × Payload)) (i : ℕ) → Rises g (numbers_of (by_number came)) → i ≤ g
    → item_at (contents_of (by_number (items_of (run_to g) came))) i ≡ None
item_at-gone g came zero rising le = refl
item_at-gone g came (suc i) rising le =
    let off : (suc i == 0) ≡ false = grind (arith, nat_tests) in
    let place : suc i - 1 ≡ i = omega arith in
    ap (λ ms. item_at (contents_of ms) (suc i)) (by_number-items g came rising)
    ∙ rw (off, place) (at-gone (run_of 1 g) (by_number came) i (omega (arith, le, length-run 1 g)))

pub item_at-there : (g : ℕ) (came : List (ℕ × Payload)) (i : ℕ) → Rises g (numbers_of (by_number came)) → g < i
    → item_at (contents_of (by_number (items_of (run_to g) came))) i
    ≡ slice_get (contents_of (by_number came)) (i - g - 1)
item_at-there g came i rising lt =
    let off : (i == 0) ≡ false = grind (arith, nat_tests) in
    let place : i - 1 ≡ length (run_of 1 g) + (i - g - 1) = omega (arith, lt, length-run 1 g) in
    ap (λ ms. item_at (contents_of ms) i) (by_number-items g came rising)
    ∙ rw (off, place) (at-there (run_of 1 g) (by_number came) (i - g - 1))

-- the ranges of a run, number by number
ranges_onto-run : (g k : ℕ) → 0 < g → ranges_onto (record { lower = 1; upper = g } ∷ []) (run_of (g + 1) k)
    ≡ record { lower = 1; upper = g + k } ∷ []
ranges_onto-run g zero from = let same : g + 0 ≡ g = omega arith in rw same refl
ranges_onto-run g (suc k) from =
    let meets : nat_lt (g + 1) (g + 1) ≡ false = grind (arith, nat_tests) in
    let touches : nat_lt (g + 1 + 1) 1 ≡ false = grind (arith, nat_tests) in
    let low : min 1 (g + 1) ≡ 1 = omega arith in
    let high : max g (g + 1) ≡ g + 1 = omega arith in
    let joined : with_range (record { lower = 1; upper = g } ∷ []) (g + 1) (g + 1)
    ≡ record { lower = 1; upper = g + 1 } ∷ [] = rw (meets, touches, low, high) refl in
    let more : g + 1 + k ≡ g + suc k = omega arith in
    ap (λ rs. ranges_onto rs (run_of (g + 1 + 1) k)) joined
    ∙ ranges_onto-run (g + 1) k (omega arith)
    ∙ ap (λ (n : ℕ). record { lower = 1; upper = n } ∷ []) more

pub ranges_onto-run_to : (g : ℕ) → ranges_onto [] (run_of 1 g) ≡ run_to g
ranges_onto-run_to zero = refl
ranges_onto-run_to (suc g) =
    let same : 1 + g ≡ suc g = omega arith in
    ranges_onto-run 1 g (omega arith) ∙ ap (λ (n : ℕ). record { lower = 1; upper = n } ∷ []) same

-- the numbers of the ranges
pub in_ranges-run_to : (g n : ℕ) → in_ranges (run_to g) n ≡ (nat_le 1 n && nat_lt n (1 + g))
in_ranges-run_to zero n = grind (arith, nat_tests)
in_ranges-run_to (suc g) n = grind (arith, nat_tests)

-- how many they are
pub count_of-run_to : (g : ℕ) → count_of (run_to g) ≡ g
count_of-run_to zero = refl
count_of-run_to (suc g) = omega arith

-- a number above n is among those above n where it is among all
pub has_number-above : {A : Type 0} → (n k : ℕ) (ms : List (ℕ × A))
    → has_number (numbers_of (above n ms)) k ≡ (nat_lt n k && has_number (numbers_of ms) k)
has_number-above n k [] = grind (arith, nat_tests)
has_number-above n k (m ∷ ms) =
    let rest : has_number (numbers_of (above n ms)) k ≡ (nat_lt n k && has_number (numbers_of ms) k) =
    has_number-above n k ms in
    elim (cases_Bool (nat_lt n m.0)) [
      | inl kept ↦
          ap (λ b. has_number (numbers_of (cond b (m ∷ above n ms) (above n ms))) k) kept
          ∙ grind (arith, nat_tests, rest, kept)
      | inr left ↦
          ap (λ b. has_number (numbers_of (cond b (m ∷ above n ms) (above n ms))) k) left
          ∙ grind (arith, nat_tests, rest, left)
    ]
