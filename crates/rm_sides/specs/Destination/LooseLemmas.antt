-- Numbers put one by one into ranges, and what a loose sequence has when its earliest messages are gone.
use Rattle.std.proofs.Common.{◌≡◌, ℕ, zero, suc, ◌+◌, ◌-◌, ◌<◌, ◌≤◌, true, false, ◌||◌, min, max, List, [], ◌∷◌, ◌++◌}
use Rattle.std.proofs.Common.{length, take, drop, refl, sym, ap, subst, ◌∙◌, arith, inl, inr, ◌⊎◌}
use Rattle.std.specs.Prelude.{◌&&◌, ◌==◌, Bool, cond, nat_le, nat_lt, not}
use Rattle.std.proofs.lemmas.List.Sums.{sum_by-cons}
use Rattle.std.proofs.lemmas.Bool.{cases_Bool, eqb-true, true≢false}
use Rattle.std.proofs.lemmas.Bool.Decides.{nat_tests}
use Rattle.std.proofs.lemmas.List.{take-append-drop}
use Rattle.rm_sides.specs.declared.ranges.range.Range.{Range}
use Rattle.rm_sides.specs.Ranges.Changes.{with_range}
use Rattle.rm_sides.specs.Ranges.Laws.{RangeIsAdded, SameNumbersSameRanges}
use Rattle.rm_sides.specs.Ranges.Ranges.{IsCanonical, RisesFrom, count_of, in_range, in_ranges, is_between, size_of}
use Rattle.rm_base.specs.Message.{max_number}
use Rattle.rm_base.specs.NumberSet.{has_number}
use Rattle.rm_base.specs.declared.message.Behaviour.{Behaviour}
use Rattle.rm_base.specs.declared.message.Behaviour.TheVariants.{EntireSequence, FollowingFirstGap, NoDiscard}
use Rattle.rm_base.specs.declared.message.Payload.{Payload}
use Rattle.rm_sides.specs.Destination.Incoming.{inbox_of, is_loose}
use Rattle.rm_sides.specs.Destination.ItemLemmas.{has-more, has_number-held, length-numbers_in, numbers-in}
use Rattle.rm_sides.specs.Destination.ItemLemmas.{numbers_of-both}
use Rattle.rm_sides.specs.Destination.Messages.{above, contents_of, items_of, numbers_in, numbers_of, ranges_onto}
use Rattle.rm_sides.specs.Destination.Messages.{without}

-- the numbers of canonical ranges are message numbers
pub within-from : (first n : ℕ) (rs : List Range) → RisesFrom first rs → in_ranges rs n ≡ true
    → (first ≤ n) × (n ≤ max_number)
within-from first n [] r h = absurd (cc)
within-from first n (x ∷ rs) r h = elim (cases_Bool (nat_le x.lower n && nat_le n x.upper)) [
  | inl here ↦ (
    let low = r.0 in grind (arith, nat_tests, here, low),
    let top = r.2 in grind (arith, nat_tests, here, top),
  )
  | inr later ↦
      let rest = within-from (x.upper + 2) n rs r.3 (sym (ap (λ b. b || in_ranges rs n) later) ∙ h) in
      (omega (arith, rest.0, r.0, r.1), rest.1)
]

pub no-zero : (rs : List Range) → IsCanonical rs → in_ranges rs 0 ≡ false
no-zero rs canonical = elim (cases_Bool (in_ranges rs 0)) [
  | inl is ↦ absurd (omega (arith, (within-from 1 0 rs canonical is).0))
  | inr none ↦ none
]

-- so there are no more of them than message numbers
count-from : (first : ℕ) (rs : List Range) → RisesFrom first rs → count_of rs ≤ max_number + 1 - first
count-from first [] r = omega arith
count-from first (x ∷ rs) r =
    let rest = count-from (x.upper + 2) rs r.3 in
    let all : count_of (x ∷ rs) ≡ x.upper + 1 - x.lower + count_of rs = sum_by-cons size_of x rs in
    omega (arith, rest, all, r.0, r.1, r.2)

pub count-few : (rs : List Range) → IsCanonical rs → count_of rs ≤ max_number
count-few rs r = let all = count-from 1 rs r in omega (arith, all)

-- what is put in brings no more numbers than it has
count-with : (first : ℕ) (xs : List Range) (l u : ℕ) → RisesFrom first xs → l ≤ u
    → count_of (with_range xs l u) ≤ count_of xs + (u + 1 - l)
count-with first [] l u r le = omega arith
count-with first (x ∷ xs) l u r le = elim (cases_Bool (nat_lt (x.upper + 1) l)) [
  | inl behind ↦
      let rest = count-with (x.upper + 2) xs l u r.3 le in
      let e : count_of (with_range (x ∷ xs) l u) ≡ size_of x + count_of (with_range xs l u) =
      ap (λ b. count_of (cond b (x ∷ with_range xs l u) (cond (nat_lt (u + 1) x.lower)
      (record { lower = l; upper = u } ∷ x ∷ xs) (with_range xs (min x.lower l) (max x.upper u))))) behind
      ∙ sum_by-cons size_of x (with_range xs l u) in
      let all : count_of (x ∷ xs) ≡ size_of x + count_of xs = sum_by-cons size_of x xs in
      omega (arith, rest, e, all)
  | inr meets ↦ elim (cases_Bool (nat_lt (u + 1) x.lower)) [
    | inl before ↦
        let e : count_of (with_range (x ∷ xs) l u) ≡ (u + 1 - l) + count_of (x ∷ xs) =
        ap (λ b. count_of (cond b (x ∷ with_range xs l u) (cond (nat_lt (u + 1) x.lower)
        (record { lower = l; upper = u } ∷ x ∷ xs) (with_range xs (min x.lower l) (max x.upper u))))) meets
        ∙ ap (λ b. count_of (cond b (record { lower = l; upper = u } ∷ x ∷ xs)
        (with_range xs (min x.lower l) (max x.upper u)))) before
        ∙ sum_by-cons size_of (record { lower = l; upper = u }) (x ∷ xs) in
        let all : count_of (x ∷ xs) ≡ size_of x + count_of xs = sum_by-cons size_of x xs in
        omega (arith, e, all)
    | inr touches ↦
        let not_behind : l ≤ x.upper + 1 = grind (arith, nat_tests, meets) in
        let not_before : x.lower ≤ u + 1 = grind (arith, nat_tests, touches) in
        let rest = count-with (x.upper + 2) xs (min x.lower l) (max x.upper u) r.3 (omega (arith, le, r.1)) in
        let e : count_of (with_range (x ∷ xs) l u) ≡ count_of (with_range xs (min x.lower l) (max x.upper u)) =
        ap (λ b. count_of (cond b (x ∷ with_range xs l u) (cond (nat_lt (u + 1) x.lower)
        (record { lower = l; upper = u } ∷ x ∷ xs) (with_range xs (min x.lower l) (max x.upper u))))) meets
        ∙ ap (λ b. count_of (cond b (record { lower = l; upper = u } ∷ x ∷ xs)
        (with_range xs (min x.lower l) (max x.upper u)))) touches in
        let all : count_of (x ∷ xs) ≡ x.upper + 1 - x.lower + count_of xs = sum_by-cons size_of x xs in
        omega (arith, rest, e, all, le, r.1, not_behind, not_before)
  ]
]

-- ---- all that came

pub inbox_of-loose : {A : Type 0} → (b : Behaviour) (ns : List ℕ) (ms : List (ℕ × A)) → is_loose b ≡ true
    → inbox_of b ns ms ≡ contents_of ms
inbox_of-loose NoDiscard ns ms loose = refl
inbox_of-loose FollowingFirstGap ns ms loose = absurd (cc)
inbox_of-loose EntireSequence ns ms loose = absurd (cc)

-- ---- message numbers, put in one by one

-- each is from 1 to the last one
abbrev pub AreMessageNumbers : List ℕ → Type 0
AreMessageNumbers ns = (n : ℕ) → has_number ns n ≡ true → (0 < n) × (n ≤ max_number)

pub are-first : (n : ℕ) (ns : List ℕ) → AreMessageNumbers (n ∷ ns) → (0 < n) × (n ≤ max_number)
are-first n ns are = are n (grind (arith, nat_tests))

pub are-rest : (n : ℕ) (ns : List ℕ) → AreMessageNumbers (n ∷ ns) → AreMessageNumbers ns
are-rest n ns are = λ k has. are k (grind (arith, nat_tests, has))

-- what comes of them
pub record AreSet (xs : List Range) (ns : List ℕ) (new : List Range) : Type 0 where
  pub canonical : IsCanonical new
  pub numbers : (k : ℕ) → in_ranges new k ≡ (in_ranges xs k || has_number ns k)
  pub count : count_of new ≤ count_of xs + length ns

pub ranges-set : RangeIsAdded → (xs : List Range) (ns : List ℕ) → IsCanonical xs → AreMessageNumbers ns
    → AreSet xs ns (ranges_onto xs ns)
ranges-set added xs [] canonical are = record {
  canonical = canonical;
  numbers = λ k. grind (arith, nat_tests);
  count = omega arith;
}
ranges-set added xs (n ∷ ns) canonical are =
    let here = are-first n ns are in
    let one = added xs n n canonical here.0 (omega arith) here.1 in
    let rest = ranges-set added (with_range xs n n) ns one.canonical (are-rest n ns are) in
    let more = count-with 1 xs n n canonical (omega arith) in
    record {
      canonical = rest.canonical;
      numbers = λ k.
          let all = rest.numbers k in
          let some = one.numbers k in
          grind (arith, nat_tests, all, some);
      count = omega (arith, rest.count, more);
    }

-- a number that is put in is there, and stays there
with_range-has : (xs : List Range) (l u k : ℕ) → (in_ranges xs k ≡ true) ⊎ ((l ≤ k) × (k ≤ u))
    → in_ranges (with_range xs l u) k ≡ true
with_range-has [] l u k (inl is) = absurd (true≢false (sym is))
with_range-has [] l u k (inr at) = let from = at.0 in let to = at.1 in grind (arith, nat_tests, from, to)
with_range-has (x ∷ xs) l u k at = elim (cases_Bool (nat_lt (x.upper + 1) l)) [
  | inl behind ↦
      ap (λ b. in_ranges (cond b (x ∷ with_range xs l u) (cond (nat_lt (u + 1) x.lower)
      (record { lower = l; upper = u } ∷ x ∷ xs) (with_range xs (min x.lower l) (max x.upper u)))) k) behind
      ∙ elim (cases_Bool (in_range x k)) [
        | inl here ↦ ap (λ b. b || in_ranges (with_range xs l u) k) here
        | inr not_here ↦
            ap (λ b. b || in_ranges (with_range xs l u) k) not_here ∙ with_range-has xs l u k (later not_here at)
      ]
  | inr meets ↦ elim (cases_Bool (nat_lt (u + 1) x.lower)) [
    | inl before ↦
        ap (λ b. in_ranges (cond b (x ∷ with_range xs l u) (cond (nat_lt (u + 1) x.lower)
        (record { lower = l; upper = u } ∷ x ∷ xs) (with_range xs (min x.lower l) (max x.upper u)))) k) meets
        ∙ ap (λ b. in_ranges (cond b (record { lower = l; upper = u } ∷ x ∷ xs)
        (with_range xs (min x.lower l) (max x.upper u))) k) before
        ∙ both at
    | inr touches ↦
        ap (λ b. in_ranges (cond b (x ∷ with_range xs l u) (cond (nat_lt (u + 1) x.lower)
        (record { lower = l; upper = u } ∷ x ∷ xs) (with_range xs (min x.lower l) (max x.upper u)))) k) meets
        ∙ ap (λ b. in_ranges (cond b (record { lower = l; upper = u } ∷ x ∷ xs)
        (with_range xs (min x.lower l) (max x.upper u))) k) touches
        ∙ with_range-has xs (min x.lower l) (max x.upper u) k (joined (cases_Bool (in_range x k)) at)
  ]
]
  where
    later : in_range x k ≡ false → (in_ranges (x ∷ xs) k ≡ true) ⊎ ((l ≤ k) × (k ≤ u))
        → (in_ranges xs k ≡ true) ⊎ ((l ≤ k) × (k ≤ u))
    later out (inl is) = inl (sym (ap (λ b. b || in_ranges xs k) out) ∙ is)
    later out (inr at) = inr at

    both : (in_ranges (x ∷ xs) k ≡ true) ⊎ ((l ≤ k) × (k ≤ u)) → (is_between l u k || in_ranges (x ∷ xs) k) ≡ true
    both (inl is) = second (is_between l u k) is
      where
        second : (a : Bool) {b : Bool} → b ≡ true → (a || b) ≡ true
        second true e = refl
        second false e = e
    both (inr at) = let from = at.0 in let to = at.1 in grind (arith, nat_tests, from, to)

    joined : (in_range x k ≡ true) ⊎ (in_range x k ≡ false)
        → (in_ranges (x ∷ xs) k ≡ true) ⊎ ((l ≤ k) × (k ≤ u))
        → (in_ranges xs k ≡ true) ⊎ ((min x.lower l ≤ k) × (k ≤ max x.upper u))
    joined (inl here) at =
        let from : x.lower ≤ k = grind (arith, nat_tests, here) in
        let to : k ≤ x.upper = grind (arith, nat_tests, here) in
        inr (omega (arith, from), omega (arith, to))
    joined (inr out) (inl is) = inl (sym (ap (λ b. b || in_ranges xs k) out) ∙ is)
    joined (inr out) (inr at) = inr (omega (arith, at.0), omega (arith, at.1))

ranges_onto-has : (xs : List Range) (ns : List ℕ) (k : ℕ) → in_ranges xs k ≡ true
    → in_ranges (ranges_onto xs ns) k ≡ true
ranges_onto-has xs [] k is = is
ranges_onto-has xs (n ∷ ns) k is = ranges_onto-has (with_range xs n n) ns k (with_range-has xs n n k (inl is))

-- so there is one where one is put in
pub ranges_onto-some : (c : ℕ) (ns : List ℕ) → 0 < c → 0 < length ns
    → 0 < length (numbers_in (ranges_onto [] (take c ns)))
ranges_onto-some zero ns pos some = absurd (omega (arith, pos))
ranges_onto-some (suc c) [] pos some = absurd (omega (arith, some))
ranges_onto-some (suc c) (n ∷ ns) pos some =
    let rs = ranges_onto (with_range [] n n) (take c ns) in
    let there : in_ranges rs n ≡ true =
    ranges_onto-has (with_range [] n n) (take c ns) n (with_range-has [] n n n (inr (omega arith, omega arith))) in
    filled (numbers_in rs) (numbers-in rs n ∙ there)
  where
    filled : (xs : List ℕ) → has_number xs n ≡ true → 0 < length xs
    filled [] e = absurd (true≢false (sym e))
    filled (x ∷ xs) e = omega arith

pub ranges_onto-join : (rs : List Range) (xs ys : List ℕ) → ranges_onto rs (xs ++ ys)
    ≡ ranges_onto (ranges_onto rs xs) ys
ranges_onto-join rs [] ys = refl
ranges_onto-join rs (x ∷ xs) ys = ranges_onto-join (with_range rs x x) xs ys

-- the numbers of canonical ranges, put in one by one, are the ranges again
pub numbers-message : (ps : List Range) → IsCanonical ps → AreMessageNumbers (numbers_in ps)
numbers-message ps canonical = λ n has.
    let at = within-from 1 n ps canonical (sym (numbers-in ps n) ∙ has) in (omega (arith, at.0), at.1)

pub ranges_onto-numbers_in : RangeIsAdded → SameNumbersSameRanges → (ps : List Range) → IsCanonical ps
    → ranges_onto [] (numbers_in ps) ≡ ps
ranges_onto-numbers_in added same ps canonical =
    let set = ranges-set added [] (numbers_in ps) tt (numbers-message ps canonical) in
    same (ranges_onto [] (numbers_in ps)) ps set.canonical canonical (λ n. set.numbers n ∙ numbers-in ps n)

-- ---- the earliest

pub numbers_of-take : {A : Type 0} → (k : ℕ) (ms : List (ℕ × A)) → numbers_of (take k ms) ≡ take k (numbers_of ms)
numbers_of-take zero ms = refl
numbers_of-take (suc k) [] = refl
numbers_of-take (suc k) (m ∷ ms) = ap (λ ns. m.0 ∷ ns) (numbers_of-take k ms)

pub take-past : {A : Type 0} → (c : ℕ) (xs ys : List A) → length xs ≤ c
    → take c (xs ++ ys) ≡ xs ++ take (c - length xs) ys
take-past c [] ys le = ap (λ k. take k ys) (let e : c ≡ c - 0 = omega arith in e)
take-past zero (x ∷ xs) ys le = absurd (omega (arith, le))
take-past (suc c) (x ∷ xs) ys le =
    let same : suc c - suc (length xs) ≡ c - length xs = omega arith in
    rw same (ap (λ zs. x ∷ zs) (take-past c xs ys (omega (arith, le))))

-- the numbers of the first items, of which those that are gone already are the first
pub earliest : RangeIsAdded → SameNumbersSameRanges → (ps : List Range) (ms : List (ℕ × Payload)) (c : ℕ)
    → IsCanonical ps → count_of ps ≤ c
    → ranges_onto [] (take c (numbers_of (items_of ps ms)))
    ≡ ranges_onto ps (numbers_of (take (c - count_of ps) ms))
earliest added same ps ms c canonical le =
    let size = length-numbers_in ps in
    let rest : c - length (numbers_in ps) ≡ c - count_of ps = omega (arith, size) in
    ap (λ ns. ranges_onto [] (take c ns)) (numbers_of-both (numbers_in ps) ms)
    ∙ ap (λ ns. ranges_onto [] ns) (take-past c (numbers_in ps) (numbers_of ms) (omega (arith, le, size)))
    ∙ ranges_onto-join [] (numbers_in ps) (take (c - length (numbers_in ps)) (numbers_of ms))
    ∙ ap (λ rs. ranges_onto rs (take (c - length (numbers_in ps)) (numbers_of ms)))
    (ranges_onto-numbers_in added same ps canonical)
    ∙ ap (λ k. ranges_onto ps (take k (numbers_of ms))) rest
    ∙ ap (λ ns. ranges_onto ps ns) (sym (numbers_of-take (c - count_of ps) ms))

pub numbers_of-drop : {A : Type 0} → (k : ℕ) (ms : List (ℕ × A)) → numbers_of (drop k ms) ≡ drop k (numbers_of ms)
numbers_of-drop zero ms = refl
numbers_of-drop (suc k) [] = refl
numbers_of-drop (suc k) (m ∷ ms) = numbers_of-drop k ms

-- what is there is among the first of them or among the others
pub has_number-parts : {A : Type 0} → (k : ℕ) (ms : List (ℕ × A)) (n : ℕ) → has_number (numbers_of ms) n
    ≡ (has_number (numbers_of (take k ms)) n || has_number (numbers_of (drop k ms)) n)
has_number-parts k ms n =
    ap (λ ns. has_number ns n) (sym (take-append-drop k (numbers_of ms)))
    ∙ has-more (take k (numbers_of ms)) (drop k (numbers_of ms)) n
    ∙ ap (λ ns. has_number ns n || has_number (drop k (numbers_of ms)) n) (sym (numbers_of-take k ms))
    ∙ ap (λ ns. has_number (numbers_of (take k ms)) n || has_number ns n) (sym (numbers_of-drop k ms))

-- the numbers of messages without those in ranges
pub has_number-without : {A : Type 0} → (ps : List Range) (ms : List (ℕ × A)) (n : ℕ)
    → has_number (numbers_of (without ps ms)) n ≡ (not (in_ranges ps n) && has_number (numbers_of ms) n)
has_number-without ps [] n = none (in_ranges ps n)
  where
    none : (b : Bool) → false ≡ (not b && false)
    none true = refl
    none false = refl
has_number-without ps (m ∷ ms) n =
    let rest : has_number (numbers_of (without ps ms)) n ≡ (not (in_ranges ps n) && has_number (numbers_of ms) n) =
    has_number-without ps ms n in
    elim (cases_Bool (in_ranges ps m.0)) [
      | inl gone ↦
          ap (λ b. has_number (numbers_of (cond b (without ps ms) (m ∷ without ps ms))) n) gone ∙ rest
          ∙ elim (cases_Bool (m.0 == n)) [
            | inl same ↦
                let here : in_ranges ps n ≡ true = ap (λ k. in_ranges ps k) (sym (eqb-true m.0 n same)) ∙ gone in
                ap (λ b. not b && has_number (numbers_of ms) n) here
                ∙ sym (ap (λ b. not b && ((m.0 == n) || has_number (numbers_of ms) n)) here)
            | inr other ↦ sym (ap (λ b. not (in_ranges ps n) && (b || has_number (numbers_of ms) n)) other)
          ]
      | inr there ↦
          ap (λ b. has_number (numbers_of (cond b (without ps ms) (m ∷ without ps ms))) n) there
          ∙ ap (λ b. (m.0 == n) || b) rest
          ∙ elim (cases_Bool (m.0 == n)) [
            | inl same ↦
                let out : in_ranges ps n ≡ false = ap (λ k. in_ranges ps k) (sym (eqb-true m.0 n same)) ∙ there in
                ap (λ b. (m.0 == n) || (not b && has_number (numbers_of ms) n)) out
                ∙ sym (ap (λ b. not b && ((m.0 == n) || has_number (numbers_of ms) n)) out)
            | inr other ↦
                ap (λ b. b || (not (in_ranges ps n) && has_number (numbers_of ms) n)) other
                ∙ sym (ap (λ b. not (in_ranges ps n) && (b || has_number (numbers_of ms) n)) other)
          ]
    ]

-- without those up to c there are those above c
pub without-above : {A : Type 0} → (c : ℕ) (ms : List (ℕ × A)) → has_number (numbers_of ms) 0 ≡ false
    → without (record { lower = 1; upper = c } ∷ []) ms ≡ above c ms
without-above c [] none = refl
without-above c (m ∷ ms) none =
    let low : has_number (numbers_of ms) 0 ≡ false = grind (arith, nat_tests, none) in
    let rest = without-above c ms low in
    let from : 0 < m.0 = grind (arith, nat_tests, none) in
    elim (cases_Bool (nat_lt c m.0)) [
      | inl kept ↦
          let out : in_ranges (record { lower = 1; upper = c } ∷ []) m.0 ≡ false = grind (arith, nat_tests, kept) in
          ap (λ b. cond b (without (record { lower = 1; upper = c } ∷ []) ms)
          (m ∷ without (record { lower = 1; upper = c } ∷ []) ms)) out
          ∙ ap (λ xs. m ∷ xs) rest
          ∙ sym (ap (λ b. cond b (m ∷ above c ms) (above c ms)) kept)
      | inr gone ↦
          let in_it : in_ranges (record { lower = 1; upper = c } ∷ []) m.0 ≡ true =
          grind (arith, nat_tests, gone, from) in
          ap (λ b. cond b (without (record { lower = 1; upper = c } ∷ []) ms)
          (m ∷ without (record { lower = 1; upper = c } ∷ []) ms)) in_it
          ∙ rest
          ∙ sym (ap (λ b. cond b (m ∷ above c ms) (above c ms)) gone)
    ]

-- the same numbers are held when those of the first that are there are gone
pub held-earliest : RangeIsAdded → (ps : List Range) (ms : List (ℕ × Payload)) (k n : ℕ) → IsCanonical ps
    → AreMessageNumbers (numbers_of ms)
    → has_number (numbers_of (items_of (ranges_onto ps (numbers_of (take k ms)))
    (without (ranges_onto ps (numbers_of (take k ms))) ms))) n
    ≡ has_number (numbers_of (items_of ps ms)) n
held-earliest added ps ms k n canonical are =
    let rs = ranges_onto ps (numbers_of (take k ms)) in
    let set = ranges-set added ps (numbers_of (take k ms)) canonical (λ i has.
    are i (let parts = has_number-parts k ms i in grind (arith, nat_tests, parts, has))) in
    let new = has_number-held rs (without rs ms) n in
    let left = has_number-without rs ms n in
    let old = has_number-held ps ms n in
    let parts = has_number-parts k ms n in
    let all = set.numbers n in
    new ∙ ap (λ b. in_ranges rs n || b) left
    ∙ over (in_ranges rs n) (in_ranges ps n) (has_number (numbers_of ms) n) (has_number (numbers_of (take k ms)) n)
    (has_number (numbers_of (drop k ms)) n) all parts
    ∙ sym old
  where
    over : (r p m t d : Bool) → r ≡ (p || t) → m ≡ (t || d) → (r || (not r && m)) ≡ (p || m)
    over true true m t d e f = refl
    over true false m true d e f = sym f
    over true false m false d e f = absurd (true≢false e)
    over false true m t d e f = absurd (true≢false (sym e))
    over false false m t d e f = refl

-- the numbers of what is there are message numbers where those of all that was received are in a set
pub numbers-there : (numbers ps : List Range) (ms : List (ℕ × Payload)) → IsCanonical numbers
    → ((n : ℕ) → in_ranges numbers n ≡ has_number (numbers_of (items_of ps ms)) n) → AreMessageNumbers (numbers_of ms)
numbers-there numbers ps ms canonical same = λ n has.
    let all = has_number-held ps ms n in
    let is = same n in
    let there : in_ranges numbers n ≡ true = grind (arith, nat_tests, all, is, has) in
    let at = within-from 1 n numbers canonical there in
    (omega (arith, at.0), at.1)
