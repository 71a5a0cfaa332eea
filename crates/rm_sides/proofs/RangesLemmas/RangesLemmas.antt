-- Which numbers lie in ranges, and that canonical ranges are determined by their numbers.
use Rattle.std.proofs.Common.{◌≡◌, ℕ, zero, suc, ◌+◌, ◌-◌, ◌<◌, ◌≤◌, Bool, true, false, ◌||◌, ◌⊎◌, ◌==◌, nat_le, List}
use Rattle.std.proofs.Common.{[], ◌∷◌, ◌++◌, length, get_or, refl, sym, ap, ap₂, true≢false, ◌∙◌, arith, inl, inr}
use Rattle.std.proofs.lemmas.Bool.{cases_lt, cases_eq, cond-true, cond-false, eq-eqb, ne_eqb, or_from, or_left}
use Rattle.std.proofs.lemmas.Bool.{le-leb, lt-leb, both_ways, false≢true}
use Rattle.std.proofs.lemmas.Bool.Decides.{nat_tests}
use Rattle.std.proofs.lemmas.List.{get_or_read}
use Rattle.std.proofs.lemmas.List.Recursion.{or_at, or_from_places}
use Rattle.rm_sides.specs.declared.ranges.range.Range.{Range}
use Rattle.rm_base.specs.Message.{max_number}
use Rattle.rm_sides.specs.Ranges.Ranges.{in_range, in_ranges, RisesFrom, IsCanonical, front_of, IsFront, greatest_of}
use Rattle.rm_sides.specs.Ranges.Ranges.{IsGreatest}
use Rattle.rm_sides.specs.Ranges.Places.{range_at, IsPlace}

-- the test of a range, with what it tells
pub in_range_tells : (r : Range) (n : ℕ) →
    ((in_range r n ≡ true) × (r.lower ≤ n) × (n ≤ r.upper)) ⊎ ((in_range r n ≡ false) × ((n < r.lower) ⊎ (r.upper < n)))
in_range_tells r n = grind (arith, nat_tests)

pub or_assoc : (x y z : Bool) → (x || (y || z)) ≡ ((x || y) || z)
or_assoc true y z = refl
or_assoc false y z = refl

pub or-false : (x : Bool) → (x || false) ≡ x
or-false true = refl
or-false false = refl

pub or_comm : (x y : Bool) → (x || y) ≡ (y || x)
or_comm true true = refl
or_comm true false = refl
or_comm false true = refl
or_comm false false = refl

-- the numbers of two lists one after the other
pub in_ranges-append : (xs ys : List Range) (n : ℕ) → in_ranges (xs ++ ys) n ≡ (in_ranges xs n || in_ranges ys n)
in_ranges-append [] ys n = refl
in_ranges-append (x ∷ xs) ys n =
    ap (λ b. in_range x n || b) (in_ranges-append xs ys n) ∙ or_assoc (in_range x n) (in_ranges xs n) (in_ranges ys n)

-- one more range at the end
pub in_ranges-push : (xs : List Range) (r : Range) (n : ℕ) →
    in_ranges (xs ++ r ∷ []) n ≡ (in_ranges xs n || in_range r n)
in_ranges-push xs r n = in_ranges-append xs (r ∷ []) n ∙ ap (λ b. in_ranges xs n || b) (or-false (in_range r n))

-- what an index of a vector reads
pub read_at : (rs : List Range) (k : ℕ) (r : Range) → k < length rs → r ≡ get_or rs k r → r ≡ range_at rs k
read_at rs k r h e = get_or_read rs k r h e (record { lower = 0; upper = 0 })

pub in_ranges-at : (rs : List Range) (k n : ℕ) → k < length rs → in_range (range_at rs k) n ≡ true →
    in_ranges rs n ≡ true
in_ranges-at rs k n h t =
    or_at (λ l. in_ranges l n) (λ r. in_range r n) refl (λ _ _. refl) rs k (record { lower = 0; upper = 0 }) h t

-- no range has a number that lies before or after each
pub in_ranges-outside : (rs : List Range) (n : ℕ) →
    ((k : ℕ) → k < length rs → (n < (range_at rs k).lower) ⊎ ((range_at rs k).upper < n)) → in_ranges rs n ≡ false
in_ranges-outside rs n h =
    or_from_places (λ l. in_ranges l n) (λ r. in_range r n) refl (λ _ _. refl) rs (record { lower = 0; upper = 0 })
    (λ k hk. grind (arith, in_range_tells (range_at rs k) n, h k hk))

pub RisesFrom-weaker : (a b : ℕ) (rs : List Range) → a ≤ b → RisesFrom b rs → RisesFrom a rs
RisesFrom-weaker a b [] h r = tt
RisesFrom-weaker a b (x ∷ xs) h r = (omega (arith, r.0), r.1, r.2, r.3)

-- what is known of the range at a place
pub RisesFrom-at : (first : ℕ) (rs : List Range) (k : ℕ) → RisesFrom first rs → k < length rs →
    (first ≤ (range_at rs k).lower) × ((range_at rs k).lower ≤ (range_at rs k).upper)
    × ((range_at rs k).upper ≤ max_number)
RisesFrom-at first [] k h hk = absurd (omega arith)
RisesFrom-at first (r ∷ rs) zero h hk = (h.0, h.1, h.2)
RisesFrom-at first (r ∷ rs) (suc k) h hk =
    let rest = RisesFrom-at (r.upper + 2) rs k h.3 (omega arith) in
    (omega (arith, h.0, h.1, rest.0), rest.1, rest.2)

-- between two ranges lies a number
pub RisesFrom-gap : (first : ℕ) (rs : List Range) (i j : ℕ) → RisesFrom first rs → i < j → j < length rs →
    (range_at rs i).upper + 1 < (range_at rs j).lower
RisesFrom-gap first [] i j h lt hj = absurd (omega arith)
RisesFrom-gap first (r ∷ rs) i zero h lt hj = absurd (omega arith)
RisesFrom-gap first (r ∷ rs) zero (suc j) h lt hj =
    let rest = RisesFrom-at (r.upper + 2) rs j h.3 (omega arith) in omega (arith, rest.0)
RisesFrom-gap first (r ∷ rs) (suc i) (suc j) h lt hj =
    RisesFrom-gap (r.upper + 2) rs i j h.3 (omega arith) (omega arith)

-- a later range ends no earlier
pub RisesFrom-ends : (first : ℕ) (rs : List Range) (i j : ℕ) → RisesFrom first rs → i ≤ j → j < length rs →
    (range_at rs i).upper ≤ (range_at rs j).upper
RisesFrom-ends first rs i j h le hj = elim (cases_lt i j) [
  | inl lt ↦ omega (arith, RisesFrom-gap first rs i j h lt hj, (RisesFrom-at first rs j h hj).1)
  | inr ge ↦ let e : i ≡ j = omega arith in rw e (omega arith)
]

-- a later range begins no earlier
pub RisesFrom-starts : (first : ℕ) (rs : List Range) (i j : ℕ) → RisesFrom first rs → i ≤ j → j < length rs →
    (range_at rs i).lower ≤ (range_at rs j).lower
RisesFrom-starts first rs i j h le hj = elim (cases_lt i j) [
  | inl lt ↦ omega (arith, RisesFrom-gap first rs i j h lt hj, (RisesFrom-at first rs i h (omega arith)).1)
  | inr ge ↦ let e : i ≡ j = omega arith in rw e (omega arith)
]

-- a number before the first range is in none
pub in_ranges-before : (first n : ℕ) (rs : List Range) → RisesFrom first rs → n < first → in_ranges rs n ≡ false
in_ranges-before first n [] h lt = refl
in_ranges-before first n (r ∷ rs) h lt =
    let no : in_range r n ≡ false = grind (arith, in_range_tells r n, h.0) in
    let rest : in_ranges rs n ≡ false = in_ranges-before (r.upper + 2) n rs h.3 (omega (arith, h.0, h.1)) in
    or_from _ _ no rest

-- a number of the first range of a list, or the number after it, tells where the first range of the other list lies
first_within : (first : ℕ) (x y : Range) (xs ys : List Range) → RisesFrom first (x ∷ xs) → RisesFrom first (y ∷ ys) →
    ((n : ℕ) → in_ranges (x ∷ xs) n ≡ in_ranges (y ∷ ys) n) →
    (y.lower ≤ x.lower) × (x.lower ≡ y.lower → y.upper ≤ x.upper)
first_within first x y xs ys hx hy same = (
  elim (cases_lt x.lower y.lower) [
    | inl lt ↦
        let yes : in_range x x.lower ≡ true = grind (arith, in_range_tells x x.lower, hx.1) in
        let no : in_ranges (y ∷ ys) x.lower ≡ false =
        in_ranges-before y.lower x.lower (y ∷ ys) (omega arith, hy.1, hy.2, hy.3) lt in
        absurd (true≢false (sym (or_left _ _ yes) ∙ same x.lower ∙ no))
    | inr ge ↦ ge
  ],
  λ starts. elim (cases_lt x.upper y.upper) [
    | inl lt ↦
        let out : in_range x (x.upper + 1) ≡ false = grind (arith, in_range_tells x (x.upper + 1)) in
        let rest : in_ranges xs (x.upper + 1) ≡ false =
        in_ranges-before (x.upper + 2) (x.upper + 1) xs hx.3 (omega arith) in
        let yes : in_range y (x.upper + 1) ≡ true = grind (arith, in_range_tells y (x.upper + 1), hx.1) in
        absurd (true≢false (sym (or_left _ _ yes) ∙ sym (same (x.upper + 1)) ∙ or_from _ _ out rest))
    | inr ge ↦ ge
  ],
)

first_is_in : (first : ℕ) (x : Range) (xs : List Range) → RisesFrom first (x ∷ xs) → in_ranges (x ∷ xs) x.lower ≡ true
first_is_in first x xs h =
    let yes : in_range x x.lower ≡ true = grind (arith, in_range_tells x x.lower, h.1) in or_left _ _ yes

same_from : (first : ℕ) (xs ys : List Range) → RisesFrom first xs → RisesFrom first ys →
    ((n : ℕ) → in_ranges xs n ≡ in_ranges ys n) → xs ≡ ys
same_from first [] [] hx hy same = refl
same_from first [] (y ∷ ys) hx hy same = absurd (true≢false (sym (first_is_in first y ys hy) ∙ sym (same y.lower)))
same_from first (x ∷ xs) [] hx hy same = absurd (true≢false (sym (first_is_in first x xs hx) ∙ same x.lower))
same_from first (x ∷ xs) (y ∷ ys) hx hy same =
    let one = first_within first x y xs ys hx hy same in
    let other = first_within first y x ys xs hy hx (λ n. sym (same n)) in
    let starts : x.lower ≡ y.lower = omega (arith, one.0, other.0) in
    let ends : x.upper ≡ y.upper = omega (arith, one.1 starts, other.1 (sym starts)) in
    let after : RisesFrom (x.upper + 2) ys = rw ends hy.3 in
    let rest : (n : ℕ) → in_ranges xs n ≡ in_ranges ys n = λ n. elim (cases_lt n (x.upper + 2)) [
      | inl lt ↦ in_ranges-before _ n xs hx.3 lt ∙ sym (in_ranges-before _ n ys after lt)
      | inr ge ↦
          let no_x : in_range x n ≡ false = grind (arith, in_range_tells x n) in
          let no_y : in_range y n ≡ false = grind (arith, in_range_tells y n) in
          ap (λ b. b || in_ranges xs n) (sym no_x) ∙ same n ∙ ap (λ b. b || in_ranges ys n) no_y
    ] in
    let heads : x ≡ y = ap₂ (λ (a b : ℕ). record { lower = a; upper = b }) starts ends in
    ap₂ ◌∷◌ heads (same_from (x.upper + 2) xs ys hx.3 after rest)

-- two canonical lists with the same numbers are equal
pub same_numbers_same : (xs ys : List Range) → IsCanonical xs → IsCanonical ys →
    ((n : ℕ) → in_ranges xs n ≡ in_ranges ys n) → xs ≡ ys
same_numbers_same xs ys hx hy same = same_from 1 xs ys hx hy same

-- no range has a number that each ends before
pub in_ranges-past : (rs : List Range) (n place : ℕ) → IsPlace rs n place → length rs ≤ place → in_ranges rs n ≡ false
in_ranges-past rs n place p h = in_ranges-outside rs n (λ k hk. inr (p.before k (omega arith)))

-- where the first range that ends at n or later begins by n, it has n, and else none has
pub in_ranges-at_place : (rs : List Range) (n place : ℕ) → IsCanonical rs → IsPlace rs n place → place < length rs →
    in_ranges rs n ≡ nat_le (range_at rs place).lower n
in_ranges-at_place rs n place h p lt =
    let ends : n ≤ (range_at rs place).upper = p.after place (omega arith) lt in
    elim (cases_lt n (range_at rs place).lower) [
      | inl below ↦
          in_ranges-outside rs n (λ k hk. elim (cases_lt k place) [
            | inl a ↦ inr (p.before k a)
            | inr b ↦ inl (omega (arith, RisesFrom-starts 1 rs place k h b hk))
          ]) ∙ sym (lt-leb _ _ below)
      | inr from ↦ in_ranges-at rs place n lt (grind (arith, in_range_tells (range_at rs place) n))
          ∙ sym (le-leb _ _ from)
    ]

-- the greatest number is the last range's end
pub greatest_of-last : (rs : List Range) (i : ℕ) → length rs ≡ i + 1 → greatest_of rs ≡ (range_at rs i).upper
greatest_of-last [] i e = absurd (omega arith)
greatest_of-last (r ∷ []) zero e = refl
greatest_of-last (r ∷ []) (suc i) e = absurd (omega arith)
greatest_of-last (r ∷ s ∷ rs) zero e = absurd (omega arith)
greatest_of-last (r ∷ s ∷ rs) (suc i) e = greatest_of-last (s ∷ rs) i (omega arith)

-- the front is the greatest m such that 1 to m are all inside
pub IsFront-front_of : (rs : List Range) → IsCanonical rs → IsFront rs (front_of rs)
IsFront-front_of [] h = record { inside = λ n some le. absurd (omega arith); ends = (omega arith, refl) }
IsFront-front_of (r ∷ rs) h = elim (cases_eq r.lower 1) [
  | inl one ↦
      let e : front_of (r ∷ rs) ≡ r.upper = cond-true (r.lower == 1) r.upper 0 (eq-eqb _ _ one) in
      let out : in_range r (r.upper + 1) ≡ false = grind (arith, in_range_tells r (r.upper + 1)) in
      rw e (record {
        inside = λ n some le. let here : in_range r n ≡ true = grind (arith, in_range_tells r n) in or_left _ _ here;
        ends = (omega arith, or_from _ _ out (in_ranges-before (r.upper + 2) (r.upper + 1) rs h.3 (omega arith)));
      })
  | inr other ↦
      let e : front_of (r ∷ rs) ≡ 0 = cond-false (r.lower == 1) r.upper 0 (ne_eqb _ _ other) in
      rw e (record {
        inside = λ n some le. absurd (omega arith);
        ends = (omega arith, in_ranges-before r.lower 1 (r ∷ rs) (omega arith, h.1, h.2, h.3) (omega (arith, h.0)));
      })
]

-- the greatest number is inside, and no number above it is
pub IsGreatest-greatest_of : (rs : List Range) → IsCanonical rs → IsGreatest rs (greatest_of rs)
IsGreatest-greatest_of [] h = record { inside = λ some. absurd (omega arith); above = λ n t. absurd (false≢true t) }
IsGreatest-greatest_of (r ∷ rs) h =
    let xs : List Range = r ∷ rs in
    let last : ℕ = length rs in
    let at = RisesFrom-at 1 xs last h (omega arith) in
    let end : Range = range_at xs last in
    let e : greatest_of xs ≡ end.upper = greatest_of-last xs last (omega arith) in
    rw e (record {
      inside = λ some. in_ranges-at xs last end.upper (omega arith) (grind (arith, in_range_tells end end.upper, at.1));
      above = λ n t. elim (cases_lt end.upper n) [
        | inl beyond ↦ absurd (both_ways _
            (in_ranges-outside xs n (λ k hk. inr
            (omega (arith, RisesFrom-ends 1 xs k last h (omega arith) (omega arith))))) t)
        | inr le ↦ le
      ];
    })

-- no range ends after the greatest number
pub greatest-from : (rs : List Range) (k : ℕ) → IsCanonical rs → k < length rs → (range_at rs k).lower ≤ greatest_of rs
greatest-from rs k h lt =
    let last : ℕ = length rs - 1 in
    omega (
      arith,
      greatest_of-last rs last (omega arith),
      RisesFrom-ends 1 rs k last h (omega arith) (omega arith),
      (RisesFrom-at 1 rs k h lt).1,
    )
