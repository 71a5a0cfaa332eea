-- What a range put into others makes of them.
use Rattle.std.proofs.Common.{◌≡◌, ℕ, zero, suc, ◌+◌, ◌-◌, ◌<◌, ◌≤◌, Bool, true, false, not, IsTrue, ◌↔◌, ◌==◌, ◌&&◌}
use Rattle.std.proofs.Common.{◌||◌, ◌⊎◌, nat_le, max, min, List, [], ◌∷◌, ◌++◌, length, take, drop, refl, sym, ap}
use Rattle.std.proofs.Common.{ap₂, ◌∙◌, arith, inl, inr}
use Rattle.std.proofs.lemmas.Bool.{cases_lt, cases_order, cond-true, cond-false, lt-ltb, le-ltb, lt-leb, le-leb}
use Rattle.std.proofs.lemmas.Bool.{or_from, or_parts, or_cases, or_left, or_right, cases_Bool, false≢true, not-true}
use Rattle.std.proofs.lemmas.Bool.{not_from_false, false_from_ne_true, both_ways}
use Rattle.std.specs.List.{insert}
use Rattle.std.proofs.lemmas.List.{drop-drop, get_or-drop, length-drop}
use Rattle.std.proofs.lemmas.List.Recursion.{or_at, or_from_places}
use Rattle.std.proofs.lemmas.Bool.Decides.{nat_tests}
use Rattle.rm_sides.specs.declared.ranges.range.Range.{Range}
use Rattle.rm_base.specs.Message.{max_number}
use Rattle.rm_sides.specs.Ranges.Ranges.{in_range, in_ranges, RisesFrom, IsCanonical, greatest_of}
use Rattle.rm_sides.specs.Ranges.Changes.{with_range, covers, AddsExactly, BringsNew}
use Rattle.rm_sides.specs.Ranges.Places.{range_at, IsPlace, IsSpan}
use Rattle.rm_sides.proofs.RangesLemmas.RangesLemmas.{in_range_tells, or_assoc, or-false, or_comm, in_ranges-before}
use Rattle.rm_sides.proofs.RangesLemmas.RangesLemmas.{RisesFrom-weaker, RisesFrom-at, RisesFrom-gap, RisesFrom-starts}
use Rattle.rm_sides.proofs.RangesLemmas.RangesLemmas.{same_numbers_same}

-- past a range that ends too early
pub with_range-past : (r : Range) (rs : List Range) (l u : ℕ) → r.upper + 1 < l →
    with_range (r ∷ rs) l u ≡ r ∷ with_range rs l u
with_range-past r rs l u h = cond-true _ _ _ (lt-ltb _ _ h)

-- before a range that begins too late
pub with_range-ahead : (r : Range) (rs : List Range) (l u : ℕ) → l ≤ r.upper + 1 → u + 1 < r.lower →
    with_range (r ∷ rs) l u ≡ record { lower = l; upper = u } ∷ r ∷ rs
with_range-ahead r rs l u a b = cond-false _ _ _ (le-ltb _ _ a) ∙ cond-true _ _ _ (lt-ltb _ _ b)

-- one with a range that it touches
pub with_range-touched : (r : Range) (rs : List Range) (l u : ℕ) → l ≤ r.upper + 1 → r.lower ≤ u + 1 →
    with_range (r ∷ rs) l u ≡ with_range rs (min r.lower l) (max r.upper u)
with_range-touched r rs l u a b = cond-false _ _ _ (le-ltb _ _ a) ∙ cond-false _ _ _ (le-ltb _ _ b)

-- where a range lies beside others
pub beside : (r : Range) (l u : ℕ) →
    (r.upper + 1 < l) ⊎ (((l ≤ r.upper + 1) × (u + 1 < r.lower)) ⊎ ((l ≤ r.upper + 1) × (r.lower ≤ u + 1)))
beside r l u = elim (cases_lt (r.upper + 1) l) [
  | inl past ↦ inl past
  | inr a ↦ elim (cases_lt (u + 1) r.lower) [ inl ahead ↦ inr (inl (a, ahead)) | inr b ↦ inr (inr (a, b)) ]
]

-- two ranges that touch have the numbers of their hull
hull : (r : Range) (l u n : ℕ) → r.lower ≤ r.upper → l ≤ u → l ≤ r.upper + 1 → r.lower ≤ u + 1 →
    in_range (record { lower = min r.lower l; upper = max r.upper u }) n ≡ (in_range r n || (nat_le l n && nat_le n u))
hull r l u n a b c d = grind (arith, nat_tests)

or_turn : (x y z : Bool) → (x || (y || z)) ≡ ((y || x) || z)
or_turn x y z = or_assoc x y z ∙ ap (λ b. b || z) (or_comm x y)

-- the numbers of ranges with one more
pub in_ranges-with_range : (first : ℕ) (rs : List Range) (l u n : ℕ) → RisesFrom first rs → l ≤ u →
    in_ranges (with_range rs l u) n ≡ (in_ranges rs n || (nat_le l n && nat_le n u))
in_ranges-with_range first [] l u n h le = or-false _
in_ranges-with_range first (r ∷ rs) l u n h le = elim (beside r l u) [
  | inl past ↦
      let rest : in_ranges (with_range rs l u) n ≡ (in_ranges rs n || (nat_le l n && nat_le n u)) =
      in_ranges-with_range (r.upper + 2) rs l u n h.3 le in
      ap (λ l. in_ranges l n) (with_range-past r rs l u past) ∙ ap (λ b. in_range r n || b) rest
      ∙ or_assoc (in_range r n) (in_ranges rs n) (nat_le l n && nat_le n u)
  | inr (inl (a, b)) ↦
      ap (λ l. in_ranges l n) (with_range-ahead r rs l u a b)
      ∙ or_comm (nat_le l n && nat_le n u) (in_range r n || in_ranges rs n)
  | inr (inr (a, b)) ↦
      let rest : in_ranges (with_range rs (min r.lower l) (max r.upper u)) n ≡
      (in_ranges rs n || in_range (record { lower = min r.lower l; upper = max r.upper u }) n) =
      in_ranges-with_range (r.upper + 2) rs (min r.lower l) (max r.upper u) n h.3 (omega (arith, h.1)) in
      ap (λ l. in_ranges l n) (with_range-touched r rs l u a b) ∙ rest
      ∙ ap (λ b. in_ranges rs n || b) (hull r l u n h.1 le a b)
      ∙ or_turn (in_ranges rs n) (in_range r n) (nat_le l n && nat_le n u)
]

-- they stay canonical
pub RisesFrom-with_range : (first : ℕ) (rs : List Range) (l u : ℕ) → RisesFrom first rs → first ≤ l → l ≤ u →
    u ≤ max_number → RisesFrom first (with_range rs l u)
RisesFrom-with_range first [] l u h from le max = (from, le, max, tt)
RisesFrom-with_range first (r ∷ rs) l u h from le end = elim (beside r l u) [
  | inl past ↦ rw (with_range-past r rs l u past)
      (h.0, h.1, h.2, RisesFrom-with_range (r.upper + 2) rs l u h.3 (omega arith) le end)
  | inr (inl (a, b)) ↦ rw (with_range-ahead r rs l u a b) (from, le, end, (omega arith, h.1, h.2, h.3))
  | inr (inr (a, b)) ↦ rw (with_range-touched r rs l u a b)
      (RisesFrom-with_range first rs (min r.lower l) (max r.upper u)
      (RisesFrom-weaker first (r.upper + 2) rs (omega (arith, h.0, h.1)) h.3)
      (omega (arith, h.0)) (omega (arith, h.1)) (omega (arith, h.2)))
]

-- past the ranges that end too early
pub with_range-after : (rs : List Range) (i l u : ℕ) → i ≤ length rs →
    ((k : ℕ) → k < i → (range_at rs k).upper + 1 < l) → with_range rs l u ≡ take i rs ++ with_range (drop i rs) l u
with_range-after rs zero l u le before = refl
with_range-after [] (suc i) l u le before = absurd (omega arith)
with_range-after (r ∷ rs) (suc i) l u le before =
    let rest : with_range rs l u ≡ take i rs ++ with_range (drop i rs) l u =
    with_range-after rs i l u (omega arith) (λ k h. before (suc k) (omega arith)) in
    with_range-past r rs l u (before 0 (omega arith)) ∙ ap (λ l. r ∷ l) rest

-- one with the ranges that it touches
pub with_range-hull : (first : ℕ) (rs : List Range) (j l u : ℕ) → RisesFrom first rs → j < length rs →
    ((k : ℕ) → k ≤ j → ((range_at rs k).lower ≤ u + 1) × (l ≤ (range_at rs k).upper + 1)) →
    with_range rs l u ≡ with_range (drop (suc j) rs) (min (range_at rs 0).lower l) (max (range_at rs j).upper u)
with_range-hull first [] j l u h lt touched = absurd (omega arith)
with_range-hull first (r ∷ rs) zero l u h lt touched =
    let t = touched 0 (omega arith) in with_range-touched r rs l u t.1 t.0
with_range-hull first (r ∷ rs) (suc j) l u h lt touched =
    let t = touched 0 (omega arith) in
    let rest = with_range-hull (r.upper + 2) rs j (min r.lower l) (max r.upper u) h.3 (omega arith)
    (λ k le. let s = touched (suc k) (omega arith) in (omega (arith, s.0), omega (arith, s.1))) in
    let lower : min (range_at rs 0).lower (min r.lower l) ≡ min r.lower l =
    omega (arith, h.1, (RisesFrom-at (r.upper + 2) rs 0 h.3 (omega arith)).0) in
    let at = RisesFrom-at (r.upper + 2) rs j h.3 (omega arith) in
    let upper : max (range_at rs j).upper (max r.upper u) ≡ max (range_at rs j).upper u = omega (arith, at.0, at.1) in
    with_range-touched r rs l u t.1 t.0 ∙ rest ∙ ap₂ (λ a b. with_range (drop (suc j) rs) a b) lower upper

-- before ranges that begin too late
pub with_range-front : (first : ℕ) (rs : List Range) (l u : ℕ) → RisesFrom first rs → l ≤ u →
    (0 < length rs → u + 1 < (range_at rs 0).lower) → with_range rs l u ≡ record { lower = l; upper = u } ∷ rs
with_range-front first [] l u h le ahead = refl
with_range-front first (r ∷ rs) l u h le ahead =
    let a : u + 1 < r.lower = ahead (omega arith) in with_range-ahead r rs l u (omega (arith, h.1)) a

-- the ranges from a place on
pub RisesFrom-drop : (first : ℕ) (rs : List Range) (i : ℕ) → RisesFrom first rs → RisesFrom first (drop i rs)
RisesFrom-drop first rs zero h = h
RisesFrom-drop first [] (suc i) h = tt
RisesFrom-drop first (r ∷ rs) (suc i) h =
    RisesFrom-drop first rs i (RisesFrom-weaker first (r.upper + 2) rs (omega (arith, h.0, h.1)) h.3)

-- a range that touches no other is put between them
pub insert-span : (rs : List Range) (l u from to : ℕ) → IsCanonical rs → l ≤ u → IsSpan rs l u from to → from ≡ to →
    insert rs from (record { lower = l; upper = u }) ≡ with_range rs l u
insert-span rs l u from to h le span e =
    let ahead : 0 < length (drop from rs) → u + 1 < (range_at (drop from rs) 0).lower = λ some.
    let lt : from < length rs = omega (arith, length-drop from rs) in
    rw (get_or-drop from rs 0 (record { lower = 0; upper = 0 })) (span.after (from + 0) (omega arith) (omega arith)) in
    ap (λ l. take from rs ++ l) (sym (with_range-front 1 (drop from rs) l u (RisesFrom-drop 1 rs from h) le ahead))
    ∙ sym (with_range-after rs from l u (omega (arith, span.rises, span.within)) span.before)

-- a range that touches others takes their place
pub join-span : (rs : List Range) (l u from to : ℕ) → IsCanonical rs → l ≤ u → IsSpan rs l u from to → from < to →
    take from rs ++ record {
      lower = min (range_at rs from).lower l;
      upper = max
          (range_at rs (to - 1)).upper u;
    } ∷ drop to rs ≡ with_range rs l u
join-span rs l u from to h le span lt =
    let none : Range = record { lower = 0; upper = 0 } in
    let rest : List Range = drop from rs in
    let j : ℕ = to - 1 - from in
    let starts = RisesFrom-drop 1 rs from h in
    let within : j < length rest = omega (arith, length-drop from rs, span.within) in
    let touched : (k : ℕ) → k ≤ j → ((range_at rest k).lower ≤ u + 1) × (l ≤ (range_at rest k).upper + 1) =
    λ k hk. rw (get_or-drop from rs k none) (span.touched (from + k) (omega arith) (omega arith)) in
    let first : range_at rest 0 ≡ range_at rs from = get_or-drop from rs 0 none ∙ ap (range_at rs) (omega arith) in
    let last : range_at rest j ≡ range_at rs (to - 1) = get_or-drop from rs j none ∙ ap (range_at rs) (omega arith) in
    let after : drop (suc j) rest ≡ drop to rs = drop-drop (suc j) from rs ∙ ap (λ n. drop n rs) (omega arith) in
    let l' : ℕ = min (range_at rs from).lower l in
    let u' : ℕ = max (range_at rs (to - 1)).upper u in
    let ahead : 0 < length (drop to rs) → u' + 1 < (range_at (drop to rs) 0).lower = λ some.
    let there : to < length rs = omega (arith, length-drop to rs) in
    let beyond : u + 1 < (range_at rs (to + 0)).lower = span.after (to + 0) (omega arith) (omega arith) in
    let gap : (range_at rs (to - 1)).upper + 1 < (range_at rs (to + 0)).lower =
    RisesFrom-gap 1 rs (to - 1) (to + 0) h (omega arith) (omega arith) in
    rw (get_or-drop to rs 0 none) (omega arith) in
    let hulled : with_range rest l u ≡ with_range (drop to rs) l' u' =
    with_range-hull 1 rest j l u starts within touched
    ∙ ap₂ (λ a b. with_range (drop (suc j) rest) a b) (ap (λ (r : Range). min r.lower l) first)
    (ap (λ (r : Range). max r.upper u) last)
    ∙ ap (λ x. with_range x l' u') after in
    ap (λ x. take from rs ++ x) (sym
    (hulled ∙ with_range-front 1 (drop to rs) l' u' (RisesFrom-drop 1 rs to h)
    (omega (arith, (RisesFrom-at 1 rs from h (omega (arith, span.within))).1)) ahead))
    ∙ sym (with_range-after rs from l u (omega (arith, span.within)) span.before)

covers-nowhere : (rs : List Range) (l u : ℕ) →
    ((k : ℕ) → k < length rs → (nat_le (range_at rs k).lower l && nat_le u (range_at rs k).upper) ≡ false) →
    covers rs l u ≡ false
covers-nowhere rs l u h =
    or_from_places (λ x. covers x l u) (λ r. nat_le r.lower l && nat_le u r.upper) refl (λ _ _. refl) rs
    (record { lower = 0; upper = 0 }) h

-- no range covers numbers that touch none
pub covers-span : (rs : List Range) (l u from to : ℕ) → IsCanonical rs → l ≤ u → IsSpan rs l u from to → from ≡ to →
    covers rs l u ≡ false
covers-span rs l u from to h le span e = covers-nowhere rs l u (λ k hk. elim (cases_lt k from) [
  | inl a ↦ grind (arith, nat_tests, span.before k a)
  | inr b ↦ grind (arith, nat_tests, span.after k (omega arith) hk)
])

-- the first of the ranges that numbers touch covers them
pub covers-first : (rs : List Range) (l u from : ℕ) → from < length rs →
    (nat_le (range_at rs from).lower l && nat_le u (range_at rs from).upper) ≡ true → covers rs l u ≡ true
covers-first rs l u from h t =
    or_at (λ x. covers x l u) (λ r. nat_le r.lower l && nat_le u r.upper) refl (λ _ _. refl) rs from
    (record { lower = 0; upper = 0 }) h t

-- or none does
pub covers-joined : (rs : List Range) (l u from to : ℕ) → IsCanonical rs → l ≤ u → IsSpan rs l u from to → from < to →
    (nat_le (range_at rs from).lower l && nat_le u (range_at rs from).upper) ≡ false → covers rs l u ≡ false
covers-joined rs l u from to h le span lt t = covers-nowhere rs l u (λ k hk. elim (cases_order k from) [
  | inl same ↦ rw same t
  | inr (inl a) ↦ grind (arith, nat_tests, span.before k a)
  | inr (inr b) ↦
      let gap : (range_at rs from).upper + 1 < (range_at rs k).lower = RisesFrom-gap 1 rs from k h b hk in
      let near : l ≤ (range_at rs from).upper + 1 = (span.touched from (omega arith) lt).1 in
      let out : l < (range_at rs k).lower = omega arith in
      grind (arith, nat_tests, out)
])

-- numbers that a range covers lie in the ranges
pub in_ranges-covered : (rs : List Range) (l u n : ℕ) → covers rs l u ≡ true → l ≤ n → n ≤ u → in_ranges rs n ≡ true
in_ranges-covered [] l u n t a b = absurd (false≢true t)
in_ranges-covered (r ∷ rs) l u n t a b = elim (or_cases (nat_le r.lower l && nat_le u r.upper) (covers rs l u) t) [
  | inl here ↦ let inside : in_range r n ≡ true = grind (arith, nat_tests, here) in or_left _ (in_ranges rs n) inside
  | inr later ↦ or_right (in_range r n) (in_ranges rs n) (in_ranges-covered rs l u n later a b)
]

-- and change nothing
pub with_range-covered : (rs : List Range) (l u : ℕ) → IsCanonical rs → 0 < l → l ≤ u → u ≤ max_number →
    covers rs l u ≡ true → with_range rs l u ≡ rs
with_range-covered rs l u h from le end t =
    same_numbers_same (with_range rs l u) rs (RisesFrom-with_range 1 rs l u h from le end) h
    (λ n. in_ranges-with_range 1 rs l u n h le ∙ elim (cases_Bool (nat_le l n && nat_le n u)) [
      | inl among ↦
          let had : in_ranges rs n ≡ true =
          in_ranges-covered rs l u n t (grind (arith, nat_tests, among)) (grind (arith, nat_tests, among)) in
          or_left (in_ranges rs n) (nat_le l n && nat_le n u) had ∙ sym had
      | inr outside ↦ ap (λ b. in_ranges rs n || b) outside ∙ or-false _
    ])

-- where no range covers numbers, one of them lies in none
pub uncovered : (first : ℕ) (rs : List Range) (l u : ℕ) → RisesFrom first rs → l ≤ u → covers rs l u ≡ false →
    BringsNew rs (λ n. nat_le l n && nat_le n u)
uncovered first [] l u h le t = record { number = l; among = grind (arith, nat_tests); absent = refl }
uncovered first (r ∷ rs) l u h le t =
    let parts = or_parts (nat_le r.lower l && nat_le u r.upper) (covers rs l u) t in
    let here : (nat_le r.lower l && nat_le u r.upper) ≡ false = parts.0 in
    elim (cases_lt l r.lower) [
      | inl before ↦ record {
        number = l;
        among = grind (arith, nat_tests);
        absent = in_ranges-before r.lower l (r ∷ rs) (omega arith, h.1, h.2, h.3) before;
      }
      | inr from ↦ elim (cases_lt r.upper l) [
        | inl past ↦
            let rest = uncovered (r.upper + 2) rs l u h.3 le parts.1 in
            let at = rest.number in
            let after : l ≤ at = grind (arith, nat_tests, rest.among) in
            let out : in_range r at ≡ false = grind (arith, in_range_tells r at) in
            record { number = at; among = rest.among; absent = or_from _ _ out rest.absent }
        | inr meets ↦
            let beyond : r.upper < u = grind (arith, nat_tests, here) in
            let out : in_range r (r.upper + 1) ≡ false = grind (arith, in_range_tells r (r.upper + 1)) in
            record {
              number = r.upper + 1;
              among = grind (arith, nat_tests);
              absent = or_from _ _ out (in_ranges-before (r.upper + 2) (r.upper + 1) rs h.3 (omega arith));
            }
      ]
    ]

-- a range adds exactly its numbers
pub adds-with_range : (old new : List Range) (l u : ℕ) → IsCanonical old → new ≡ with_range old l u → 0 < l → l ≤ u →
    u ≤ max_number → AddsExactly old new (λ n. nat_le l n && nat_le n u)
adds-with_range old new l u h e from le end = record {
  numbers = λ n. ap (λ x. in_ranges x n) e ∙ in_ranges-with_range 1 old l u n h le;
  canonical = rw e (RisesFrom-with_range 1 old l u h from le end);
}

-- a number adds exactly itself
pub adds-with_number : (old new : List Range) (n : ℕ) → IsCanonical old → new ≡ with_range old n n → 0 < n →
    n ≤ max_number → AddsExactly old new (λ m. m == n)
adds-with_number old new n h e from end =
    let range = adds-with_range old new n n h e from (omega arith) end in
    record {
      numbers = λ m. let one : (nat_le n m && nat_le m n) ≡ (m == n) = grind (arith, nat_tests) in range.numbers m
          ∙ ap (λ b. in_ranges old m || b) one;
      canonical = range.canonical;
    }

pub covers-one : (rs : List Range) (n : ℕ) → covers rs n n ≡ in_ranges rs n
covers-one [] n = refl
covers-one (r ∷ rs) n = ap (λ b. in_range r n || b) (covers-one rs n)

-- a range brings a new number exactly where no range covers it
pub brings-covers : (rs : List Range) (l u : ℕ) (is_new : Bool) → IsCanonical rs → l ≤ u →
    is_new ≡ not (covers rs l u) → IsTrue is_new ↔ BringsNew rs (λ n. nat_le l n && nat_le n u)
brings-covers rs l u is_new h le e = (
  λ t. uncovered 1 rs l u h le (not-true _ (sym e ∙ t)),
  λ b. e ∙ not_from_false _ (false_from_ne_true _
      (λ t. both_ways _ b.absent (in_ranges-covered rs l u b.number t (grind (arith, nat_tests, b.among))
      (grind (arith, nat_tests, b.among))))),
)

-- the first range that ends by the last number tells whether one covers them
pub covers-at_place : (rs : List Range) (l u place : ℕ) → IsCanonical rs → IsPlace rs u place → place < length rs →
    covers rs l u ≡ nat_le (range_at rs place).lower l
covers-at_place rs l u place h p lt =
    let ends : u ≤ (range_at rs place).upper = p.after place (omega arith) lt in
    elim (cases_lt l (range_at rs place).lower) [
      | inl below ↦
          covers-nowhere rs l u (λ k hk. elim (cases_lt k place) [
            | inl a ↦ grind (arith, nat_tests, p.before k a)
            | inr b ↦
                let later : l < (range_at rs k).lower = omega (arith, RisesFrom-starts 1 rs place k h b hk) in
                grind (arith, nat_tests, later)
          ]) ∙ sym (lt-leb _ _ below)
      | inr from ↦ covers-first rs l u place lt (grind (arith, nat_tests)) ∙ sym (le-leb _ _ from)
    ]

-- where each range ends before the last number, none covers them
pub covers-past : (rs : List Range) (l u place : ℕ) → IsPlace rs u place → length rs ≤ place → covers rs l u ≡ false
covers-past rs l u place p le = covers-nowhere rs l u (λ k hk. grind (arith, nat_tests, p.before k (omega arith)))

-- the first range ends by the greatest number
greatest_of-first : (first : ℕ) (r : Range) (rs : List Range) → RisesFrom first (r ∷ rs) →
    r.upper ≤ greatest_of (r ∷ rs)
greatest_of-first first r [] h = omega arith
greatest_of-first first r (s ∷ rs) h =
    let rest : s.upper ≤ greatest_of (s ∷ rs) = greatest_of-first (r.upper + 2) s rs h.3 in
    omega (arith, h.3.0, h.3.1)

-- a range behind all others goes to the end
pub with_range-behind : (first : ℕ) (rs : List Range) (l u : ℕ) → RisesFrom first rs → greatest_of rs + 1 < l →
    with_range rs l u ≡ rs ++ record { lower = l; upper = u } ∷ []
with_range-behind first [] l u h lt = refl
with_range-behind first (r ∷ []) l u h lt = with_range-past r [] l u lt
with_range-behind first (r ∷ s ∷ rs) l u h lt =
    let ends : s.upper ≤ greatest_of (s ∷ rs) = greatest_of-first (r.upper + 2) s rs h.3 in
    let rest : with_range (s ∷ rs) l u ≡ (s ∷ rs) ++ record { lower = l; upper = u } ∷ [] =
    with_range-behind (r.upper + 2) (s ∷ rs) l u h.3 lt in
    with_range-past r (s ∷ rs) l u (omega (arith, h.3.0, h.3.1)) ∙ ap (λ l. r ∷ l) rest
