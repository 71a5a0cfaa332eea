-- Two lists of ranges merged from the front on.
use Rattle.std.proofs.Common.{◌≡◌, ℕ, zero, suc, ◌+◌, ◌-◌, ◌<◌, ◌≤◌, Bool, true, false, not, IsTrue, ◌↔◌, ◌||◌, max}
use Rattle.std.proofs.Common.{min, List, [], ◌∷◌, ◌++◌, length, take, drop, refl, sym, ap, ap₂, ◌∙◌, arith, inl, inr}
use Rattle.std.proofs.lemmas.Bool.{cases_Bool, or_left, or_right, or_cases, and_parts, and_cases, not-true}
use Rattle.std.proofs.lemmas.Bool.{not_from_false, false_from_ne_true, both_ways, false≢true}
use Rattle.std.proofs.lemmas.Bool.Decides.{nat_tests}
use Rattle.std.proofs.lemmas.List.{take_all, drop_all, take_more, drop-drop, get_or-drop, length-drop}
use Rattle.rm_sides.specs.declared.ranges.range.Range.{Range}
use Rattle.rm_sides.specs.Ranges.Ranges.{in_range, in_ranges, RisesFrom, IsCanonical}
use Rattle.rm_sides.specs.Ranges.Changes.{with_range, united, covers, covers_all, AddsExactly, BringsNew}
use Rattle.rm_sides.specs.Ranges.Places.{range_at, StartsBy, IsNextOf, IsNextBefore}
use Rattle.rm_sides.proofs.RangesLemmas.RangesLemmas.{or_assoc, or-false, or_comm, in_ranges-push, RisesFrom-at}
use Rattle.rm_sides.proofs.RangesLemmas.RangesLemmas.{RisesFrom-starts, same_numbers_same}
use Rattle.rm_sides.proofs.RangesLemmas.ChangesLemmas.{beside, with_range-past, with_range-ahead, with_range-touched}
use Rattle.rm_sides.proofs.RangesLemmas.ChangesLemmas.{with_range-after, in_ranges-with_range, RisesFrom-with_range}
use Rattle.rm_sides.proofs.RangesLemmas.ChangesLemmas.{in_ranges-covered, uncovered}

pub StartsBy-weaker : (rs : List Range) (a b : ℕ) → a ≤ b → StartsBy rs a → StartsBy rs b
StartsBy-weaker [] a b le h = tt
StartsBy-weaker (r ∷ rs) a b le h = (omega (arith, h.0), StartsBy-weaker rs a b le h.1)

pub StartsBy-at : (rs : List Range) (n k : ℕ) → StartsBy rs n → k < length rs → (range_at rs k).lower ≤ n
StartsBy-at [] n k h lt = absurd (omega arith)
StartsBy-at (r ∷ rs) n zero h lt = h.0
StartsBy-at (r ∷ rs) n (suc k) h lt = StartsBy-at rs n k h.1 (omega arith)

pub StartsBy-with_range : (rs : List Range) (l u n : ℕ) → StartsBy rs n → l ≤ n → StartsBy (with_range rs l u) n
StartsBy-with_range [] l u n h le = (le, tt)
StartsBy-with_range (r ∷ rs) l u n h le = elim (beside r l u) [
  | inl past ↦ rw (with_range-past r rs l u past) (h.0, StartsBy-with_range rs l u n h.1 le)
  | inr (inl (a, b)) ↦ rw (with_range-ahead r rs l u a b) (le, h)
  | inr (inr (a, b)) ↦ rw (with_range-touched r rs l u a b)
      (StartsBy-with_range rs (min r.lower l) (max r.upper u) n h.1 (omega arith))
]

-- behind ranges that end too early
pub with_range-push : (rs : List Range) (l u : ℕ) → ((k : ℕ) → k < length rs → (range_at rs k).upper + 1 < l) →
    with_range rs l u ≡ rs ++ record { lower = l; upper = u } ∷ []
with_range-push rs l u before =
    with_range-after rs (length rs) l u (omega arith) before
    ∙ ap₂ (λ xs ys. xs ++ with_range ys l u) (take_all (length rs) rs (omega arith))
    (drop_all (length rs) rs (omega arith))

-- one with the last range
pub with_range-last : (first : ℕ) (rs : List Range) (last : Range) (l u : ℕ) → RisesFrom first (rs ++ last ∷ []) →
    last.lower ≤ l → l ≤ last.upper + 1 → l ≤ u →
    with_range (rs ++ last ∷ []) l u ≡ rs ++ record { lower = last.lower; upper = max last.upper u } ∷ []
with_range-last first [] last l u h from near le =
    let e : min last.lower l ≡ last.lower = omega arith in
    with_range-touched last [] l u near (omega arith) ∙ ap (λ x. with_range [] x (max last.upper u)) e
with_range-last first (r ∷ rs) last l u h from near le =
    let apart : r.upper + 2 ≤ last.lower = last-after (r.upper + 2) rs last h.3 in
    with_range-past r (rs ++ last ∷ []) l u (omega arith)
    ∙ ap (λ xs. r ∷ xs) (with_range-last (r.upper + 2) rs last l u h.3 from near le)
  where
    last-after : (first : ℕ) (rs : List Range) (last : Range) → RisesFrom first (rs ++ last ∷ []) → first ≤ last.lower
    last-after first [] last h = h.0
    last-after first (r ∷ rs) last h = let rest = last-after (r.upper + 2) rs last h.3 in omega (arith, h.0, h.1)

-- the numbers of both
pub in_ranges-united : (xs ys : List Range) (first n : ℕ) → IsCanonical xs → 0 < first → RisesFrom first ys →
    in_ranges (united xs ys) n ≡ (in_ranges xs n || in_ranges ys n)
in_ranges-united xs [] first n hx some hy = sym (or-false _)
in_ranges-united xs (y ∷ ys) first n hx some hy =
    in_ranges-united (with_range xs y.lower y.upper) ys (y.upper + 2) n
    (RisesFrom-with_range 1 xs y.lower y.upper hx (omega (arith, hy.0)) hy.1 hy.2) (omega arith) hy.3
    ∙ ap (λ b. b || in_ranges ys n) (in_ranges-with_range 1 xs y.lower y.upper n hx hy.1)
    ∙ sym (or_assoc (in_ranges xs n) (in_range y n) (in_ranges ys n))

pub IsCanonical-united : (xs ys : List Range) (first : ℕ) → IsCanonical xs → 0 < first → RisesFrom first ys →
    IsCanonical (united xs ys)
IsCanonical-united xs [] first hx some hy = hx
IsCanonical-united xs (y ∷ ys) first hx some hy =
    IsCanonical-united (with_range xs y.lower y.upper) ys (y.upper + 2)
    (RisesFrom-with_range 1 xs y.lower y.upper hx (omega (arith, hy.0)) hy.1 hy.2) (omega arith) hy.3

-- a set adds exactly its numbers
pub adds-united : (old new ys : List Range) → IsCanonical old → IsCanonical ys → new ≡ united old ys →
    AddsExactly old new (in_ranges ys)
adds-united old new ys h hy e = record {
  numbers = λ n. ap (λ x. in_ranges x n) e ∙ in_ranges-united old ys 1 n h (omega arith) hy;
  canonical = rw e (IsCanonical-united old ys 1 h (omega arith) hy);
}

-- canonical ranges with the numbers of both are what both make
pub united-from_numbers : (new xs ys : List Range) → IsCanonical new → IsCanonical xs → IsCanonical ys →
    ((n : ℕ) → in_ranges new n ≡ (in_ranges xs n || in_ranges ys n)) → new ≡ united xs ys
united-from_numbers new xs ys h hx hy numbers =
    same_numbers_same new (united xs ys) h (IsCanonical-united xs ys 1 hx (omega arith) hy)
    (λ n. numbers n ∙ sym (in_ranges-united xs ys 1 n hx (omega arith) hy))

-- ranges that lie in others have no other number
pub in_ranges-covered_all : (xs ys : List Range) (n : ℕ) → covers_all xs ys ≡ true → in_ranges ys n ≡ true →
    in_ranges xs n ≡ true
in_ranges-covered_all xs [] n t m = absurd (false≢true m)
in_ranges-covered_all xs (y ∷ ys) n t m =
    let parts = and_parts (covers xs y.lower y.upper) (covers_all xs ys) t in
    elim (or_cases (in_range y n) (in_ranges ys n) m) [
      | inl here ↦ in_ranges-covered xs y.lower y.upper n parts.0 (grind (arith, nat_tests, here))
          (grind (arith, nat_tests, here))
      | inr later ↦ in_ranges-covered_all xs ys n parts.1 later
    ]

-- and change nothing
pub united-covered_all : (xs ys : List Range) → IsCanonical xs → IsCanonical ys → covers_all xs ys ≡ true →
    xs ≡ united xs ys
united-covered_all xs ys hx hy t = united-from_numbers xs xs ys hx hx hy (λ n. elim (cases_Bool (in_ranges ys n)) [
  | inl among ↦ let had : in_ranges xs n ≡ true = in_ranges-covered_all xs ys n t among in had
      ∙ sym (or_left (in_ranges xs n) (in_ranges ys n) had)
  | inr outside ↦ sym (ap (λ b. in_ranges xs n || b) outside ∙ or-false _)
])

pub uncovered_all : (first : ℕ) (xs ys : List Range) → IsCanonical xs → RisesFrom first ys → covers_all xs ys ≡ false →
    BringsNew xs (in_ranges ys)
uncovered_all first xs [] hx hy t = absurd (false≢true (sym t))
uncovered_all first xs (y ∷ ys) hx hy t = elim (and_cases (covers xs y.lower y.upper) (covers_all xs ys) t) [
  | inl here ↦
      let new = uncovered 1 xs y.lower y.upper hx hy.1 here in
      record {
        number = new.number;
        among = or_left (in_range y new.number) (in_ranges ys new.number) new.among;
        absent = new.absent;
      }
  | inr later ↦
      let new = uncovered_all (y.upper + 2) xs ys hx hy.3 later in
      record {
        number = new.number;
        among = or_right (in_range y new.number) (in_ranges ys new.number) new.among;
        absent = new.absent;
      }
]

-- a set brings a new number exactly where its ranges don't all lie in the others
pub brings-covers_all : (xs ys : List Range) (is_new : Bool) → IsCanonical xs → IsCanonical ys →
    is_new ≡ not (covers_all xs ys) → IsTrue is_new ↔ BringsNew xs (in_ranges ys)
brings-covers_all xs ys is_new hx hy e = (
  λ t. uncovered_all 1 xs ys hx hy (not-true _ (sym e ∙ t)),
  λ b. e ∙ not_from_false _ (false_from_ne_true _
      (λ t. both_ways _ b.absent (in_ranges-covered_all xs ys b.number t b.among))),
)

-- how far a merge has come: the first `kept` of all are what the ranges up to `read` and the others up to `next`
-- make, and the ranges from `read` on stand as before
pub record Merging (before all others : List Range) (read next kept : ℕ) : Type 0 where
  pub begun : length others ≤ read
  pub read_within : read ≤ length before
  pub next_within : next ≤ length others
  pub behind : kept + length others ≤ read + next
  pub rest : drop read all ≡ drop read before
  pub canonical : IsCanonical (take kept all)
  pub numbers : (n : ℕ) → in_ranges (take kept all) n ≡
      (in_ranges (take (read - length others) (drop (length others) before)) n || in_ranges (take next others) n)
  pub before_read : read < length before → StartsBy (take kept all) (range_at before read).lower
  pub before_next : next < length others → StartsBy (take kept all) (range_at others next).lower

-- what putting one more range behind the first ones leaves
pub record PutsLast (old new : List Range) (kept count : ℕ) (range : Range) : Type 0 where
  pub few : count ≤ kept + 1
  pub sum : take count new ≡ with_range (take kept old) range.lower range.upper
  pub rest : drop (kept + 1) new ≡ drop (kept + 1) old

drop-further : (a b : ℕ) (xs ys : List Range) → a ≤ b → drop a xs ≡ drop a ys → drop b xs ≡ drop b ys
drop-further a b xs ys le e =
    ap (λ n. drop n xs) (omega arith) ∙ sym (drop-drop (b - a) a xs) ∙ ap (λ l. drop (b - a) l) e
    ∙ drop-drop (b - a) a ys
    ∙ ap (λ n. drop n ys) (omega arith)

-- the range that is read stands as before
pub read-as_before : (before all : List Range) (read : ℕ) → drop read all ≡ drop read before →
    range_at all read ≡ range_at before read
read-as_before before all read e =
    let none : Range = record { lower = 0; upper = 0 } in
    ap (λ k. range_at all k) (omega arith) ∙ sym (get_or-drop read all 0 none) ∙ ap (λ l. range_at l 0) e
    ∙ get_or-drop read before 0 none
    ∙ ap (λ k. range_at before k) (omega arith)

-- the ranges stand behind room for the others
pub behind-room : (before : List Range) (room read : ℕ) → room ≤ read →
    range_at (drop room before) (read - room) ≡ range_at before read
behind-room before room read le =
    get_or-drop room before (read - room) (record { lower = 0; upper = 0 }) ∙ ap (λ k. range_at before k) (omega arith)

-- what is known of a range that is read
pub read-at : (before : List Range) (room read : ℕ) → IsCanonical (drop room before) → room ≤ read →
    read < length before → IsCanonical (range_at before read ∷ [])
read-at before room read h le lt =
    let at = RisesFrom-at 1 (drop room before) (read - room) h (omega (arith, length-drop room before)) in
    let e = behind-room before room read le in
    rw (← e) (at.0, at.1, at.2, tt)

or_swap : (x y z : Bool) → ((x || y) || z) ≡ ((x || z) || y)
or_swap x y z = sym (or_assoc x y z) ∙ ap (λ b. x || b) (or_comm y z) ∙ or_assoc x z y

-- the next is one of the ranges
pub merging-read : (before all others new : List Range) (read next kept count : ℕ) →
    IsCanonical (drop (length others) before) → Merging before all others read next kept →
    IsNextOf all read others next → length all ≡
    length before → PutsLast all new kept count (range_at before read) →
    Merging before new others (read + 1) next count
merging-read before all others new read next kept count h m first len put =
    let room : ℕ = length others in
    let xs : List Range = drop room before in
    let i : ℕ = read - room in
    let z : Range = range_at before read in
    let within : read < length before = omega (arith, first.within) in
    let at = read-at before room read h m.begun within in
    let there : i < length xs = omega (arith, length-drop room before, m.begun) in
    let more : take (read + 1 - room) xs ≡ take i xs ++ z ∷ [] =
    ap (λ k. take k xs) (omega (arith, m.begun)) ∙ take_more xs i (record { lower = 0; upper = 0 }) there
    ∙ ap (λ r. take i xs ++ r ∷ []) (behind-room before room read m.begun) in
    record {
      begun = omega (arith, m.begun);
      read_within = omega arith;
      next_within = m.next_within;
      behind = omega (arith, m.behind, put.few);
      rest = drop-further (kept + 1) (read + 1) new all (omega (arith, m.behind, m.next_within)) put.rest
          ∙ drop-further read (read + 1) all before (omega arith) m.rest;
      canonical = rw put.sum (RisesFrom-with_range 1 (take kept all) z.lower z.upper m.canonical at.0 at.1 at.2);
      numbers = λ n. ap (λ x. in_ranges x n) put.sum
          ∙ in_ranges-with_range 1 (take kept all) z.lower z.upper n m.canonical at.1
          ∙ ap (λ b. b || in_range z n) (m.numbers n)
          ∙ or_swap (in_ranges (take i xs) n) (in_ranges (take next others) n) (in_range z n)
          ∙ ap (λ b. b || in_ranges (take next others) n)
          (sym (ap (λ x. in_ranges x n) more ∙ in_ranges-push (take i xs) z n));
      before_read = λ lt.
          let later : z.lower ≤ (range_at before (read + 1)).lower =
          rw (← behind-room before room read m.begun, ← behind-room before room (read + 1) (omega (arith, m.begun)))
          (RisesFrom-starts 1 xs i (read + 1 - room) h (omega arith)
          (omega (arith, length-drop room before, m.begun))) in
          rw put.sum (StartsBy-weaker _ z.lower _ later
          (StartsBy-with_range (take kept all) z.lower z.upper z.lower (m.before_read within) (omega arith)));
      before_next = λ lt.
          let early : z.lower ≤ (range_at others next).lower =
          rw (← read-as_before before all read m.rest) (first.first lt) in
          rw put.sum (StartsBy-with_range (take kept all) z.lower z.upper (range_at others next).lower
          (m.before_next lt) early);
    }

-- the next is one of the others
pub merging-next : (before all others new : List Range) (read next kept count : ℕ) → IsCanonical others →
    Merging before all others read next kept →
    IsNextBefore others next all read → length all ≡
    length before → PutsLast all new kept count (range_at others next) →
    Merging before new others read (next + 1) count
merging-next before all others new read next kept count h m first len put =
    let y : Range = range_at others next in
    let at = RisesFrom-at 1 others next h first.within in
    let more : take (next + 1) others ≡ take next others ++ y ∷ [] =
    take_more others next (record { lower = 0; upper = 0 }) first.within in
    let xs : List Range = take (read - length others) (drop (length others) before) in
    record {
      begun = m.begun;
      read_within = m.read_within;
      next_within = omega (arith, first.within);
      behind = omega (arith, m.behind, put.few);
      rest = drop-further (kept + 1) read new all (omega (arith, m.behind, first.within)) put.rest ∙ m.rest;
      canonical = rw put.sum (RisesFrom-with_range 1 (take kept all) y.lower y.upper m.canonical at.0 at.1 at.2);
      numbers = λ n. ap (λ x. in_ranges x n) put.sum
          ∙ in_ranges-with_range 1 (take kept all) y.lower y.upper n m.canonical at.1
          ∙ ap (λ b. b || in_range y n) (m.numbers n)
          ∙ sym (or_assoc (in_ranges xs n) (in_ranges (take next others) n) (in_range y n))
          ∙ ap (λ b. in_ranges xs n || b) (sym (ap (λ x. in_ranges x n) more ∙ in_ranges-push (take next others) y n));
      before_read = λ lt.
          let early : y.lower ≤ (range_at before read).lower =
          rw (← read-as_before before all read m.rest) (omega (arith, first.first (omega arith))) in
          rw put.sum (StartsBy-with_range (take kept all) y.lower y.upper (range_at before read).lower
          (m.before_read lt) early);
      before_next = λ lt.
          let later = RisesFrom-starts 1 others next (next + 1) h (omega arith) lt in
          rw put.sum (StartsBy-weaker _ y.lower _ later
          (StartsBy-with_range (take kept all) y.lower y.upper y.lower (m.before_next first.within) (omega arith)));
    }

-- both are read to their ends
pub merging-ended : (before all others : List Range) (read next kept : ℕ) →
    IsCanonical (drop (length others) before) → IsCanonical others → Merging before all others read next kept →
    length before ≤ read → length others ≤ next → take kept all ≡ united (drop (length others) before) others
merging-ended before all others read next kept h ho m read_end next_end =
    let xs : List Range = drop (length others) before in
    let whole : take (read - length others) xs ≡ xs =
    take_all (read - length others) xs (omega (arith, length-drop (length others) before)) in
    united-from_numbers (take kept all) xs others m.canonical h ho
    (λ n. m.numbers n ∙ ap₂ (λ a b. in_ranges a n || in_ranges b n) whole (take_all next others next_end))

-- the union of no numbers and a set is the set
pub united-nothing : (xs : List Range) → IsCanonical xs → united [] xs ≡ xs
united-nothing xs h =
    let adds = adds-united [] (united [] xs) xs tt h refl in
    same_numbers_same (united [] xs) xs adds.canonical h adds.numbers
