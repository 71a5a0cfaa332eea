-- What is held is held once, and what of it goes where the first of a loose sequence go.
use Rattle.std.proofs.Common.{◌≡◌, ◌≢◌, ℕ, zero, suc, ◌+◌, ◌-◌, ◌<◌, ◌≤◌, ◌==◌, Bool, true, false, ◌||◌, cond, min, max}
use Rattle.std.proofs.Common.{List, [], ◌∷◌, ◌++◌, length, take, drop, refl, sym, ap, subst, ◌∙◌, arith, inl, inr}
use Rattle.std.proofs.Common.{append_assoc, ◌⊎◌}
use Rattle.std.specs.Prelude.{◌&&◌, nat_le, nat_lt}
use Rattle.std.proofs.lemmas.List.Sums.{sum_by-cons}
use Rattle.std.proofs.lemmas.Bool.{and_parts, cases_Bool, eqb-true, false≢true, true≢false}
use Rattle.std.proofs.lemmas.Bool.Decides.{nat_tests}
use Rattle.std.proofs.lemmas.List.{append-nil, take-append-drop}
use Rattle.rm_sides.specs.Ranges.Changes.{with_range}
use Rattle.rm_sides.specs.Ranges.Laws.{RangeIsAdded, UnionHasBoth}
use Rattle.rm_sides.specs.declared.ranges.range.Range.{Range}
use Rattle.rm_sides.specs.Ranges.Ranges.{IsCanonical, RisesFrom, count_of, in_ranges, is_between, size_of}
use Rattle.rm_base.specs.Message.{max_number}
use Rattle.rm_base.specs.NumberSet.{has_number}
use Rattle.rm_base.specs.declared.message.Payload.{Payload}
use Rattle.rm_sides.specs.Destination.ItemLemmas.{has-more, has_number-run, length-numbers_in, numbers-in}
use Rattle.rm_sides.specs.Destination.LooseLemmas.{AreMessageNumbers, are-first, are-rest, take-past, within-from}
use Rattle.rm_sides.specs.Destination.Messages.{AreOnce, without}
use Rattle.rm_sides.specs.Destination.Messages.{numbers_in, numbers_of, ranges_onto, run_of}
use Rattle.record_batch.specs.Fact.{Fact, Received, Consumed, Purged}
use Rattle.record_batch.specs.Sequences.Destinations.{held, purged, purged_of, received, received_of}
use Rattle.record_batch.specs.Sequences.Fits.{all_fit, fits, is_incoming_side}
use Rattle.record_batch.specs.Sequences.GatherLemmas.{flat_map-more}
use Rattle.record_batch.specs.Sequences.Makers.{maker}
use Rattle.record_batch.specs.Sequences.StayLemmas.{incoming-stays}
use Rattle.record_batch.specs.Snapshot.GoneLemmas.{apart-of, held-before, held-has, no-purge-later, numbers-received}
use Rattle.record_batch.specs.Snapshot.GoneLemmas.{purged-from}
use Rattle.record_batch.specs.Snapshot.GotLemmas.{got_kind, got_with, held-is, held-length, held-more, message-side}
use Rattle.record_batch.specs.Snapshot.GotLemmas.{purge-set, purge-side, purge-some, received-with}
use Rattle.record_batch.specs.Snapshot.GotLemmas.{a_message, a_purge, a_consume, besides}
use Rattle.record_batch.specs.Snapshot.Same.{AreNumbers}

-- ---- of what something is held, that receives

pub held-made : (before l : List Fact) (s : ℕ) → all_fit before l ≡ true → 0 < length (held l s)
    → is_incoming_side (maker (before ++ l) s) ≡ true
held-made before [] s fit lt = absurd (omega (arith, lt))
held-made before (f ∷ l) s fit lt =
    let parts = and_parts (fits before f) (all_fit (before ++ f ∷ []) l) fit in
    elim (got_kind s f) as (λ h k. fits before h ≡ true → all_fit (before ++ h ∷ []) l ≡ true
    → 0 < length (held (h ∷ l) s) → is_incoming_side (maker (before ++ h ∷ l) s) ≡ true) [
      | a_message k p ↦ λ fit rest lt. incoming-stays before (Received s k p ∷ l) s (message-side before s k p fit)
      | a_purge ranges ↦ λ fit rest lt. incoming-stays before (Purged s ranges ∷ l) s (purge-side before s ranges fit)
      | a_consume upto ↦ λ fit rest lt.
          ap (λ r. is_incoming_side (maker r s)) (sym (append_assoc before (Consumed s upto ∷ []) l))
          ∙ held-made (before ++ Consumed s upto ∷ []) l s rest lt
      | besides h gots purges cursors ↦ λ fit rest lt.
          let still : length (held (h ∷ l) s) ≡ length (held l s) =
          omega (
            arith,
            held-length (h ∷ l) s,
            held-length l s,
            ap (λ xs. length (numbers_in (xs ++ purged l s))) (purges h (refl, refl)),
            ap (λ xs. length (xs ++ received l s)) (gots h (refl, refl)),
          ) in
          ap (λ r. is_incoming_side (maker r s)) (sym (append_assoc before (h ∷ []) l))
          ∙ held-made (before ++ h ∷ []) l s rest (omega (arith, lt, still))
    ] parts.0 parts.1 lt

-- ---- each number stands once

-- no two of the numbers are the same
abbrev pub Distinct : List ℕ → Type 0
Distinct [] = Unit {0}
Distinct (n ∷ ns) = (has_number ns n ≡ false) × Distinct ns

not-both : (a b : Bool) → (a ≡ true → b ≡ true → ⊥) → a ≡ true → b ≡ false
not-both a true h e = absurd (h e refl)
not-both a false h e = refl

distinct-append : (xs ys : List ℕ) → Distinct xs → Distinct ys
    → ((n : ℕ) → has_number xs n ≡ true → has_number ys n ≡ false) → Distinct (xs ++ ys)
distinct-append [] ys dx dy apart = dy
distinct-append (x ∷ xs) ys dx dy apart =
    let none : has_number ys x ≡ false = apart x (grind (arith, nat_tests)) in (
      has-more xs ys x ∙ ap (λ b. b || has_number ys x) dx.0 ∙ none,
      distinct-append xs ys dx.1 dy (λ n e. apart n (grind (arith, nat_tests, e))),
    )

-- what is among the first of distinct numbers isn't among the others
pub distinct-apart : (xs ys : List ℕ) → Distinct (xs ++ ys) → (n : ℕ) → has_number xs n ≡ true
    → has_number ys n ≡ false
distinct-apart [] ys d n e = absurd (false≢true e)
distinct-apart (x ∷ xs) ys d n e = elim (cases_Bool (x == n)) [
  | inl same ↦
      let at : x ≡ n = eqb-true x n same in
      let all = has-more xs ys x in
      let none : has_number (xs ++ ys) x ≡ false = d.0 in
      subst (λ k. has_number ys k ≡ false) at (grind (arith, nat_tests, all, none))
  | inr other ↦ distinct-apart xs ys d.1 n (sym (ap (λ b. b || has_number xs n) other) ∙ e)
]

pub distinct-first : (xs ys : List ℕ) → Distinct (xs ++ ys) → Distinct xs
distinct-first [] ys d = tt
distinct-first (x ∷ xs) ys d =
    let all = has-more xs ys x in
    let none : has_number (xs ++ ys) x ≡ false = d.0 in
    (grind (arith, nat_tests, all, none), distinct-first xs ys d.1)

distinct-run : (lower k : ℕ) → Distinct (run_of lower k)
distinct-run lower zero = tt
distinct-run lower (suc k) =
    let none = has_number-run (lower + 1) k lower in
    (grind (arith, nat_tests, none), distinct-run (lower + 1) k)

distinct-in : (low : ℕ) (ps : List Range) → RisesFrom low ps → Distinct (numbers_in ps)
distinct-in low [] rise = tt
distinct-in low (x ∷ ps) rise =
    distinct-append (run_of x.lower (size_of x)) (numbers_in ps) (distinct-run x.lower (size_of x))
    (distinct-in (x.upper + 2) ps rise.3)
    (λ n e. not-both (has_number (run_of x.lower (size_of x)) n) (has_number (numbers_in ps) n) (λ a b.
    let run = has_number-run x.lower (size_of x) n in
    let le : n ≤ x.upper = below x.lower x.upper n (sym run ∙ a) rise.1 in
    let at = within-from (x.upper + 2) n ps rise.3 (sym (numbers-in ps n) ∙ b) in
    absurd (omega (arith, le, at.0))) e)
  where
    below : (l u n : ℕ) → (nat_le l n && nat_lt n (l + (u + 1 - l))) ≡ true → l ≤ u → n ≤ u
    below l u n e le = grind (arith, nat_tests, e, le)

-- what is gone is a set
pub purged-set : (before l : List Fact) (s : ℕ) → all_fit before l ≡ true → RisesFrom 1 (purged l s)
purged-set before [] s fit = tt
purged-set before (f ∷ l) s fit =
    let parts = and_parts (fits before f) (all_fit (before ++ f ∷ []) l) fit in
    let ih = purged-set (before ++ f ∷ []) l s parts.1 in
    elim (got_kind s f) as (λ h k. fits before h ≡ true → all_fit (before ++ h ∷ []) l ≡ true
    → RisesFrom 1 (purged (h ∷ l) s)) [
      | a_message k p ↦ λ fit rest. ih
      | a_purge ranges ↦ λ fit rest.
          let none = no-purge-later (before ++ Purged s ranges ∷ []) l s rest
          (omega (
            arith,
            held-more before (Purged s ranges) s,
            purge-some before s ranges fit,
            ap (λ xs. length (numbers_in xs)) (got_with s ranges),
          )) in
          let gone : purged (Purged s ranges ∷ l) s ≡ ranges =
          ap (λ xs. purged_of s (Purged s ranges) ++ xs) none ∙ append-nil (purged_of s (Purged s ranges))
          ∙ got_with s ranges in
          subst (RisesFrom 1) (sym gone) (purge-set before s ranges fit)
      | a_consume upto ↦ λ fit rest. ih
      | besides h gots purges cursors ↦ λ fit rest.
          subst (λ xs. RisesFrom 1 (xs ++ purged l s)) (sym (purges h (refl, refl))) ih
    ] parts.0 parts.1

pub once-received : (before l : List Fact) (s : ℕ) → all_fit before l ≡ true → AreOnce (received l s)
once-received before [] s fit = tt
once-received before (f ∷ l) s fit =
    let parts = and_parts (fits before f) (all_fit (before ++ f ∷ []) l) fit in
    let ih = once-received (before ++ f ∷ []) l s parts.1 in
    elim (got_kind s f) as (λ h k. all_fit (before ++ h ∷ []) l ≡ true
    → AreOnce (received (h ∷ l) s)) [
      | a_message k p ↦ λ rest.
          subst (λ xs. AreOnce (xs ++ received l s)) (sym (received-with s k p))
          (held-before (before ++ Received s k p ∷ []) l s k rest (now k p), ih)
      | a_purge ranges ↦ λ rest. ih
      | a_consume upto ↦ λ rest. ih
      | besides h gots purges cursors ↦ λ rest.
          subst (λ xs. AreOnce (xs ++ received l s)) (sym (gots h (refl, refl))) ih
    ] parts.1
  where
    now : (k : ℕ) (p : Payload) → has_number (held (before ++ Received s k p ∷ []) s) k ≡ true
    now k p =
        held-has (before ++ Received s k p ∷ []) s k
        ∙ ap (λ ms. in_ranges (purged (before ++ Received s k p ∷ []) s) k || has_number (numbers_of ms) k)
        (flat_map-more (received_of s) before (Received s k p)
        ∙ ap (λ xs. received before s ++ xs) (received-with s k p))
        ∙ last_of (in_ranges (purged (before ++ Received s k p ∷ []) s) k) (received before s)
      where
        last_of : (b : Bool) (ms : List (ℕ × Payload)) → (b || has_number (numbers_of (ms ++ (k, p) ∷ [])) k) ≡ true
        last_of true ms = refl
        last_of false [] = grind (arith, nat_tests)
        last_of false (m ∷ ms) =
            let rest : has_number (numbers_of (ms ++ (k, p) ∷ [])) k ≡ true = last_of false ms in
            grind (arith, nat_tests, rest)

distinct-once : {A : Type 0} (ms : List (ℕ × A)) → AreOnce ms → Distinct (numbers_of ms)
distinct-once [] once = tt
distinct-once (m ∷ ms) once = (once.0, distinct-once ms once.1)

pub distinct-held : (r : List Fact) (s : ℕ) → all_fit [] r ≡ true → Distinct (held r s)
distinct-held r s fit =
    subst Distinct (sym (held-is r s))
    (distinct-append (numbers_in (purged r s)) (numbers_of (received r s))
    (distinct-in 1 (purged r s) (purged-set [] r s fit)) (distinct-once (received r s) (once-received [] r s fit))
    (λ n e. apart-of [] r s n fit (sym (numbers-in (purged r s) n) ∙ e)))

-- ---- how many numbers are in ranges into which they are put one by one

count-exact : (first : ℕ) (xs : List Range) (l u : ℕ) → RisesFrom first xs → l ≤ u
    → ((n : ℕ) → l ≤ n → n ≤ u → in_ranges xs n ≡ false) → count_of (with_range xs l u) ≡ count_of xs + (u + 1 - l)
count-exact first [] l u r le none = omega arith
count-exact first (x ∷ xs) l u r le none = elim (cases_Bool (nat_lt (x.upper + 1) l)) [
  | inl behind ↦
      let rest = count-exact (x.upper + 2) xs l u r.3 le (λ n from to. (later n (none n from to)).1) in
      let e : count_of (with_range (x ∷ xs) l u) ≡ size_of x + count_of (with_range xs l u) =
      ap (λ b. count_of (cond b (x ∷ with_range xs l u) (cond (nat_lt (u + 1) x.lower)
      (record { lower = l; upper = u } ∷ x ∷ xs) (with_range xs (min x.lower l) (max x.upper u))))) behind
      ∙ sum_by-cons size_of x (with_range xs l u) in
      let all : count_of (x ∷ xs) ≡ size_of x + count_of xs = sum_by-cons size_of x xs in
      omega (arith, rest, e, all)
  | inr meets ↦ elim (cases_Bool (nat_lt (u + 1) x.lower)) [
    | inl before ↦
        let e : count_of (with_range (x ∷ xs) l u) ≡ (u + 1 - l) + count_of (x ∷ xs) =
        ap (λ b. count_of (cond b (x ∷ with_range xs l u) (cond (nat_lt (u + 1) x.lower)
        (record { lower = l; upper = u } ∷ x ∷ xs) (with_range xs (min x.lower l) (max x.upper u))))) meets
        ∙ ap (λ b. count_of (cond b (record { lower = l; upper = u } ∷ x ∷ xs)
        (with_range xs (min x.lower l) (max x.upper u)))) before
        ∙ sum_by-cons size_of (record { lower = l; upper = u }) (x ∷ xs) in
        let all : count_of (x ∷ xs) ≡ size_of x + count_of xs = sum_by-cons size_of x xs in
        omega (arith, e, all)
    | inr touches ↦
        let not_behind : l ≤ x.upper + 1 = grind (arith, nat_tests, meets) in
        let not_before : x.lower ≤ u + 1 = grind (arith, nat_tests, touches) in
        let apart = meet not_behind not_before in
        let rest = count-exact (x.upper + 2) xs (min x.lower l) (max x.upper u) r.3 (omega (arith, le, r.1))
        (λ n from to. hull n to apart) in
        let e : count_of (with_range (x ∷ xs) l u) ≡ count_of (with_range xs (min x.lower l) (max x.upper u)) =
        ap (λ b. count_of (cond b (x ∷ with_range xs l u) (cond (nat_lt (u + 1) x.lower)
        (record { lower = l; upper = u } ∷ x ∷ xs) (with_range xs (min x.lower l) (max x.upper u))))) meets
        ∙ ap (λ b. count_of (cond b (record { lower = l; upper = u } ∷ x ∷ xs)
        (with_range xs (min x.lower l) (max x.upper u)))) touches in
        let all : count_of (x ∷ xs) ≡ x.upper + 1 - x.lower + count_of xs = sum_by-cons size_of x xs in
        elim apart [
          | inl low ↦ omega (arith, rest, e, all, le, r.1, low)
          | inr high ↦ omega (arith, rest, e, all, le, r.1, high)
        ]
  ]
]
  where
    later : (n : ℕ) → in_ranges (x ∷ xs) n ≡ false → ((nat_le x.lower n && nat_le n x.upper) ≡ false)
        × (in_ranges xs n ≡ false)
    later n e = (grind (arith, nat_tests, e), grind (arith, nat_tests, e))

    -- the one ends just before the other
    meet : l ≤ x.upper + 1 → x.lower ≤ u + 1 → (l ≡ x.upper + 1) ⊎ (x.lower ≡ u + 1)
    meet a b = elim (cases_Bool (nat_lt x.upper l)) [
      | inl over ↦ inl (let gt : x.upper < l = grind (arith, nat_tests, over) in omega (arith, a, gt))
      | inr within ↦
          let ge : l ≤ x.upper = grind (arith, nat_tests, within) in
          elim (cases_Bool (nat_lt u x.lower)) [
            | inl under ↦ inr (let gt : u < x.lower = grind (arith, nat_tests, under) in omega (arith, b, gt))
            | inr inside ↦
                let low : x.lower ≤ u = grind (arith, nat_tests, inside) in
                let out = (later (max l x.lower) (none (max l x.lower) (omega arith) (omega (arith, le, low)))).0 in
                absurd (both (max l x.lower) (omega arith) (omega (arith, ge, r.1)) out)
          ]
    ]
      where
        both : (n : ℕ) → x.lower ≤ n → n ≤ x.upper → (nat_le x.lower n && nat_le n x.upper) ≡ false → ⊥
        both n from to e = absurd (grind (arith, nat_tests, from, to, e))

    hull : (n : ℕ) → n ≤ max x.upper u → (l ≡ x.upper + 1) ⊎ (x.lower ≡ u + 1) → in_ranges xs n ≡ false
    hull n to apart = elim (cases_Bool (in_ranges xs n)) [
      | inl is ↦
          let at = within-from (x.upper + 2) n xs r.3 is in
          elim apart [
            | inl low ↦ absurd (true≢false (sym is
                ∙ (later n (none n (omega (arith, at.0, low)) (omega (arith, to, at.0)))).1))
            | inr high ↦ absurd (omega (arith, at.0, high, to, r.1))
          ]
      | inr out ↦ out
    ]

-- a union with one range
pub range-is-added : UnionHasBoth → RangeIsAdded
range-is-added both xs lower upper canonical from le to =
    let one = both xs (record { lower = lower; upper = upper } ∷ []) canonical (omega (arith, from), le, to, tt) in
    record {
      numbers = λ n.
          let all = one.numbers n in
          all ∙ ap (λ b. in_ranges xs n || b) (or_none (is_between lower upper n));
      canonical = one.canonical;
    }
  where
    or_none : (b : Bool) → (b || false) ≡ b
    or_none true = refl
    or_none false = refl

-- distinct numbers that are put in one by one
pub record IsCounted (xs : List Range) (ns : List ℕ) (new : List Range) : Type 0 where
  pub canonical : IsCanonical new
  pub numbers : (k : ℕ) → in_ranges new k ≡ (in_ranges xs k || has_number ns k)
  pub count : count_of new ≡ count_of xs + length ns

pub counted : UnionHasBoth → (xs : List Range) (ns : List ℕ) → IsCanonical xs → AreMessageNumbers ns → Distinct ns
    → ((n : ℕ) → has_number ns n ≡ true → in_ranges xs n ≡ false) → IsCounted xs ns (ranges_onto xs ns)
counted both xs [] canonical are distinct out = record {
  canonical = canonical;
  numbers = λ k. grind (arith, nat_tests);
  count = omega arith;
}
counted both xs (n ∷ ns) canonical are distinct out =
    let here = are-first n ns are in
    let one = range-is-added both xs n n canonical here.0 (omega arith) here.1 in
    let first : in_ranges xs n ≡ false = out n (grind (arith, nat_tests)) in
    let more = count-exact 1 xs n n canonical (omega arith)
    (λ k from to. subst (λ i. in_ranges xs i ≡ false) (let e : n ≡ k = omega (arith, from, to) in e) first) in
    let rest = counted both (with_range xs n n) ns one.canonical (are-rest n ns are) distinct.1 (λ k has.
    let old : in_ranges xs k ≡ false = out k (grind (arith, nat_tests, has)) in
    let all = one.numbers k in
    let other : (n == k) ≡ false = apart k has in
    grind (arith, nat_tests, all, old, other)) in
    record {
      canonical = rest.canonical;
      numbers = λ k.
          let all = rest.numbers k in
          let some = one.numbers k in
          grind (arith, nat_tests, all, some);
      count = omega (arith, rest.count, more);
    }
  where
    apart : (k : ℕ) → has_number ns k ≡ true → (n == k) ≡ false
    apart k has = elim (cases_Bool (n == k)) [
      | inl same ↦ absurd (true≢false (sym has ∙ sym (ap (λ i. has_number ns i) (eqb-true n k same)) ∙ distinct.0))
      | inr other ↦ other
    ]

-- ---- the first that are held

has-first : (xs ys : List ℕ) (n : ℕ) → has_number xs n ≡ true → has_number (xs ++ ys) n ≡ true
has-first xs ys n e = has-more xs ys n ∙ ap (λ b. b || has_number ys n) e

length-take_ : {A : Type 0} (c : ℕ) (xs : List A) → c ≤ length xs → length (take c xs) ≡ c
length-take_ zero xs le = refl
length-take_ (suc c) [] le = absurd (omega (arith, le))
length-take_ (suc c) (x ∷ xs) le = ap (λ n. suc n) (length-take_ c xs (omega (arith, le)))

-- what stands in the ranges of the first c numbers
pub record AreFirst (r : List Fact) (s c : ℕ) (ps : List Range) : Type 0 where
  pub canonical : IsCanonical ps
  pub numbers : (n : ℕ) → in_ranges ps n ≡ has_number (take c (held r s)) n
  pub count : count_of ps ≡ c
  pub are_held : (n : ℕ) → in_ranges ps n ≡ true → has_number (held r s) n ≡ true
  pub more : (n : ℕ) → in_ranges (purged r s) n ≡ true → in_ranges ps n ≡ true
  pub left : without ps (received r s) ≡ drop (c - count_of (purged r s)) (received r s)

-- messages of which the first k are in ranges
without-first : {A : Type 0} (ps : List Range) (k : ℕ) (ms : List (ℕ × A))
    → ((n : ℕ) → has_number (take k (numbers_of ms)) n ≡ true → in_ranges ps n ≡ true)
    → ((n : ℕ) → has_number (drop k (numbers_of ms)) n ≡ true → in_ranges ps n ≡ false)
    → without ps ms ≡ drop k ms
without-first ps zero [] put not_ = refl
without-first ps (suc k) [] put not_ = refl
without-first ps zero (m ∷ ms) put not_ =
    let out : in_ranges ps m.0 ≡ false = not_ m.0 (grind (arith, nat_tests)) in
    ap (λ b. cond b (without ps ms) (m ∷ without ps ms)) out
    ∙ ap (λ xs. m ∷ xs) (without-first ps zero ms (λ n e. absurd (false≢true e))
    (λ n e. not_ n (grind (arith, nat_tests, e))))
without-first ps (suc k) (m ∷ ms) put not_ =
    let in_it : in_ranges ps m.0 ≡ true = put m.0 (grind (arith, nat_tests)) in
    ap (λ b. cond b (without ps ms) (m ∷ without ps ms)) in_it
    ∙ without-first ps k ms (λ n e. put n (grind (arith, nat_tests, e))) not_

module _ (both : UnionHasBoth) (r : List Fact) (s c : ℕ) (fit : all_fit [] r ≡ true)
    (few : (n : ℕ) → has_number (held r s) n ≡ true → n ≤ max_number) (le : c ≤ length (held r s))
    (gone : count_of (purged r s) ≤ c) where
  abbrev pub ns : List ℕ
  ns = take c (held r s)

  parts : ns ++ drop c (held r s) ≡ held r s
  parts = take-append-drop c (held r s)

  among : (n : ℕ) → has_number ns n ≡ true → has_number (held r s) n ≡ true
  among n e = ap (λ xs. has_number xs n) (sym parts) ∙ has-first ns (drop c (held r s)) n e

  from_one : (n : ℕ) → has_number (held r s) n ≡ true → 0 < n
  from_one n e = elim (cases_Bool (in_ranges (purged r s) n)) [
    | inl is ↦ purged-from [] r s n fit is
    | inr out ↦ positive (received r s) (numbers-received [] r s fit)
        (sym (ap (λ b. b || has_number (numbers_of (received r s)) n) out) ∙ sym (held-has r s n) ∙ e)
  ]
    where
      positive : (ms : List (ℕ × Payload)) → AreNumbers ms → has_number (numbers_of ms) n ≡ true → 0 < n
      positive [] are e = absurd (false≢true e)
      positive (m ∷ ms) are e = elim (cases_Bool (m.0 == n)) [
        | inl same ↦ subst (λ k. 0 < k) (eqb-true m.0 n same) are.0
        | inr other ↦ positive ms are.1 (sym (ap (λ b. b || has_number (numbers_of ms) n) other) ∙ e)
      ]

  distinct_ : Distinct (ns ++ drop c (held r s))
  distinct_ = subst Distinct (sym parts) (distinct-held r s fit)

  set_ : IsCounted [] ns (ranges_onto [] ns)
  set_ = counted both [] ns tt (λ n e. (from_one n (among n e), few n (among n e)))
      (distinct-first ns (drop c (held r s)) distinct_) (λ n e. refl)

  size : length (numbers_in (purged r s)) ≤ c
  size = omega (arith, gone, length-numbers_in (purged r s))

  split : ns ≡ numbers_in (purged r s) ++ take (c - length (numbers_in (purged r s))) (numbers_of (received r s))
  split = ap (λ xs. take c xs) (held-is r s)
      ∙ take-past c (numbers_in (purged r s)) (numbers_of (received r s)) size

  -- the others come behind the first ones
  rest : drop c (held r s) ≡ drop (c - length (numbers_in (purged r s))) (numbers_of (received r s))
  rest = ap (λ xs. drop c xs) (held-is r s)
      ∙ drop-behind c (numbers_in (purged r s)) (numbers_of (received r s)) size
    where
      drop-behind : {A : Type 0} (c : ℕ) (xs ys : List A) → length xs ≤ c
          → drop c (xs ++ ys) ≡ drop (c - length xs) ys
      drop-behind c [] ys le = ap (λ k. drop k ys) (let e : c ≡ c - 0 = omega arith in e)
      drop-behind zero (x ∷ xs) ys le = absurd (omega (arith, le))
      drop-behind (suc c) (x ∷ xs) ys le =
          let same : suc c - suc (length xs) ≡ c - length xs = omega arith in
          rw same (drop-behind c xs ys (omega (arith, le)))

  pub are-first-held : AreFirst r s c (ranges_onto [] ns)
  are-first-held =
      let k = c - length (numbers_in (purged r s)) in
      let in_first : (n : ℕ) → in_ranges (ranges_onto [] ns) n ≡ has_number ns n = set_.numbers in
      let at : k ≡ c - count_of (purged r s) = omega (arith, length-numbers_in (purged r s)) in
      record {
        canonical = set_.canonical;
        numbers = in_first;
        count = omega (arith, set_.count, length-take_ c (held r s) le);
        are_held = λ n e. among n (sym (in_first n) ∙ e);
        more = λ n e.
            in_first n ∙ ap (λ xs. has_number xs n) split
            ∙ has-first (numbers_in (purged r s)) (take k (numbers_of (received r s))) n
            (numbers-in (purged r s) n ∙ e);
        left =
            without-first (ranges_onto [] ns) k (received r s)
            (λ n e. in_first n ∙ ap (λ xs. has_number xs n) split
            ∙ has-more (numbers_in (purged r s)) (take k (numbers_of (received r s))) n
            ∙ second (has_number (numbers_in (purged r s)) n) (has_number (take k (numbers_of (received r s))) n) e)
            (λ n e. not-both (has_number (drop c (held r s)) n) (in_ranges (ranges_onto [] ns) n)
            (λ a b. absurd (true≢false (sym a
            ∙ distinct-apart ns (drop c (held r s)) distinct_ n (sym (in_first n) ∙ b))))
            (ap (λ xs. has_number xs n) rest ∙ e))
            ∙ ap (λ j. drop j (received r s)) at;
      }
    where
      second : (a b : Bool) → b ≡ true → (a || b) ≡ true
      second true b e = refl
      second false b e = e
