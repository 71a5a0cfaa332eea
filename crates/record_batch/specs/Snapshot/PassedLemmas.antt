-- What is passed is held, and a snapshot says of a destination what its records say.
use Rattle.std.proofs.Common.{◌≡◌, ◌≢◌, ℕ, suc, ◌+◌, ◌-◌, ◌<◌, ◌≤◌, ◌==◌, Bool, true, false, not, ◌&&◌, ◌||◌, cond}
use Rattle.std.proofs.Common.{List, [], ◌∷◌, length, take, drop, refl, sym, ◌∙◌, ap, subst, inl, inr, arith}
use Rattle.std.specs.Prelude.{nat_lt, nat_le}
use Rattle.std.proofs.lemmas.Bool.{and_from, and_parts, cases_Bool, eqb-true, false≢true, true≢false, le-leb}
use Rattle.std.proofs.lemmas.Bool.{leb-true}
use Rattle.std.proofs.lemmas.Bool.Decides.{nat_tests}
use Rattle.std.proofs.lemmas.List.{length-drop, length-map}
use Rattle.rm_sides.specs.Ranges.Laws.{UnionHasBoth}
use Rattle.rm_sides.specs.declared.ranges.range.Range.{Range}
use Rattle.rm_sides.specs.Ranges.Ranges.{count_of, in_ranges}
use Rattle.rm_base.specs.NumberSet.{greatest_of, has_number}
use Rattle.rm_base.specs.declared.message.Behaviour.{Behaviour}
use Rattle.rm_base.specs.declared.message.Behaviour.TheVariants.{EntireSequence, FollowingFirstGap, NoDiscard}
use Rattle.rm_sides.specs.Destination.ItemLemmas.{length-numbers_in}
use Rattle.rm_sides.specs.Destination.LooseLemmas.{inbox_of-loose, ranges_onto-some}
use Rattle.rm_sides.specs.Destination.MessageLemmas.{has_number-sorted}
use Rattle.rm_sides.specs.Destination.Messages.{contents_of, is_empty, numbers_in, numbers_of, ranges_onto, sorted_onto}
use Rattle.rm_sides.specs.Destination.Messages.{Item, without, without_gap}
use Rattle.rm_sides.specs.Destination.Incoming.{first_numbers, inbox_of, is_loose, is_whole_by}
use Rattle.record_batch.specs.Fact.{Fact}
use Rattle.record_batch.specs.Sequences.Destinations.{behaviour, behaviour_of, cursor, held, inbox, items, messages}
use Rattle.record_batch.specs.Sequences.Destinations.{purged}
use Rattle.record_batch.specs.Sequences.Destinations.{received, told}
use Rattle.record_batch.specs.Sequences.Fits.{all_fit}
use Rattle.record_batch.specs.Sequences.Makers.{maker}
use Rattle.record_batch.specs.Sequences.StayLemmas.{incoming-made}
use Rattle.record_batch.specs.Snapshot.CapLemmas.{held-cap}
use Rattle.record_batch.specs.Snapshot.GoneLemmas.{held-has, purged-below, purged-count, purged-from, apart-of}
use Rattle.record_batch.specs.Snapshot.GotLemmas.{held-length, received-kept, purged-same, one-cursor, purged-new, run}
use Rattle.record_batch.specs.Snapshot.GotLemmas.{run-some}
use Rattle.record_batch.specs.Snapshot.LooseLemmas.{AreFirst, are-first-held, held-made, once-received}
use Rattle.record_batch.specs.Snapshot.PastLemmas.{whole-gap}
use Rattle.record_batch.specs.Snapshot.Same.{SameReceived, gone_count, is_ordered}
use Rattle.record_batch.specs.Snapshot.SentLemmas.{differ, same-seq}
use Rattle.record_batch.specs.Snapshot.Snapshot.{passed, snapshot}

-- ---- what is passed is held

inbox-front : {A : Type 0} (y : Behaviour) (ns : List ℕ) (ms : List (ℕ × A)) → is_loose y ≡ false
    → length (inbox_of y ns ms) ≤ length (without_gap 0 (sorted_onto [] ms))
inbox-front FollowingFirstGap ns ms ordered = omega arith
inbox-front NoDiscard ns ms ordered = absurd (true≢false ordered)
inbox-front EntireSequence ns came ordered =
    let ms = sorted_onto [] came in
    elim (cases_Bool (is_whole_by ns ms)) [
      | inl all ↦
          let e : length (cond (is_whole_by ns ms) (contents_of ms) []) ≡ length (without_gap 0 ms) =
          ap (λ b. length (cond b (contents_of ms) [])) all ∙ ap length (whole-gap ns ms all) in
          omega (arith, e)
      | inr not_all ↦
          let e : length (cond (is_whole_by ns ms) (contents_of ms) []) ≡ 0 =
          ap (λ b. length (cond b (contents_of ms) [])) not_all in
          omega (arith, e)
    ]

front-has : {A : Type 0} (k : ℕ) (ms : List (ℕ × A)) (n : ℕ) → k < n → n ≤ k + length (without_gap k ms)
    → has_number (numbers_of ms) n ≡ true
front-has k [] n lt le = absurd (omega (arith, lt, le))
front-has k (m ∷ ms) n lt le = elim (cases_Bool (m.0 == k + 1)) [
  | inl next ↦
      let at : m.0 ≡ k + 1 = eqb-true m.0 (k + 1) next in
      let long : length (without_gap k (m ∷ ms)) ≡ suc (length (without_gap m.0 ms)) =
      ap (λ b. length (cond b (m.1 ∷ without_gap m.0 ms) [])) next in
      elim (cases_Bool (m.0 == n)) [
        | inl same ↦ ap (λ b. b || has_number (numbers_of ms) n) same
        | inr other ↦
            ap (λ b. b || has_number (numbers_of ms) n) other
            ∙ front-has m.0 ms n (past (differ m.0 n other) at) (omega (arith, le, long, at))
      ]
  | inr gap ↦
      let none : length (without_gap k (m ∷ ms)) ≡ 0 = ap (λ b. length (cond b (m.1 ∷ without_gap m.0 ms) [])) gap in
      absurd (omega (arith, lt, le, none))
]
  where
    past : m.0 ≢ n → m.0 ≡ k + 1 → m.0 < n
    past ne at = elim (cases_Bool (nat_lt m.0 n)) [
      | inl under ↦ grind (arith, nat_tests, under)
      | inr over ↦ absurd (ne (let ge : n ≤ m.0 = grind (arith, nat_tests, over) in omega (arith, ge, lt, at)))
    ]

pub inbox-held : (r : List Fact) (s n : ℕ) → is_loose (behaviour r s) ≡ false → 0 < n → n ≤ length (inbox r s)
    → has_number (held r s) n ≡ true
inbox-held r s n ordered lt le =
    sym (has_number-sorted [] (items r s) n)
    ∙ front-has 0 (messages r s) n lt
    (let more = inbox-front (behaviour r s) (told r s) (items r s) ordered in omega (arith, le, more))

-- a loose inbox has an item for each message
pub loose-held : (r : List Fact) (s : ℕ) → is_loose (behaviour r s) ≡ true → length (inbox r s) ≡ length (held r s)
loose-held r s loose =
    ap length (inbox_of-loose (behaviour r s) (told r s) (items r s) loose)
    ∙ length-map (items r s) (λ (m : ℕ × Item). m.1)
    ∙ sym (length-map (items r s) (λ (m : ℕ × Item). m.0))

-- what is passed is nothing, or of an ordered sequence all numbers from 1 to the cursor, and of a loose one as many
-- that were held first
pub data Passed (r : List Fact) (s : ℕ) : List Range → Type 0 where
  nothing_ : Passed r s []
  upto_ : (c : ℕ) → is_loose (behaviour r s) ≡ false → 0 < c → c ≡ cursor r s → c ≤ length (inbox r s)
      → Passed r s (record { lower = 1; upper = c } ∷ [])
  earliest_ : is_loose (behaviour r s) ≡ true → 0 < cursor r s → cursor r s ≤ length (inbox r s)
      → Passed r s (ranges_onto [] (take (cursor r s) (held r s)))

pub passed-is : (r : List Fact) (s : ℕ) → Passed r s (passed r s)
passed-is r s = elim (cases_Bool (nat_lt 0 (cursor r s) && nat_le (cursor r s) (length (inbox r s)))) [
  | inl some ↦
      let parts = and_parts (nat_lt 0 (cursor r s)) (nat_le (cursor r s) (length (inbox r s))) some in
      let pos = parts.0 in
      let from : 0 < cursor r s = grind (arith, nat_tests, pos) in
      let le = leb-true (cursor r s) (length (inbox r s)) parts.1 in
      subst (Passed r s)
      (sym (ap (λ b. cond b (first_numbers (is_loose (behaviour r s)) (held r s) (cursor r s)) []) some))
      (elim (cases_Bool (is_loose (behaviour r s))) [
        | inl loose ↦ subst (λ b. Passed r s (first_numbers b (held r s) (cursor r s))) (sym loose)
            (earliest_ loose from le)
        | inr ordered ↦ subst (λ b. Passed r s (first_numbers b (held r s) (cursor r s))) (sym ordered)
            (upto_ (cursor r s) ordered from refl le)
      ])
  | inr none ↦
      subst (Passed r s)
      (sym (ap (λ b. cond b (first_numbers (is_loose (behaviour r s)) (held r s) (cursor r s)) []) none)) nothing_
]

-- which of a loose sequence it is
pub passed-loose : (r : List Fact) (s : ℕ) → is_loose (behaviour r s) ≡ true → 0 < cursor r s
    → cursor r s ≤ length (inbox r s) → passed r s ≡ ranges_onto [] (take (cursor r s) (held r s))
passed-loose r s loose pos le =
    let some : (nat_lt 0 (cursor r s) && nat_le (cursor r s) (length (inbox r s))) ≡ true =
    and_from (nat_lt 0 (cursor r s)) (nat_le (cursor r s) (length (inbox r s))) (grind (arith, nat_tests, pos))
    (le-leb (cursor r s) (length (inbox r s)) le) in
    ap (λ b. cond b (first_numbers (is_loose (behaviour r s)) (held r s) (cursor r s)) []) some
    ∙ ap (λ b. first_numbers b (held r s) (cursor r s)) loose

-- where something is passed, something is held, and there is a number among what is passed
pub held-passed : (r : List Fact) (s : ℕ) → is_empty (passed r s) ≡ false → 0 < length (held r s)
held-passed r s some = by (passed r s) (passed-is r s) some
  where
    by : (ps : List Range) → Passed r s ps → is_empty ps ≡ false → 0 < length (held r s)
    by ps nothing_ e = absurd (true≢false e)
    by ps (upto_ c ordered pos cur le) e =
        has-some (held r s) (inbox-held r s 1 ordered (omega arith) (omega (arith, pos, le)))
      where
        has-some : (xs : List ℕ) → has_number xs 1 ≡ true → 0 < length xs
        has-some [] e = absurd (false≢true e)
        has-some (x ∷ xs) e = omega arith
    by ps (earliest_ loose pos le) e = omega (arith, pos, le, loose-held r s loose)

pub passed-some : (r : List Fact) (s : ℕ) → is_empty (passed r s) ≡ false → 0 < length (numbers_in (passed r s))
passed-some r s some = by (passed r s) (passed-is r s) some
  where
    by : (ps : List Range) → Passed r s ps → is_empty ps ≡ false → 0 < length (numbers_in ps)
    by ps nothing_ e = absurd (true≢false e)
    by ps (upto_ c ordered pos cur le) e = run-some (record { lower = 1; upper = c } ∷ []) (run c (omega (arith, pos)))
    by ps (earliest_ loose pos le) e =
        ranges_onto-some (cursor r s) (held r s) pos (omega (arith, pos, le, loose-held r s loose))

-- the numbers of the first items of a loose inbox
pub first-of : UnionHasBoth → (r : List Fact) (s : ℕ) → all_fit [] r ≡ true → is_loose (behaviour r s) ≡ true
    → cursor r s ≤ length (inbox r s) → AreFirst r s (cursor r s) (ranges_onto [] (take (cursor r s) (held r s)))
first-of both r s fit loose le =
    are-first-held both r s (cursor r s) fit (λ n e. held-cap r s n fit e) (omega (arith, le, loose-held r s loose))
    (purged-count [] r s fit)

pub has-without : {A : Type 0} (ps : List Range) (ms : List (ℕ × A)) (n : ℕ) → in_ranges ps n ≡ false
    → has_number (numbers_of (without ps ms)) n ≡ has_number (numbers_of ms) n
has-without ps [] n none = refl
has-without ps (m ∷ ms) n none = elim (cases_Bool (in_ranges ps m.0)) [
  | inl gone ↦
      ap (λ b. has_number (numbers_of (cond b (without ps ms) (m ∷ without ps ms))) n) gone
      ∙ has-without ps ms n none
      ∙ sym (ap (λ b. b || has_number (numbers_of ms) n) (apart_from gone))
  | inr there ↦
      ap (λ b. has_number (numbers_of (cond b (without ps ms) (m ∷ without ps ms))) n) there
      ∙ ap (λ b. (m.0 == n) || b) (has-without ps ms n none)
]
  where
    apart_from : in_ranges ps m.0 ≡ true → (m.0 == n) ≡ false
    apart_from gone = elim (cases_Bool (m.0 == n)) [
      | inl same ↦ absurd (true≢false (sym (ap (λ k. in_ranges ps k) (sym (eqb-true m.0 n same)) ∙ gone) ∙ none))
      | inr other ↦ other
    ]

without-none : {A : Type 0} (ps : List Range) (ms : List (ℕ × A))
    → ((n : ℕ) → in_ranges ps n ≡ true → has_number (numbers_of ms) n ≡ false) → without ps ms ≡ ms
without-none ps [] h = refl
without-none ps (m ∷ ms) h = elim (cases_Bool (in_ranges ps m.0)) [
  | inl gone ↦ absurd (false≢true (sym (h m.0 gone) ∙ ap (λ b. b || has_number (numbers_of ms) m.0) (same-seq m.0)))
  | inr there ↦
      ap (λ b. cond b (without ps ms) (m ∷ without ps ms)) there
      ∙ ap (λ xs. m ∷ xs) (without-none ps ms (λ n e. later n (h n e)))
]
  where
    later : (n : ℕ) → ((m.0 == n) || has_number (numbers_of ms) n) ≡ false → has_number (numbers_of ms) n ≡ false
    later n e = grind (arith, nat_tests, e)

pub without-no : {A : Type 0} (ms : List (ℕ × A)) → without [] ms ≡ ms
without-no [] = refl
without-no (m ∷ ms) = ap (λ xs. m ∷ xs) (without-no ms)

past-cursor : (n c : ℕ) (b : Bool) → c < n → (b ≡ true → n ≤ c) → b ≡ false
past-cursor n c true lt h = absurd (omega (arith, lt, h refl))
past-cursor n c false lt h = refl

-- how far ranges that are gone say that it was consumed
one-number : (ps : List Range) → greatest_of (one-cursor ps) ≡ count_of ps
one-number [] = refl
one-number (p ∷ ps) = omega arith

module _ (both : UnionHasBoth) (r : List Fact) (s : ℕ) (fit : all_fit [] r ≡ true) where
  got-none : passed r s ≡ [] → SameReceived (snapshot r) r s
  got-none none =
      let same = purged-same r s none [] r in
      let gots : received (snapshot r) s ≡ received r s =
      received-kept r s [] r ∙ ap (λ ps. without ps (received r s)) none ∙ without-no (received r s) in
      let cursors : cursor (snapshot r) s ≡ cursor r s = ap greatest_of same.1 in
      let gone : gone_count (snapshot r) s ≡ gone_count r s = ap count_of same.0 in
      record {
        more = λ n e. ap (λ ps. in_ranges ps n) same.0 ∙ e;
        received_ =
            gots ∙ sym (without-none (purged r s) (received r s) (λ n e. apart-of [] r s n fit e))
            ∙ ap (λ ps. without ps (received r s)) (sym same.0);
        held_ = λ n.
            held-has (snapshot r) s n
            ∙ ap (λ ps. in_ranges ps n || has_number (numbers_of (received (snapshot r) s)) n) same.0
            ∙ ap (λ ms. in_ranges (purged r s) n || has_number (numbers_of ms) n) gots
            ∙ sym (held-has r s n);
        cursor_ = cursors;
        below = λ ordered n lt.
            ap (λ ps. in_ranges ps n) same.0
            ∙ past-cursor n (cursor r s) (in_ranges (purged r s) n) (omega (arith, lt, cursors))
            (λ e. purged-below [] r s n fit ordered e);
        earliest = λ _. record {
          less = omega (arith, gone);
          reach = omega (arith, gone, cursors, purged-count [] r s fit);
          left = gots ∙ ap (λ k. drop k (received r s))
              (let e : 0 ≡ gone_count (snapshot r) s - gone_count r s = omega (arith, gone) in e);
          count = omega (arith, gone, ap length gots);
        };
        once = once-received [] r s fit;
      }

  got-some : (ps : List Range) → passed r s ≡ ps → is_empty ps ≡ false → count_of ps ≡ cursor r s
      → ((n : ℕ) → in_ranges ps n ≡ true → has_number (held r s) n ≡ true)
      → ((n : ℕ) → in_ranges (purged r s) n ≡ true → in_ranges ps n ≡ true)
      → 0 < length (held r s)
      → (is_loose (behaviour r s) ≡ false → (n : ℕ) → cursor r s < n → in_ranges ps n ≡ false)
      → (is_ordered (maker r s) ≡ false → (cursor r s ≤ length (held r s))
      × (without ps (received r s) ≡ drop (cursor r s - gone_count r s) (received r s)))
      → SameReceived (snapshot r) r s
  got-some ps p some count are more held_some over first =
      let filled : is_empty (passed r s) ≡ false = ap (λ xs. is_empty xs) p ∙ some in
      let new = purged-new r s filled [] r fit refl held_some in
      let goes : purged (snapshot r) s ≡ ps = new.0 ∙ p in
      let cursors : cursor (snapshot r) s ≡ cursor r s =
      ap greatest_of (new.1 ∙ ap one-cursor p) ∙ one-number ps ∙ count in
      let gots = received-kept r s [] r in
      let left : received (snapshot r) s ≡ without ps (received r s) =
      gots ∙ ap (λ xs. without xs (received r s)) p in
      let gone : gone_count (snapshot r) s ≡ cursor r s = ap count_of goes ∙ count in
      let before = purged-count [] r s fit in
      let all = held-length r s in
      let numbers = length-numbers_in (purged r s) in
      record {
        more = λ n e. ap (λ xs. in_ranges xs n) goes ∙ more n e;
        received_ = gots ∙ ap (λ xs. without xs (received r s)) (sym new.0);
        held_ = λ n. elim (cases_Bool (in_ranges ps n)) [
          | inl is ↦
              held-has (snapshot r) s n
              ∙ ap (λ b. b || has_number (numbers_of (received (snapshot r) s)) n)
              (ap (λ xs. in_ranges xs n) goes ∙ is)
              ∙ sym (are n is)
          | inr out ↦
              let none : in_ranges (purged r s) n ≡ false = not-in (in_ranges (purged r s) n) (in_ranges ps n) (more n)
              out in
              held-has (snapshot r) s n
              ∙ ap (λ b. b || has_number (numbers_of (received (snapshot r) s)) n)
              (ap (λ xs. in_ranges xs n) goes ∙ out)
              ∙ ap (λ ms. has_number (numbers_of ms) n) left
              ∙ has-without ps (received r s) n out
              ∙ sym (held-has r s n ∙ ap (λ b. b || has_number (numbers_of (received r s)) n) none)
        ];
        cursor_ = cursors;
        below = λ ordered n lt. ap (λ xs. in_ranges xs n) goes ∙ over ordered n (omega (arith, lt, cursors));
        earliest = λ loose.
            let it = first loose in
            let rest : received (snapshot r) s ≡ drop (cursor r s - gone_count r s) (received r s) = left ∙ it.1 in
            let size = length-drop (cursor r s - gone_count r s) (received r s) in
            record {
              less = omega (arith, gone, before);
              reach = omega (arith, gone, cursors);
              left = rest ∙ ap (λ k. drop k (received r s))
                  (let e : cursor r s - gone_count r s ≡ gone_count (snapshot r) s - gone_count r s =
                  omega (arith, gone) in e);
              count = omega (arith, gone, ap length rest, size, before, it.0, all, numbers);
            };
        once = once-received [] r s fit;
      }
    where
      not-in : (a b : Bool) → (a ≡ true → b ≡ true) → b ≡ false → a ≡ false
      not-in true b h e = absurd (true≢false (sym (h refl) ∙ e))
      not-in false b h e = refl

  -- of an ordered sequence all up to the cursor
  got-upto : (c : ℕ) → passed r s ≡ record { lower = 1; upper = c } ∷ [] → is_loose (behaviour r s) ≡ false → 0 < c
      → c ≡ cursor r s → c ≤ length (inbox r s) → SameReceived (snapshot r) r s
  got-upto c p ordered pos cur le =
      let first : has_number (held r s) 1 ≡ true =
      inbox-held r s 1 ordered (omega arith) (omega (arith, pos, le)) in
      let some = has-some (held r s) 1 first in
      let up : (n : ℕ) → in_ranges (record { lower = 1; upper = c } ∷ []) n ≡ true → (0 < n) × (n ≤ c) =
      (λ n e. (let a : 0 < n = grind (arith, nat_tests, e) in a, let b : n ≤ c = grind (arith, nat_tests, e) in b)) in
      got-some (record { lower = 1; upper = c } ∷ []) p refl (omega (arith, cur))
      (λ n e. inbox-held r s n ordered (up n e).0 (omega (arith, (up n e).1, le)))
      (λ n e. (
      let a : n ≤ c = omega (arith, purged-below [] r s n fit ordered e, cur) in
      let b = purged-from [] r s n fit e in
      grind (arith, nat_tests, a, b)
      ))
      some
      (λ _ n lt. past-cursor n c (in_ranges (record { lower = 1; upper = c } ∷ []) n) (omega (arith, lt, cur))
      (λ e. (up n e).1))
      (λ loose. absurd (true≢false (sym (made some) ∙ loose)))
    where
      has-some : (xs : List ℕ) (n : ℕ) → has_number xs n ≡ true → 0 < length xs
      has-some [] n e = absurd (false≢true e)
      has-some (x ∷ xs) n e = omega arith

      made : 0 < length (held r s) → is_ordered (maker r s) ≡ true
      made some =
          let it = incoming-made (maker r s) (held-made [] r s fit some) in
          ap (λ o. is_ordered o) it.1
          ∙ ap not (sym (ap (λ o. is_loose (behaviour_of o)) it.1) ∙ ordered)

  -- of a loose one those that came first
  got-earliest : passed r s ≡ ranges_onto [] (take (cursor r s) (held r s)) → is_loose (behaviour r s) ≡ true
      → 0 < cursor r s → cursor r s ≤ length (inbox r s) → SameReceived (snapshot r) r s
  got-earliest p loose pos le =
      let it = first-of both r s fit loose le in
      let size = loose-held r s loose in
      got-some (ranges_onto [] (take (cursor r s) (held r s))) p
      (filled (ranges_onto [] (take (cursor r s) (held r s))) (omega (arith, it.count, pos))) it.count it.are_held
      it.more (omega (arith, pos, le, size)) (λ ordered. absurd (true≢false (sym loose ∙ ordered)))
      (λ _. (omega (arith, le, size), it.left))
    where
      filled : (qs : List Range) → 0 < count_of qs → is_empty qs ≡ false
      filled [] lt = absurd (omega (arith, lt))
      filled (q ∷ qs) lt = refl

  same-got : SameReceived (snapshot r) r s
  same-got = by (passed r s) refl (passed-is r s)
    where
      by : (ps : List Range) → passed r s ≡ ps → Passed r s ps → SameReceived (snapshot r) r s
      by ps e nothing_ = got-none e
      by ps e (upto_ c ordered pos cur le) = got-upto c e ordered pos cur le
      by ps e (earliest_ loose pos le) = got-earliest e loose pos le

pub got-stays : UnionHasBoth → (r : List Fact) → all_fit [] r ≡ true → (s : ℕ) → SameReceived (snapshot r) r s
got-stays both r fit s = same-got both r s fit
