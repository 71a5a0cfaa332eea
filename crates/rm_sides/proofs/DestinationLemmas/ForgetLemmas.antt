-- What is kept after payloads were given up.
use Rattle.std.proofs.Common.{◌≡◌, ℕ, zero, suc, ◌+◌, ◌-◌, ◌<◌, ◌≤◌, Bool, true, false, ◌||◌, ◌==◌, cond, max, List}
use Rattle.std.proofs.Common.{[], ◌∷◌}
use Rattle.std.proofs.Common.{◌++◌, length, take, get_or, refl, sym, ap, subst, ◌∙◌, arith, inl, inr}
use Rattle.std.specs.Prelude.{◌&&◌, filter, nat_le, nat_lt, not}
use Rattle.std.specs.List.{insert}
use Rattle.std.proofs.Math.Seq.{take-suc}
use Rattle.std.proofs.lemmas.List.{length-map, length-take-le}
use Rattle.std.proofs.lemmas.Bool.{cases_Bool, cases_eq}
use Rattle.std.proofs.lemmas.Bool.Decides.{nat_tests}
use Rattle.rm_sides.specs.declared.ranges.range.Range.{Range}
use Rattle.rm_sides.specs.Ranges.Changes.{with_range}
use Rattle.rm_sides.specs.Ranges.Laws.{RangeIsAdded, SameNumbersSameRanges}
use Rattle.rm_sides.specs.Ranges.Ranges.{Contents, IsCanonical, IsFront, count_of, in_ranges}
use Rattle.rm_base.specs.NumberSet.{IsRising, Rises, has_number}
use Rattle.rm_base.specs.NumberSetLemmas.{has_number-below, lt-or-le}
use Rattle.rm_base.specs.declared.message.Payload.{Payload}
use Rattle.rm_sides.specs.Destination.ItemLemmas.{has_number-above, has_number-items, length-items_of}
use Rattle.rm_sides.specs.Destination.Incoming.{Receiving, Sequence, first_numbers, held, inbox, is_loose, items}
use Rattle.rm_sides.specs.Destination.Incoming.{passed}
use Rattle.rm_sides.specs.declared.destination.arrivals.Place.{Place}
use Rattle.rm_sides.specs.Destination.Kept.{Came, GoesAt, IsBehind, IsLoose, IsSorting, held_by, numbers_at}
use Rattle.rm_sides.specs.Destination.LooseLemmas.{AreMessageNumbers, earliest, has_number-parts, has_number-without}
use Rattle.rm_sides.specs.Destination.LooseLemmas.{ranges-set, ranges_onto-some, within-from}
use Rattle.rm_sides.specs.Destination.MessageLemmas.{has_number-by_number, numbers_of-push, ranges_onto-push}
use Rattle.rm_sides.specs.Destination.Messages.{contents_of, is_empty, items_of, numbers_in}
use Rattle.rm_sides.specs.Destination.Messages.{AreOnce, Item, above, by_number, front_of, numbers_of, ranges_onto}
use Rattle.rm_sides.specs.Destination.Messages.{run_to}
use Rattle.rm_sides.specs.Destination.Messages.{sorted_onto, with_message, without}
use Rattle.rm_sides.proofs.DestinationLemmas.InboxLemmas.{inbox-loose}
use Rattle.rm_sides.proofs.DestinationLemmas.KeptLemmas.{IsSorting-add}
use Rattle.rm_sides.proofs.DestinationLemmas.LawLemmas.{inbox-prefix}

-- no two of them have one number
pub once-above : (n : ℕ) (ms : List (ℕ × Payload)) → AreOnce ms → AreOnce (above n ms)
once-above n [] once = tt
once-above n (m ∷ ms) once = elim (nat_lt n m.0) as (λ b. AreOnce (cond b (m ∷ above n ms) (above n ms))) [
  | true ↦ (
    let all = has_number-above n m.0 ms in
        let none : has_number (numbers_of ms) m.0 ≡ false = once.0 in
        grind (arith, nat_tests, all, none),
    once-above n ms once.1,
  )
  | false ↦ once-above n ms once.1
]

-- a message that stands at a place has its number there
pub has-at : (ms : List (ℕ × Payload)) (i : ℕ) (m : ℕ × Payload) → i < length ms → m ≡ get_or ms i m
    → has_number (numbers_of ms) m.0 ≡ true
has-at [] i m lt is = absurd (omega (arith, lt))
has-at (x ∷ ms) zero m lt is =
    let e : x.0 ≡ m.0 = ap (λ (y : ℕ × Payload). y.0) (sym is) in
    grind (arith, nat_tests, e)
has-at (x ∷ ms) (suc i) m lt is =
    let rest : has_number (numbers_of ms) m.0 ≡ true = has-at ms i m (omega (arith, lt)) is in
    grind (arith, nat_tests, rest)

-- the number of a message is not among those before it
pub once-before : (ms : List (ℕ × Payload)) (i : ℕ) (m : ℕ × Payload) → AreOnce ms → i < length ms
    → m ≡ get_or ms i m → has_number (numbers_of (take i ms)) m.0 ≡ false
once-before [] i m once lt is = absurd (omega (arith, lt))
once-before (x ∷ ms) zero m once lt is = refl
once-before (x ∷ ms) (suc i) m once lt is =
    let rest : has_number (numbers_of (take i ms)) m.0 ≡ false =
    once-before ms i m once.1 (omega (arith, lt)) is in
    let there : has_number (numbers_of ms) m.0 ≡ true = has-at ms i m (omega (arith, lt)) is in
    let none : has_number (numbers_of ms) x.0 ≡ false = once.0 in
    elim (cases_Bool (x.0 == m.0)) [
      | inl same ↦
          let e : x.0 ≡ m.0 = grind (arith, nat_tests, same) in
          absurd (cc)
      | inr other ↦ ap (λ b. b || has_number (numbers_of (take i ms)) m.0) other ∙ rest
    ]

-- a message has a number from 1 on where none has 0
pub number-from : (ms : List (ℕ × Payload)) (i : ℕ) (m : ℕ × Payload) → has_number (numbers_of ms) 0 ≡ false
    → i < length ms → m ≡ get_or ms i m → 0 < m.0
number-from [] i m none lt is = absurd (omega (arith, lt))
number-from (x ∷ ms) zero m none lt is =
    let e : m.0 ≡ x.0 = ap (λ (y : ℕ × Payload). y.0) is in
    grind (arith, nat_tests, e, none)
number-from (x ∷ ms) (suc i) m none lt is =
    let rest : has_number (numbers_of ms) 0 ≡ false = grind (arith, nat_tests, none) in
    number-from ms i m rest (omega (arith, lt)) is

-- sorting those above n is leaving the others out of the sorted ones
above-with : {A : Type 0} → (n : ℕ) (ms : List (ℕ × A)) (k : ℕ) (x : A)
    → above n (with_message ms k x) ≡ cond (nat_lt n k) (with_message (above n ms) k x) (above n ms)
above-with n [] k x = refl
above-with n (m ∷ ms) k x =
    let rest : above n (with_message ms k x) ≡ cond (nat_lt n k) (with_message (above n ms) k x) (above n ms) =
    above-with n ms k x in
    grind (arith, nat_tests, rest)

above-sorted : {A : Type 0} → (n : ℕ) (sorted came : List (ℕ × A))
    → above n (sorted_onto sorted came) ≡ sorted_onto (above n sorted) (above n came)
above-sorted n sorted [] = refl
above-sorted n sorted (m ∷ came) =
    above-sorted n (with_message sorted m.0 m.1) came
    ∙ ap (λ s. sorted_onto s (above n came)) (above-with n sorted m.0 m.1)
    ∙ both (nat_lt n m.0)
  where
    both : (b : Bool)
        → sorted_onto (cond b (with_message (above n sorted) m.0 m.1) (above n sorted)) (above n came)
        ≡ sorted_onto (above n sorted) (cond b (m ∷ above n came) (above n came))
    both true = refl
    both false = refl

rises-above : {A : Type 0} → (low n : ℕ) (ms : List (ℕ × A)) → Rises low (numbers_of ms)
    → Rises (max low n) (numbers_of (above n ms))
rises-above low n [] r = tt
rises-above low n (m ∷ ms) r = elim (cases_Bool (nat_lt n m.0)) [
  | inl kept ↦
      let lt : n < m.0 = grind (arith, nat_tests, kept) in
      let same : max m.0 n ≡ m.0 = omega (arith, lt) in
      subst (λ b. Rises (max low n) (numbers_of (cond b (m ∷ above n ms) (above n ms)))) (sym kept)
      (omega (arith, lt, r.0), subst (λ k. Rises k (numbers_of (above n ms))) same (rises-above m.0 n ms r.1))
  | inr left ↦
      let le : m.0 ≤ n = grind (arith, nat_tests, left) in
      let same : max m.0 n ≡ max low n = omega (arith, le, r.0) in
      subst (λ b. Rises (max low n) (numbers_of (cond b (m ∷ above n ms) (above n ms)))) (sym left)
      (subst (λ k. Rises k (numbers_of (above n ms))) same (rises-above m.0 n ms r.1))
]

-- those above n, sorted, rise behind n
pub rising-above : (low n : ℕ) (came : List (ℕ × Payload)) → low ≤ n → Rises low (numbers_of (by_number came))
    → Rises n (numbers_of (by_number (above n came)))
rising-above low n came le r =
    let same : max low n ≡ n = omega (arith, le) in
    subst (λ ms. Rises n (numbers_of ms)) (above-sorted n [] came)
    (subst (λ k. Rises k (numbers_of (above n (by_number came)))) same (rises-above low n (by_number came) r))

-- the places of one message more
pub placed-more : (came : List (ℕ × Payload)) (at : ℕ) (m : ℕ × Payload) (places more : List Place) (i : ℕ)
    → at < length came → m ≡ get_or came at m → has_number (numbers_of came) 0 ≡ false → AreOnce came
    → IsSorting (take at came) places → GoesAt (numbers_at places) m.0 i
    → more ≡ insert places i (record { number = m.0; at = at }) → IsSorting (take (at + 1) came) more
placed-more came at m places more i lt is none once sorting goes put =
    let size : length (take at came) ≡ at = length-take-le at came (omega (arith, lt)) in
    let next : suc at ≡ at + 1 = omega arith in
    let longer : take (at + 1) came ≡ take at came ++ m ∷ [] =
    ap (λ k. take k came) (sym next) ∙ take-suc came at m lt ∙ ap (λ y. take at came ++ y ∷ []) (sym is) in
    subst (λ xs. IsSorting xs more) (sym longer)
    (subst (IsSorting (take at came ++ m ∷ [])) (sym put)
    (subst (λ k. IsSorting (take at came ++ m ∷ []) (insert places i (record { number = m.0; at = k }))) size
    (IsSorting-add (take at came) places m.0 m.1 i sorting (number-from came at m none lt is)
    (once-before came at m once lt is) goes)))

-- an ordered inbox has no more items than came without a gap
pub inbox-few : (f : Receiving) → is_loose f.behaviour ≡ false → length (inbox f) ≤ front_of (items f)
inbox-few f ordered = elim (inbox-prefix f ordered).prefix [
  | inl same ↦ omega (arith, ap length same)
  | inr none ↦ omega (arith, ap length none)
]

-- a loose inbox has an item for each message
pub inbox-all : (f : Receiving) → is_loose f.behaviour ≡ true → length (inbox f) ≡ count_of f.purged + length f.received
inbox-all f loose =
    ap length (inbox-loose f loose) ∙ length-map (items f) (λ (m : ℕ × Item). m.1)
    ∙ length-items_of f.purged f.received

-- the messages 1 to more, which were received, are gone: what is kept
pub IsBehind-forgot : (gone more : ℕ) (came left : Came) (numbers : List Range) (front : ℕ) → IsBehind gone more came
    → IsCanonical numbers → IsFront numbers front → more ≤ front → left.messages ≡ above more came.messages
    → IsBehind more more left
IsBehind-forgot gone more came left numbers front kept canonical fronts le is = record {
  few = elim (lt-or-le 0 more) [
    | inl some ↦ (within-from 1 more numbers canonical (fronts.inside more some le)).1
    | inr none ↦ omega (arith, none)
  ];
  consumed = omega arith;
  rising = rw is (rising-above gone more came.messages kept.consumed kept.rising);
}

-- and the same numbers are held
pub held-first : (gone more : ℕ) (came : Came) (numbers : List Range) (front n : ℕ) → IsBehind gone more came
    → ((k : ℕ) → in_ranges numbers k ≡ has_number (held_by (run_to gone) came.messages) k)
    → IsFront numbers front → more ≤ front
    → has_number (held_by (run_to more) (above more came.messages)) n
    ≡ has_number (held_by (run_to gone) came.messages) n
held-first gone more came numbers front n kept same fronts le =
    let was = same n in
    let before = has_number-items gone came.messages n in
    let after = has_number-items more (above more came.messages) n in
    let rest = has_number-above more n came.messages in
    let reached = kept.consumed in
    elim (cases_Bool (nat_le 1 n && nat_le n more)) [
      | inl inside ↦
          let from : 0 < n = grind (arith, nat_tests, inside) in
          let to : n ≤ front = grind (arith, nat_tests, inside, le) in
          let there : in_ranges numbers n ≡ true = fronts.inside n from to in
          grind (arith, nat_tests, there, was, after, inside)
      | inr outside ↦ elim (cases_eq n 0) [
        | inl none ↦
            let low : has_number (numbers_of came.messages) 0 ≡ false =
            sym (has_number-by_number came.messages 0)
            ∙ has_number-below gone 0 (numbers_of (by_number came.messages)) kept.rising (omega arith) in
            subst (λ k. has_number (held_by (run_to more) (above more came.messages)) k
            ≡ has_number (held_by (run_to gone) came.messages) k) (sym none)
            (let before_ = has_number-items gone came.messages 0 in
            let after_ = has_number-items more (above more came.messages) 0 in
            let rest_ = has_number-above more 0 came.messages in
            grind (arith, nat_tests, before_, after_, rest_, low))
        | inr some ↦
            let from : 0 < n = omega (arith, some) in
            grind (arith, nat_tests, was, before, after, rest, outside, reached, from)
      ]
    ]

-- no two of those that are left have one number, and none has 0
pub once-without : (ps : List Range) (ms : List (ℕ × Payload)) → AreOnce ms → AreOnce (without ps ms)
once-without ps [] once = tt
once-without ps (m ∷ ms) once = elim (in_ranges ps m.0) as (λ b. AreOnce (cond b (without ps ms) (m ∷ without ps ms))) [
  | true ↦ once-without ps ms once.1
  | false ↦ (
    let all = has_number-without ps ms m.0 in
        let none : has_number (numbers_of ms) m.0 ≡ false = once.0 in
        grind (arith, nat_tests, all, none),
    once-without ps ms once.1,
  )
]

pub none-without : (ps : List Range) (k : ℕ) (ms : List (ℕ × Payload)) → has_number (numbers_of ms) k ≡ false
    → has_number (numbers_of (without ps ms)) k ≡ false
none-without ps k ms none = let all = has_number-without ps ms k in grind (arith, nat_tests, all, none)

-- they are those that pass a test
pub without-filter : (ps : List Range) (ms : List (ℕ × Payload))
    → filter (λ (m : ℕ × Payload). not (in_ranges ps m.0)) ms ≡ without ps ms
without-filter ps [] = refl
without-filter ps (m ∷ ms) =
    let rest = without-filter ps ms in
    elim (in_ranges ps m.0) as (λ b. cond (not b) (m ∷ filter (λ (m : ℕ × Payload). not (in_ranges ps m.0)) ms)
    (filter (λ (m : ℕ × Payload). not (in_ranges ps m.0)) ms) ≡ cond b (without ps ms) (m ∷ without ps ms)) [
      | true ↦ rest
      | false ↦ ap (λ xs. m ∷ xs) rest
    ]

-- so many messages that came first, and one more
pub numbers-next : (came : List (ℕ × Payload)) (at : ℕ) (m : ℕ × Payload) (rs : List Range) → at < length came
    → m ≡ get_or came at m → ranges_onto rs (numbers_of (take (at + 1) came))
    ≡ with_range (ranges_onto rs (numbers_of (take at came))) m.0 m.0
numbers-next came at m rs lt is =
    let next : suc at ≡ at + 1 = omega arith in
    let longer : take (at + 1) came ≡ take at came ++ m ∷ [] =
    ap (λ k. take k came) (sym next) ∙ take-suc came at m lt ∙ ap (λ y. take at came ++ y ∷ []) (sym is) in
    ap (λ ms. ranges_onto rs (numbers_of ms)) longer
    ∙ ap (λ ns. ranges_onto rs ns) (numbers_of-push (take at came) m)
    ∙ ranges_onto-push rs (numbers_of (take at came)) m.0

-- no message has the number 0 where they rise
pub no-zero-came : (came : List (ℕ × Payload)) → IsRising (numbers_of (by_number came))
    → has_number (numbers_of came) 0 ≡ false
no-zero-came came rising =
    sym (has_number-by_number came 0) ∙ has_number-below 0 0 (numbers_of (by_number came)) rising (omega arith)

reached : (f : Receiving) → 0 < f.cursor → f.cursor ≤ length (inbox f)
    → (nat_lt 0 f.cursor && nat_le f.cursor (length (inbox f))) ≡ true
reached f pos le = grind (arith, nat_tests, pos, le)

-- where something is passed, the cursor is in the inbox
pub passed-reach : (f : Receiving) → is_empty (passed f) ≡ false → (0 < f.cursor) × (f.cursor ≤ length (inbox f))
passed-reach f some = elim (cases_Bool (nat_lt 0 f.cursor && nat_le f.cursor (length (inbox f)))) [
  | inl reached ↦ (grind (arith, nat_tests, reached), grind (arith, nat_tests, reached))
  | inr not_so ↦
      let none : is_empty (passed f) ≡ true =
      ap (λ b. is_empty (cond b (first_numbers (is_loose f.behaviour) (held f) f.cursor) [])) not_so in
      absurd (cc)
]

-- what is passed of a loose sequence, and of another one
pub passed-earliest : (f : Receiving) → is_loose f.behaviour ≡ true → is_empty (passed f) ≡ false
    → passed f ≡ ranges_onto [] (take f.cursor (held f))
passed-earliest f loose some =
    let reach = passed-reach f some in
    ap (λ b. cond b (first_numbers (is_loose f.behaviour) (held f) f.cursor) []) (reached f reach.0 reach.1)
    ∙ ap (λ b. first_numbers b (held f) f.cursor) loose

pub passed-first : (f : Receiving) → is_loose f.behaviour ≡ false → is_empty (passed f) ≡ false
    → passed f ≡ record { lower = 1; upper = f.cursor } ∷ []
passed-first f ordered some =
    let reach = passed-reach f some in
    ap (λ b. cond b (first_numbers (is_loose f.behaviour) (held f) f.cursor) []) (reached f reach.0 reach.1)
    ∙ ap (λ b. first_numbers b (held f) f.cursor) ordered

-- whether a number is that of one of the first items
pub earliest-has : RangeIsAdded → SameNumbersSameRanges → (ps : List Range) (ms : List (ℕ × Payload)) (c n : ℕ)
    → IsCanonical ps → count_of ps ≤ c → AreMessageNumbers (numbers_of ms)
    → in_ranges (ranges_onto [] (take c (numbers_of (items_of ps ms)))) n
    ≡ (in_ranges ps n || has_number (numbers_of (take (c - count_of ps) ms)) n)
earliest-has added same ps ms c n canonical le are =
    let k = c - count_of ps in
    let set = ranges-set added ps (numbers_of (take k ms)) canonical (λ i has.
    are i (let parts = has_number-parts k ms i in grind (arith, nat_tests, parts, has))) in
    ap (λ rs. in_ranges rs n) (earliest added same ps ms c canonical le) ∙ set.numbers n

filled : (rs : List Range) → 0 < length (numbers_in rs) → is_empty rs ≡ false
filled [] lt = absurd (omega (arith, lt))
filled (x ∷ rs) lt = refl

-- something is passed where the cursor is in the inbox, and nothing where it isn't
pub passed-some : (f : Receiving) → 0 < f.cursor → f.cursor ≤ length (inbox f) → is_empty (passed f) ≡ false
passed-some f pos le =
    ap (λ b. is_empty (cond b (first_numbers (is_loose f.behaviour) (held f) f.cursor) [])) (reached f pos le)
    ∙ some (is_loose f.behaviour) refl
  where
    some : (b : Bool) → is_loose f.behaviour ≡ b → is_empty (first_numbers b (held f) f.cursor) ≡ false
    some false e = refl
    some true e =
        let all : length (inbox f) ≡ length (contents_of (items f)) = ap length (inbox-loose f e) in
        let contents : length (contents_of (items f)) ≡ length (items f) =
        length-map (items f) (λ (m : ℕ × Item). m.1) in
        let numbers : length (held f) ≡ length (items f) = length-map (items f) (λ (m : ℕ × Item). m.0) in
        filled (ranges_onto [] (take f.cursor (held f)))
        (ranges_onto-some f.cursor (held f) pos (omega (arith, pos, le, all, contents, numbers)))

pub passed-none : (f : Receiving) → length (inbox f) < f.cursor → passed f ≡ []
passed-none f past =
    let no : (nat_lt 0 f.cursor && nat_le f.cursor (length (inbox f))) ≡ false = grind (arith, nat_tests, past) in
    ap (λ b. cond b (first_numbers (is_loose f.behaviour) (held f) f.cursor) []) no

-- without those that are first in ranges there are no more than the others
pub length-without : (ps : List Range) (k : ℕ) (ms : List (ℕ × Payload))
    → ((n : ℕ) → has_number (numbers_of (take k ms)) n ≡ true → in_ranges ps n ≡ true)
    → length (without ps ms) ≤ length ms - k
length-without ps k [] put = omega arith
length-without ps zero (m ∷ ms) put =
    let rest = length-without ps zero ms (λ n has. absurd (cc)) in
    elim (in_ranges ps m.0) as (λ b. length (cond b (without ps ms) (m ∷ without ps ms)) ≤ suc (length ms) - 0) [
      | true ↦ omega (arith, rest)
      | false ↦ omega (arith, rest)
    ]
length-without ps (suc k) (m ∷ ms) put =
    let rest = length-without ps k ms (λ n has. put n (grind (arith, nat_tests, has))) in
    let first : in_ranges ps m.0 ≡ true = put m.0 (grind (arith, nat_tests)) in
    let all : length (without ps (m ∷ ms)) ≡ length (without ps ms) =
    ap (λ b. length (cond b (without ps ms) (m ∷ without ps ms))) first in
    omega (arith, rest, all)

-- the same sequence, where other messages are gone
pub same-view : (s : Sequence) (ps ps2 : List Range) (ms ms2 : List (ℕ × Payload)) (room : ℕ) → ps ≡ ps2 → ms ≡ ms2
    → room ≡ 0 → ◌≡◌ {A = Sequence} (record { facts = record s.facts { purged = ps; received = ms }; room = room })
    (record { facts = record s.facts { purged = ps2; received = ms2 }; room = 0 })
same-view s ps ps2 ms ms2 room p m none =
    ap (λ x. with_these s x ms room) p ∙ ap (λ x. with_these s ps2 x room) m ∙ ap (λ x. with_these s ps2 ms2 x) none
  where
    with_these : Sequence → List Range → List (ℕ × Payload) → ℕ → Sequence
    with_these s ps ms room = record { facts = record s.facts { purged = ps; received = ms }; room = room }

-- a set of what is gone, with those of the first that are there
pub IsLoose-forgot : RangeIsAdded → (purged more : Contents) (cursor room k : ℕ) (came left : Came)
    → IsLoose purged cursor came room → IsCanonical purged.ranges → AreMessageNumbers (numbers_of came.messages)
    → k ≡ cursor - count_of purged.ranges → k ≤ length came.messages
    → more.ranges ≡ ranges_onto purged.ranges (numbers_of (take k came.messages))
    → purged.spare ≤ more.spare + k → left.messages ≡ without more.ranges came.messages → room ≡ 0
    → IsLoose more cursor left room
IsLoose-forgot added purged more cursor room k came left kept canonical are at within put spare is none =
    let set = ranges-set added purged.ranges (numbers_of (take k came.messages)) canonical (λ n has.
    are n (let parts = has_number-parts k came.messages n in grind (arith, nat_tests, parts, has))) in
    let count = ap count_of put in
    let few = length-map (take k came.messages) (λ (m : ℕ × Payload). m.0) in
    let size = length-take-le k came.messages within in
    let in_it : (n : ℕ) → has_number (numbers_of (take k came.messages)) n ≡ true → in_ranges more.ranges n ≡ true =
    λ n has. ap (λ rs. in_ranges rs n) put ∙ (let all = set.numbers n in grind (arith, nat_tests, all, has)) in
    let short = length-without more.ranges k came.messages in_it in
    record {
      consumed = omega (arith, set.count, count, few, size, at, kept.consumed);
      fits = omega (arith, kept.fits, spare, ap length is, short, none, within);
    }

pub one-run : (c : ℕ) → 0 < c → run_to c ≡ record { lower = 1; upper = c } ∷ []
one-run zero lt = absurd (omega (arith, lt))
one-run (suc c) lt = refl

pub behind-zero : (gone cursor : ℕ) (came : Came) → IsBehind gone cursor came
    → has_number (numbers_of came.messages) 0 ≡ false
behind-zero gone cursor came kept =
    sym (has_number-by_number came.messages 0)
    ∙ has_number-below gone 0 (numbers_of (by_number came.messages)) kept.rising (omega arith)
