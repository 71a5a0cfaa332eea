-- What is kept, against what it is seen as: places, the set of numbers, the front and the greatest number.
use Rattle.std.proofs.Common.{◌≡◌, ℕ, zero, suc, ◌+◌, ◌-◌, ◌<◌, ◌≤◌, Bool, true, false, ◌||◌, ◌==◌, List, [], ◌∷◌, ◌++◌}
use Rattle.std.proofs.Common.{length, take, max, get_or, refl, sym, ap, subst, ◌∙◌, arith, inl, inr}
use Rattle.std.specs.Prelude.{Option, Some, map, nat_lt, slice_get, slice_index_or}
use Rattle.std.specs.List.{insert}
use Rattle.std.proofs.lemmas.List.Sums.{sum_by-cons}
use Rattle.std.proofs.lemmas.Bool.Decides.{nat_tests}
use Rattle.std.proofs.lemmas.List.{length-append, length-map, append_assoc, append-nil}
use Rattle.std.proofs.lemmas.List.Edits.{length-insert}
use Rattle.rm_sides.specs.declared.ranges.range.Range.{Range}
use Rattle.rm_sides.specs.Ranges.Laws.{RangeIsAdded, SameNumbersSameRanges}
use Rattle.rm_sides.specs.Ranges.Ranges.{Contents, IsCanonical, count_of, in_ranges, IsFront, IsGreatest, size_of}
use Rattle.rm_sides.specs.Ranges.Changes.{with_range, united}
use Rattle.rm_base.specs.Message.{max_number}
use Rattle.rm_base.specs.declared.message.Payload.{Payload}
use Rattle.rm_base.specs.NumberSet.{IsRising, has_number, front_after, greatest_of}
use Rattle.rm_base.specs.NumberSetLemmas.{Rises-places, Rises-with_number, has_number-at, lt-or-le}
use Rattle.rm_sides.specs.declared.destination.arrivals.Place.{Place}
use Rattle.rm_sides.specs.Destination.FrontLemmas.{front_after-has, front_after-next}
use Rattle.rm_sides.specs.Destination.ItemLemmas.{count_of-run_to, has_number-held, has_number-items, items_of-push}
use Rattle.rm_sides.specs.Destination.ItemLemmas.{length-numbers_in, numbers-in, numbers_of-both}
use Rattle.rm_sides.specs.Destination.Kept.{Came, IsAll, IsBehind, gone_by, held_by, numbers_at, looked_up, IsSorting}
use Rattle.rm_sides.specs.Destination.Kept.{GoesAt}
use Rattle.rm_sides.specs.Destination.LooseLemmas.{has_number-parts, no-zero, ranges-set, ranges_onto-numbers_in}
use Rattle.rm_sides.specs.Destination.LooseLemmas.{within-from}
use Rattle.rm_sides.specs.Destination.MessageLemmas.{has_number-push, numbers_of-push, once-more, ranges_onto-push}
use Rattle.rm_sides.specs.Destination.MessageLemmas.{sorted_onto-push}
use Rattle.rm_sides.specs.Destination.MessageLemmas.{numbers_of-with_message, with_message-at, has_number-by_number}
use Rattle.rm_sides.specs.Destination.MessageLemmas.{length-without_gap}
use Rattle.rm_sides.specs.Destination.Messages.{Item, is_empty, with_message, by_number, numbers_of, front_of}
use Rattle.rm_sides.specs.Destination.Messages.{ranges_onto}
use Rattle.rm_sides.specs.Destination.Messages.{AreOnce, gone_items, items_of, numbers_in, run_to, there_items}
use Rattle.rm_sides.proofs.DestinationLemmas.LawLemmas.{Rises-sorted}

-- an insertion, item by item
pub map-insert : {A B : Type 0} → (f : A → B) (xs : List A) (i : ℕ) (x : A)
    → map f (insert xs i x) ≡ insert (map f xs) i (f x)
map-insert f [] zero x = refl
map-insert f [] (suc i) x = refl
map-insert f (y ∷ xs) zero x = refl
map-insert {A} {B} f (y ∷ xs) (suc i) x = ap (λ (ys : List B). f y ∷ ys) (map-insert f xs i x)

-- what stands at a place stands there in a longer list
pub slice_get-push : {A : Type 0} → (xs : List A) (y : A) (k : ℕ) (x : A) → slice_get xs k ≡ Some x
    → slice_get (xs ++ y ∷ []) k ≡ Some x
slice_get-push [] y k x e = absurd (cc)
slice_get-push (z ∷ xs) y zero x e = e
slice_get-push (z ∷ xs) y (suc k) x e = slice_get-push xs y k x e

-- the last item
pub slice_get-last : {A : Type 0} → (xs : List A) (y : A) → slice_get (xs ++ y ∷ []) (length xs) ≡ Some y
slice_get-last [] y = refl
slice_get-last (x ∷ xs) y = slice_get-last xs y

-- places lead to the same messages when another one comes
pub looked_up-push : (came : List (ℕ × Payload)) (m : ℕ × Payload) (places : List Place) (ms : List (ℕ × Payload))
    → looked_up came places ≡ map Some ms → looked_up (came ++ m ∷ []) places ≡ map Some ms
looked_up-push came m [] [] e = refl
looked_up-push came m [] (y ∷ ms) e = absurd (cc)
looked_up-push came m (p ∷ places) [] e = absurd (cc)
looked_up-push came m (p ∷ places) (y ∷ ms) e =
    let first : slice_get came p.at ≡ Some y = cc in
    let rest : looked_up came places ≡ map Some ms = cc in
    let here : slice_get (came ++ m ∷ []) p.at ≡ Some y = slice_get-push came m p.at y first in
    let there : looked_up (came ++ m ∷ []) places ≡ map Some ms = looked_up-push came m places ms rest in
    cc

-- a place leads to the message that stands there by number
pub record LeadsTo (came ms : List (ℕ × Payload)) (i at : ℕ) : Type 0 where
  pub message : ℕ × Payload
  pub came_so : slice_get came at ≡ Some message
  pub stands : slice_get ms i ≡ Some message

-- each place does
pub looked_up-at : (came : List (ℕ × Payload)) (places : List Place) (ms : List (ℕ × Payload)) (i : ℕ) (p : Place)
    → looked_up came places ≡ map Some ms → slice_get places i ≡ Some p → LeadsTo came ms i p.at
looked_up-at came [] ms i p e h = absurd (cc)
looked_up-at came (q ∷ places) [] i p e h = absurd (cc)
looked_up-at came (q ∷ places) (y ∷ ms) zero p e h =
    let first : slice_get came q.at ≡ Some y = cc in
    let same : q ≡ p = cc in
    record { message = y; came_so = rw (← same) first; stands = refl }
looked_up-at came (q ∷ places) (y ∷ ms) (suc i) p e h =
    let rest : looked_up came places ≡ map Some ms = cc in
    let more = looked_up-at came places ms i p rest h in
    record { message = more.message; came_so = more.came_so; stands = more.stands }

-- the number of a place
pub number_at : (places : List Place) (k : ℕ)
    → get_or (numbers_at places) k 0 ≡ (slice_index_or places k (record { number = 0; at = 0 })).number
number_at [] k = refl
number_at (p ∷ places) zero = refl
number_at (p ∷ places) (suc k) = number_at places k

-- a number that is none of them is below those that are not below it
above_strictly : (xs : List ℕ) (n k : ℕ) → has_number xs n ≡ false → k < length xs → n ≤ get_or xs k 0
    → n < get_or xs k 0
above_strictly xs n k none h le = elim (lt-or-le n (get_or xs k 0)) [
  | inl above ↦ above
  | inr same ↦
      let there : has_number xs n ≡ true = has_number-at xs k n h (omega arith) in absurd (cc)
]

-- a message with a new number goes in at the place of its number
pub IsSorting-add : (came : List (ℕ × Payload)) (places : List Place) (n : ℕ) (p : Payload) (i : ℕ)
    → IsSorting came places → 0 < n → has_number (numbers_of came) n ≡ false → GoesAt (numbers_at places) n i
    → IsSorting (came ++ (n, p) ∷ []) (insert places i (record { number = n; at = length came }))
IsSorting-add came places n p i s from_one new goes =
    let ms = by_number came in
    let xs = numbers_of ms in
    let place : Place = record { number = n; at = length came } in
    let message : ℕ × Payload = (n, p) in
    let longer = came ++ message ∷ [] in
    let at : GoesAt xs n i = rw s.numbers at goes in
    let count : length xs ≡ length ms = length-map ms (λ (m : ℕ × Payload). m.0) in
    let none : has_number xs n ≡ false = has_number-by_number came n ∙ new in
    let above : (k : ℕ) → i ≤ k → k < length ms → n < get_or xs k 0
    = λ k le l. above_strictly xs n k none (omega arith) (at.above k le (omega arith)) in
    let more : by_number longer ≡ with_message ms n p = sorted_onto-push [] came message in
    let sorted : by_number longer ≡ insert ms i message
    = more ∙ with_message-at ms n p i (omega (arith, at.within)) at.below above in
    let look : Place → Option (ℕ × Payload) = λ q. slice_get longer q.at in
    let before : map look places ≡ map Some ms = looked_up-push came message places ms s.found in
    let last : look place ≡ Some message = slice_get-last came message in
    let found : map look (insert places i place) ≡ insert (map look places) i (look place)
    = map-insert look places i place in
    let seen : map Some (insert ms i message) ≡ insert (map Some ms) i (Some message) = map-insert Some ms i message in
    let numbers : numbers_at (insert places i place) ≡ insert (numbers_at places) i n
    = map-insert (λ (q : Place). q.number) places i place in
    let numbered : numbers_of (insert ms i message) ≡ insert xs i n
    = map-insert (λ (m : ℕ × Payload). m.0) ms i message in
    record {
      found = rw (sorted, found, before, last, seen) refl;
      numbers = rw (sorted, numbers, s.numbers, numbered) refl;
      rising = rw (more, numbers_of-with_message ms n p) (Rises-with_number 0 n xs s.rising from_one);
      once = once-more came n p s.once new;
      count = omega (
        arith,
        length-insert places i place
            (omega (arith, goes.within, length-map places (λ (q : Place). q.number))),
        length-append came (message ∷ []),
        s.count,
      );
    }

-- the front of the set is that of the messages
pub front-same : {A : Type 0} → (came : List (ℕ × A)) (ranges : List Range) (m : ℕ)
    → IsRising (numbers_of (by_number came))
    → ((n : ℕ) → in_ranges ranges n ≡ has_number (numbers_of came) n) → IsFront ranges m → m ≡ front_of came
front-same came ranges m rising same front =
    let xs = numbers_of (by_number came) in
    let f = front_of came in
    let reached : 0 + f ≡ front_after 0 xs = length-without_gap 0 (by_number came) in
    let sorted : (n : ℕ) → in_ranges ranges n ≡ has_number xs n = λ n. same n ∙ sym (has_number-by_number came n) in
    elim (lt-or-le m f) [
      | inl less ↦
          let there : has_number xs (m + 1) ≡ true = front_after-has 0 xs (m + 1) (omega arith) (omega arith) in
          let none : in_ranges ranges (m + 1) ≡ false = front.ends.1 in
          let both : in_ranges ranges (m + 1) ≡ has_number xs (m + 1) = sorted (m + 1) in
          absurd (cc)
      | inr le ↦ elim (lt-or-le f m) [
        | inl more ↦
            let next : front_after 0 xs + 1 ≡ f + 1 = omega arith in
            let none : has_number xs (f + 1) ≡ false = rw next at (front_after-next 0 xs rising) in
            let there : in_ranges ranges (f + 1) ≡ true = front.inside (f + 1) (omega arith) (omega arith) in
            let both : in_ranges ranges (f + 1) ≡ has_number xs (f + 1) = sorted (f + 1) in
            absurd (cc)
        | inr ge ↦ omega arith
      ]
    ]

-- the greatest of some numbers is one of them
greatest_of-has : (xs : List ℕ) → 0 < greatest_of xs → has_number xs (greatest_of xs) ≡ true
greatest_of-has [] h = absurd (omega arith)
greatest_of-has (x ∷ xs) h =
    let rest : 0 < greatest_of xs → has_number xs (greatest_of xs) ≡ true = greatest_of-has xs in
    elim (lt-or-le x (greatest_of xs)) [
      | inl less ↦
          let is : max x (greatest_of xs) ≡ greatest_of xs = omega arith in
          let there : has_number xs (greatest_of xs) ≡ true = rest (omega arith) in
          rw is (grind (arith, nat_tests, there))
      | inr first ↦ let is : max x (greatest_of xs) ≡ x = omega arith in rw is (grind (arith, nat_tests))
    ]

-- and none is above it
greatest_of-above : (xs : List ℕ) (n : ℕ) → has_number xs n ≡ true → n ≤ greatest_of xs
greatest_of-above [] n h = absurd (cc)
greatest_of-above (x ∷ xs) n h =
    let rest : has_number xs n ≡ true → n ≤ greatest_of xs = greatest_of-above xs n in
    grind (arith, nat_tests)

-- the greatest number of the set is that of the messages
pub greatest-same : {A : Type 0} → (came : List (ℕ × A)) (ranges : List Range) (m : ℕ)
    → ((n : ℕ) → in_ranges ranges n ≡ has_number (numbers_of came) n) → IsGreatest ranges m
    → m ≡ greatest_of (numbers_of (by_number came))
greatest-same came ranges m same greatest =
    let xs = numbers_of (by_number came) in
    let g = greatest_of xs in
    let sorted : (n : ℕ) → in_ranges ranges n ≡ has_number xs n = λ n. same n ∙ sym (has_number-by_number came n) in
    elim (lt-or-le m g) [
      | inl less ↦
          let there : in_ranges ranges g ≡ true = sorted g ∙ greatest_of-has xs (omega arith) in
          absurd (omega (arith, greatest.above g there))
      | inr le ↦ elim (lt-or-le g m) [
        | inl more ↦
            let there : has_number xs m ≡ true = sym (sorted m) ∙ greatest.inside (omega arith) in
            absurd (omega (arith, greatest_of-above xs m there))
        | inr ge ↦ omega arith
      ]
    ]

-- one message more has its number at the end
held_by-push : (purged : List Range) (came : List (ℕ × Payload)) (n : ℕ) (p : Payload)
    → held_by purged (came ++ (n, p) ∷ []) ≡ held_by purged came ++ n ∷ []
held_by-push purged came n p =
    ap numbers_of (items_of-push purged came (n, p)) ∙ numbers_of-push (items_of purged came) (n, Some p)

-- a new number comes behind those that are gone
pub held_by-behind : (gone : ℕ) (came : List (ℕ × Payload)) (n : ℕ) → 0 < n
    → has_number (held_by (run_to gone) came) n ≡ false → gone < n
held_by-behind gone came n from new =
    let all = has_number-items gone came n in
    elim (lt-or-le gone n) [
      | inl so ↦ so
      | inr le ↦ absurd (grind (arith, nat_tests, all, new))
    ]

-- and it is new among those that are there
pub held_by-new : (purged : List Range) (came : List (ℕ × Payload)) (n : ℕ) → has_number (held_by purged came) n ≡ false
    → has_number (numbers_of came) n ≡ false
held_by-new purged came n new = let all = has_number-held purged came n in grind (arith, nat_tests, all, new)

-- nothing was received
pub record HasNone (purged : List Range) (came : List (ℕ × Payload)) : Type 0 where
  pub numbers_ : numbers_in purged ≡ []
  pub came_ : came ≡ []

pub held_by-none : (purged : List Range) (came : List (ℕ × Payload)) → is_empty (held_by purged came) ≡ true
    → HasNone purged came
held_by-none purged came h = none (numbers_in purged) came refl h
  where
    none : (ns : List ℕ) (came : List (ℕ × Payload)) → numbers_in purged ≡ ns
        → is_empty (numbers_of (gone_items ns ++ there_items came)) ≡ true → HasNone purged came
    none [] [] e h = record { numbers_ = e; came_ = refl }
    none [] (m ∷ came) e h = absurd (cc)
    none (n ∷ ns) came e h = absurd (cc)

-- ranges without a number are none
pub gone-none : (loose : Bool) (gone : ℕ) (purged : List Range) → IsCanonical purged
    → numbers_in (gone_by loose gone purged) ≡ [] → gone_by loose gone purged ≡ []
gone-none true gone [] canonical e = refl
gone-none true gone (x ∷ xs) canonical e =
    let count = length-numbers_in (x ∷ xs) in
    let none : length (numbers_in (x ∷ xs)) ≡ 0 = ap length e in
    let all : count_of (x ∷ xs) ≡ x.upper + 1 - x.lower + count_of xs = sum_by-cons size_of x xs in
    absurd (omega (arith, canonical.1, count, none, all))
gone-none false zero purged canonical e = refl
gone-none false (suc g) purged canonical e =
    let count = length-numbers_in (run_to (suc g)) in
    let none : length (numbers_in (run_to (suc g))) ≡ 0 = ap length e in
    let all = count_of-run_to (suc g) in
    absurd (omega (arith, count, none, all))

-- which of both says what is gone
pub gone-ordered : (loose : Bool) (gone : ℕ) (purged : List Range) → loose ≡ false
    → gone_by loose gone purged ≡ run_to gone
gone-ordered false gone purged e = refl
gone-ordered true gone purged e = absurd (cc)

pub gone-loose : (loose : Bool) (gone : ℕ) (purged : List Range) → loose ≡ true → gone_by loose gone purged ≡ purged
gone-loose true gone purged e = refl
gone-loose false gone purged e = absurd (cc)

-- what is gone where nothing was received and these are put in
pub gone-restored : (loose : Bool) (gone g : ℕ) (purged new given : List Range) → gone_by loose gone purged ≡ []
    → (loose ≡ true → new ≡ united purged given) → united [] given ≡ given → (loose ≡ false → given ≡ run_to g)
    → gone_by loose g new ≡ given
gone-restored true gone g purged new given none put union run = put refl ∙ ap (λ rs. united rs given) none ∙ union
gone-restored false gone g purged new given none put union run = sym (run refl)

-- a run within message numbers
run_to-few : (g : ℕ) → IsCanonical (run_to g) → g ≤ max_number
run_to-few zero h = omega arith
run_to-few (suc g) h = h.2

-- what is kept of an ordered sequence behind messages that are gone, where nothing was received
pub IsBehind-restored : (g most : ℕ) (came : Came) → IsCanonical (run_to g) → g ≤ most → came.messages ≡ []
    → IsBehind g most came
IsBehind-restored g most came canonical reached none = record {
  few = run_to-few g canonical;
  consumed = reached;
  rising = rw none tt;
}

-- the set, where nothing was received and the numbers of what is gone are put in
pub IsAll-restored : RangeIsAdded → SameNumbersSameRanges → (gone : List Range) (came : Came) (numbers more : Contents)
    (given : List Range) (room : ℕ) → IsAll gone came numbers room → HasNone gone came.messages → IsCanonical given
    → more.ranges ≡ united numbers.ranges given → united [] given ≡ given → room ≤ more.spare
    → IsAll given came more room
IsAll-restored added only gone came numbers more given room kept none canonical ranges union fit =
    let before : numbers.ranges ≡ [] =
    kept.ranges ∙ ap (λ (ms : List (ℕ × Payload)). ranges_onto [] (held_by gone ms)) none.came_
    ∙ ap (λ (ns : List ℕ). ranges_onto [] (numbers_of (gone_items ns ++ there_items []))) none.numbers_ in
    let now : more.ranges ≡ given = ranges ∙ ap (λ rs. united rs given) before ∙ union in
    let held : held_by given came.messages ≡ numbers_in given =
    ap (λ (ms : List (ℕ × Payload)). held_by given ms) none.came_
    ∙ numbers_of-both (numbers_in given) []
    ∙ append-nil (numbers_in given) in
    let zero_ : has_number (held_by given came.messages) 0 ≡ false =
    ap (λ ns. has_number ns 0) held ∙ numbers-in given 0 ∙ no-zero given canonical in
    record {
      rising = Rises-sorted [] (items_of given came.messages) tt zero_;
      ranges = now ∙ sym (ranges_onto-numbers_in added only given canonical) ∙ ap (λ ns. ranges_onto [] ns) (sym held);
      same = λ n. ap (λ rs. in_ranges rs n) now ∙ sym (numbers-in given n) ∙ ap (λ ns. has_number ns n) (sym held);
      messages_fit = kept.messages_fit;
      numbers_fit = fit;
    }

-- what is kept of an ordered sequence, with one message more
pub IsBehind-add : (gone cursor : ℕ) (came longer : Came) (n : ℕ) (p : Payload) → IsBehind gone cursor came → gone < n
    → longer.messages ≡ came.messages ++ (n, p) ∷ [] → IsBehind gone cursor longer
IsBehind-add gone cursor came longer n p kept behind messages =
    let old = came.messages in
    let message : ℕ × Payload = (n, p) in
    let sorted : by_number (old ++ message ∷ []) ≡ with_message (by_number old) n p = sorted_onto-push [] old message in
    record {
      few = kept.few;
      consumed = kept.consumed;
      rising = rw (messages, sorted, numbers_of-with_message (by_number old) n p)
          (Rises-with_number gone n (numbers_of (by_number old)) kept.rising behind);
    }

-- the set with one message more
pub IsAll-add : (gone : List Range) (came longer : Came) (numbers more : Contents) (room n : ℕ) (p : Payload)
    → IsAll gone came numbers room → 0 < n → longer.messages ≡ came.messages ++ (n, p) ∷ []
    → more.ranges ≡ with_range numbers.ranges n n
    → ((k : ℕ) → in_ranges more.ranges k ≡ (in_ranges numbers.ranges k || (k == n)))
    → room - 1 ≤ longer.spare → room - 1 ≤ more.spare → IsAll gone longer more (room - 1)
IsAll-add gone came longer numbers more room n p kept from messages ranges adds messages_fit numbers_fit =
    let old = came.messages in
    let item : ℕ × Item = (n, Some p) in
    let items = items_of gone old in
    let pushed : items_of gone (old ++ (n, p) ∷ []) ≡ items ++ item ∷ [] = items_of-push gone old (n, p) in
    let sorted : by_number (items ++ item ∷ []) ≡ with_message (by_number items) n (Some p) =
    sorted_onto-push [] items item in
    let named : held_by gone (old ++ (n, p) ∷ []) ≡ held_by gone old ++ n ∷ [] = held_by-push gone old n p in
    record {
      rising = rw (messages, pushed, sorted, numbers_of-with_message (by_number items) n (Some p))
          (Rises-with_number 0 n (numbers_of (by_number items)) kept.rising from);
      ranges = rw (ranges, messages, named, ranges_onto-push [] (held_by gone old) n, kept.ranges) refl;
      same = λ k. rw (messages, named)
          (adds k ∙ ap (λ b. b || (k == n)) (kept.same k) ∙ sym (has_number-push (held_by gone old) n k));
      messages_fit = messages_fit;
      numbers_fit = numbers_fit;
    }

-- the set has the same numbers where others of them are gone
pub IsAll-same : RangeIsAdded → SameNumbersSameRanges → (gone more : List Range) (came left : Came) (numbers : Contents)
    (room : ℕ) → IsAll gone came numbers room → IsCanonical numbers.ranges
    → ((n : ℕ) → has_number (held_by more left.messages) n ≡ has_number (held_by gone came.messages) n)
    → IsAll more left numbers 0
IsAll-same added only gone more came left numbers room kept canonical held =
    let has : (n : ℕ) → in_ranges numbers.ranges n ≡ has_number (held_by more left.messages) n =
    λ n. kept.same n ∙ sym (held n) in
    let set = ranges-set added [] (held_by more left.messages) tt (λ n there.
    let at = within-from 1 n numbers.ranges canonical (has n ∙ there) in (omega (arith, at.0), at.1)) in
    record {
      rising = Rises-sorted [] (items_of more left.messages) tt (sym (has 0) ∙ no-zero numbers.ranges canonical);
      ranges = only numbers.ranges (ranges_onto [] (held_by more left.messages)) canonical set.canonical
          (λ n. has n ∙ sym (set.numbers n));
      same = has;
      messages_fit = omega arith;
      numbers_fit = omega arith;
    }

-- ---- whether a number is among the first

none-of : (xs : List ℕ) (n : ℕ) → ((k : ℕ) → k < length xs → get_or xs k 0 ≡ n → ⊥) → has_number xs n ≡ false
none-of [] n h = refl
none-of (x ∷ xs) n h =
    let rest : has_number xs n ≡ false = none-of xs n (λ k lt. h (suc k) (omega (arith, lt))) in
    elim (lt-or-le x n) [
      | inl under ↦ grind (arith, nat_tests, rest, under)
      | inr over ↦ elim (lt-or-le n x) [
        | inl above ↦ grind (arith, nat_tests, rest, above)
        | inr same ↦ absurd (h 0 (omega arith) (let e : x ≡ n = omega (arith, over, same) in e))
      ]
    ]

-- where another number stands at its place, or none, it is none of rising numbers
none-at : (xs : List ℕ) (n place : ℕ) → IsRising xs → GoesAt xs n place
    → (place < length xs → get_or xs place 0 ≡ n → ⊥) → has_number xs n ≡ false
none-at xs n place rising goes ne = none-of xs n (λ k lt e.
    elim (lt-or-le k place) [
      | inl before ↦ absurd (omega (arith, goes.below k before, e))
      | inr behind ↦
          let there : place < length xs = omega (arith, behind, lt) in
          let low : n ≤ get_or xs place 0 = goes.above place (omega arith) there in
          let high : get_or xs place 0 ≤ get_or xs k 0 = Rises-places 0 xs rising place k behind lt in
          absurd (ne there (let e2 : get_or xs place 0 ≡ n = omega (arith, low, high, e) in e2))
    ])

-- what stands at a place has its number there
has-got : (came : List (ℕ × Payload)) (at : ℕ) (m : ℕ × Payload) → slice_get came at ≡ Some m
    → has_number (numbers_of came) m.0 ≡ true
has-got [] at m e = absurd (cc)
has-got (x ∷ came) zero m e =
    let same : x ≡ m = cc in
    let number : x.0 ≡ m.0 = ap (λ (y : ℕ × Payload). y.0) same in
    grind (arith, nat_tests, number)
has-got (x ∷ came) (suc at) m e =
    let rest : has_number (numbers_of came) m.0 ≡ true = has-got came at m e in
    grind (arith, nat_tests, rest)

-- it is among the first where its place is
early-at : (came : List (ℕ × Payload)) (at count : ℕ) (m : ℕ × Payload) → AreOnce came → slice_get came at ≡ Some m
    → nat_lt at count ≡ has_number (numbers_of (take count came)) m.0
early-at [] at count m once e = absurd (cc)
early-at (x ∷ came) zero zero m once e = refl
early-at (x ∷ came) zero (suc count) m once e =
    let same : x ≡ m = cc in
    let number : x.0 ≡ m.0 = ap (λ (y : ℕ × Payload). y.0) same in
    grind (arith, nat_tests, number)
early-at (x ∷ came) (suc at) zero m once e = grind (arith, nat_tests)
early-at (x ∷ came) (suc at) (suc count) m once e =
    let rest : nat_lt at count ≡ has_number (numbers_of (take count came)) m.0 = early-at came at count m once.1 e in
    let there : has_number (numbers_of came) m.0 ≡ true = has-got came at m e in
    let none : has_number (numbers_of came) x.0 ≡ false = once.0 in
    elim (lt-or-le x.0 m.0) [
      | inl under ↦ grind (arith, nat_tests, rest, under)
      | inr over ↦ elim (lt-or-le m.0 x.0) [
        | inl above ↦ grind (arith, nat_tests, rest, above)
        | inr same ↦
            let number : x.0 ≡ m.0 = omega (arith, over, same) in
            absurd (cc)
      ]
    ]

-- what is not there is not among the first
none-early : (came : List (ℕ × Payload)) (count n : ℕ) → has_number (numbers_of came) n ≡ false
    → false ≡ has_number (numbers_of (take count came)) n
none-early came count n none = let parts = has_number-parts count came n in grind (arith, nat_tests, parts, none)

-- what stands at a place
placed-number : (places : List Place) (k : ℕ) (p : Place) → k < length places → p ≡ get_or places k p
    → get_or (numbers_at places) k 0 ≡ p.number
placed-number [] k p lt is = absurd (omega (arith, lt))
placed-number (q ∷ places) zero p lt is = ap (λ (x : Place). x.number) (sym is)
placed-number (q ∷ places) (suc k) p lt is = placed-number places k p (omega (arith, lt)) is

placed-got : (places : List Place) (k : ℕ) (p : Place) → k < length places → p ≡ get_or places k p
    → slice_get places k ≡ Some p
placed-got [] k p lt is = absurd (omega (arith, lt))
placed-got (q ∷ places) zero p lt is = ap Some (sym is)
placed-got (q ∷ places) (suc k) p lt is = placed-got places k p (omega (arith, lt)) is

number-got : (ms : List (ℕ × Payload)) (k : ℕ) (m : ℕ × Payload) → slice_get ms k ≡ Some m
    → get_or (numbers_of ms) k 0 ≡ m.0
number-got [] k m e = absurd (cc)
number-got (x ∷ ms) zero m e =
    let same : x ≡ m = cc in
    ap (λ (y : ℕ × Payload). y.0) same
number-got (x ∷ ms) (suc k) m e = number-got ms k m e

-- a number is among the first that came where it has a place that leads to one of them
pub early-placed : (came : List (ℕ × Payload)) (places : List Place) (place count : ℕ) (p : Place)
    → IsSorting came places → place < length places → p ≡ get_or places place p
    → nat_lt p.at count ≡ has_number (numbers_of (take count came)) p.number
early-placed came places place count p s lt is =
    let leads = looked_up-at came places (by_number came) place p s.found (placed-got places place p lt is) in
    let number : leads.message.0 ≡ p.number =
    sym (number-got (by_number came) place leads.message leads.stands)
    ∙ ap (λ (xs : List ℕ). get_or xs place 0) (sym s.numbers)
    ∙ placed-number places place p lt is in
    early-at came p.at count leads.message s.once leads.came_so
    ∙ ap (λ n. has_number (numbers_of (take count came)) n) number

pub none-past : (came : List (ℕ × Payload)) (places : List Place) (place count n : ℕ) → IsSorting came places
    → GoesAt (numbers_at places) n place → length places ≤ place
    → false ≡ has_number (numbers_of (take count came)) n
none-past came places place count n s goes past =
    let size : length (numbers_at places) ≡ length places = length-map places (λ (q : Place). q.number) in
    let none : has_number (numbers_at places) n ≡ false =
    none-at (numbers_at places) n place (subst IsRising (sym s.numbers) s.rising) goes
    (λ lt e. absurd (omega (arith, lt, size, past))) in
    none-early came count n
    (sym (has_number-by_number came n) ∙ ap (λ xs. has_number xs n) (sym s.numbers) ∙ none)

pub none-placed : (came : List (ℕ × Payload)) (places : List Place) (place count n : ℕ) (p : Place)
    → IsSorting came places → GoesAt (numbers_at places) n place → place < length places → p ≡ get_or places place p
    → (p.number ≡ n → ⊥) → false ≡ has_number (numbers_of (take count came)) n
none-placed came places place count n p s goes lt is other =
    let none : has_number (numbers_at places) n ≡ false =
    none-at (numbers_at places) n place (subst IsRising (sym s.numbers) s.rising) goes
    (λ _ e. other (sym (placed-number places place p lt is) ∙ e)) in
    none-early came count n
    (sym (has_number-by_number came n) ∙ ap (λ xs. has_number xs n) (sym s.numbers) ∙ none)
