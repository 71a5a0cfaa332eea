-- Messages with their numbers, in the order in which they came and by number.
use Rattle.std.specs.Prelude.{◌≡◌, ℕ, zero, suc, ◌+◌, ◌==◌, nat_lt, Bool, true, false, ◌||◌, if◌then◌else◌, List, []}
use Rattle.std.specs.Prelude.{◌∷◌, ◌++◌, cond, filter, length, map, Option, Some, None}
use Rattle.rm_base.specs.NumberSet.{has_number}
use Rattle.rm_sides.specs.declared.ranges.range.Range.{Range}
use Rattle.rm_sides.specs.Ranges.Changes.{with_range}
use Rattle.rm_sides.specs.Ranges.Ranges.{in_ranges, size_of}
use Rattle.rm_base.specs.Numbered.{numbered}
use Rattle.rm_base.specs.declared.message.Payload.{Payload}

-- a list without items
abbrev pub is_empty : {A : Type 0} → List A → Bool
is_empty [] = true
is_empty (x ∷ xs) = false

-- one of them is true
abbrev pub any_true : List Bool → Bool
any_true [] = false
any_true (x ∷ xs) = x || any_true xs

-- messages by rising number, and one more; of two with one number the first stays
abbrev pub with_message : {A : Type 0} → List (ℕ × A) → ℕ → A → List (ℕ × A)
with_message [] number x = (number, x) ∷ []
with_message (m ∷ ms) number x =
    if nat_lt number m.0 then (number, x) ∷ m ∷ ms
    else if number == m.0 then m ∷ ms
    else m ∷ with_message ms number x

-- all of them, put into those that are sorted
abbrev pub sorted_onto : {A : Type 0} → List (ℕ × A) → List (ℕ × A) → List (ℕ × A)
sorted_onto sorted [] = sorted
sorted_onto sorted (m ∷ ms) = sorted_onto (with_message sorted m.0 m.1) ms

-- the messages that came, by rising number
abbrev pub by_number : {A : Type 0} → List (ℕ × A) → List (ℕ × A)
by_number came = sorted_onto [] came

-- of messages by rising number, those behind number n that follow one another without a gap
abbrev pub without_gap : {A : Type 0} → ℕ → List (ℕ × A) → List A
without_gap n [] = []
without_gap n (m ∷ ms) = if m.0 == n + 1 then m.1 ∷ without_gap m.0 ms else []

-- the numbers of messages
abbrev pub numbers_of : {A : Type 0} → List (ℕ × A) → List ℕ
numbers_of {A} ms = map (λ (m : ℕ × A). m.0) ms

-- what messages carry
abbrev pub contents_of : {A : Type 0} → List (ℕ × A) → List A
contents_of {A} ms = map (λ (m : ℕ × A). m.1) ms

-- the greatest m such that 1 to m came
abbrev pub front_of : {A : Type 0} → List (ℕ × A) → ℕ
front_of came = length (without_gap 0 (by_number came))

-- the canonical ranges of numbers, put into ranges
abbrev pub ranges_onto : List Range → List ℕ → List Range
ranges_onto ranges [] = ranges
ranges_onto ranges (n ∷ ns) = ranges_onto (with_range ranges n n) ns

-- so many numbers that follow one another
abbrev pub run_of : ℕ → ℕ → List ℕ
run_of lower zero = []
run_of lower (suc n) = lower ∷ run_of (lower + 1) n

-- the numbers of ranges, one by one
abbrev pub numbers_in : List Range → List ℕ
numbers_in [] = []
numbers_in (x ∷ xs) = run_of x.lower (size_of x) ++ numbers_in xs

-- the numbers 1 to n, as ranges
abbrev pub run_to : ℕ → List Range
run_to zero = []
run_to (suc n) = record { lower = 1; upper = suc n } ∷ []

-- what a message is kept as: its payload, or nothing, which is the mark that it is gone
abbrev pub Item : Type 0
Item = Option Payload

-- messages that are gone
abbrev pub gone_items : List ℕ → List (ℕ × Item)
gone_items ns = map (λ (n : ℕ). (n, None)) ns

-- messages that are there
abbrev pub there_items : List (ℕ × Payload) → List (ℕ × Item)
there_items ms = map (λ (m : ℕ × Payload). (m.0, Some m.1)) ms

-- messages that came: the gone ones, whose numbers these ranges have, and then the others in the order in which they
-- came
abbrev pub items_of : List Range → List (ℕ × Payload) → List (ℕ × Item)
items_of ranges ms = gone_items (numbers_in ranges) ++ there_items ms

-- the payload of an item, where there is one and it isn't gone
abbrev pub payload_in : Option Item → Item
payload_in None = None
payload_in (Some item) = item

-- the payload at a place, counted from 1, where it isn't gone
abbrev pub item_at : List Item → ℕ → Item
item_at items i = payload_in (numbered items i)

-- of messages, those with a number above n
abbrev pub above : {A : Type 0} → ℕ → List (ℕ × A) → List (ℕ × A)
above {A} n ms = filter (λ (m : ℕ × A). nat_lt n m.0) ms

-- of messages, those whose number is in none of the ranges
abbrev pub without : {A : Type 0} → List Range → List (ℕ × A) → List (ℕ × A)
without ps [] = []
without ps (m ∷ ms) = cond (in_ranges ps m.0) (without ps ms) (m ∷ without ps ms)

-- no two messages have one number
abbrev pub AreOnce : {A : Type 0} → List (ℕ × A) → Type 0
AreOnce [] = Unit {0}
AreOnce (m ∷ ms) = (has_number (numbers_of ms) m.0 ≡ false) × AreOnce ms
