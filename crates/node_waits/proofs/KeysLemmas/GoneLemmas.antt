-- The keys of messages that are gone don't wait, since these are acknowledged.
use Rattle.std.proofs.Common.{◌≡◌, ◌⊎◌, ℕ, zero, suc, ◌+◌, ◌-◌, ◌<◌, ◌≤◌, ◌==◌, ◌&&◌, not, nat_le, cond}
use Rattle.std.proofs.Common.{Bool, true, false, List, [], ◌∷◌, ◌++◌, inl, inr, refl, sym, ap, ap₂, ◌∙◌, arith}
use Rattle.std.specs.Prelude.{Option, Some, None}
use Rattle.std.specs.List.{flat_map}
use Rattle.std.proofs.lemmas.Bool.{false≢true, or_cases, or_left, or_right}
use Rattle.std.proofs.lemmas.Bool.Decides.{nat_tests}
use Rattle.rm_sides.specs.declared.ranges.range.Range.{Range}
use Rattle.rm_sides.specs.Ranges.Ranges.{in_range, in_ranges, is_between}
use Rattle.rm_sides.specs.Ranges.Changes.{united, with_range}
use Rattle.timers.specs.declared.slots.timers.Key.{Key}
use Rattle.record_batch.specs.Fact.{Fact, Acked, Dropped}
use Rattle.rm_sides.specs.Source.Outgoing.{accepted_count as accepted_in, first_run}
use Rattle.record_batch.specs.Sequences.Makers.{Maker, Outgoing, Offered, Incoming, Taken, maker}
use Rattle.record_batch.specs.Sequences.Sources.{acked, acked_of, dropped, dropped_of, is_sending}
use Rattle.record_batch.specs.Sequences.Told.{sending}
use Rattle.record_batch.specs.Sequences.Words.{last_or}
use Rattle.rm_protocol.specs.Waiting.{is_waiting, key, waits_in, waits_of}
use Rattle.node_waits.specs.Keys.Filled.{NoneWaits, own_waiting}
use Rattle.node_waits.proofs.KeysLemmas.AckedLemmas.{with-numbers}
use Rattle.node_waits.proofs.KeysLemmas.FillLemmas.{own-next}

-- ---- what is united has the numbers of both

united-keeps : (xs ys : List Range) (n : ℕ) → in_ranges xs n ≡ true → in_ranges (united xs ys) n ≡ true
united-keeps xs [] n h = h
united-keeps xs (y ∷ ys) n h =
    united-keeps (with_range xs y.lower y.upper) ys n
    (with-numbers xs y.lower y.upper n ∙ or_right (in_range y n) (in_ranges xs n) h)

united-adds : (xs ys : List Range) (n : ℕ) → in_ranges ys n ≡ true → in_ranges (united xs ys) n ≡ true
united-adds xs [] n h = absurd (false≢true h)
united-adds xs (y ∷ ys) n h = elim (or_cases (in_range y n) (in_ranges ys n) h) [
  | inl here ↦ united-keeps (with_range xs y.lower y.upper) ys n
      (with-numbers xs y.lower y.upper n ∙ or_left (in_range y n) (in_ranges xs n) here)
  | inr rest ↦ united-adds (with_range xs y.lower y.upper) ys n rest
]

-- ---- what is gone is acknowledged

behind : (xs ys : List Range) (n : ℕ) → in_ranges ys n ≡ true → in_ranges (xs ++ ys) n ≡ true
behind [] ys n h = h
behind (x ∷ xs) ys n h = or_right (in_range x n) (in_ranges (xs ++ ys) n) (behind xs ys n h)

in-first : (upto n : ℕ) (ys : List Range) → 0 < n → n ≤ upto → in_ranges (first_run upto ++ ys) n ≡ true
in-first upto n ys pos le =
    or_left (is_between 1 upto n) (in_ranges ys n) (grind (arith, nat_tests, pos, le))

-- of the records of a sequence, where so many messages were gone before
gone-acked : (s : ℕ) (r : List Fact) (a n : ℕ) → 0 < n → n ≤ last_or a (flat_map (dropped_of s) r)
    → (n ≤ a) ⊎ (in_ranges (acked r s) n ≡ true)
gone-acked s [] a n pos le = inl le
gone-acked s (Dropped seq upto ∷ r) a n pos le =
    elim (seq == s) as (λ b. n ≤ last_or a (cond b (upto ∷ []) [] ++ flat_map (dropped_of s) r)
    → (n ≤ a) ⊎ (in_ranges (cond b (first_run upto) [] ++ acked r s) n ≡ true)) [
      | true ↦ λ h. elim (gone-acked s r upto n pos h) [
        | inl within ↦ inr (in-first upto n (acked r s) pos within)
        | inr later ↦ inr (behind (first_run upto) (acked r s) n later)
      ]
      | false ↦ λ h. gone-acked s r a n pos h
    ] le
gone-acked s (Acked seq ranges ∷ r) a n pos le = elim (gone-acked s r a n pos le) [
  | inl within ↦ inl within
  | inr later ↦ inr (behind (acked_of s (Acked seq ranges)) (acked r s) n later)
]
gone-acked s (_ ∷ r) a n pos le = gone-acked s r a n pos le

acked-gone : (r : List Fact) (s n : ℕ) → 0 < n → n ≤ dropped r s → in_ranges (acked r s) n ≡ true
acked-gone r s n pos le = elim (gone-acked s r 0 n pos le) [
  | inl none ↦ absurd (omega (arith, none, pos))
  | inr is ↦ is
]

-- ---- so its keys don't wait

silent-by : (r : List Fact) (s n : ℕ) → 0 < n → n ≤ dropped r s → waits_in (sending r s) n ≡ false
silent-by r s zero pos le = absurd (omega (arith, pos))
silent-by r s (suc i) pos le =
    let known = united-adds [] (acked r s) (suc i) (acked-gone r s (suc i) pos le) in
    ap (λ (b : Bool). is_sending (sending r s).phase && (nat_le (suc i) (accepted_in (sending r s)) && not b)) known
    ∙ none (is_sending (sending r s).phase) (nat_le (suc i) (accepted_in (sending r s)))
  where
    none : (x y : Bool) → (x && (y && false)) ≡ false
    none true true = refl
    none true false = refl
    none false y = refl

pub gone-silent : (r : List Fact) (s gone : ℕ) → gone ≡ dropped r s → NoneWaits r s gone
gone-silent r s gone is i pos le = by_maker (maker r s)
  where
    by_maker : (m : Option Maker) → waits_of r s i m ≡ false
    by_maker None = refl
    by_maker (Some (Outgoing ticket to via lapse)) = silent-by r s i pos (omega (arith, le, is))
    by_maker (Some (Taken message_id ident endpoint)) = silent-by r s i pos (omega (arith, le, is))
    by_maker (Some (Offered ticket counter to behaviour)) = refl
    by_maker (Some (Incoming counter message_id acks_to behaviour deadline lapse)) = refl

pub none-silent : (r : List Fact) (s : ℕ) → NoneWaits r s 0
none-silent r s i pos le = absurd (omega (arith, pos, le))

-- ---- a pass over the keys of a sequence skips them

skip : (r : List Fact) (s from gone count : ℕ)
    → ((i : ℕ) → from ≤ i → i < from + gone → is_waiting r (key s i) ≡ false)
    → own_waiting r s from count ≡ own_waiting r s (from + gone) (count - gone)
skip r s from zero count h =
    let same : from + 0 ≡ from = omega arith in
    let all : count - 0 ≡ count = omega arith in
    sym (ap₂ (λ (i n : ℕ). own_waiting r s i n) same all)
skip r s from (suc gone) zero h =
    let none : 0 - suc gone ≡ 0 = omega arith in sym (ap (own_waiting r s (from + suc gone)) none)
skip r s from (suc gone) (suc count) h =
    let next : from + 1 + gone ≡ from + suc gone = omega arith in
    let less : count - gone ≡ suc count - suc gone = omega arith in
    ap (λ (b : Bool). cond b (key s from ∷ own_waiting r s (from + 1) count) (own_waiting r s (from + 1) count))
    (h from (omega arith) (omega arith))
    ∙ skip r s (from + 1) gone count (λ i low high. h i (omega (arith, low)) (omega (arith, high)))
    ∙ ap₂ (λ (i n : ℕ). own_waiting r s i n) next less

pub own-skips : (r : List Fact) (s gone count : ℕ) → NoneWaits r s gone → 0 < count
    → own_waiting r s 0 count ≡ own_waiting r s 0 1 ++ own_waiting r s (gone + 1) (count - (gone + 1))
own-skips r s gone count silent some =
    let all : count ≡ count - 0 = omega arith in
    let next : 1 + gone ≡ gone + 1 = omega arith in
    let left : count - 1 - gone ≡ count - (gone + 1) = omega arith in
    ap (own_waiting r s 0) all ∙ own-next r s 0 count some
    ∙ ap (λ (keys : List Key). own_waiting r s 0 1 ++ keys)
    (skip r s 1 gone (count - 1) (λ i low high. silent i (omega (arith, low)) (omega (arith, high)))
    ∙ ap₂ (λ (i n : ℕ). own_waiting r s i n) next left)
