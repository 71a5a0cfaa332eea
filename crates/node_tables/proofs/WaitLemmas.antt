-- The messages that wait for an acknowledgement, row by row.
use Rattle.std.proofs.Common.{◌≡◌, ◌⊎◌, ℕ, ◌+◌, ◌-◌, ◌≤◌, ◌==◌, Bool, true, false, cond, min, max, List, [], ◌∷◌, ◌++◌}
use Rattle.std.proofs.Common.{length, refl, sym, ap, ap₂, subst, ◌∙◌, arith, inl, inr}
use Rattle.std.specs.Prelude.{nat_lt, sum_by}
use Rattle.std.specs.List.{flat_map}
use Rattle.std.proofs.lemmas.Bool.Decides.{eqb_tells}
use Rattle.std.proofs.lemmas.List.{length-append}
use Rattle.std.proofs.lemmas.List.Sums.{sum_by-cons}
use Rattle.rm_sides.specs.Source.Outgoing.{first_run}
use Rattle.record_batch.specs.Fact.{Accepted, Dropped, Fact}
use Rattle.record_batch.specs.Sequences.GatherLemmas.{last_or-append}
use Rattle.record_batch.specs.Sequences.Makers.{Maker, Outgoing, Offered, Incoming, Taken, makers}
use Rattle.record_batch.specs.Sequences.Sources.{accepted, accepted_of, acked, acked_of, all_unacked, dropped}
use Rattle.record_batch.specs.Sequences.Sources.{dropped_of}
use Rattle.record_batch.specs.Sequences.Sources.{is_sending, phase, unacked_at, unacked_from}
use Rattle.record_batch.specs.Sequences.Words.{Text, last_or}
use Rattle.rm_sides.specs.declared.ranges.range.Range.{Range}
use Rattle.rm_sides.specs.Ranges.Changes.{united, with_range}
use Rattle.rm_sides.specs.Ranges.Ranges.{count_of, size_of}
use Rattle.record_batch.specs.Sequences.Told.{Told, told_by, told_from}
use Rattle.node_tables.specs.Row.Row.{Seen}
use Rattle.node_tables.specs.Kept.{Table, Holds, records_in, tolds}
use Rattle.node_tables.specs.Reads.{waiting}

one : (r : List Fact) (s : ℕ) (m : Maker) → waiting (told_by r s m).side ≡ unacked_at r s m
one r s (Outgoing ticket to via lapse) = refl
one r s (Taken message_id ident endpoint) = refl
one r s (Incoming counter message_id acks_to behaviour deadline lapse) = refl
one r s (Offered ticket counter to behaviour) = refl

from : (r : List Fact) (k : ℕ) (ms : List Maker)
    → sum_by (λ (t : Told). waiting t.side) (told_from r k ms) ≡ unacked_from r k ms
from r k [] = refl
from r k (m ∷ ms) =
    sum_by-cons (λ (t : Told). waiting t.side) (told_by r (k + 1) m) (told_from r (k + 1) ms)
    ∙ ap₂ (λ a b. a + b) (one r (k + 1) m) (from r (k + 1) ms)

of_rows : (rows : List Seen)
    → sum_by (λ (r : Seen). waiting r.told.side) rows ≡ sum_by (λ (t : Told). waiting t.side) (tolds rows)
of_rows [] = refl
of_rows (r ∷ rows) =
    sum_by-cons (λ (x : Seen). waiting x.told.side) r rows
    ∙ ap (λ n. waiting r.told.side + n) (of_rows rows)
    ∙ sym (sum_by-cons (λ (t : Told). waiting t.side) r.told (tolds rows))

-- of all rows
pub waits : (t : Table) (rows : List Seen) → Holds t → t.rows ≡ tolds rows
    → sum_by (λ (r : Seen). waiting r.told.side) rows ≡ all_unacked (records_in t)
waits t rows h e =
    of_rows rows ∙ ap (λ ts. sum_by (λ (x : Told). waiting x.side) ts) (sym e ∙ h.rows_)
    ∙ from (records_in t) 0 (makers (records_in t))

-- ---- no more messages wait than there are records

-- how many payloads were accepted for so many sequences, counted from k + 1
abbrev accepted_from : List Fact → ℕ → List Maker → ℕ
accepted_from r k [] = 0
accepted_from r k (m ∷ ms) = length (accepted r (k + 1)) + accepted_from r (k + 1) ms

-- how many a record accepts for them
abbrev accepts_from : Fact → ℕ → List Maker → ℕ
accepts_from f k [] = 0
accepts_from f k (m ∷ ms) = length (accepted_of (k + 1) f) + accepts_from f (k + 1) ms

-- one of the ranges has the numbers 1 to n
abbrev HasFirst : ℕ → List Range → Type 0
HasFirst n [] = ⊥
HasFirst n (x ∷ xs) = ((x.lower ≤ 1) × (n ≤ x.upper)) ⊎ HasFirst n xs

first-new : (n : ℕ) (xs : List Range) (lower upper : ℕ) → lower ≤ 1 → n ≤ upper
    → HasFirst n (with_range xs lower upper)
first-new n [] lower upper from to = inl (from, to)
first-new n (x ∷ xs) lower upper from to =
    elim (nat_lt (x.upper + 1) lower) as (λ b. HasFirst n (cond b (x ∷ with_range xs lower upper)
    (cond (nat_lt (upper + 1) x.lower) (record { lower = lower; upper = upper } ∷ x ∷ xs)
    (with_range xs (min x.lower lower) (max x.upper upper))))) [
      | true ↦ inr (first-new n xs lower upper from to)
      | false ↦ elim (nat_lt (upper + 1) x.lower) as (λ b. HasFirst n (cond b (record {
        lower = lower;
        upper = upper;
      } ∷ x ∷ xs) (with_range xs (min x.lower lower) (max x.upper upper)))) [
        | true ↦ inl (from, to)
        | false ↦ first-new n xs (min x.lower lower) (max x.upper upper) (omega (arith, from)) (omega (arith, to))
      ]
    ]

first-stays : (n : ℕ) (xs : List Range) (lower upper : ℕ) → HasFirst n xs → HasFirst n (with_range xs lower upper)
first-stays n [] lower upper has = absurd has
first-stays n (x ∷ xs) lower upper has =
    elim (nat_lt (x.upper + 1) lower) as (λ b. HasFirst n (cond b (x ∷ with_range xs lower upper)
    (cond (nat_lt (upper + 1) x.lower) (record { lower = lower; upper = upper } ∷ x ∷ xs)
    (with_range xs (min x.lower lower) (max x.upper upper))))) [
      | true ↦ elim has [
        | inl here ↦ inl here
        | inr later ↦ inr (first-stays n xs lower upper later)
      ]
      | false ↦ elim (nat_lt (upper + 1) x.lower) as (λ b. HasFirst n (cond b (record {
        lower = lower;
        upper = upper;
      } ∷ x ∷ xs) (with_range xs (min x.lower lower) (max x.upper upper)))) [
        | true ↦ inr has
        | false ↦ elim has [
          | inl here ↦
              first-new n xs (min x.lower lower) (max x.upper upper) (omega (arith, here.0)) (omega (arith, here.1))
          | inr later ↦ first-stays n xs (min x.lower lower) (max x.upper upper) later
        ]
      ]
    ]

first-united : (n : ℕ) (xs ys : List Range) → HasFirst n xs → HasFirst n (united xs ys)
first-united n xs [] has = has
first-united n xs (y ∷ ys) has =
    first-united n (with_range xs y.lower y.upper) ys (first-stays n xs y.lower y.upper has)

first-given : (n : ℕ) (xs ys : List Range) → HasFirst n ys → HasFirst n (united xs ys)
first-given n xs [] has = absurd has
first-given n xs (y ∷ ys) has = elim has [
  | inl here ↦
      first-united n (with_range xs y.lower y.upper) ys (first-new n xs y.lower y.upper here.0 here.1)
  | inr later ↦ first-given n (with_range xs y.lower y.upper) ys later
]

first-counts : (n : ℕ) (xs : List Range) → HasFirst n xs → n ≤ count_of xs
first-counts n [] has = absurd has
first-counts n (x ∷ xs) has = elim has [
  | inl here ↦ omega (arith, here.0, here.1, sum_by-cons size_of x xs)
  | inr later ↦ omega (arith, first-counts n xs later, sum_by-cons size_of x xs)
]

first-later : (n : ℕ) (xs ys : List Range) → HasFirst n ys → HasFirst n (xs ++ ys)
first-later n [] ys has = has
first-later n (x ∷ xs) ys has = inr (first-later n xs ys has)

-- what a record says is gone, it says is acknowledged
drops-acked : (s : ℕ) (f : Fact) (d : ℕ)
    → (last_or d (dropped_of s f) ≡ d) ⊎ HasFirst (last_or d (dropped_of s f)) (acked_of s f)
drops-acked s (Dropped seq upto) d = elim (seq == s) as (λ b.
    (last_or d (cond b (upto ∷ []) []) ≡ d)
    ⊎ HasFirst (last_or d (cond b (upto ∷ []) [])) (cond b (first_run upto) [])) [
      | true ↦ inr (inl (omega arith, omega arith))
      | false ↦ inl refl
    ]
drops-acked s f d = inl refl

gone-acked : (r : List Fact) (s d : ℕ)
    → (last_or d (flat_map (dropped_of s) r) ≡ d) ⊎ HasFirst (last_or d (flat_map (dropped_of s) r)) (acked r s)
gone-acked [] s d = inl refl
gone-acked (f ∷ r) s d =
    let here = last_or d (dropped_of s f) in
    let all : last_or d (flat_map (dropped_of s) (f ∷ r)) ≡ last_or here (flat_map (dropped_of s) r) =
    last_or-append d (dropped_of s f) (flat_map (dropped_of s) r) in
    elim (gone-acked r s here) [
      | inr later ↦
          inr (subst (λ n. HasFirst n (acked (f ∷ r) s)) (sym all)
          (first-later (last_or here (flat_map (dropped_of s) r)) (acked_of s f) (acked r s) later))
      | inl none ↦ elim (drops-acked s f d) [
        | inl same ↦ inl (all ∙ none ∙ same)
        | inr new ↦
            inr (subst (λ n. HasFirst n (acked (f ∷ r) s)) (sym (all ∙ none))
            (first-more here (acked_of s f) (acked r s) new))
      ]
    ]
  where
    first-more : (n : ℕ) (xs ys : List Range) → HasFirst n xs → HasFirst n (xs ++ ys)
    first-more n [] ys has = absurd has
    first-more n (x ∷ xs) ys has = elim has [
      | inl one ↦ inl one
      | inr later ↦ inr (first-more n xs ys later)
    ]

-- as many are acknowledged at least as are gone
gone-few : (r : List Fact) (s : ℕ) → dropped r s ≤ count_of (united [] (acked r s))
gone-few r s = elim (gone-acked r s 0) [
  | inl none ↦ omega (arith, none)
  | inr has ↦ first-counts (dropped r s) (united [] (acked r s)) (first-given (dropped r s) [] (acked r s) has)
]

part_of : (b : Bool) (d n c : ℕ) → d ≤ c → cond b (d + n - c) 0 ≤ n
part_of true d n c le = omega (arith, le)
part_of false d n c le = omega arith

waits-at : (r : List Fact) (s : ℕ) (m : Maker) → unacked_at r s m ≤ length (accepted r s)
waits-at r s (Outgoing ticket to via lapse) =
    part_of (is_sending (phase r s)) (dropped r s) (length (accepted r s)) (count_of (united [] (acked r s)))
    (gone-few r s)
waits-at r s (Taken message_id ident endpoint) =
    part_of (is_sending (phase r s)) (dropped r s) (length (accepted r s)) (count_of (united [] (acked r s)))
    (gone-few r s)
waits-at r s (Incoming counter message_id acks_to behaviour deadline lapse) = omega arith
waits-at r s (Offered ticket counter to behaviour) = omega arith

waits-from : (r : List Fact) (k : ℕ) (ms : List Maker) → unacked_from r k ms ≤ accepted_from r k ms
waits-from r k [] = omega arith
waits-from r k (m ∷ ms) = omega (arith, waits-at r (k + 1) m, waits-from r (k + 1) ms)

-- one record more
accepted-more : (f : Fact) (r : List Fact) (k : ℕ) (ms : List Maker)
    → accepted_from (f ∷ r) k ms ≡ accepts_from f k ms + accepted_from r k ms
accepted-more f r k [] = refl
accepted-more f r k (m ∷ ms) =
    omega (arith, length-append (accepted_of (k + 1) f) (accepted r (k + 1)), accepted-more f r (k + 1) ms)

-- it accepts nothing for a sequence that lies behind its own
accepts-behind : (seq : ℕ) (text : Text) (k : ℕ) (ms : List Maker) → seq ≤ k → accepts_from (Accepted seq text) k ms ≡ 0
accepts-behind seq text k [] h = refl
accepts-behind seq text k (m ∷ ms) h =
    elim (eqb_tells seq (k + 1)) [
      | inl there ↦ absurd (omega (arith, there.1, h))
      | inr other ↦
          omega (
            arith,
            ap (λ b. length (cond b (text ∷ []) [])) other.0,
            accepts-behind seq text (k + 1) ms (omega (arith, h)),
          )
    ]

accepts-one : (seq : ℕ) (text : Text) (k : ℕ) (ms : List Maker) → accepts_from (Accepted seq text) k ms ≤ 1
accepts-one seq text k [] = omega arith
accepts-one seq text k (m ∷ ms) =
    elim (eqb_tells seq (k + 1)) [
      | inl there ↦
          omega (
            arith,
            ap (λ b. length (cond b (text ∷ []) [])) there.0,
            accepts-behind seq text (k + 1) ms (omega (arith, there.1)),
          )
      | inr other ↦
          omega (arith, ap (λ b. length (cond b (text ∷ []) [])) other.0, accepts-one seq text (k + 1) ms)
    ]

accepts-none : (f : Fact) → ((s : ℕ) → accepted_of s f ≡ []) → (k : ℕ) (ms : List Maker) → accepts_from f k ms ≡ 0
accepts-none f h k [] = refl
accepts-none f h k (m ∷ ms) = omega (arith, ap length (h (k + 1)), accepts-none f h (k + 1) ms)

abbrev is_accepted : Fact → Bool
is_accepted (Accepted seq text) = true
is_accepted _ = false

silent : (f : Fact) → is_accepted f ≡ false → (s : ℕ) → accepted_of s f ≡ []
silent (Accepted seq text) e s = absurd (cc)
silent _ e s = refl

accepts-few : (f : Fact) (b : Bool) → is_accepted f ≡ b → (k : ℕ) (ms : List Maker) → accepts_from f k ms ≤ 1
accepts-few f false e k ms = omega (arith, accepts-none f (silent f e) k ms)
accepts-few (Accepted seq text) true e k ms = accepts-one seq text k ms
accepts-few _ true e k ms = absurd (cc)

none-accepted : (k : ℕ) (ms : List Maker) → accepted_from [] k ms ≡ 0
none-accepted k [] = refl
none-accepted k (m ∷ ms) = omega (arith, none-accepted (k + 1) ms)

accepted-few : (r : List Fact) (k : ℕ) (ms : List Maker) → accepted_from r k ms ≤ length r
accepted-few [] k ms = omega (arith, none-accepted k ms)
accepted-few (f ∷ r) k ms =
    omega (arith, accepted-more f r k ms, accepts-few f (is_accepted f) refl k ms, accepted-few r k ms)

-- each message that waits is a record
pub waits-few : (r : List Fact) → all_unacked r ≤ length r
waits-few r = omega (arith, waits-from r 0 (makers r), accepted-few r 0 (makers r))
