-- No two messages of a row have one number, so a message is found by its number at any place where it stands.
use Rattle.std.proofs.Common.{◌≡◌, ℕ, zero, suc, ◌+◌, ◌<◌, ◌==◌, Bool, true, false, ◌&&◌, ◌||◌, not, cond, List, []}
use Rattle.std.proofs.Common.{◌∷◌, ◌++◌, length, map, drop, get_or, refl, sym, ap, subst, ◌∙◌, inl, inr, arith}
use Rattle.std.proofs.Common.{append_assoc}
use Rattle.std.specs.Prelude.{nat_le}
use Rattle.std.specs.List.{AllByRecursion}
use Rattle.std.proofs.lemmas.Bool.{and_parts, cases_Bool, cases_eq, eq-eqb, eqb-true, ne_eqb, not-true, true≢false}
use Rattle.std.proofs.Math.Seq.{drop-cons}
use Rattle.std.proofs.lemmas.List.{append-nil, get_or-map, length-map, map-append}
use Rattle.rm_base.specs.Message.{max_number}
use Rattle.rm_base.specs.NumberSet.{has_number}
use Rattle.rm_base.specs.NumberSetLemmas.{has_number-at}
use Rattle.rm_base.specs.declared.message.Payload.{Payload}
use Rattle.rm_sides.specs.Destination.ItemLemmas.{has_number-gone, numbers_of-there}
use Rattle.rm_sides.specs.Destination.Messages.{numbers_in, numbers_of, there_items}
use Rattle.record_batch.specs.declared.record.Record.{Record}
use Rattle.record_batch.specs.Fact.{Fact, Received, fact_of}
use Rattle.record_batch.specs.Sequences.Destinations.{held, is_stopped, purged, received, received_of}
use Rattle.record_batch.specs.Sequences.Fits.{all_fit, fits, is_incoming_side}
use Rattle.record_batch.specs.Sequences.GatherLemmas.{flat_map-more}
use Rattle.record_batch.specs.Sequences.Makers.{Maker, Outgoing, Offered, Incoming, Taken, maker, makers}
use Rattle.record_batch.specs.Sequences.Told.{Told, side_of, told_from}
use Rattle.node_tables.specs.declared.note.Note.{Note}
use Rattle.node_tables.specs.Copies.{AreOnce, IsThere, MayBeCopied}
use Rattle.node_tables.specs.Kept.{Holds, Table, fact_at, payload_of, received_in, records_in, records_of}
use Rattle.node_tables.proofs.CountLemmas.{rows-few}

or_false : (a b : Bool) → (a || b) ≡ false → (a ≡ false) × (b ≡ false)
or_false true b e = absurd (true≢false e)
or_false false b e = (refl, e)

still_absent : (k n : ℕ) (ms : List (ℕ × Payload)) (p : Payload) → has_number (numbers_of ms) k ≡ false
    → (n == k) ≡ false → has_number (numbers_of (ms ++ (n, p) ∷ [])) k ≡ false
still_absent k n [] p none differ = ap (λ b. b || false) differ
still_absent k n (m ∷ ms) p none differ =
    let parts = or_false (m.0 == k) (has_number (numbers_of ms) k) none in
    ap (λ b. b || has_number (numbers_of (ms ++ (n, p) ∷ [])) k) parts.0 ∙ still_absent k n ms p parts.1 differ

once_more : (ms : List (ℕ × Payload)) (n : ℕ) (p : Payload) → AreOnce ms → has_number (numbers_of ms) n ≡ false
    → AreOnce (ms ++ (n, p) ∷ [])
once_more [] n p once new = (refl, tt)
once_more (m ∷ ms) n p once new =
    let parts = or_false (m.0 == n) (has_number (numbers_of ms) n) new in
    let differ : (n == m.0) ≡ false = elim (cases_eq n m.0) [
      | inl same ↦ absurd (true≢false (sym (eq-eqb m.0 n (sym same)) ∙ parts.0))
      | inr other ↦ ne_eqb n m.0 other
    ] in
    (still_absent m.0 n ms p once.0 differ, once_more ms n p once.1 parts.1)

-- the message at a place is the one with its number
pub payload_at : (ms : List (ℕ × Payload)) (i n : ℕ) (d : ℕ × Payload) → AreOnce ms → i < length ms
    → get_or (numbers_of ms) i 0 ≡ n → payload_of n ms ≡ (get_or ms i d).1
payload_at [] i n d once lt e = absurd (omega (arith, lt))
payload_at (m ∷ ms) zero n d once lt e = ap (λ b. cond b m.1 (payload_of n ms)) (eq-eqb m.0 n e)
payload_at (m ∷ ms) (suc i) n d once lt e =
    let inside : i < length (numbers_of ms) = omega (arith, lt, length-map ms (λ (x : ℕ × Payload). x.0)) in
    let there = has_number-at (numbers_of ms) i n inside e in
    elim (cases_Bool (m.0 == n)) [
      | inl same ↦
          absurd (true≢false (sym there ∙ ap (has_number (numbers_of ms)) (sym (eqb-true m.0 n same)) ∙ once.0))
      | inr differ ↦
          ap (λ b. cond b m.1 (payload_of n ms)) differ ∙ payload_at ms i n d once.1 (omega (arith, lt)) e
    ]

-- the number of a message that may come next is new
is_new : (r : List Fact) (s n : ℕ) (p : Payload) → fits r (Received s n p) ≡ true
    → has_number (numbers_of (received r s)) n ≡ false
is_new r s n p fit =
    let has = has_number (held r s) n in
    let goes_on = not (is_stopped r s) in
    let side = and_parts (is_incoming_side (maker r s)) (nat_le 1 n && (nat_le n max_number && (not has && goes_on)))
    fit in
    let from = and_parts (nat_le 1 n) (nat_le n max_number && (not has && goes_on)) side.1 in
    let gone = numbers_in (purged r s) in
    ap (λ ns. has_number ns n) (sym (numbers_of-there (received r s)))
    ∙ (or_false (has_number gone n) (has_number (numbers_of (there_items (received r s))) n)
    (sym (has_number-gone gone (there_items (received r s)) n)
    ∙ not-true has (and_parts (not has) goes_on (and_parts (nat_le n max_number) (not has && goes_on) from.1).1).0)).1

one_record : (r : List Fact) (s : ℕ) (f : Fact) → AreOnce (received r s) → fits r f ≡ true
    → AreOnce (received r s ++ received_of s f)
one_record r s (Received seq n p) once fit = elim (cases_Bool (seq == s)) [
  | inl same ↦
      let new = ap (λ k. has_number (numbers_of (received r k)) n) (sym (eqb-true seq s same)) ∙ is_new r seq n p fit in
      subst (λ b. AreOnce (received r s ++ cond b ((n, p) ∷ []) [])) (sym same) (once_more (received r s) n p once new)
  | inr differ ↦
      subst (λ b. AreOnce (received r s ++ cond b ((n, p) ∷ []) [])) (sym differ)
      (subst AreOnce (sym (append-nil (received r s))) once)
]
one_record r s _ once fit = subst AreOnce (sym (append-nil (received r s))) once

all_once : (before l : List Fact) (s : ℕ) → AreOnce (received before s) → all_fit before l ≡ true
    → AreOnce (received (before ++ l) s)
all_once before [] s once fit = subst (λ r. AreOnce (received r s)) (sym (append-nil before)) once
all_once before (f ∷ l) s once fit =
    let parts = and_parts (fits before f) (all_fit (before ++ f ∷ []) l) fit in
    subst (λ r. AreOnce (received r s)) (append_assoc before (f ∷ []) l)
    (all_once (before ++ f ∷ []) l s
    (subst AreOnce (sym (flat_map-more (received_of s) before f)) (one_record before s f once parts.0)) parts.1)

on_side : (r : List Fact) (s : ℕ) (m : Maker) → AreOnce (received r s) → AreOnce (received_in (side_of r s m))
on_side r s (Outgoing ticket to via lapse) once = tt
on_side r s (Taken message_id ident endpoint) once = tt
on_side r s (Incoming counter message_id acks_to behaviour deadline lapse) once = once
on_side r s (Offered ticket counter to behaviour) once = once

in_each : (r : List Fact) → ((s : ℕ) → AreOnce (received r s)) → (k : ℕ) (ms : List Maker)
    → AllByRecursion (λ (t : Told). AreOnce (received_in t.side)) (told_from r k ms)
in_each r once k [] = tt
in_each r once k (m ∷ ms) = (on_side r (k + 1) m (once (k + 1)), in_each r once (k + 1) ms)

-- the rows of a node
pub may_be_copied : (t : Table) → Holds t → MayBeCopied t.rows
may_be_copied t h =
    let r = records_in t in
    record {
      few = rows-few t h;
      once = subst (AllByRecursion (λ (x : Told). AreOnce (received_in x.side))) (sym h.rows_)
          (in_each r (λ s. all_once [] r s tt h.fit) 0 (makers r));
    }

-- that of one row
pub once_at : (rows : List Told) (i : ℕ) (d : Told) → AllByRecursion (λ (t : Told). AreOnce (received_in t.side)) rows
    → i < length rows → AreOnce (received_in (get_or rows i d).side)
once_at [] i d each lt = absurd (omega (arith, lt))
once_at (t ∷ rows) zero d each lt = each.0
once_at (t ∷ rows) (suc i) d each lt = once_at rows i d each.1 (omega (arith, lt))

-- ---- messages by their numbers, place by place

from_place : {A : Type 0} (xs : List A) (i : ℕ) (x : A) → i < length xs → x ≡ get_or xs i x
    → drop i xs ≡ x ∷ drop (i + 1) xs
from_place xs i x lt is =
    drop-cons xs i x lt ∙ ap (λ y. y ∷ drop (suc i) xs) (sym is)
    ∙ ap (λ k. x ∷ drop k xs) (let e : suc i ≡ i + 1 = omega arith in e)

pub is_there : (ms : List (ℕ × Payload)) (i n : ℕ) (m : ℕ × Payload) → i < length ms → m ≡ get_or ms i m → m.0 ≡ n
    → IsThere ms i n
is_there ms i n m lt is e = record {
  within = lt;
  is = get_or-map (λ (x : ℕ × Payload). x.0) ms i m 0 lt ∙ ap (λ (x : ℕ × Payload). x.0) (sym is) ∙ e;
}

pub not_there : (ms : List (ℕ × Payload)) (i n : ℕ) (m : ℕ × Payload) → i < length ms → m ≡ get_or ms i m
    → (m.0 == n) ≡ false → has_number (numbers_of (drop i ms)) n ≡ has_number (numbers_of ms) n
    → has_number (numbers_of (drop (i + 1) ms)) n ≡ has_number (numbers_of ms) n
not_there ms i n m lt is differ so_far =
    sym (ap (λ xs. has_number (numbers_of xs) n) (from_place ms i m lt is)
    ∙ ap (λ b. b || has_number (numbers_of (drop (i + 1) ms)) n) differ)
    ∙ so_far

-- ---- records, note by note

pub copied_more : (kept : List Fact) (rows : List Told) (notes : List Note) (i : ℕ) (n : Note)
    (copies more : List Record) (copy : Record) → i < length notes → n ≡ get_or notes i n
    → fact_of copy ≡ fact_at kept rows n → more ≡ copies ++ copy ∷ []
    → map fact_of copies ++ records_of kept rows (drop i notes) ≡ records_of kept rows notes
    → map fact_of more ++ records_of kept rows (drop (i + 1) notes) ≡ records_of kept rows notes
copied_more kept rows notes i n copies more copy lt is same pushes so_far =
    let rest = records_of kept rows (drop (i + 1) notes) in
    ap (λ l. map fact_of l ++ rest) pushes
    ∙ ap (λ l. l ++ rest) (map-append fact_of copies (copy ∷ []))
    ∙ append_assoc (map fact_of copies) (fact_of copy ∷ []) rest
    ∙ ap (λ f. map fact_of copies ++ f ∷ rest) same
    ∙ ap (λ l. map fact_of copies ++ records_of kept rows l) (sym (from_place notes i n lt is))
    ∙ so_far
