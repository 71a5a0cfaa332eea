-- What stands for a note, by the rows, is what stands for its record in a snapshot.
use Rattle.std.proofs.Common.{◌≡◌, ℕ, zero, suc, ◌+◌, ◌-◌, ◌<◌, ◌≤◌, ◌==◌, Bool, true, false, ◌&&◌, not, cond}
use Rattle.std.proofs.Common.{List, [], ◌∷◌, ◌++◌, length, get_or, refl, sym, ap, ◌∙◌, arith, inl, inr}
use Rattle.std.proofs.Common.{Option, Some, None}
use Rattle.std.specs.Prelude.{nat_le, nat_lt, slice_get}
use Rattle.std.specs.List.{list_any}
use Rattle.std.specs.Option.{option_map, option_to_list}
use Rattle.std.proofs.lemmas.Bool.{and_parts, cases_Bool, ne_eqb, true≢false}
use Rattle.std.proofs.lemmas.Bool.Decides.{nat_tests}
use Rattle.std.proofs.lemmas.Grind.{flat_map-append}
use Rattle.std.proofs.lemmas.List.{length-drop}
use Rattle.std.proofs.lemmas.Option.{slice_get-get_or}
use Rattle.rm_sides.specs.declared.ranges.range.Range.{Range}
use Rattle.rm_sides.specs.Ranges.Changes.{united}
use Rattle.rm_sides.specs.Ranges.Ranges.{front_of, in_ranges}
use Rattle.rm_base.specs.Message.{max_number}
use Rattle.rm_base.specs.NumberSet.{has_number}
use Rattle.rm_base.specs.Numbered.{numbered}
use Rattle.rm_base.specs.declared.message.Payload.{Payload}
use Rattle.rm_base.specs.declared.message.Behaviour.{Behaviour}
use Rattle.rm_sides.specs.Destination.Incoming.{first_numbers, inbox_of, is_loose, passed as passed_of, without_passed}
use Rattle.rm_sides.specs.Destination.LooseLemmas.{has_number-without}
use Rattle.rm_sides.specs.Destination.Messages.{is_empty, numbers_of}
use Rattle.record_batch.specs.Fact.{Fact, Accepted, Acked, Received, Consumed, Dropped, Purged}
use Rattle.record_batch.specs.Sequences.Destinations.{behaviour_of, cursor, held, is_stopped, items, told}
use Rattle.record_batch.specs.Sequences.Fits.{fits, follows_at, is_incoming_side, is_outgoing_side}
use Rattle.record_batch.specs.Sequences.Makers.{Maker, Outgoing, Offered, Incoming, Taken, maker, makers, makers_of}
use Rattle.record_batch.specs.Sequences.Sources.{accepted_count, acked}
use Rattle.record_batch.specs.Sequences.Told.{Side, Sends, Receives, Told, told_by}
use Rattle.record_batch.specs.Snapshot.Same.{HasProper}
use Rattle.record_batch.specs.Snapshot.Snapshot.{acked_with, acks, instead, left_acked, passed, past_front, purged_with}
use Rattle.record_batch.specs.Snapshot.Snapshot.{settled}
use Rattle.node_tables.specs.Row.Row.{forgotten}
use Rattle.node_tables.specs.declared.note.Note.{Note}
use Rattle.node_tables.specs.declared.note.Note.TheVariants as note
use Rattle.node_tables.specs.Kept.{HasPlace, accepted_count_in, dropped_in, fact_at, is_whole, kept_at, no_row}
use Rattle.node_tables.specs.Kept.{received_in}
use Rattle.node_tables.specs.Kept.{row_at, told_in}
use Rattle.node_tables.specs.Shorter.{acked_by, acked_in, fact_ahead, fact_instead, passed_by, passed_in, some_ranges}

-- ---- which side a record is of

nothing_there : {A : Type 0} (x : A) → None ≡ Some x → ⊥
nothing_there x e = absurd cc

further : {A : Type 0} (xs ys : List A) (i : ℕ) (x : A) → slice_get xs i ≡ Some x → slice_get (xs ++ ys) i ≡ Some x
further [] ys i x e = absurd (nothing_there x e)
further (y ∷ xs) ys zero x e = e
further (y ∷ xs) ys (suc i) x e = further xs ys i x e

-- a sequence that is there stays
longer : {A : Type 0} (xs ys : List A) (s : ℕ) (x : A) → numbered xs s ≡ Some x → numbered (xs ++ ys) s ≡ Some x
longer xs ys s x e = elim (s == 0) as (λ b. cond b None (slice_get xs (s - 1)) ≡ Some x
    → cond b None (slice_get (xs ++ ys) (s - 1)) ≡ Some x) [
      | true ↦ λ h. absurd (nothing_there x h)
      | false ↦ λ h. further xs ys (s - 1) x h
    ] e

is_there : (side : Option Maker → Bool) → side None ≡ false → (o : Option Maker) → side o ≡ true
    → (m : Maker) × (o ≡ Some m)
is_there side none None e = absurd (true≢false (sym e ∙ none))
is_there side none (Some m) e = (m, refl)

-- its side stays
still_so : (side : Option Maker → Bool) → side None ≡ false → (before behind : List Fact) (s : ℕ)
    → side (maker before s) ≡ true → side (maker (before ++ behind) s) ≡ true
still_so side none before behind s e =
    let it = is_there side none (maker before s) e in
    ap (λ ms. side (numbered ms s)) (flat_map-append makers_of before behind)
    ∙ ap side (longer (makers before) (makers behind) s it.0 it.1)
    ∙ sym (ap side it.1) ∙ e

-- the rows have the acknowledged numbers of a sequence that sends
row_acked : (r : List Fact) (s : ℕ) (o : Option Maker) → is_outgoing_side o ≡ true
    → acked_in (option_map (λ (m : Maker). told_by r s m) o) ≡ united [] (acked r s)
row_acked r s (Some (Outgoing ticket to via lapse)) e = refl
row_acked r s (Some (Taken message_id ident endpoint)) e = refl
row_acked r s (Some (Incoming counter message_id acks_to behaviour deadline lapse)) e = absurd (true≢false (sym e))
row_acked r s (Some (Offered ticket counter to behaviour)) e = absurd (true≢false (sym e))
row_acked r s None e = absurd (true≢false (sym e))

pub acked-known : (r : List Fact) (s : ℕ) → is_outgoing_side (maker r s) ≡ true
    → acked_in (told_in r s) ≡ united [] (acked r s)
acked-known r s e = row_acked r s (maker r s) e

-- the numbers of what was consumed of one that receives, by what was announced for it
abbrev pub passed_at : List Fact → ℕ → Behaviour → List Range
passed_at r s y =
    cond (nat_lt 0 (cursor r s) && nat_le (cursor r s) (length (inbox_of y (told r s) (items r s))))
    (first_numbers (is_loose y) (held r s) (cursor r s)) []

row_passed : (r : List Fact) (s : ℕ) (o : Option Maker) → maker r s ≡ o → is_incoming_side o ≡ true
    → passed_in (option_map (λ (m : Maker). told_by r s m) o) ≡ passed r s
row_passed r s (Some (Incoming counter message_id acks_to behaviour deadline lapse)) there e =
    ap (λ (p : Option Maker). passed_at r s (behaviour_of p)) (sym there)
row_passed r s (Some (Offered ticket counter to behaviour)) there e =
    ap (λ (p : Option Maker). passed_at r s (behaviour_of p)) (sym there)
row_passed r s (Some (Outgoing ticket to via lapse)) there e = absurd (true≢false (sym e))
row_passed r s (Some (Taken message_id ident endpoint)) there e = absurd (true≢false (sym e))
row_passed r s None there e = absurd (true≢false (sym e))

pub passed-known : (r : List Fact) (s : ℕ) → is_incoming_side (maker r s) ≡ true
    → passed_in (told_in r s) ≡ passed r s
passed-known r s e = row_passed r s (maker r s) refl e

-- ---- a record and those around it

pub record IsAt (r before : List Fact) (f : Fact) (behind : List Fact) : Type 0 where
  pub parts : r ≡ before ++ f ∷ behind
  pub fit : fits before f ≡ true

sends-at : (r before : List Fact) (f : Fact) (behind : List Fact) (s : ℕ) → IsAt r before f behind
    → is_outgoing_side (maker before s) ≡ true → is_outgoing_side (maker r s) ≡ true
sends-at r before f behind s at e =
    ap (λ q. is_outgoing_side (maker q s)) at.parts ∙ still_so is_outgoing_side refl before (f ∷ behind) s e

receives-at : (r before : List Fact) (f : Fact) (behind : List Fact) (s : ℕ) → IsAt r before f behind
    → is_incoming_side (maker before s) ≡ true → is_incoming_side (maker r s) ≡ true
receives-at r before f behind s at e =
    ap (λ q. is_incoming_side (maker q s)) at.parts ∙ still_so is_incoming_side refl before (f ∷ behind) s e

-- the side of a payload, of numbers and of a message
pub accepted-sends : (r before behind : List Fact) (s : ℕ) (p : List ℕ) → IsAt r before (Accepted s p) behind
    → is_outgoing_side (maker r s) ≡ true
accepted-sends r before behind s p at =
    sends-at r before (Accepted s p) behind s at
    (and_parts (is_outgoing_side (maker before s)) _ (and_parts (follows_at before s (Accepted s p)) _ at.fit).0).0

pub acked-sends : (r before behind : List Fact) (s : ℕ) (ranges : List Range) → IsAt r before (Acked s ranges) behind
    → is_outgoing_side (maker r s) ≡ true
acked-sends r before behind s ranges at =
    sends-at r before (Acked s ranges) behind s at (and_parts (is_outgoing_side (maker before s)) _ at.fit).0

dropped-sends : (r before behind : List Fact) (s u : ℕ) → IsAt r before (Dropped s u) behind
    → is_outgoing_side (maker r s) ≡ true
dropped-sends r before behind s u at =
    sends-at r before (Dropped s u) behind s at
    (and_parts (is_outgoing_side (maker before s)) _ (and_parts (follows_at before s (Dropped s u)) _ at.fit).0).0

pub received-receives : (r before behind : List Fact) (s n : ℕ) (p : Payload) → IsAt r before (Received s n p) behind
    → is_incoming_side (maker r s) ≡ true
received-receives r before behind s n p at =
    receives-at r before (Received s n p) behind s at (and_parts (is_incoming_side (maker before s)) _ at.fit).0

consumed-receives : (r before behind : List Fact) (s u : ℕ) → IsAt r before (Consumed s u) behind
    → is_incoming_side (maker r s) ≡ true
consumed-receives r before behind s u at =
    receives-at r before (Consumed s u) behind s at (and_parts (is_incoming_side (maker before s)) _ at.fit).0

purged-receives : (r before behind : List Fact) (s : ℕ) (ranges : List Range) → IsAt r before (Purged s ranges) behind
    → is_incoming_side (maker r s) ≡ true
purged-receives r before behind s ranges at =
    receives-at r before (Purged s ranges) behind s at (and_parts (is_incoming_side (maker before s)) _ at.fit).0

-- a message has a number from 1 on
pub received-from : (r before behind : List Fact) (s n : ℕ) (p : Payload)
    → IsAt r before (Received s n p) behind → 0 < n
received-from r before behind s n p at =
    let rest = (and_parts (is_incoming_side (maker before s)) (nat_le 1 n && (nat_le n max_number
    && (not (has_number (held before s) n) && not (is_stopped before s)))) at.fit).1 in
    let from = (and_parts (nat_le 1 n) _ rest).0 in
    grind (arith, nat_tests, from)

-- ---- what stands for each

whole_stays : (f : Fact) → is_whole f ≡ true → (r before behind : List Fact) → instead r before f behind ≡ f ∷ []
whole_stays (Accepted s p) w r before behind = absurd (true≢false (sym w))
whole_stays (Acked s ranges) w r before behind = absurd (true≢false (sym w))
whole_stays (Received s n p) w r before behind = absurd (true≢false (sym w))
whole_stays (Consumed s u) w r before behind = absurd (true≢false (sym w))
whole_stays (Dropped s u) w r before behind = absurd (true≢false (sym w))
whole_stays (Purged s ranges) w r before behind = absurd (true≢false (sym w))
whole_stays f w r before behind = refl

pub whole_quiet : (f : Fact) → is_whole f ≡ true → (s : ℕ) → acks s f ≡ false
whole_quiet (Acked seq ranges) w s = absurd (true≢false (sym w))
whole_quiet f w s = refl

pub whole_proper : (f : Fact) → is_whole f ≡ true → HasProper f
whole_proper (Acked seq ranges) w = absurd (true≢false (sym w))
whole_proper f w = tt

acked-listed : (seq : ℕ) (xs : List Range) → option_to_list (some_ranges (Acked seq) xs) ≡ acked_with seq xs
acked-listed seq [] = refl
acked-listed seq (x ∷ xs) = refl

purged-listed : (seq : ℕ) (xs : List Range) → option_to_list (some_ranges (Purged seq) xs) ≡ purged_with seq xs
purged-listed seq [] = refl
purged-listed seq (x ∷ xs) = refl

-- a choice as a list
chosen : (b : Bool) (o : Option Fact) (xs : List Fact) → option_to_list o ≡ xs
    → option_to_list (cond b o None) ≡ cond b xs []
chosen true o xs e = e
chosen false o xs e = refl

left_out : (b : Bool) (o : Option Fact) (xs : List Fact) → option_to_list o ≡ xs
    → option_to_list (cond b None o) ≡ cond b [] xs
left_out true o xs e = refl
left_out false o xs e = e

both_chosen : (b c : Bool) (x y : Fact) → option_to_list (cond b (cond c (Some x) None) (Some y))
    ≡ cond b (cond c (x ∷ []) []) (y ∷ [])
both_chosen true true x y = refl
both_chosen true false x y = refl
both_chosen false c x y = refl

purged_chosen : (ps : List Range) (seq : ℕ) (ranges : List Range)
    → option_to_list (cond (is_empty ps) (Some (Purged seq ranges)) (Some (Purged seq ps)))
    ≡ cond (is_empty ps) (Purged seq ranges ∷ []) (purged_with seq ps)
purged_chosen [] seq ranges = refl
purged_chosen (p ∷ ps) seq ranges = refl

next_settled : (n d k : ℕ) → n ≡ k + 1 → (nat_le n d ≡ nat_lt k d) × ((n == 1) ≡ (k == 0))
next_settled n d k e = (grind (arith, nat_tests, e), grind (arith, nat_tests, e))

-- what stands for a note
pub same-instead : (kept : List Fact) (rows : List Told) (seen : List Bool) (r before behind : List Fact) (n : Note)
    → ((s : ℕ) → numbered rows s ≡ told_in r s) → IsAt r before (fact_at kept rows n) behind → HasPlace before n
    → ((seq : ℕ) → acks seq (fact_at kept rows n) ≡ true → get_or seen (seq - 1) false ≡ list_any (acks seq) behind)
    → ((place : ℕ) → n ≡ note.Kept place → is_whole (kept_at kept place) ≡ true)
    → option_to_list (fact_ahead rows n) ++ option_to_list (fact_instead kept rows seen n)
    ≡ instead r before (fact_at kept rows n) behind
same-instead kept rows seen r before behind (note.Kept place) known at has met whole =
    sym (whole_stays (kept_at kept place) (whole place refl) r before behind)
same-instead kept rows seen r before behind (note.Acked seq numbers) known at has met whole =
    let all : acked_in (numbered rows seq) ≡ united [] (acked r seq) =
    ap acked_in (known seq) ∙ acked-known r seq (acked-sends r before behind seq numbers.ranges at) in
    ap (λ b. option_to_list (cond b None (some_ranges (Acked seq) (past_front (acked_in (numbered rows seq))))))
    (met seq (here seq))
    ∙ ap (λ xs. option_to_list (cond (list_any (acks seq) behind) None (some_ranges (Acked seq) (past_front xs)))) all
    ∙ left_out (list_any (acks seq) behind) (some_ranges (Acked seq) (left_acked r seq))
    (acked_with seq (left_acked r seq))
    (acked-listed seq (left_acked r seq))
  where
    here : (s : ℕ) → (s == s) ≡ true
    here s = grind (arith, nat_tests)
same-instead kept rows seen r before behind (note.Accepted row n) known at has met whole =
    let s = row + 1 in
    let f = fact_at kept rows (note.Accepted row n) in
    let all : acked_in (numbered rows s) ≡ united [] (acked r s) =
    ap acked_in (known s) ∙ acked-known r s (accepted-sends r before behind s _ at) in
    let tests = next_settled n (settled r s) (accepted_count before s) has in
    ap (λ xs. option_to_list (cond (nat_le n (front_of xs))
    (cond (n == 1) (Some (Dropped s (front_of xs))) None) (Some f)))
    all
    ∙ both_chosen (nat_le n (settled r s)) (n == 1) (Dropped s (settled r s)) f
    ∙ ap (λ b. cond b (cond (n == 1) (Dropped s (settled r s) ∷ []) []) (f ∷ [])) tests.0
    ∙ ap (λ b. cond (nat_lt (accepted_count before s) (settled r s))
    (cond b (Dropped s (settled r s) ∷ []) []) (f ∷ []))
    tests.1
same-instead kept rows seen r before behind (note.Dropped seq upto) known at has met whole =
    ap (λ xs. Dropped seq (front_of xs) ∷ [])
    (ap acked_in (known seq) ∙ acked-known r seq (dropped-sends r before behind seq upto at))
same-instead kept rows seen r before behind (note.Received row n first) known at has met whole =
    let s = row + 1 in
    let f = fact_at kept rows (note.Received row n first) in
    let all : passed_in (numbered rows s) ≡ passed r s =
    ap passed_in (known s) ∙ passed-known r s (received-receives r before behind s n _ at) in
    ap (λ xs. option_to_list (cond first (some_ranges (Purged s) xs) None)
    ++ option_to_list (cond (in_ranges xs n) None (Some f))) all
    ∙ ap (λ xs. xs ++ option_to_list (cond (in_ranges (passed r s) n) None (Some f)))
    (chosen first (some_ranges (Purged s) (passed r s)) (purged_with s (passed r s)) (purged-listed s (passed r s))
    ∙ ap (λ b. cond b (purged_with s (passed r s)) []) has)
    ∙ ap (λ xs. cond (is_empty (held before s)) (purged_with s (passed r s)) [] ++ xs)
    (left_out (in_ranges (passed r s) n) (Some f) (f ∷ []) refl)
same-instead kept rows seen r before behind (note.Consumed seq upto) known at has met whole =
    let all : passed_in (numbered rows seq) ≡ passed r seq =
    ap passed_in (known seq) ∙ passed-known r seq (consumed-receives r before behind seq upto at) in
    chosen (is_empty (passed_in (numbered rows seq))) (Some (Consumed seq upto)) (Consumed seq upto ∷ []) refl
    ∙ ap (λ xs. cond (is_empty xs) (Consumed seq upto ∷ []) []) all
same-instead kept rows seen r before behind (note.Purged seq numbers) known at has met whole =
    let ranges = numbers.ranges in
    let all : passed_in (numbered rows seq) ≡ passed r seq =
    ap passed_in (known seq)
    ∙ passed-known r seq (purged-receives r before behind seq ranges at) in
    purged_chosen (passed_in (numbered rows seq)) seq ranges
    ∙ ap (λ xs. cond (is_empty xs) (Purged seq ranges ∷ []) (purged_with seq xs)) all

-- ---- what is left in the rows

pub left-accepted : (x : Side) (n : ℕ) → dropped_in x < n → n ≤ accepted_count_in x → front_of (acked_by x) < n
    → (dropped_in (forgotten x) < n) × (n ≤ accepted_count_in (forgotten x))
left-accepted (Sends t) n above within past = (
  omega (arith, above, past),
  omega (arith, above, within, past, length-drop (front_of t.acked - t.dropped) t.accepted),
)
left-accepted (Receives t) n above within past = absurd (omega (arith, above, within))

pub left-received : (x : Side) (n : ℕ) → has_number (numbers_of (received_in x)) n ≡ true
    → in_ranges (passed_by x) n ≡ false → has_number (numbers_of (received_in (forgotten x))) n ≡ true
left-received (Sends t) n has out = has
left-received (Receives t) n has out =
    let all = has_number-without (passed_of t) t.received n in
    elim (cases_Bool (is_empty (passed_of t))) [
      | inl none ↦ ap (λ b. has_number (numbers_of (received_in (Receives (cond b t (without_passed t))))) n) none ∙ has
      | inr some ↦
          ap (λ b. has_number (numbers_of (received_in (Receives (cond b t (without_passed t))))) n) some
          ∙ all ∙ ap (λ b. not b && has_number (numbers_of t.received) n) out ∙ has
    ]

-- a row by its number
pub numbered-row : (rows : List Told) (i : ℕ) → i < length rows → numbered rows (i + 1) ≡ Some (row_at rows i)
numbered-row rows i lt =
    let place : i + 1 - 1 ≡ i = omega arith in
    ap (λ b. cond b None (slice_get rows (i + 1 - 1))) (ne_eqb (i + 1) 0 (λ e. absurd (omega (arith, e))))
    ∙ ap (λ k. slice_get rows k) place ∙ slice_get-get_or rows i no_row lt
