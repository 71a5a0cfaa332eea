-- What is added for each kind of record tells it.
use Rattle.std.proofs.Common.{◌≡◌, ℕ, ◌+◌, ◌-◌, ◌<◌, ◌≤◌, Bool, true, false, ◌&&◌, not, cond, List, []}
use Rattle.std.proofs.Common.{◌∷◌, ◌++◌, length, map, get_or, refl, sym, ap, subst, ◌∙◌, arith, Some, None}
use Rattle.std.proofs.Common.{Option}
use Rattle.std.specs.Option.{option_map}
use Rattle.std.specs.Prelude.{◌||◌, nat_le, slice_get}
use Rattle.std.proofs.lemmas.Bool.{and_parts, eq-eqb, false≢true, not-true}
use Rattle.std.proofs.lemmas.List.{append-nil, length-append, length-map}
use Rattle.std.proofs.Math.Seq.{get_or-append_seam}
use Rattle.rm_sides.specs.Ranges.Ranges.{Contents}
use Rattle.rm_base.specs.Message.{max_number}
use Rattle.rm_base.specs.NumberSet.{has_number}
use Rattle.rm_base.specs.declared.message.Payload.{Payload}
use Rattle.rm_sides.specs.Destination.Incoming.{held as held_by}
use Rattle.rm_sides.specs.Destination.ItemLemmas.{has_number-gone, numbers_of-there}
use Rattle.rm_sides.specs.Destination.Messages.{is_empty, numbers_in, numbers_of, there_items}
use Rattle.record_batch.specs.Fact.{Fact, Made, Creating, Created, Granted, Accepted, Acked, Received, Consumed}
use Rattle.record_batch.specs.Fact.{Dropped, Purged}
use Rattle.std.specs.List.{flat_map}
use Rattle.record_batch.specs.Sequences.Find.{accept_of}
use Rattle.record_batch.specs.Sequences.Destinations.{held}
use Rattle.record_batch.specs.Sequences.Makers.{Maker, Outgoing, Offered, Incoming, Taken, addresses_of, makers_of}
use Rattle.record_batch.specs.Sequences.Makers.{created_of}
use Rattle.record_batch.specs.Sequences.Makers.{draws_of, maker}
use Rattle.record_batch.specs.Sequences.Sources.{accepted_count}
use Rattle.record_batch.specs.Sequences.Fits.{fits}
use Rattle.record_batch.specs.Sequences.OneMore.{number_after}
use Rattle.record_batch.specs.Sequences.Told.{Told, Side, Sends, Receives, begun, each_after, names, side_of, told_by}
use Rattle.record_batch.specs.Sequences.NameLemmas.{names-within}
use Rattle.record_batch.specs.declared.record.Record.{Record}
use Rattle.node_tables.specs.Row.Row.{Seen, takes, takes_message, takes_payload}
use Rattle.node_tables.specs.declared.note.Note.{Note}
use Rattle.node_tables.specs.declared.note.Note.TheVariants as note
use Rattle.node_tables.specs.declared.note.Origin.{Origin}
use Rattle.node_tables.specs.declared.note.Named.{Named}
use Rattle.node_tables.specs.Kept.{is_passing, is_whole, AreWithin, Holds, HasPlace, IsHeld, Table, ident_given}
use Rattle.node_tables.specs.Kept.{accepted_count_in, accepted_in, dropped_in, fact_at, held_in, no_row, told_in}
use Rattle.node_tables.specs.Kept.{AreGiven, AreMade, accept_at, gives_ident}
use Rattle.node_tables.specs.Kept.{is_naming, kept_at, maker_at, named_at, names_for, names_of, no_fact, no_maker}
use Rattle.node_tables.specs.Kept.{origins_for, origins_of, payload_of, received_in, records_in, row_at, table_in}
use Rattle.node_tables.proofs.HeldLemmas.{Added, Tells, accepted_by, accepted_row, count-in, dropped_row, holds_more}
use Rattle.node_tables.proofs.HeldLemmas.{no-drops, received_by, received_row, records_more, rows_after, rows_longer}
use Rattle.node_tables.proofs.HeldLemmas.{with_record}
use Rattle.node_tables.specs.Room.{starts_of}
use Rattle.std.proofs.lemmas.Option.{none-some, same_Some, slice_get-get_or}
use Rattle.node_tables.proofs.MessageLemmas.{has_number-last, payload_of-last}
use Rattle.node_tables.proofs.RowsLemmas.{row-taken, row-told, rows-count}
use Rattle.node_tables.proofs.StepLemmas.{takes-accepted, takes-received}

-- what is kept goes on from t to u by a record
abbrev pub Grown : Table → Table → Fact → Type 0
Grown t u f = Holds u × (records_in u ≡ records_in t ++ f ∷ [])

grew : (t u : Table) (f : Fact) (a : Added) → Holds t → fits (records_in t) f ≡ true → Tells t f a
    → with_record t f a ≡ u → Grown t u f
grew t u f a h fit tells e =
    subst (λ x. Grown t x f) e (holds_more t f a h fit tells, records_more t f a h fit tells)

-- the value of these fields
table_with : List Fact → List Told → List Note → List Origin → List Named → ℕ → ℕ → Table
table_with kept rows notes origins named number drawn = record {
  kept = kept;
  rows = rows;
  notes = notes;
  origins = origins;
  named = named;
  number_ = number;
  drawn = drawn;
}

same_table : (k k2 : List Fact) (rs rs2 : List Told) (ns ns2 : List Note) (os os2 : List Origin) (ms ms2 : List Named)
    (n n2 d d2 : ℕ) → k ≡ k2 → rs ≡ rs2 → ns ≡ ns2 → os ≡ os2 → ms ≡ ms2 → n ≡ n2 → d ≡ d2
    → table_with k rs ns os ms n d ≡ table_with k2 rs2 ns2 os2 ms2 n2 d2
same_table k k2 rs rs2 ns ns2 os os2 ms ms2 n n2 d d2 ek er en eo em e1 e2 =
    ap (λ x. table_with x rs ns os ms n d) ek ∙ ap (λ x. table_with k2 x ns os ms n d) er
    ∙ ap (λ x. table_with k2 rs2 x os ms n d) en ∙ ap (λ x. table_with k2 rs2 ns2 x ms n d) eo
    ∙ ap (λ x. table_with k2 rs2 ns2 os2 x n d) em ∙ ap (λ x. table_with k2 rs2 ns2 os2 ms2 x d) e1
    ∙ ap (λ x. table_with k2 rs2 ns2 os2 ms2 n2 x) e2

-- a record of one row alone
added_note : Note → Added
added_note n = record { whole = []; note_ = n; makes = []; gives = [] }

grew_row : (t : Table) (f : Fact) (n : Note) (rows : List Told) (notes : List Note) → Holds t
    → fits (records_in t) f ≡ true → Tells t f (added_note n) → makers_of f ≡ [] → number_after t.number_ f ≡ t.number_
    → draws_of f ≡ [] → rows ≡ each_after 0 t.rows f → notes ≡ t.notes ++ n ∷ []
    → Grown t (record t { rows = rows; notes = notes }) f
unfolding added_note table_with
grew_row t f n rows notes h fit tells none number draws is noted =
    let last : t.drawn + length (draws_of f) ≡ t.drawn = omega (arith, ap length draws) in
    grew t _ f (added_note n) h fit tells
    (same_table _ _ _ _ _ _ _ _ _ _ _ _ _ _ (append-nil t.kept)
    (ap (λ ms. each_after 0 t.rows f ++ map begun ms) none ∙ append-nil (each_after 0 t.rows f) ∙ sym is)
    (sym noted) (append-nil t.origins) (append-nil t.named) number last)

accepted_here : (x : Side) (s : ℕ) (payload : List ℕ) → takes_payload x ≡ true
    → accepted_by s x (Accepted s payload) ≡ payload ∷ []
accepted_here (Sends t) s payload h = ap (λ b. cond b (payload ∷ []) []) (eq-eqb s s refl)
accepted_here (Receives t) s payload h = absurd (false≢true h)

received_here : (x : Side) (s n : ℕ) (payload : Payload) → takes_message x n ≡ true
    → received_by s x (Received s n payload) ≡ (n, payload) ∷ []
received_here (Sends t) s n payload h = absurd (false≢true h)
received_here (Receives t) s n payload h = ap (λ b. cond b ((n, payload) ∷ []) []) (eq-eqb s s refl)

-- the number of a message that may be received is new
right_false : (a b : Bool) → (a || b) ≡ false → b ≡ false
right_false true b e = absurd (false≢true (sym e))
right_false false b e = e

is_new : (x : Side) (n : ℕ) → takes_message x n ≡ true → has_number (numbers_of (received_in x)) n ≡ false
is_new (Sends t) n h = refl
is_new (Receives t) n h =
    let has = has_number (held_by t) n in
    let going = and_parts (is_empty t.closes) (nat_le 1 n && (nat_le n max_number && not has)) h in
    let from = and_parts (nat_le 1 n) (nat_le n max_number && not has) going.1 in
    let gone = numbers_in t.purged in
    ap (λ ns. has_number ns n) (sym (numbers_of-there t.received))
    ∙ right_false (has_number gone n) (has_number (numbers_of (there_items t.received)) n)
    (sym (has_number-gone gone (there_items t.received) n)
    ∙ not-true has (and_parts (nat_le n max_number) (not has) from.1).1)

-- what is known of a row, as the records have it
told_there : (r : List Fact) (s : ℕ) (o : Option Maker) (x : Told)
    → option_map (λ (m : Maker). told_by r s m) o ≡ Some x → (m : Maker) × (x ≡ told_by r s m)
told_there r s None x e = absurd (none-some x e)
told_there r s (Some m) x e = (m, sym (same_Some (told_by r s m) x e))

row_known : (t : Table) (k : ℕ) → Holds t → k < length t.rows
    → (m : Maker) × (row_at t.rows k ≡ told_by (records_in t) (k + 1) m)
row_known t k h lt =
    let r = records_in t in
    let place : k + 1 - 1 ≡ k = omega arith in
    let same : slice_get t.rows k ≡ told_in r (k + 1) =
    ap (λ i. slice_get t.rows i) (sym place) ∙ row-told t (k + 1) h (λ e. absurd (omega (arith, e))) in
    told_there r (k + 1) (maker r (k + 1)) (row_at t.rows k) (sym same ∙ slice_get-get_or t.rows k no_row lt)

count_of_side : (r : List Fact) (s : ℕ) (m : Maker) → takes_payload (side_of r s m) ≡ true
    → accepted_count_in (side_of r s m) ≡ accepted_count r s
count_of_side r s (Outgoing ticket to via lapse) is = refl
count_of_side r s (Taken message_id ident endpoint) is = refl
count_of_side r s (Incoming counter message_id acks_to behaviour deadline lapse) is = absurd (false≢true is)
count_of_side r s (Offered ticket counter to behaviour) is = absurd (false≢true is)

held_of_side : (r : List Fact) (s n : ℕ) (m : Maker) → takes_message (side_of r s m) n ≡ true
    → held_in (side_of r s m) ≡ held r s
held_of_side r s n (Outgoing ticket to via lapse) is = absurd (false≢true is)
held_of_side r s n (Taken message_id ident endpoint) is = absurd (false≢true is)
held_of_side r s n (Incoming counter message_id acks_to behaviour deadline lapse) is = refl
held_of_side r s n (Offered ticket counter to behaviour) is = refl

-- how many messages a row accepted
count_known : (t : Table) (k : ℕ) → Holds t → k < length t.rows → takes_payload (row_at t.rows k).side ≡ true
    → accepted_count_in (row_at t.rows k).side ≡ accepted_count (records_in t) (k + 1)
count_known t k h lt is =
    let it = row_known t k h lt in
    ap (λ (x : Told). accepted_count_in x.side) it.1
    ∙ count_of_side (records_in t) (k + 1) it.0 (sym (ap (λ (x : Told). takes_payload x.side) it.1) ∙ is)

-- the numbers that a row received
held_known : (t : Table) (k n : ℕ) → Holds t → k < length t.rows → takes_message (row_at t.rows k).side n ≡ true
    → held_in (row_at t.rows k).side ≡ held (records_in t) (k + 1)
held_known t k n h lt is =
    let it = row_known t k h lt in
    ap (λ (x : Told). held_in x.side) it.1
    ∙ held_of_side (records_in t) (k + 1) n it.0 (sym (ap (λ (x : Told). takes_message x.side n) it.1) ∙ is)

one_longer : {A : Type 0} (xs ys : List A) (y : A) → ys ≡ xs ++ y ∷ [] → length xs < length ys
one_longer xs ys y e = omega (arith, ap length e, length-append xs (y ∷ []))

at_end : {A : Type 0} (xs ys : List A) (y d : A) → ys ≡ xs ++ y ∷ [] → get_or ys (length xs) d ≡ y
at_end xs ys y d e = ap (λ zs. get_or zs (length xs) d) e ∙ get_or-append_seam xs y [] d

tells-accepted : (t : Table) (k : ℕ) (payload : List ℕ) → k < length t.rows
    → takes_payload (row_at t.rows k).side ≡ true
    → accepted_count_in (row_at t.rows k).side ≡ accepted_count (records_in t) (k + 1)
    → Tells t (Accepted (k + 1) payload)
    (added_note (note.Accepted k (accepted_count_in (row_at t.rows k).side + 1)))
unfolding added_note
tells-accepted t k payload lt takes count =
    let f : Fact = Accepted (k + 1) payload in
    let x = (row_at t.rows k).side in
    let y = (row_at (rows_after t.rows f) k).side in
    let old = accepted_in x in
    let gone : dropped_in y ≡ dropped_in x = dropped_row t.rows f k lt (no-drops (k + 1) x f refl) in
    let all : accepted_count_in x ≡ dropped_in x + length old = count-in x in
    let now : accepted_in (row_at (rows_after t.rows f) k).side ≡ old ++ payload ∷ [] =
    accepted_row t.rows f k lt
    ∙ ap (λ ps. old ++ ps) (accepted_here (row_at t.rows k).side (k + 1) payload takes) in
    record {
      note_ = ap (λ p. Accepted (k + 1) p) (ap (λ i. get_or (accepted_in y) i [])
          (let e : accepted_count_in x + 1 - (dropped_in y + 1) ≡ length old = omega (arith, gone, all) in e)
          ∙ at_end old _ payload [] now);
      held = (
        omega (arith, lt, rows_longer t.rows f),
        omega (arith, gone, all),
        let longer = one_longer old _ payload now in omega (arith, longer, gone, all, count-in y),
      );
      place = ap (λ n. n + 1) count;
      makes = refl;
      gives = refl;
      makes_held = tt;
      gives_held = tt;
      made = tt;
      given = tt;
      addresses = refl;
      accepts = refl;
      whole_ = tt;
    }

tells-received : (t : Table) (k n : ℕ) (payload : Payload) (first : Bool) → k < length t.rows
    → takes_message (row_at t.rows k).side n ≡ true → first ≡ is_empty (held (records_in t) (k + 1))
    → Tells t (Received (k + 1) n payload)
    (added_note (note.Received k n first))
unfolding added_note
tells-received t k n payload first lt takes is_first =
    let f : Fact = Received (k + 1) n payload in
    let old = received_in (row_at t.rows k).side in
    let now : received_in (row_at (rows_after t.rows f) k).side ≡ old ++ (n, payload) ∷ [] =
    received_row t.rows f k lt
    ∙ ap (λ ps. old ++ ps) (received_here (row_at t.rows k).side (k + 1) n payload takes) in
    record {
      note_ = ap (λ p. Received (k + 1) n p) (ap (λ ms. payload_of n ms) now
          ∙ payload_of-last n old payload (is_new (row_at t.rows k).side n takes));
      held = (
        omega (arith, lt, rows_longer t.rows f),
        ap (λ ms. has_number (numbers_of ms) n) now ∙ has_number-last n old payload,
      );
      place = is_first;
      makes = refl;
      gives = refl;
      makes_held = tt;
      gives_held = tt;
      made = tt;
      given = tt;
      addresses = refl;
      accepts = refl;
      whole_ = tt;
    }

tells-acked : (t : Table) (s : ℕ) (numbers : Contents)
    → Tells t (Acked s numbers.ranges) (added_note (note.Acked s numbers))
unfolding added_note
tells-acked t s numbers =
    record {
      note_ = refl;
      held = tt;
      place = tt;
      makes = refl;
      gives = refl;
      makes_held = tt;
      gives_held = tt;
      made = tt;
      given = tt;
      addresses = refl;
      accepts = refl;
      whole_ = tt;
    }

-- a payload more
pub accepts : (t : Table) (s number : ℕ) (payload : List ℕ) (rows : List Told) (notes : List Note) → Holds t
    → fits (records_in t) (Accepted s payload) ≡ true → number ≡ accepted_count_in (row_at t.rows (s - 1)).side + 1
    → rows ≡ each_after 0 t.rows (Accepted (s - 1 + 1) payload) → notes ≡ t.notes ++ note.Accepted (s - 1) number ∷ []
    → Grown t (record t { rows = rows; notes = notes }) (Accepted s payload)
accepts t s number payload rows notes h fit at is noted =
    let taken = row-taken t (Accepted s payload) h refl fit in
    let back : s - 1 + 1 ≡ s = omega (arith, taken.one) in
    let lt : s - 1 < length t.rows = omega (arith, taken.one, taken.within) in
    let takes_it = sym (takes-accepted (row_at t.rows (s - 1)).side s payload) ∙ taken.takes_ in
    let tells = subst (λ p. Tells t (Accepted (s - 1 + 1) payload) (added_note (note.Accepted (s - 1) p))) (sym at)
    (tells-accepted t (s - 1) payload lt takes_it (count_known t (s - 1) h lt takes_it)) in
    subst (λ n. Grown t (record t { rows = rows; notes = notes }) (Accepted n payload)) back
    (grew_row t (Accepted (s - 1 + 1) payload) (note.Accepted (s - 1) number) rows notes h
    (subst (λ n. fits (records_in t) (Accepted n payload) ≡ true) (sym back) fit) tells refl refl refl is noted)

-- a message more
pub receives : (t : Table) (s n : ℕ) (payload : Payload) (first : Bool) (rows : List Told) (notes : List Note) → Holds t
    → fits (records_in t) (Received s n payload) ≡ true → first ≡ is_empty (held_in (row_at t.rows (s - 1)).side)
    → rows ≡ each_after 0 t.rows (Received (s - 1 + 1) n payload)
    → notes ≡ t.notes ++ note.Received (s - 1) n first ∷ []
    → Grown t (record t { rows = rows; notes = notes }) (Received s n payload)
receives t s n payload first rows notes h fit is_first is noted =
    let taken = row-taken t (Received s n payload) h refl fit in
    let back : s - 1 + 1 ≡ s = omega (arith, taken.one) in
    let lt : s - 1 < length t.rows = omega (arith, taken.one, taken.within) in
    let takes_it = sym (takes-received (row_at t.rows (s - 1)).side s n payload) ∙ taken.takes_ in
    let tells = tells-received t (s - 1) n payload first lt takes_it
    (is_first ∙ ap (λ ns. is_empty ns) (held_known t (s - 1) n h lt takes_it)) in
    subst (λ m. Grown t (record t { rows = rows; notes = notes }) (Received m n payload)) back
    (grew_row t (Received (s - 1 + 1) n payload) (note.Received (s - 1) n first) rows notes h
    (subst (λ m. fits (records_in t) (Received m n payload) ≡ true) (sym back) fit) tells refl refl refl is noted)

-- more numbers that are acknowledged
pub learns : (t : Table) (s : ℕ) (numbers : Contents) (rows : List Told) (notes : List Note) → Holds t
    → fits (records_in t) (Acked s numbers.ranges) ≡ true
    → rows ≡ each_after 0 t.rows (Acked (s - 1 + 1) numbers.ranges) → notes ≡ t.notes ++ note.Acked s numbers ∷ []
    → Grown t (record t { rows = rows; notes = notes }) (Acked s numbers.ranges)
learns t s numbers rows notes h fit is noted =
    let taken = row-taken t (Acked s numbers.ranges) h refl fit in
    let back : s - 1 + 1 ≡ s = omega (arith, taken.one) in
    grew_row t (Acked s numbers.ranges) (note.Acked s numbers) rows notes h fit (tells-acked t s numbers) refl refl refl
    (is ∙ ap (λ n. each_after 0 t.rows (Acked n numbers.ranges)) back) noted

-- what a record of the node and of the making of sequences has, it has not
pub record IsPlain (f : Fact) : Type 0 where
  pub makers_ : makers_of f ≡ []
  pub created_ : (k : ℕ) → created_of k f ≡ []
  pub draws : draws_of f ≡ []
  pub number_ : (n : ℕ) → number_after n f ≡ n
  pub addresses : addresses_of f ≡ []
  pub accepts_ : accept_of f ≡ []
  pub starts_ : starts_of f ≡ []
  pub named : is_naming f ≡ true

passes_plain : (f : Fact) → makers_of f ≡ [] → ((k : ℕ) → created_of k f ≡ []) → draws_of f ≡ []
    → ((n : ℕ) → number_after n f ≡ n) → addresses_of f ≡ [] → accept_of f ≡ [] → starts_of f ≡ []
    → is_naming f ≡ true → IsPlain f
passes_plain f m c d n a t s e = record {
  makers_ = m;
  created_ = c;
  draws = d;
  number_ = n;
  addresses = a;
  accepts_ = t;
  starts_ = s;
  named = e;
}

pub passing-plain : (f : Fact) → is_passing f ≡ true → IsPlain f
passing-plain (Consumed seq upto) is =
    passes_plain (Consumed seq upto) refl (λ k. refl) refl (λ n. refl) refl refl refl refl
passing-plain (Dropped seq upto) is =
    passes_plain (Dropped seq upto) refl (λ k. refl) refl (λ n. refl) refl refl refl refl
passing-plain (Purged seq ranges) is =
    passes_plain (Purged seq ranges) refl (λ k. refl) refl (λ n. refl) refl refl refl refl
passing-plain _ is = absurd (false≢true is)

-- a record more of what was consumed or is gone
pub passes : (t : Table) (f : Fact) (n : Note) (rows : List Told) (notes : List Note) → Holds t
    → fits (records_in t) f ≡ true → is_passing f ≡ true
    → ((kept : List Fact) (rows : List Told) → fact_at kept rows n ≡ f)
    → ((kept : List Fact) (rows : List Told) → IsHeld kept rows n) → ((before : List Fact) → HasPlace before n)
    → rows ≡ each_after 0 t.rows f → notes ≡ t.notes ++ n ∷ []
    → Grown t (record t { rows = rows; notes = notes }) f
unfolding added_note
passes t f n rows notes h fit is fact held place stepped noted =
    let plain = passing-plain f is in
    grew_row t f n rows notes h fit (record {
      note_ = fact _ _;
      held = held _ _;
      place = place (records_in t);
      makes = sym plain.makers_;
      gives = sym (plain.created_ (length t.origins));
      makes_held = tt;
      gives_held = tt;
      made = tt;
      given = tt;
      addresses = sym plain.addresses;
      accepts = sym plain.accepts_;
      whole_ = tt;
    }) plain.makers_ (plain.number_ t.number_) plain.draws stepped noted

makes_at : (kept : List Fact) (place : ℕ) (f : Fact) → kept_at kept place ≡ f
    → map (maker_at kept) (origins_for place f) ≡ makers_of f
makes_at kept place (Creating ticket to via lapse None) e = ap (λ g. get_or (makers_of g) 0 no_maker ∷ []) e
makes_at kept place (Creating ticket to via lapse (Some offer)) e =
    ap (λ g. get_or (makers_of g) 0 no_maker ∷ get_or (makers_of g) 1 no_maker ∷ []) e
makes_at kept place (Granted drawn message_id acks_to behaviour deadline lapse None) e =
    ap (λ g. get_or (makers_of g) 0 no_maker ∷ []) e
makes_at kept place (Granted drawn message_id acks_to behaviour deadline lapse (Some offer)) e =
    ap (λ g. get_or (makers_of g) 0 no_maker ∷ get_or (makers_of g) 1 no_maker ∷ []) e
makes_at kept place _ e = refl

gives_at : (kept : List Fact) (k place : ℕ) (f : Fact) → kept_at kept place ≡ f
    → map (named_at kept) (names_for k place f) ≡ created_of k f
gives_at kept k place (Created seq ident accept) e = ap (λ g. (seq, ident_given g) ∷ []) e
gives_at kept k place (Granted drawn message_id acks_to behaviour deadline lapse None) e = refl
gives_at kept k place (Granted drawn message_id acks_to behaviour deadline lapse (Some offer)) e =
    ap (λ g. (k + 2, ident_given g) ∷ []) e
gives_at kept k place _ e = refl

makes_within : (n place : ℕ) (f : Fact) → place < n → AreWithin n (origins_of (origins_for place f))
makes_within n place (Creating ticket to via lapse None) lt = (lt, tt)
makes_within n place (Creating ticket to via lapse (Some offer)) lt = (lt, (lt, tt))
makes_within n place (Granted drawn message_id acks_to behaviour deadline lapse None) lt = (lt, tt)
makes_within n place (Granted drawn message_id acks_to behaviour deadline lapse (Some offer)) lt = (lt, (lt, tt))
makes_within n place _ lt = tt

gives_within : (n k place : ℕ) (f : Fact) → place < n → AreWithin n (names_of (names_for k place f))
gives_within n k place (Created seq ident accept) lt = (lt, tt)
gives_within n k place (Granted drawn message_id acks_to behaviour deadline lapse None) lt = tt
gives_within n k place (Granted drawn message_id acks_to behaviour deadline lapse (Some offer)) lt = (lt, tt)
gives_within n k place _ lt = tt

made_in : (kept : List Fact) (place i : ℕ) (f : Fact) → kept_at kept place ≡ f → i < length (makers_of f)
    → i < length (makers_of (kept_at kept place))
made_in kept place i f e lt = subst (λ (g : Fact). i < length (makers_of g)) (sym e) lt

makes_made : (kept : List Fact) (place : ℕ) (f : Fact) → kept_at kept place ≡ f → AreMade kept (origins_for place f)
makes_made kept place (Creating ticket to via lapse None) e = (made_in kept place 0 _ e (omega arith), tt)
makes_made kept place (Creating ticket to via lapse (Some offer)) e =
    (made_in kept place 0 _ e (omega arith), (made_in kept place 1 _ e (omega arith), tt))
makes_made kept place (Granted drawn message_id acks_to behaviour deadline lapse None) e =
    (made_in kept place 0 _ e (omega arith), tt)
makes_made kept place (Granted drawn message_id acks_to behaviour deadline lapse (Some offer)) e =
    (made_in kept place 0 _ e (omega arith), (made_in kept place 1 _ e (omega arith), tt))
makes_made kept place _ e = tt

gives_given : (kept : List Fact) (k place : ℕ) (f : Fact) → kept_at kept place ≡ f
    → AreGiven kept (names_for k place f)
gives_given kept k place (Created seq ident accept) e = (ap gives_ident e, tt)
gives_given kept k place (Granted drawn message_id acks_to behaviour deadline lapse None) e = tt
gives_given kept k place (Granted drawn message_id acks_to behaviour deadline lapse (Some offer)) e =
    (ap gives_ident e, tt)
gives_given kept k place _ e = tt

gives_accept : (kept : List Fact) (k place : ℕ) (f : Fact) → kept_at kept place ≡ f
    → flat_map (accept_at kept) (names_for k place f) ≡ accept_of f
gives_accept kept k place (Created seq ident accept) e = ap (λ g. accept_of g ++ []) e
gives_accept kept k place (Granted drawn message_id acks_to behaviour deadline lapse None) e = refl
gives_accept kept k place (Granted drawn message_id acks_to behaviour deadline lapse (Some offer)) e =
    ap (λ g. accept_of g ++ []) e
gives_accept kept k place _ e = refl

-- a record that is kept whole
added_whole : Table → Fact → Added
added_whole t f = record {
  whole = f ∷ [];
  note_ = note.Kept (length t.kept);
  makes = origins_for (length t.kept) f;
  gives = names_for (length t.origins) (length t.kept) f;
}

tells-whole : (t : Table) (f : Fact) → is_whole f ≡ true → Tells t f (added_whole t f)
unfolding added_whole
tells-whole t f whole =
    let place = length t.kept in
    let at : kept_at (t.kept ++ f ∷ []) place ≡ f = get_or-append_seam t.kept f [] no_fact in
    let lt : place < length (t.kept ++ f ∷ []) = one_longer t.kept _ f refl in
    record {
      note_ = at;
      held = lt;
      place = tt;
      makes = makes_at (t.kept ++ f ∷ []) place f at;
      gives = gives_at (t.kept ++ f ∷ []) (length t.origins) place f at;
      makes_held = makes_within (length (t.kept ++ f ∷ [])) place f lt;
      gives_held = gives_within (length (t.kept ++ f ∷ [])) (length t.origins) place f lt;
      made = makes_made (t.kept ++ f ∷ []) place f at;
      given = gives_given (t.kept ++ f ∷ []) (length t.origins) place f at;
      addresses = append-nil (addresses_of f);
      accepts = gives_accept (t.kept ++ f ∷ []) (length t.origins) place f at;
      whole_ = (whole, tt);
    }

-- a record more that is kept whole
pub keeps : (t u : Table) (f : Fact) → is_whole f ≡ true → Holds t → fits (records_in t) f ≡ true
    → u.kept ≡ t.kept ++ f ∷ []
    → u.rows ≡ each_after 0 t.rows f ++ map begun (makers_of f) → u.notes ≡ t.notes ++ note.Kept (length t.kept) ∷ []
    → u.origins ≡ t.origins ++ origins_for (length t.kept) f
    → u.named ≡ t.named ++ names_for (length t.origins) (length t.kept) f → u.number_ ≡ number_after t.number_ f
    → u.drawn ≡ t.drawn + length (draws_of f) → Grown t u f
unfolding added_whole table_with
keeps t u f whole h fit kept rows notes origins named number drawn =
    grew t u f (added_whole t f) h fit (tells-whole t f whole)
    (same_table _ _ _ _ _ _ _ _ _ _ _ _ _ _ (sym kept) (sym rows) (sym notes) (sym origins) (sym named) (sym number)
    (sym drawn))

-- what is kept stays
pub stays : (t : Table) (rows : List Told) (notes : List Note) → Holds t → rows ≡ t.rows → notes ≡ t.notes
    → Holds (record t { rows = rows; notes = notes })
unfolding table_with
stays t rows notes h is noted =
    subst Holds (same_table t.kept t.kept t.rows rows t.notes notes t.origins t.origins t.named t.named t.number_
    t.number_ t.drawn t.drawn refl (sym is) (sym noted) refl refl refl refl) h

-- there are as many rows as origins
pub rows-origins : (t : Table) → Holds t → length t.rows ≡ length t.origins
rows-origins t h = rows-count t h ∙ ap length h.makers_ ∙ length-map t.origins (maker_at t.kept)

naming : (f : Fact) → 0 < names f → is_naming f ≡ true
naming (Made node address) lt = absurd (omega (arith, lt))
naming (Creating ticket to via lapse offer) lt = absurd (omega (arith, lt))
naming (Granted drawn message_id acks_to behaviour deadline lapse offer) lt = absurd (omega (arith, lt))
naming _ lt = refl

-- the row that a record names is there
pub names-there : (t : Table) (f : Fact) → Holds t → fits (records_in t) f ≡ true → names f ≤ length t.rows
names-there t f h fit = omega (arith, rows-count t h, names-within (records_in t) f fit)

-- the row that a record names takes it
pub takes-there : (t : Table) (f : Fact) → Holds t → fits (records_in t) f ≡ true → 0 < names f
    → takes (row_at t.rows (names f - 1)).side f ≡ true
takes-there t f h fit some = (row-taken t f h (naming f some) fit).takes_

-- the same lists hold the same
pub untouched : (k k2 : List Record) (rs rs2 : List Seen) (ns ns2 : List Note) (os os2 : List Origin)
    (ms ms2 : List Named) (n d : ℕ) → k2 ≡ k → rs2 ≡ rs → ns2 ≡ ns → os2 ≡ os → ms2 ≡ ms
    → table_in k2 rs2 ns2 os2 ms2 n d ≡ table_in k rs ns os ms n d
untouched k k2 rs rs2 ns ns2 os os2 ms ms2 n d ek er en eo em =
    ap (λ x. table_in x rs2 ns2 os2 ms2 n d) ek ∙ ap (λ x. table_in k x ns2 os2 ms2 n d) er
    ∙ ap (λ x. table_in k rs x os2 ms2 n d) en ∙ ap (λ x. table_in k rs ns x ms2 n d) eo
    ∙ ap (λ x. table_in k rs ns os x n d) em
