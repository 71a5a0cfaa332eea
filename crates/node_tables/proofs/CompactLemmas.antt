-- The tables hold the snapshot of their records with its notes, and rows without the payloads that it leaves out.
use Rattle.std.proofs.Common.{◌≡◌, ℕ, zero, suc, ◌+◌, ◌-◌, ◌<◌, ◌≤◌, ◌==◌, Bool, true, false, ◌&&◌, cond, max}
use Rattle.std.proofs.Common.{List, [], ◌∷◌, ◌++◌, length, drop, get_or, refl, sym, ◌∙◌, ap, subst, inl, inr, arith}
use Rattle.std.proofs.Common.{Option, Some, None, ◌⊎◌}
use Rattle.std.specs.Prelude.{not, slice_get}
use Rattle.std.specs.Option.{option_map}
use Rattle.std.specs.List.{flat_map}
use Rattle.std.proofs.lemmas.Bool.{cases_Bool, eqb-true, true≢false}
use Rattle.std.proofs.lemmas.List.{get_or-map}
use Rattle.std.proofs.lemmas.Option.{slice_get-map}
use Rattle.rm_sides.specs.Ranges.Laws.{EndsAreRight, SameNumbersSameRanges, UnionHasBoth}
use Rattle.rm_sides.specs.Ranges.Ranges.{front_of, in_ranges}
use Rattle.rm_sides.specs.declared.ranges.range.Range.{Range}
use Rattle.rm_base.specs.NumberSet.{has_number}
use Rattle.rm_base.specs.Numbered.{numbered}
use Rattle.rm_base.specs.declared.message.Behaviour.{Behaviour}
use Rattle.rm_base.specs.declared.message.Payload.{Payload}
use Rattle.rm_sides.specs.Source.Outgoing.{settled as settled_by}
use Rattle.rm_sides.specs.Destination.Incoming.{forgotten as forgotten_by, passed as passed_by_one, without_passed}
use Rattle.rm_sides.specs.Destination.LooseLemmas.{has_number-without}
use Rattle.rm_sides.specs.Destination.Messages.{is_empty, numbers_of, without}
use Rattle.record_batch.specs.Fact.{Fact, Accepted, Received}
use Rattle.record_batch.specs.Sequences.Destinations.{behaviour_of, held, purged, received}
use Rattle.record_batch.specs.Sequences.Find.{accept_of}
use Rattle.record_batch.specs.Sequences.Fits.{all_fit}
use Rattle.record_batch.specs.Sequences.Makers.{Maker, Outgoing, Offered, Incoming, Taken, addresses_of, counter}
use Rattle.record_batch.specs.Sequences.Makers.{created}
use Rattle.record_batch.specs.Sequences.Makers.{maker, makers, number}
use Rattle.record_batch.specs.Sequences.Sources.{accepted, dropped}
use Rattle.record_batch.specs.Sequences.Told.{Side, Sends, Receives, Told, first_ticket, last_onto, receiving, sending}
use Rattle.record_batch.specs.Sequences.Told.{side_of}
use Rattle.record_batch.specs.Sequences.Told.{told_all, told_by}
use Rattle.record_batch.specs.Sequences.ToldLemmas.{same_receiving, same_sending, same_told}
use Rattle.record_batch.specs.Sequences.Words.{at_seq}
use Rattle.record_batch.specs.Snapshot.AckedLemmas.{dropped-now, more_}
use Rattle.record_batch.specs.Snapshot.FrameLemmas.{same_frame}
use Rattle.record_batch.specs.Snapshot.GotLemmas.{purged-new, purged-same, received-kept}
use Rattle.record_batch.specs.Snapshot.KeepLemmas.{snapshot-says}
use Rattle.record_batch.specs.Snapshot.PassedLemmas.{held-passed, without-no}
use Rattle.record_batch.specs.Snapshot.Same.{HaveProper, SaysTheSame}
use Rattle.record_batch.specs.Snapshot.SameLemmas.{frame-decides, unacked-is-equal}
use Rattle.record_batch.specs.Snapshot.Snapshot.{passed, settled, snapshot}
use Rattle.record_batch.specs.Snapshot.WalkLemmas.{snapshot-fits}
use Rattle.record_batch.specs.Snapshot.WrittenLemmas.{snapshot-is-proper}
use Rattle.node_tables.specs.Row.Row.{forgotten}
use Rattle.node_tables.specs.declared.note.Note.{Note}
use Rattle.node_tables.specs.declared.note.Note.TheVariants as note
use Rattle.node_tables.specs.Kept.{AllHeld, HavePlaces, Holds, IsHeld, IsShort, Table, accepted_count_in}
use Rattle.node_tables.specs.Kept.{accepted_in, all_forgotten, dropped_in, fact_at, no_row, payload_of, received_in}
use Rattle.node_tables.specs.Kept.{records_in, records_of, row_at}
use Rattle.node_tables.specs.Shorter.{IsRecorded}
use Rattle.node_tables.proofs.ForgetLemmas.{left_of}
use Rattle.node_tables.proofs.InsteadLemmas.{passed_at}
use Rattle.node_tables.proofs.RowsLemmas.{told-at}

-- what the shorter notes of tables are made from
pub recorded : (t : Table) → Holds t → IsRecorded t.kept t.rows t.notes
recorded t h = record { whole = h.whole_; held = h.held; places_ = h.places_; fit = h.fit; rows_ = h.rows_ }

-- ---- the rows

-- lists are equal where they are item by item
same-items : {A : Type 0} → (xs ys : List A) → ((i : ℕ) → slice_get xs i ≡ slice_get ys i) → xs ≡ ys
same-items [] [] each = refl
same-items [] (y ∷ ys) each = absurd (let e = each 0 in cc)
same-items (x ∷ xs) [] each = absurd (let e = each 0 in cc)
same-items {A} (x ∷ xs) (y ∷ ys) each =
    let first : x ≡ y = (let e = each 0 in cc) in
    ap (λ (z : A). z ∷ xs) first ∙ ap (λ (zs : List A). y ∷ zs) (same-items xs ys (λ i. each (suc i)))

module _ (both : UnionHasBoth) (ends : EndsAreRight) (only : SameNumbersSameRanges) (r : List Fact)
    (fit : all_fit [] r ≡ true) (proper : HaveProper r) where
  says : SaysTheSame (snapshot r) r
  says = snapshot-says both ends r fit proper

  -- of a sequence that sends
  sends-left : (s : ℕ) → sending (snapshot r) s ≡ settled_by (sending r s)
  sends-left s =
      let q = snapshot r in
      let now : dropped q s ≡ settled r s = dropped-now both ends r s fit proper in
      let more : dropped r s ≤ settled r s = more_ both ends r s fit proper in
      let most : settled r s ≡ max (dropped r s) (settled r s) = omega (arith, more) in
      let acks = unacked-is-equal both only q r (snapshot-fits both ends r fit proper)
      (snapshot-is-proper both ends r fit proper) fit proper says in
      same_sending _ _ _ _ _ _ _ _ ((frame-decides q r (same_frame r)).phase_ s) (now ∙ most)
      ((says.sent s).accepted_ ∙ ap (λ d. drop (d - dropped r s) (accepted r s)) now) (acks.united_ s)

  -- of one that receives, where some of the inbox was consumed, and where none was
  gets-some : (s : ℕ) (b : Behaviour) (d : Option ℕ) → is_empty (passed r s) ≡ false
      → receiving (snapshot r) s b d ≡ record (receiving r s b d) {
        purged = passed r s;
        received = without (passed r s) (received r s);
      }
  gets-some s b d some =
      let new = purged-new r s some [] r fit refl (held-passed r s some) in
      same_receiving b d _ _ _ _ _ _ _ _ _ _ new.0 (received-kept r s [] r) (says.got s).cursor_
      (ap (λ cs. at_seq s cs) says.frame.closes_) (ap (λ ns. at_seq s ns) says.frame.told_)

  gets-none : (s : ℕ) (b : Behaviour) (d : Option ℕ) → passed r s ≡ []
      → receiving (snapshot r) s b d ≡ receiving r s b d
  gets-none s b d is =
      same_receiving b d _ _ _ _ _ _ _ _ _ _ (purged-same r s is [] r).0
      (received-kept r s [] r ∙ ap (λ ps. without ps (received r s)) is ∙ without-no (received r s))
      (says.got s).cursor_
      (ap (λ cs. at_seq s cs) says.frame.closes_) (ap (λ ns. at_seq s ns) says.frame.told_)

  gets-left : (s : ℕ) (b : Behaviour) (d : Option ℕ) → behaviour_of (maker r s) ≡ b
      → receiving (snapshot r) s b d ≡ forgotten_by (receiving r s b d)
  gets-left s b d is =
      let same : passed_by_one (receiving r s b d) ≡ passed r s = ap (λ y. passed_at r s y) (sym is) in
      elim (cases_Bool (is_empty (passed r s))) [
        | inl none ↦
            gets-none s b d (nil_of (passed r s) none)
            ∙ sym (ap (λ ps. cond (is_empty ps) (receiving r s b d) (record (receiving r s b d) {
              purged = ps;
              received = without ps (received r s);
            })) same
            ∙ ap (λ t. cond t (receiving r s b d) (record (receiving r s b d) {
              purged = passed r s;
              received = without (passed r s) (received r s);
            })) none)
        | inr some ↦
            gets-some s b d some
            ∙ sym (ap (λ ps. cond (is_empty ps) (receiving r s b d) (record (receiving r s b d) {
              purged = ps;
              received = without ps (received r s);
            })) same
            ∙ ap (λ t. cond t (receiving r s b d) (record (receiving r s b d) {
              purged = passed r s;
              received = without (passed r s) (received r s);
            })) some)
      ]
    where
      nil_of : (ps : List Range) → is_empty ps ≡ true → ps ≡ []
      nil_of [] e = refl
      nil_of (p ∷ ps) e = absurd (cc)

  side-left : (s : ℕ) (m : Maker) → maker r s ≡ Some m → side_of (snapshot r) s m ≡ forgotten (side_of r s m)
  side-left s (Outgoing ticket to via lapse) there = ap (λ t. Sends t) (sends-left s)
  side-left s (Taken message_id ident endpoint) there = ap (λ t. Sends t) (sends-left s)
  side-left s (Incoming counter message_id acks_to behaviour deadline lapse) there =
      ap (λ t. Receives t) (gets-left s behaviour deadline (ap behaviour_of there))
  side-left s (Offered ticket counter to behaviour) there =
      ap (λ t. Receives t) (gets-left s behaviour None (ap behaviour_of there))

  told-left : (s : ℕ) (o : Option Maker) → maker r s ≡ o
      → option_map (λ (m : Maker). told_by (snapshot r) s m) o
      ≡ option_map left_of (option_map (λ (m : Maker). told_by r s m) o)
  told-left s None there = refl
  told-left s (Some m) there =
      ap (λ t. Some t) (same_told _ _ _ _
      (ap (λ ts. last_onto (first_ticket m) (at_seq s ts)) says.frame.tickets_) (side-left s m there))

  -- the rows of a snapshot are the rows without what nobody needs
  pub rows-left : told_all (snapshot r) ≡ all_forgotten (told_all r)
  rows-left = same-items (told_all (snapshot r)) (all_forgotten (told_all r)) (λ i.
      let place : i + 1 - 1 ≡ i = omega arith in
      let one : i + 1 ≡ 0 → ⊥ = λ e. absurd (omega (arith, e)) in
      let same : maker (snapshot r) (i + 1) ≡ maker r (i + 1) =
      ap (λ ms. numbered ms (i + 1)) (same_frame r).makers_ in
      ap (λ k. slice_get (told_all (snapshot r)) k) (sym place)
      ∙ told-at (snapshot r) (i + 1) one
      ∙ ap (λ o. option_map (λ (m : Maker). told_by (snapshot r) (i + 1) m) o) same
      ∙ told-left (i + 1) (maker r (i + 1)) refl
      ∙ ap (λ o. option_map left_of o) (sym (told-at r (i + 1) one))
      ∙ sym (slice_get-map left_of (told_all r) (i + 1 - 1))
      ∙ ap (λ k. slice_get (all_forgotten (told_all r)) k) place)

-- ---- the notes

row-left : (rows : List Told) (i : ℕ) → i < length rows
    → (row_at (all_forgotten rows) i).side ≡ forgotten (row_at rows i).side
row-left rows i lt = ap (λ (t : Told). t.side) (get_or-map left_of rows i no_row no_row lt)

get_or-drop : {A : Type 0} → (k : ℕ) (xs : List A) (i : ℕ) (d : A) → get_or (drop k xs) i d ≡ get_or xs (k + i) d
get_or-drop zero xs i d = ap (λ n. get_or xs n d) (let e : i ≡ 0 + i = omega arith in e)
get_or-drop (suc k) [] i d = refl
get_or-drop (suc k) (x ∷ xs) i d =
    get_or-drop k xs i d ∙ ap (λ n. get_or (x ∷ xs) n d) (let e : suc (k + i) ≡ suc k + i = omega arith in e)

payload-same : (x : Side) (n : ℕ) → dropped_in x < n → n ≤ accepted_count_in x → dropped_in (forgotten x) < n
    → get_or (accepted_in (forgotten x)) (n - (dropped_in (forgotten x) + 1)) []
    ≡ get_or (accepted_in x) (n - (dropped_in x + 1)) []
payload-same (Sends t) n above within past =
    let k = front_of t.acked - t.dropped in
    let place : k + (n - (max t.dropped (front_of t.acked) + 1)) ≡ n - (t.dropped + 1) = omega (arith, above, past) in
    get_or-drop k t.accepted (n - (max t.dropped (front_of t.acked) + 1)) []
    ∙ ap (λ i. get_or t.accepted i []) place
payload-same (Receives t) n above within past = absurd (omega (arith, above, within))

payload-without : (ps : List Range) (k : ℕ) (ms : List (ℕ × Payload)) → in_ranges ps k ≡ false
    → payload_of k (without ps ms) ≡ payload_of k ms
payload-without ps k [] out = refl
payload-without ps k (m ∷ ms) out = elim (cases_Bool (in_ranges ps m.0)) [
  | inl gone ↦
      let other : (m.0 == k) ≡ false = differs (cases_Bool (m.0 == k)) gone in
      ap (λ b. payload_of k (cond b (without ps ms) (m ∷ without ps ms))) gone
      ∙ payload-without ps k ms out
      ∙ sym (ap (λ b. cond b m.1 (payload_of k ms)) other)
  | inr there ↦
      ap (λ b. payload_of k (cond b (without ps ms) (m ∷ without ps ms))) there
      ∙ ap (λ p. cond (m.0 == k) m.1 p) (payload-without ps k ms out)
]
  where
    differs : ((m.0 == k) ≡ true) ⊎ ((m.0 == k) ≡ false) → in_ranges ps m.0 ≡ true → (m.0 == k) ≡ false
    differs (inl same) gone =
        absurd (true≢false (sym (ap (λ i. in_ranges ps i) (sym (eqb-true m.0 k same)) ∙ gone) ∙ out))
    differs (inr other) gone = other

message-same : (x : Side) (n : ℕ) → has_number (numbers_of (received_in (forgotten x))) n ≡ true
    → payload_of n (received_in (forgotten x)) ≡ payload_of n (received_in x)
message-same (Sends t) n has = refl
message-same (Receives t) n has = elim (cases_Bool (is_empty (passed_by_one t))) [
  | inl none ↦ ap (λ b. payload_of n (received_in (Receives (cond b t (without_passed t))))) none
  | inr some ↦
      let left : has_number (numbers_of (without (passed_by_one t) t.received)) n ≡ true =
      sym (ap (λ b. has_number (numbers_of (received_in (Receives (cond b t (without_passed t))))) n) some) ∙ has in
      let all = has_number-without (passed_by_one t) t.received n in
      let out : in_ranges (passed_by_one t) n ≡ false =
      not-in (in_ranges (passed_by_one t) n) (has_number (numbers_of t.received) n) (sym all ∙ left) in
      ap (λ b. payload_of n (received_in (Receives (cond b t (without_passed t))))) some
      ∙ payload-without (passed_by_one t) n t.received out
]
  where
    not-in : (a b : Bool) → (not a && b) ≡ true → a ≡ false
    not-in true b e = absurd (true≢false (sym e))
    not-in false b e = refl

note-left : (kept : List Fact) (rows : List Told) (n : Note) → IsHeld kept rows n → IsHeld kept (all_forgotten rows) n
    → fact_at kept (all_forgotten rows) n ≡ fact_at kept rows n
note-left kept rows (note.Kept place) h left = refl
note-left kept rows (note.Accepted row n) h left =
    let x = (row_at rows row).side in
    let same = row-left rows row h.0 in
    ap (λ p. Accepted (row + 1) p)
    (ap (λ (y : Side). get_or (accepted_in y) (n - (dropped_in y + 1)) []) same
    ∙ payload-same x n h.1 h.2 (omega (arith, left.1, ap dropped_in same)))
note-left kept rows (note.Received row n first) h left =
    let x = (row_at rows row).side in
    let same = row-left rows row h.0 in
    ap (λ p. Received (row + 1) n p)
    (ap (λ (y : Side). payload_of n (received_in y)) same
    ∙ message-same x n (sym (ap (λ (y : Side). has_number (numbers_of (received_in y)) n) same) ∙ left.1))
note-left kept rows _ h left = refl

notes-left : (kept : List Fact) (rows : List Told) (ns : List Note) → AllHeld kept rows ns
    → AllHeld kept (all_forgotten rows) ns → records_of kept (all_forgotten rows) ns ≡ records_of kept rows ns
notes-left kept rows [] h left = refl
notes-left kept rows (n ∷ ns) h left =
    ap (λ f. f ∷ records_of kept (all_forgotten rows) ns) (note-left kept rows n h.0 left.0)
    ∙ ap (λ fs. fact_at kept rows n ∷ fs) (notes-left kept rows ns h.1 left.1)

places-left : (kept : List Fact) (rows : List Told) (before : List Fact) (ns : List Note) → AllHeld kept rows ns
    → AllHeld kept (all_forgotten rows) ns → HavePlaces kept rows before ns
    → HavePlaces kept (all_forgotten rows) before ns
places-left kept rows before [] h left places = tt
places-left kept rows before (n ∷ ns) h left places = (
  places.0,
  subst (λ f. HavePlaces kept (all_forgotten rows) (before ++ f ∷ []) ns) (sym (note-left kept rows n h.0 left.0))
      (places-left kept rows (before ++ fact_at kept rows n ∷ []) ns h.1 left.1 places.1),
)

-- the records after it
pub records-left : (t : Table) (short : List Note) → IsShort t.kept t.rows t.notes short
    → records_of t.kept (all_forgotten t.rows) short ≡ snapshot (records_in t)
records-left t short is = notes-left t.kept t.rows short is.held is.left ∙ is.records

-- with the notes of a snapshot the tables hold the snapshot
pub compacted : UnionHasBoth → EndsAreRight → SameNumbersSameRanges → (t : Table) (short : List Note) → Holds t
    → IsShort t.kept t.rows t.notes short → Holds (record t { rows = all_forgotten t.rows; notes = short })
compacted both ends only t short h is =
    let r = records_in t in
    let now : records_of t.kept (all_forgotten t.rows) short ≡ snapshot r = records-left t short is in
    let frame = same_frame r in
    let facts = frame-decides (snapshot r) r frame in
    record {
      fit = ap (λ l. all_fit [] l) now ∙ snapshot-fits both ends r h.fit is.proper;
      rows_ =
          ap all_forgotten h.rows_ ∙ sym (rows-left both ends only r h.fit is.proper) ∙ sym (ap told_all now);
      makers_ = ap makers now ∙ frame.makers_ ∙ h.makers_;
      created_ = ap created now ∙ frame.created_ ∙ h.created_;
      number_ = h.number_ ∙ sym facts.number_ ∙ sym (ap number now);
      drawn_ = h.drawn_ ∙ sym facts.counter_ ∙ sym (ap counter now);
      addresses_ = ap (λ l. flat_map addresses_of l) now ∙ frame.addresses ∙ h.addresses_;
      accepts_ = ap (λ l. flat_map accept_of l) now ∙ frame.accepts ∙ h.accepts_;
      held = is.left;
      places_ = places-left t.kept t.rows [] short is.held is.left is.places_;
      origins_held = h.origins_held;
      named_held = h.named_held;
      origins_made = h.origins_made;
      named_given = h.named_given;
      whole_ = h.whole_;
    }

pub renoted : (t : Table) (rows rows2 : List Told) (notes notes2 : List Note) → rows2 ≡ rows → notes2 ≡ notes
    → Holds (record t { rows = rows; notes = notes }) → Holds (record t { rows = rows2; notes = notes2 })
renoted t rows rows2 notes notes2 a b h =
    subst (λ x. Holds (record t { rows = x; notes = notes2 })) (sym a)
    (subst (λ l. Holds (record t { rows = rows; notes = l })) (sym b) h)

pub recorded_so : (kept kept2 : List Fact) (rows rows2 : List Told) (notes notes2 : List Note) → kept2 ≡ kept
    → rows2 ≡ rows → notes2 ≡ notes → IsRecorded kept rows notes → IsRecorded kept2 rows2 notes2
recorded_so kept kept2 rows rows2 notes notes2 a b c is =
    subst (λ x. IsRecorded x rows2 notes2) (sym a)
    (subst (λ x. IsRecorded kept x notes2) (sym b) (subst (λ x. IsRecorded kept rows x) (sym c) is))

pub short_so : (kept kept2 : List Fact) (rows rows2 : List Told) (notes notes2 short : List Note) → kept2 ≡ kept
    → rows2 ≡ rows → notes2 ≡ notes → IsShort kept rows notes short → IsShort kept2 rows2 notes2 short
short_so kept kept2 rows rows2 notes notes2 short a b c is =
    subst (λ x. IsShort x rows2 notes2 short) (sym a)
    (subst (λ x. IsShort kept x notes2 short) (sym b) (subst (λ x. IsShort kept rows x short) (sym c) is))
