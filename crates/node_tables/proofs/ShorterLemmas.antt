-- The notes of a snapshot, met from the last to the first.
use Rattle.std.proofs.Common.{◌≡◌, ℕ, zero, suc, ◌+◌, ◌-◌, ◌<◌, ◌≤◌, ◌==◌, Bool, true, false, ◌&&◌, ◌||◌, cond, max}
use Rattle.std.proofs.Common.{List, [], ◌∷◌, ◌++◌, length, take, drop, reverse, get_or, set, refl, sym, ◌∙◌, ap, subst}
use Rattle.std.proofs.Common.{inl, inr, arith, append_assoc, Option, Some, None, IfSome}
use Rattle.std.specs.Prelude.{nat_le, slice_get}
use Rattle.std.proofs.lemmas.Option.{none-some}
use Rattle.std.specs.Option.{option_map, option_to_list}
use Rattle.std.specs.List.{AllByRecursion, flat_map, list_any}
use Rattle.std.proofs.Math.Seq.{drop-cons, take-suc}
use Rattle.std.proofs.lemmas.Bool.{cases_Bool, cases_eq, eq-eqb, false≢true, ne_eqb, true≢false}
use Rattle.std.proofs.lemmas.Bool.Decides.{nat_tests}
use Rattle.std.proofs.lemmas.Grind.{flat_map-append}
use Rattle.std.proofs.lemmas.List.{append-nil, drop_all, length-set, get_or-map, get_or-set_same, get_or-set_other}
use Rattle.std.proofs.lemmas.List.{length-map, map-append, reverse-append, take-append-drop}
use Rattle.rm_sides.specs.Ranges.Laws.{EndsAreRight, UnionHasBoth}
use Rattle.rm_sides.specs.Ranges.Ranges.{front_of, in_ranges}
use Rattle.rm_sides.specs.declared.ranges.range.Range.{Range}
use Rattle.rm_base.specs.NumberSet.{has_number}
use Rattle.rm_base.specs.Numbered.{numbered}
use Rattle.rm_sides.specs.Destination.Messages.{is_empty, numbers_in, numbers_of, without}
use Rattle.record_batch.specs.Fact.{Fact, Accepted, Dropped, Purged}
use Rattle.record_batch.specs.Sequences.Destinations.{held, purged, received}
use Rattle.record_batch.specs.Sequences.Fits.{all_fit, is_outgoing_side}
use Rattle.record_batch.specs.Sequences.Makers.{Maker, maker}
use Rattle.record_batch.specs.Sequences.Sources.{accepted_count, dropped_of}
use Rattle.record_batch.specs.Sequences.Told.{Told, told_by}
use Rattle.record_batch.specs.Snapshot.FitLemmas.{SoFar, count_so_far, so-far-on}
use Rattle.record_batch.specs.Snapshot.GotLemmas.{got_with, held-is, held-length, held-more, some-not}
use Rattle.record_batch.specs.Snapshot.PassedLemmas.{passed-some, without-no}
use Rattle.record_batch.specs.Snapshot.Same.{HasProper, HaveProper}
use Rattle.record_batch.specs.Snapshot.Snapshot.{acks, instead, passed, settled, snapshot_from}
use Rattle.record_batch.specs.Snapshot.WalkLemmas.{drops-settled, start}
use Rattle.node_tables.specs.declared.note.Note.{Note}
use Rattle.node_tables.specs.declared.note.Note.TheVariants as note
use Rattle.node_tables.specs.Kept.{AllHeld, AreWhole, HasPlace, HavePlaces, IsHeld, IsShort, all_forgotten, dropped_in}
use Rattle.node_tables.specs.Kept.{accepted_count_in, fact_at, is_whole, kept_at, no_row, received_in, records_of}
use Rattle.node_tables.specs.Kept.{row_at}
use Rattle.node_tables.specs.Kept.{told_in}
use Rattle.node_tables.specs.Shorter.{HasRow, IsFree, IsOwn, IsProperNote, IsPut, IsRecorded, acked_by, acked_in}
use Rattle.node_tables.specs.Shorter.{fact_ahead, fact_instead, marked, passed_by, passed_in, some_ranges, stays_as}
use Rattle.node_tables.specs.Row.Row.{forgotten}
use Rattle.node_tables.proofs.ApplyLemmas.{fits-next}
use Rattle.node_tables.proofs.InsteadLemmas.{IsAt, acked-known, acked-sends, accepted-sends, left-accepted}
use Rattle.node_tables.proofs.InsteadLemmas.{left-received}
use Rattle.node_tables.proofs.InsteadLemmas.{numbered-row, passed-known, received-from, received-receives, same-instead}
use Rattle.node_tables.proofs.InsteadLemmas.{whole_proper, whole_quiet}
use Rattle.node_tables.proofs.RowsLemmas.{told-there}

-- after the notes from a place on
pub record IsShortened (kept : List Fact) (rows : List Told) (notes : List Note) (k : ℕ) (seen : List Bool)
    (short : List Note) : Type 0 where
  pub within : k ≤ length notes
  pub len : length seen ≡ length rows
  pub marks : (s : ℕ) → 1 ≤ s → s ≤ length rows
      → get_or seen (s - 1) false ≡ list_any (acks s) (drop k (records_of kept rows notes))
  pub short_ : records_of kept rows (reverse short)
      ≡ snapshot_from (records_of kept rows notes) (take k (records_of kept rows notes))
      (drop k (records_of kept rows notes))
  pub held : AllHeld kept rows (reverse short)
  pub left : AllHeld kept (all_forgotten rows) (reverse short)
  pub placed : UnionHasBoth → EndsAreRight → HaveProper (records_of kept rows notes) → (q : List Fact)
      → SoFar (records_of kept rows notes) q (take k (records_of kept rows notes))
      → HavePlaces kept rows q (reverse short)
  pub proper : HaveProper (drop k (records_of kept rows notes))

-- ---- lists

all_held-append : (kept : List Fact) (rows : List Told) (xs ys : List Note) → AllHeld kept rows xs
    → AllHeld kept rows ys → AllHeld kept rows (xs ++ ys)
all_held-append kept rows [] ys all more = more
all_held-append kept rows (x ∷ xs) ys all more = (all.0, all_held-append kept rows xs ys all.1 more)

held-listed : (kept : List Fact) (rows : List Told) (o : Option Note) → IfSome o (IsHeld kept rows)
    → AllHeld kept rows (option_to_list o)
held-listed kept rows None h = tt
held-listed kept rows (Some n) h = (h, tt)

records-listed : (kept : List Fact) (rows : List Told) (o : Option Note)
    → records_of kept rows (option_to_list o) ≡ option_to_list (option_map (fact_at kept rows) o)
records-listed kept rows None = refl
records-listed kept rows (Some n) = refl

reverse-listed : (xs : List Note) (o : Option Note) → reverse (xs ++ option_to_list o) ≡ option_to_list o ++ reverse xs
reverse-listed xs None = ap (λ ys. reverse ys) (append-nil xs)
reverse-listed xs (Some n) = reverse-append xs (n ∷ [])

-- what is put behind others stands before them, once they are turned round
turned : (old new : List Note) (stands ahead : Option Note)
    → new ≡ (old ++ option_to_list stands) ++ option_to_list ahead
    → reverse new ≡ option_to_list ahead ++ (option_to_list stands ++ reverse old)
turned old new stands ahead is =
    ap (λ xs. reverse xs) is ∙ reverse-listed (old ++ option_to_list stands) ahead
    ∙ ap (λ xs. option_to_list ahead ++ xs) (reverse-listed old stands)

all_right : {A : Type 0} → (P : A → Type 0) (xs ys : List A) → AllByRecursion P (xs ++ ys) → AllByRecursion P ys
all_right P [] ys all = all
all_right P (x ∷ xs) ys all = all_right P xs ys all.1

all_left : {A : Type 0} → (P : A → Type 0) (xs ys : List A) → AllByRecursion P (xs ++ ys) → AllByRecursion P xs
all_left P [] ys all = tt
all_left P (x ∷ xs) ys all = (all.0, all_left P xs ys all.1)

-- the record of a note stands at its place
pub at_place : (kept : List Fact) (rows : List Told) (notes : List Note) (j : ℕ) (n : Note) → j < length notes
    → n ≡ get_or notes j n → get_or (records_of kept rows notes) j (fact_at kept rows n) ≡ fact_at kept rows n
at_place kept rows notes j n low is =
    get_or-map (fact_at kept rows) notes j n (fact_at kept rows n) low ∙ ap (fact_at kept rows) (sym is)

pub held_at : (kept : List Fact) (rows : List Told) (notes : List Note) (j : ℕ) (n : Note) → j < length notes
    → n ≡ get_or notes j n → AllHeld kept rows notes → IsHeld kept rows n
held_at kept rows [] j n low is held = absurd (omega (arith, low))
held_at kept rows (x ∷ notes) zero n low is held = subst (IsHeld kept rows) (sym is) held.0
held_at kept rows (x ∷ notes) (suc j) n low is held = held_at kept rows notes j n (omega (arith, low)) is held.1

place_at : (kept : List Fact) (rows : List Told) (before : List Fact) (notes : List Note) (j : ℕ) (n : Note)
    → j < length notes → n ≡ get_or notes j n → HavePlaces kept rows before notes
    → HasPlace (before ++ take j (records_of kept rows notes)) n
place_at kept rows before [] j n low is all = absurd (omega (arith, low))
place_at kept rows before (x ∷ notes) zero n low is all =
    subst (λ b. HasPlace b n) (sym (append-nil before)) (subst (HasPlace before) (sym is) all.0)
place_at kept rows before (x ∷ notes) (suc j) n low is all =
    let f = fact_at kept rows x in
    subst (λ b. HasPlace b n) (append_assoc before (f ∷ []) (take j (records_of kept rows notes)))
    (place_at kept rows (before ++ f ∷ []) notes j n (omega (arith, low)) is all.1)

whole_at : (kept : List Fact) (place : ℕ) → AreWhole kept → place < length kept → is_whole (kept_at kept place) ≡ true
whole_at [] place all low = absurd (omega (arith, low))
whole_at (f ∷ kept) zero all low = all.0
whole_at (f ∷ kept) (suc place) all low = whole_at kept place all.1 (omega (arith, low))

-- ---- one note

module _ (kept : List Fact) (rows : List Told) (notes : List Note) (recorded : IsRecorded kept rows notes) (j : ℕ)
    (n : Note) (low : j < length notes) (is : n ≡ get_or notes j n) where
  from_here : drop j (records_of kept rows notes) ≡ fact_at kept rows n ∷ drop (suc j) (records_of kept rows notes)
  from_here =
      drop-cons (records_of kept rows notes) j (fact_at kept rows n)
      (omega (arith, low, length-map notes (fact_at kept rows)))
      ∙ ap (λ f. f ∷ drop (suc j) (records_of kept rows notes)) (at_place kept rows notes j n low is)

  up_to_here : take (suc j) (records_of kept rows notes)
      ≡ take j (records_of kept rows notes) ++ fact_at kept rows n ∷ []
  up_to_here =
      take-suc (records_of kept rows notes) j (fact_at kept rows n)
      (omega (arith, low, length-map notes (fact_at kept rows)))
      ∙ ap (λ f. take j (records_of kept rows notes) ++ f ∷ []) (at_place kept rows notes j n low is)

  at_here : IsAt (records_of kept rows notes) (take j (records_of kept rows notes)) (fact_at kept rows n)
      (drop (suc j) (records_of kept rows notes))
  at_here =
      let r = records_of kept rows notes in
      let parts : r ≡ take j r ++ fact_at kept rows n ∷ drop (suc j) r =
      sym (take-append-drop j r) ∙ ap (λ xs. take j r ++ xs) from_here in
      record {
        parts = parts;
        fit = fits-next [] (take j r) (drop (suc j) r) (fact_at kept rows n)
            (ap (λ xs. all_fit [] xs) (sym parts) ∙ recorded.fit);
      }

  pub known_rows : (s : ℕ) → numbered rows s ≡ told_in (records_of kept rows notes) s
  known_rows s = ap (λ ts. numbered ts s) recorded.rows_ ∙ told-there (records_of kept rows notes) s

  held_here : IsHeld kept rows n
  held_here = held_at kept rows notes j n low is recorded.held

  place_here : HasPlace (take j (records_of kept rows notes)) n
  place_here = place_at kept rows [] notes j n low is recorded.places_

  whole_here : (place : ℕ) → n ≡ note.Kept place → is_whole (kept_at kept place) ≡ true
  whole_here place e = whole_at kept place recorded.whole (subst (IsHeld kept rows) e held_here)

-- ---- what is left of a note that stays

-- a payload that stays is behind those that are settled
payload-past : (y : Fact) (d n seq : ℕ) (text : List ℕ)
    → Some (Accepted seq text) ≡ cond (nat_le n d) (cond (n == 1) (Some (Dropped seq d)) None) (Some y) → d < n
payload-past y d n seq text e = elim (cases_Bool (nat_le n d)) [
  | inl le ↦ absurd (none (n == 1) (e ∙ ap (λ b. cond b (cond (n == 1) (Some (Dropped seq d)) None) (Some y)) le))
  | inr gt ↦ grind (arith, nat_tests, gt)
]
  where
    none : (b : Bool) → Some (Accepted seq text) ≡ cond b (Some (Dropped seq d)) None → ⊥
    none true h = absurd cc
    none false h = absurd cc

some-none : (x : Fact) → Some x ≡ None → ⊥
some-none x h = absurd cc

-- and a message that stays is none that was consumed
message-past : (ps : List Range) (n : ℕ) (x y : Fact) → Some x ≡ cond (in_ranges ps n) None (Some y)
    → in_ranges ps n ≡ false
message-past ps n x y e = elim (cases_Bool (in_ranges ps n)) [
  | inl gone ↦ absurd (some-none x (e ∙ ap (λ b. cond b None (Some y)) gone))
  | inr outside ↦ outside
]

row-forgotten : (rows : List Told) (i : ℕ) → i < length rows
    → (row_at (all_forgotten rows) i).side ≡ forgotten (row_at rows i).side
row-forgotten rows i lt =
    ap (λ (t : Told). t.side) (get_or-map (λ (t : Told). record t { side = forgotten t.side }) rows i no_row no_row lt)

held-stays : (kept : List Fact) (rows others : List Told) (n : Note) → IsHeld kept rows n
    → IsHeld kept rows (stays_as others n)
held-stays kept rows others (note.Kept place) h = h
held-stays kept rows others (note.Accepted row n) h = h
held-stays kept rows others (note.Received row n first) h = h
held-stays kept rows others _ h = tt

left-stays : (kept : List Fact) (rows : List Told) (seen : List Bool) (n : Note)
    → IsHeld kept rows n → ((row k : ℕ) (first : Bool) → n ≡ note.Received row k first → 0 < k)
    → Some (fact_at kept rows (stays_as rows n)) ≡ fact_instead kept rows seen n
    → IsHeld kept (all_forgotten rows) (stays_as rows n)
left-stays kept rows seen (note.Kept place) h from e = h
left-stays kept rows seen (note.Accepted row n) h from e =
    let x = (row_at rows row).side in
    let acked : front_of (acked_in (numbered rows (row + 1))) ≡ front_of (acked_by x) =
    ap (λ o. front_of (acked_in o)) (numbered-row rows row h.0) in
    let past = payload-past _ (front_of (acked_in (numbered rows (row + 1)))) n (row + 1) _ e in
    let left = left-accepted x n h.1 h.2 (omega (arith, past, acked)) in
    let same = row-forgotten rows row h.0 in (
      omega (arith, h.0, length-map rows (λ (t : Told). record t { side = forgotten t.side })),
      omega (arith, left.0, ap dropped_in same),
      omega (arith, left.1, ap accepted_count_in same),
    )
left-stays kept rows seen (note.Received row n first) h from e =
    let x = (row_at rows row).side in
    let passed_ : passed_in (numbered rows (row + 1)) ≡ passed_by x =
    ap passed_in (numbered-row rows row h.0) in
    let past = message-past (passed_in (numbered rows (row + 1))) n _ _ e in (
      omega (arith, h.0, length-map rows (λ (t : Told). record t { side = forgotten t.side })),
      ap (λ y. has_number (numbers_of (received_in y)) n) (row-forgotten rows row h.0)
          ∙ left-received x n h.1 (ap (λ ps. in_ranges ps n) (sym passed_) ∙ past),
    )
left-stays kept rows seen _ h from e = tt

-- ---- and its place behind the records of a snapshot

free-placed : (q : List Fact) (n : Note) → IsFree n → HasPlace q n
free-placed q (note.Kept place) free = tt
free-placed q (note.Accepted row n) free = absurd free
free-placed q (note.Received row n first) free = absurd free
free-placed q _ free = tt

free-held : (kept : List Fact) (rows : List Told) (n : Note) → IsFree n → IsHeld kept rows n
free-held kept rows (note.Kept place) free = absurd free
free-held kept rows (note.Accepted row n) free = absurd free
free-held kept rows (note.Received row n first) free = absurd free
free-held kept rows _ free = tt

count-same : (d k : ℕ) → d ≤ k → count_so_far d k ≡ k
count-same d k le = elim (cases_eq k 0) [
  | inl none ↦ grind (arith, nat_tests, none)
  | inr some ↦ (let same : max d k ≡ k = omega (arith, le) in grind (arith, nat_tests, some, same))
]

and_so : (b : Bool) (ps : List Range) → is_empty ps ≡ true → (b && is_empty ps) ≡ b
and_so true ps e = e
and_so false ps e = refl

and_not : (b : Bool) (ps : List Range) → is_empty ps ≡ false → (b && is_empty ps) ≡ false
and_not true ps e = e
and_not false ps e = refl

nil_of : (ps : List Range) → is_empty ps ≡ true → ps ≡ []
nil_of [] e = refl
nil_of (p ∷ ps) e = absurd (cc)

some_of : (fact : List Range → Fact) (ps : List Range) → is_empty ps ≡ false → some_ranges fact ps ≡ Some (fact ps)
some_of fact ps e = ap (λ b. cond b None (Some (fact ps))) e

-- the messages before it, where none were consumed
module _ (r q before : List Fact) (so : SoFar r q before) (s : ℕ) where
  held-same : passed r s ≡ [] → held q s ≡ held before s
  held-same none =
      held-is q s
      ∙ ap (λ ps. numbers_in ps ++ numbers_of (received q s)) ((so.got_ s).purged_none none)
      ∙ ap (λ ms. numbers_in (purged before s) ++ numbers_of ms)
      ((so.got_ s).received_ ∙ ap (λ ps. without ps (received before s)) none ∙ without-no (received before s))
      ∙ sym (held-is before s)

  -- and where some were, and the numbers of these stand before it
  held-some : is_empty (passed r s) ≡ false
      → is_empty (held (q
      ++ option_to_list (cond (is_empty (held before s)) (some_ranges (Purged s) (passed r s)) None)) s)
      ≡ false
  held-some some = elim (cases_Bool (is_empty (held before s))) [
    | inl fresh ↦
        ap (λ b. is_empty (held (q ++ option_to_list (cond b (some_ranges (Purged s) (passed r s)) None)) s)) fresh
        ∙ ap (λ o. is_empty (held (q ++ option_to_list o) s)) (some_of (Purged s) (passed r s) some)
        ∙ some-not (held (q ++ Purged s (passed r s) ∷ []) s)
        (omega (
          arith,
          held-more q (Purged s (passed r s)) s,
          ap (λ ps. length (numbers_in ps)) (got_with s (passed r s)),
          passed-some r s some,
        ))
    | inr older ↦
        ap (λ b. is_empty (held (q ++ option_to_list (cond b (some_ranges (Purged s) (passed r s)) None)) s)) older
        ∙ ap (λ q2. is_empty (held q2 s)) (append-nil q)
        ∙ some-not (held q s)
        (omega (
          arith,
          held-length q s,
          ap (λ ps. length (numbers_in ps)) ((so.got_ s).purged_some some
              ∙ ap (λ b. cond b [] (passed r s)) older),
          passed-some r s some,
        ))
  ]

stays-placed : (kept : List Fact) (rows : List Told) (seen : List Bool) (r q before behind : List Fact) (n : Note)
    → SoFar r q before → ((s : ℕ) → numbered rows s ≡ told_in r s) → IsAt r before (fact_at kept rows n) behind
    → HasPlace before n → Some (fact_at kept rows (stays_as rows n)) ≡ fact_instead kept rows seen n
    → HasPlace (q ++ option_to_list (fact_ahead rows n)) (stays_as rows n)
stays-placed kept rows seen r q before behind (note.Accepted row n) so known at has e =
    let s = row + 1 in
    let d : front_of (acked_in (numbered rows s)) ≡ settled r s =
    ap (λ o. front_of (acked_in o)) (known s)
    ∙ ap front_of (acked-known r s (accepted-sends r before behind s _ at)) in
    let past = payload-past _ (front_of (acked_in (numbered rows s))) n s _ e in
    let count : accepted_count q s ≡ accepted_count before s =
    so.count_ s ∙ count-same (settled r s) (accepted_count before s) (omega (arith, past, d, has)) in
    has ∙ ap (λ k. k + 1) (sym count) ∙ ap (λ q2. accepted_count q2 s + 1) (sym (append-nil q))
stays-placed kept rows seen r q before behind (note.Received row n first) so known at has e =
    let s = row + 1 in
    let is : passed_in (numbered rows s) ≡ passed r s =
    ap passed_in (known s) ∙ passed-known r s (received-receives r before behind s n _ at) in
    ap (λ ps. first && is_empty ps) is
    ∙ elim (cases_Bool (is_empty (passed r s))) [
      | inl none ↦
          and_so first (passed r s) none ∙ has
          ∙ ap (λ ns. is_empty ns) (sym (held-same r q before so s (nil_of (passed r s) none)))
          ∙ ap (λ q2. is_empty (held q2 s)) (sym (append-nil q))
          ∙ ap (λ o. is_empty (held (q ++ option_to_list o) s)) (no-ahead first (passed r s) none)
      | inr some ↦
          and_not first (passed r s) some
          ∙ sym (ap (λ b. is_empty (held (q
          ++ option_to_list (cond b (some_ranges (Purged s) (passed r s)) None)) s)) has
          ∙ held-some r q before so s some)
    ]
    ∙ ap (λ ps. is_empty (held (q ++ option_to_list (cond first (some_ranges (Purged s) ps) None)) s)) (sym is)
  where
    no-ahead : (b : Bool) (ps : List Range) → is_empty ps ≡ true
        → None ≡ cond b (some_ranges (Purged (row + 1)) ps) None
    no-ahead true [] e = refl
    no-ahead true (p ∷ ps) e = absurd (cc)
    no-ahead false ps e = refl
stays-placed kept rows seen r q before behind _ so known at has e = tt

own-placed : (kept : List Fact) (rows : List Told) (seen : List Bool) (r q before behind : List Fact) (n : Note)
    (o : Option Note) → SoFar r q before → ((s : ℕ) → numbered rows s ≡ told_in r s)
    → IsAt r before (fact_at kept rows n) behind → HasPlace before n → IfSome o (IsOwn rows n)
    → option_map (fact_at kept rows) o ≡ fact_instead kept rows seen n
    → IfSome o (HasPlace (q ++ option_to_list (fact_ahead rows n)))
own-placed kept rows seen r q before behind n None so known at has own e = tt
own-placed kept rows seen r q before behind n (Some x) so known at has own e = elim own [
  | inl free ↦ free-placed (q ++ option_to_list (fact_ahead rows n)) x free
  | inr same ↦
      subst (HasPlace (q ++ option_to_list (fact_ahead rows n))) (sym same)
      (stays-placed kept rows seen r q before behind n so known at has
      (ap (λ y. Some (fact_at kept rows y)) (sym same) ∙ e))
]

own-left : (kept : List Fact) (rows : List Told) (seen : List Bool) (n : Note) (o : Option Note) → IsHeld kept rows n
    → ((row k : ℕ) (first : Bool) → n ≡ note.Received row k first → 0 < k) → IfSome o (IsOwn rows n)
    → option_map (fact_at kept rows) o ≡ fact_instead kept rows seen n
    → IfSome o (IsHeld kept (all_forgotten rows))
own-left kept rows seen n None h from own e = tt
own-left kept rows seen n (Some x) h from own e = elim own [
  | inl free ↦ free-held kept (all_forgotten rows) x free
  | inr same ↦
      subst (IsHeld kept (all_forgotten rows)) (sym same)
      (left-stays kept rows seen n h from (ap (λ y. Some (fact_at kept rows y)) (sym same) ∙ e))
]

own-held : (kept : List Fact) (rows : List Told) (n : Note) (o : Option Note) → IsHeld kept rows n
    → IfSome o (IsOwn rows n) → IfSome o (IsHeld kept rows)
own-held kept rows n None h own = tt
own-held kept rows n (Some x) h own = elim own [
  | inl free ↦ free-held kept rows x free
  | inr same ↦ subst (IsHeld kept rows) (sym same) (held-stays kept rows rows n h)
]

free-all : (kept : List Fact) (rows : List Told) (o : Option Note) → IfSome o IsFree → IfSome o (IsHeld kept rows)
free-all kept rows None free = tt
free-all kept rows (Some x) free = free-held kept rows x free

-- the notes that are put before others have their places
placed-put : (kept : List Fact) (rows : List Told) (q : List Fact) (ahead stands : Option Note) (rest : List Note)
    → IfSome ahead IsFree → IfSome stands (HasPlace (q ++ option_to_list (option_map (fact_at kept rows) ahead)))
    → HavePlaces kept rows ((q ++ option_to_list (option_map (fact_at kept rows) ahead))
    ++ option_to_list (option_map (fact_at kept rows) stands)) rest
    → HavePlaces kept rows q (option_to_list ahead ++ (option_to_list stands ++ rest))
placed-put kept rows q None None rest free place others =
    subst (λ b. HavePlaces kept rows b rest) (append-nil (q ++ []) ∙ append-nil q) others
placed-put kept rows q None (Some x) rest free place others = (
  subst (λ b. HasPlace b x) (append-nil q) place,
  subst (λ b. HavePlaces kept rows (b ++ fact_at kept rows x ∷ []) rest) (append-nil q) others,
)
placed-put kept rows q (Some a) None rest free place others = (
  free-placed q a free,
  subst (λ b. HavePlaces kept rows b rest) (append-nil (q ++ fact_at kept rows a ∷ [])) others,
)
placed-put kept rows q (Some a) (Some x) rest free place others = (free-placed q a free, (place, others))

-- ---- the loop

inside : {A : Type 0} (xs : List A) (i : ℕ) (x : A) → slice_get xs i ≡ Some x → i < length xs
inside [] i x e = absurd (none-some x e)
inside (y ∷ xs) zero x e = omega arith
inside (y ∷ xs) (suc i) x e = let rest = inside xs i x e in omega (arith, rest)

told-some : (r : List Fact) (s : ℕ) (o : Option Maker) → is_outgoing_side o ≡ true
    → (t : Told) × (option_map (λ (m : Maker). told_by r s m) o ≡ Some t)
told-some r s None e = absurd (true≢false (sym e))
told-some r s (Some m) e = (told_by r s m, refl)

row-within : (rows : List Told) (s : ℕ) (t : Told) → numbered rows s ≡ Some t → (1 ≤ s) × (s ≤ length rows)
row-within rows s t e = elim (cases_eq s 0) [
  | inl none ↦ absurd (none-some t (sym (ap (λ k. numbered rows k) none) ∙ e))
  | inr some ↦
      let low = inside rows (s - 1) t (sym (ap (λ b. cond b None (slice_get rows (s - 1))) (ne_eqb s 0 some)) ∙ e) in
      (omega (arith, some), omega (arith, low, some))
]

-- an Acked note's sequence has a row, and so have notes of messages
pub has_row : (kept : List Fact) (rows : List Told) (notes : List Note) (j : ℕ) (n : Note) → j < length notes
    → n ≡ get_or notes j n → IsRecorded kept rows notes → HasRow (length rows) n
has_row kept rows notes j (note.Acked seq numbers) low is recorded =
    let r = records_of kept rows notes in
    let at = at_here kept rows notes recorded j (note.Acked seq numbers) low is in
    let sends = acked-sends r (take j r) (drop (suc j) r) seq numbers.ranges at in
    let told = told-some r seq (maker r seq) sends in
    row-within rows seq told.0 (known_rows kept rows notes recorded j (note.Acked seq numbers) low is seq ∙ told.1)
has_row kept rows notes j (note.Accepted row n) low is recorded =
    (held_at kept rows notes j (note.Accepted row n) low is recorded.held).0
has_row kept rows notes j (note.Received row n first) low is recorded =
    (held_at kept rows notes j (note.Received row n first) low is recorded.held).0
has_row kept rows notes j _ low is recorded = tt

not-first : (kept : List Fact) (rows : List Told) (notes : List Note) (recorded : IsRecorded kept rows notes) (j : ℕ)
    (n : Note) (low : j < length notes) (is : n ≡ get_or notes j n) (row k : ℕ) (first : Bool)
    → n ≡ note.Received row k first → 0 < k
not-first kept rows notes recorded j n low is row k first e =
    let r = records_of kept rows notes in
    let m = note.Received row k first in
    let at : m ≡ get_or notes j m = sym e ∙ is ∙ same notes j n m low in
    received-from r (take j r) (drop (suc j) r) (row + 1) k _ (at_here kept rows notes recorded j m low at)
  where
    same : (xs : List Note) (i : ℕ) (a b : Note) → i < length xs → get_or xs i a ≡ get_or xs i b
    same [] i a b lt = absurd (omega (arith, lt))
    same (x ∷ xs) zero a b lt = refl
    same (x ∷ xs) (suc i) a b lt = same xs i a b (omega (arith, lt))

-- the marks after one more note
marks-more : (kept : List Fact) (rows : List Told) (seen : List Bool) (behind : List Fact) (n : Note)
    → length seen ≡ length rows → HasRow (length rows) n
    → ((place : ℕ) → n ≡ note.Kept place → is_whole (kept_at kept place) ≡ true)
    → ((s : ℕ) → 1 ≤ s → s ≤ length rows → get_or seen (s - 1) false ≡ list_any (acks s) behind)
    → (s : ℕ) → 1 ≤ s → s ≤ length rows
    → get_or (marked seen n) (s - 1) false ≡ list_any (acks s) (fact_at kept rows n ∷ behind)
marks-more kept rows seen behind (note.Acked seq numbers) len there whole met s from within =
    let place : seq - 1 < length seen = omega (arith, there.0, there.1, len) in
    elim (cases_eq s seq) [
      | inl same ↦
          ap (λ k. get_or (set seen (seq - 1) true) (k - 1) false) same
          ∙ get_or-set_same seen (seq - 1) true false place
          ∙ sym (ap (λ b. b || list_any (acks s) behind) (eq-eqb seq s (sym same)))
      | inr differ ↦
          get_or-set_other seen (seq - 1) (s - 1) true false (λ same. differ (omega (arith, same, from, there.0)))
          ∙ met s from within
          ∙ sym (ap (λ b. b || list_any (acks s) behind) (ne_eqb seq s (λ same. differ (sym same))))
    ]
marks-more kept rows seen behind (note.Kept place) len there whole met s from within =
    met s from within
    ∙ sym (ap (λ b. b || list_any (acks s) behind) (whole_quiet (kept_at kept place) (whole place refl) s))
marks-more kept rows seen behind _ len there whole met s from within = met s from within

-- each range of its numbers has a number
proper-more : (kept : List Fact) (rows : List Told) (n : Note) → IsProperNote n
    → ((place : ℕ) → n ≡ note.Kept place → is_whole (kept_at kept place) ≡ true) → HasProper (fact_at kept rows n)
proper-more kept rows (note.Acked seq numbers) is whole = is
proper-more kept rows (note.Kept place) is whole = whole_proper (kept_at kept place) (whole place refl)
proper-more kept rows _ is whole = tt

-- what was marked, at an Acked note
met-at : (kept : List Fact) (rows : List Told) (seen : List Bool) (behind : List Fact) (n : Note)
    → HasRow (length rows) n → ((place : ℕ) → n ≡ note.Kept place → is_whole (kept_at kept place) ≡ true)
    → ((s : ℕ) → 1 ≤ s → s ≤ length rows → get_or seen (s - 1) false ≡ list_any (acks s) behind)
    → (seq : ℕ) → acks seq (fact_at kept rows n) ≡ true → get_or seen (seq - 1) false ≡ list_any (acks seq) behind
met-at kept rows seen behind (note.Acked seq numbers) there whole met s e =
    let same : seq ≡ s = grind (arith, nat_tests, e) in
    met s (omega (arith, same, there.0)) (omega (arith, same, there.1))
met-at kept rows seen behind (note.Kept place) there whole met s e =
    absurd (true≢false (sym e ∙ whole_quiet (kept_at kept place) (whole place refl) s))
met-at kept rows seen behind _ there whole met s e = absurd (false≢true e)

-- one note more
pub shortened_more : (kept : List Fact) (rows : List Told) (notes : List Note) → IsRecorded kept rows notes → (j : ℕ)
    (seen seen2 : List Bool) (short short2 : List Note) (n : Note) → j < length notes
    → IsShortened kept rows notes (suc j) seen short → n ≡ get_or notes j n → seen2 ≡ marked seen n
    → IsPut rows seen n short short2 → IsProperNote n → IsShortened kept rows notes j seen2 short2
shortened_more kept rows notes recorded j seen seen2 short short2 n low so_far is marks put proper =
    let r = records_of kept rows notes in
    let f = fact_at kept rows n in
    let before = take j r in
    let behind = drop (suc j) r in
    let here : drop j r ≡ f ∷ behind = from_here kept rows notes recorded j n low is in
    let next : take (suc j) r ≡ before ++ f ∷ [] = up_to_here kept rows notes recorded j n low is in
    let at = at_here kept rows notes recorded j n low is in
    let known = known_rows kept rows notes recorded j n low is in
    let has = place_here kept rows notes recorded j n low is in
    let h = held_here kept rows notes recorded j n low is in
    let whole = whole_here kept rows notes recorded j n low is in
    let row = has_row kept rows notes j n low is recorded in
    let fresh = not-first kept rows notes recorded j n low is in
    let facts : option_to_list (option_map (fact_at kept rows) put.ahead)
    ++ option_to_list (option_map (fact_at kept rows) put.stands) ≡ instead r before f behind =
    ap (λ o. option_to_list o ++ option_to_list (option_map (fact_at kept rows) put.stands)) (put.before kept)
    ∙ ap (λ o. option_to_list (fact_ahead rows n) ++ option_to_list o) (put.fact kept)
    ∙ same-instead kept rows seen r before behind n known at has
    (met-at kept rows seen behind n row whole so_far.marks) whole in
    let order : reverse short2 ≡ option_to_list put.ahead ++ (option_to_list put.stands ++ reverse short) =
    turned short short2 put.stands put.ahead put.is in
    record {
      within = omega (arith, low);
      len = ap length marks ∙ marked-length seen n ∙ so_far.len;
      marks = λ s from within.
          ap (λ l. get_or l (s - 1) false) marks
          ∙ marks-more kept rows seen behind n so_far.len row whole so_far.marks s from within
          ∙ sym (ap (λ l. list_any (acks s) l) here);
      short_ =
          ap (λ l. records_of kept rows l) order
          ∙ map-append (fact_at kept rows) (option_to_list put.ahead) (option_to_list put.stands ++ reverse short)
          ∙ ap (λ l. records_of kept rows (option_to_list put.ahead) ++ l)
          (map-append (fact_at kept rows) (option_to_list put.stands) (reverse short))
          ∙ ap (λ l. l ++ (records_of kept rows (option_to_list put.stands) ++ records_of kept rows (reverse short)))
          (records-listed kept rows put.ahead)
          ∙ ap (λ l. option_to_list (option_map (fact_at kept rows) put.ahead)
          ++ (l ++ records_of kept rows (reverse short)))
          (records-listed kept rows put.stands)
          ∙ sym (append_assoc (option_to_list (option_map (fact_at kept rows) put.ahead))
          (option_to_list (option_map (fact_at kept rows) put.stands)) (records_of kept rows (reverse short)))
          ∙ ap (λ l. l ++ records_of kept rows (reverse short)) facts
          ∙ ap (λ l. instead r before f behind ++ l) (so_far.short_ ∙ ap (λ l. snapshot_from r l behind) next)
          ∙ sym (ap (λ l. snapshot_from r before l) here);
      held = subst (AllHeld kept rows) (sym order)
          (all_held-append kept rows (option_to_list put.ahead) _
          (held-listed kept rows put.ahead (free-all kept rows put.ahead put.free))
          (all_held-append kept rows (option_to_list put.stands) _
          (held-listed kept rows put.stands (own-held kept rows n put.stands h put.own)) so_far.held));
      left = subst (AllHeld kept (all_forgotten rows)) (sym order)
          (all_held-append kept (all_forgotten rows) (option_to_list put.ahead) _
          (held-listed kept (all_forgotten rows) put.ahead (free-all kept (all_forgotten rows) put.ahead put.free))
          (all_held-append kept (all_forgotten rows) (option_to_list put.stands) _
          (held-listed kept (all_forgotten rows) put.stands
          (own-left kept rows seen n put.stands h fresh put.own (put.fact kept))) so_far.left));
      placed = λ both ends all q so.
          let big : (s : ℕ) → AllByRecursion (λ (u : ℕ). u ≤ settled r s) (dropped_of s f) = λ s.
          all_left (λ (u : ℕ). u ≤ settled r s) (dropped_of s f) (flat_map (dropped_of s) behind)
          (all_right (λ (u : ℕ). u ≤ settled r s) (flat_map (dropped_of s) before)
          (flat_map (dropped_of s) (f ∷ behind))
          (subst (AllByRecursion (λ (u : ℕ). u ≤ settled r s))
          (ap (λ l. flat_map (dropped_of s) l) at.parts ∙ flat_map-append (dropped_of s) before (f ∷ behind))
          (drops-settled both ends r recorded.fit all s))) in
          let on = so-far-on r q before f behind at.fit big so in
          let rest = so_far.placed both ends all (q ++ instead r before f behind)
          (subst (SoFar r (q ++ instead r before f behind)) (sym next) on) in
          let ahead = option_to_list (option_map (fact_at kept rows) put.ahead) in
          let stands = option_to_list (option_map (fact_at kept rows) put.stands) in
          subst (HavePlaces kept rows q) (sym order)
          (placed-put kept rows q put.ahead put.stands (reverse short) put.free
          (subst (λ o. IfSome put.stands (HasPlace (q ++ option_to_list o))) (sym (put.before kept))
          (own-placed kept rows seen r q before behind n put.stands so known at has put.own (put.fact kept)))
          (subst (λ b. HavePlaces kept rows b (reverse short))
          (ap (λ l. q ++ l) (sym facts) ∙ sym (append_assoc q ahead stands)) rest));
      proper = subst HaveProper (sym here) (proper-more kept rows n proper whole, so_far.proper);
    }
  where
    marked-length : (seen : List Bool) (n : Note) → length (marked seen n) ≡ length seen
    marked-length seen (note.Acked seq numbers) = length-set seen (seq - 1) true
    marked-length seen _ = refl

-- none was met, and none was left
pub shortened_none : (kept : List Fact) (rows : List Told) (notes : List Note) (seen : List Bool)
    → length seen ≡ length rows → ((i : ℕ) → get_or seen i false ≡ false)
    → IsShortened kept rows notes (length notes) seen []
shortened_none kept rows notes seen len none =
    let r = records_of kept rows notes in
    let size : length r ≡ length notes = length-map notes (fact_at kept rows) in
    let rest : drop (length notes) r ≡ [] =
    drop_all (length notes) r (omega (arith, size)) in
    record {
      within = omega arith;
      len = len;
      marks = λ s from within. none (s - 1) ∙ sym (ap (λ l. list_any (acks s) l) rest);
      short_ = sym (ap (λ l. snapshot_from r (take (length notes) r) l) rest);
      held = tt;
      left = tt;
      placed = λ both ends all q so. tt;
      proper = subst HaveProper (sym rest) tt;
    }

-- all of them were met
pub shortened_all : UnionHasBoth → EndsAreRight → (kept : List Fact) (rows : List Told) (notes : List Note)
    (seen : List Bool) (short : List Note) → IsRecorded kept rows notes → IsShortened kept rows notes 0 seen short
    → IsShort kept rows notes (reverse short)
shortened_all both ends kept rows notes seen short recorded all = record {
  records = all.short_;
  held = all.held;
  left = all.left;
  places_ =
      all.placed both ends all.proper [] (start both ends (records_of kept rows notes) recorded.fit all.proper);
  proper = all.proper;
}
