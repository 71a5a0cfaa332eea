-- Notes go on telling the same records.
use Rattle.std.proofs.Common.{◌≡◌, ℕ, zero, suc, ◌+◌, ◌-◌, ◌<◌, ◌≤◌, true, cond, List, [], ◌∷◌}
use Rattle.std.proofs.Common.{◌++◌, length, get_or, map, refl, sym, ap, subst, ◌∙◌, arith, inl, inr, append_assoc}
use Rattle.std.proofs.lemmas.Bool.{and_from, and_parts, cases_eq, eqb-true, ne_eqb}
use Rattle.std.specs.Prelude.{◌&&◌, ◌==◌, ◌⊎◌, nat_le}
use Rattle.std.specs.List.{flat_map}
use Rattle.std.proofs.lemmas.List.{append-nil, get_or_append_left, length-append, length-map, map-append}
use Rattle.std.proofs.lemmas.List.Concat.{flat_map-append}
use Rattle.rm_base.specs.NumberSet.{has_number}
use Rattle.rm_base.specs.declared.message.Payload.{Payload}
use Rattle.rm_sides.specs.Destination.Messages.{numbers_of}
use Rattle.record_batch.specs.Fact.{Fact, Accepted, Received, Dropped}
use Rattle.rm_base.specs.Message.{max_number}
use Rattle.rm_sides.specs.Source.Outgoing.{accepted_count}
use Rattle.record_batch.specs.Sequences.Makers.{addresses_of, makers, makers_of, created, created_of, draws_of, counter}
use Rattle.record_batch.specs.Sequences.Makers.{number}
use Rattle.record_batch.specs.Sequences.Find.{accept_of}
use Rattle.record_batch.specs.Sequences.GatherLemmas.{flat_map-more}
use Rattle.record_batch.specs.Sequences.Sources.{accepted_of, dropped_of}
use Rattle.record_batch.specs.Sequences.Words.{last_or}
use Rattle.node_tables.specs.Row.Row.{takes}
use Rattle.record_batch.specs.Sequences.Destinations.{received_of}
use Rattle.record_batch.specs.Sequences.Fits.{fits, all_fit, follows}
use Rattle.record_batch.specs.Sequences.OneMore.{number_after}
use Rattle.record_batch.specs.Sequences.Told.{Told, Side, Sends, Receives, begun, after, side_after, each_after}
use Rattle.record_batch.specs.Sequences.Told.{told_all}
use Rattle.record_batch.specs.Sequences.NodeLemmas.{one_more}
use Rattle.record_batch.specs.Sequences.RowLemmas.{told_all-more}
use Rattle.node_tables.specs.declared.note.Note.{Note}
use Rattle.node_tables.specs.declared.note.Note.TheVariants as note
use Rattle.node_tables.specs.declared.note.Origin.{Origin}
use Rattle.node_tables.specs.declared.note.Named.{Named}
use Rattle.node_tables.specs.Kept.{AreWhole, accepted_count_in, accepted_in, dropped_in, received_in, no_fact, no_row}
use Rattle.node_tables.specs.Kept.{fact_at, kept_at, payload_of, row_at, HasPlace, HavePlaces}
use Rattle.node_tables.specs.Kept.{records_of, IsHeld, AllHeld, no_maker, ident_given, maker_at, named_at, AreWithin}
use Rattle.node_tables.specs.Kept.{origins_of, names_of, Table, records_in, Holds, AreMade, AreGiven, gives_ident}
use Rattle.node_tables.specs.Kept.{accept_at}
use Rattle.node_tables.proofs.MessageLemmas.{has_number-append, payload_of-append}
use Rattle.node_tables.proofs.RowsLemmas.{row-taken}

-- what one more record adds to what is kept: records that are kept whole, its note, the origins of the sequences that
-- it makes, and the identifiers that it gives
pub record Added : Type 0 where
  pub whole : List Fact
  pub note_ : Note
  pub makes : List Origin
  pub gives : List Named

-- what is kept after one more record
abbrev pub with_record : Table → Fact → Added → Table
with_record t f a = record {
  kept = t.kept ++ a.whole;
  rows = each_after 0 t.rows f ++ map begun (makers_of f);
  notes = t.notes ++ a.note_ ∷ [];
  origins = t.origins ++ a.makes;
  named = t.named ++ a.gives;
  number_ = number_after t.number_ f;
  drawn = t.drawn + length (draws_of f);
}

-- what is added tells the record
pub record Tells (t : Table) (f : Fact) (a : Added) : Type 0 where
  pub note_ : fact_at (with_record t f a).kept (with_record t f a).rows a.note_ ≡ f
  pub held : IsHeld (with_record t f a).kept (with_record t f a).rows a.note_
  pub place : HasPlace (records_in t) a.note_
  pub makes : map (maker_at (with_record t f a).kept) a.makes ≡ makers_of f
  pub gives : map (named_at (with_record t f a).kept) a.gives ≡ created_of (length t.origins) f
  pub makes_held : AreWithin (length (with_record t f a).kept) (origins_of a.makes)
  pub gives_held : AreWithin (length (with_record t f a).kept) (names_of a.gives)
  pub made : AreMade (with_record t f a).kept a.makes
  pub given : AreGiven (with_record t f a).kept a.gives
  pub addresses : flat_map addresses_of a.whole ≡ addresses_of f
  pub accepts : flat_map (accept_at (with_record t f a).kept) a.gives ≡ accept_of f
  pub whole_ : AreWhole a.whole

pub length-each_after : (k : ℕ) (ts : List Told) (f : Fact) → length (each_after k ts f) ≡ length ts
length-each_after k [] f = refl
length-each_after k (t ∷ ts) f =
    let rest : length (each_after (k + 1) ts f) ≡ length ts = length-each_after (k + 1) ts f in omega (arith, rest)

each_after-at : (k : ℕ) (ts : List Told) (f : Fact) (i : ℕ) → i < length ts
    → row_at (each_after k ts f) i ≡ after (k + i + 1) (row_at ts i) f
each_after-at k [] f i lt = absurd (omega (arith, lt))
each_after-at k (t ∷ ts) f zero lt = ap (λ n. after n t f) (let e : k + 1 ≡ k + 0 + 1 = omega arith in e)
each_after-at k (t ∷ ts) f (suc i) lt =
    let rest : row_at (each_after (k + 1) ts f) i ≡ after (k + 1 + i + 1) (row_at ts i) f =
    each_after-at (k + 1) ts f i (omega (arith, lt)) in
    rest ∙ ap (λ n. after n (row_at ts i) f) (let e : k + 1 + i + 1 ≡ k + suc i + 1 = omega arith in e)

-- what a record adds to the payloads of a side
abbrev pub accepted_by : ℕ → Side → Fact → List (List ℕ)
accepted_by s (Sends t) f = accepted_of s f
accepted_by s (Receives t) f = []

accepted_after : (s : ℕ) (x : Side) (f : Fact) → accepted_in (side_after s x f) ≡ accepted_in x ++ accepted_by s x f
accepted_after s (Sends t) f = refl
accepted_after s (Receives t) f = refl

-- what a record says of the messages of a side that are gone
abbrev pub dropped_by : ℕ → Side → Fact → List ℕ
dropped_by s (Sends t) f = dropped_of s f
dropped_by s (Receives t) f = []

dropped_after : (s : ℕ) (x : Side) (f : Fact)
    → dropped_in (side_after s x f) ≡ last_or (dropped_in x) (dropped_by s x f)
dropped_after s (Sends t) f = refl
dropped_after s (Receives t) f = refl

pub count-in : (x : Side) → accepted_count_in x ≡ dropped_in x + length (accepted_in x)
count-in (Sends t) = refl
count-in (Receives t) = refl

-- what a record adds to the messages of a side
abbrev pub received_by : ℕ → Side → Fact → List (ℕ × Payload)
received_by s (Sends t) f = []
received_by s (Receives t) f = received_of s f

received_after : (s : ℕ) (x : Side) (f : Fact) → received_in (side_after s x f) ≡ received_in x ++ received_by s x f
received_after s (Sends t) f = refl
received_after s (Receives t) f = refl

-- the rows after one more record, with those that it makes
abbrev pub rows_after : List Told → Fact → List Told
rows_after rows f = each_after 0 rows f ++ map begun (makers_of f)

row_after : (rows : List Told) (f : Fact) (i : ℕ) → i < length rows
    → row_at (rows_after rows f) i ≡ after (i + 1) (row_at rows i) f
row_after rows f i lt =
    let len : length (each_after 0 rows f) ≡ length rows = length-each_after 0 rows f in
    get_or_append_left (each_after 0 rows f) (map begun (makers_of f)) no_row i (omega (arith, lt, len))
    ∙ each_after-at 0 rows f i lt
    ∙ ap (λ n. after n (row_at rows i) f) (let e : 0 + i + 1 ≡ i + 1 = omega arith in e)

pub rows_longer : (rows : List Told) (f : Fact) → length rows ≤ length (rows_after rows f)
rows_longer rows f =
    omega (arith, length-each_after 0 rows f, length-append (each_after 0 rows f) (map begun (makers_of f)))

pub accepted_row : (rows : List Told) (f : Fact) (i : ℕ) → i < length rows
    → accepted_in (row_at (rows_after rows f) i).side
    ≡ accepted_in (row_at rows i).side ++ accepted_by (i + 1) (row_at rows i).side f
accepted_row rows f i lt =
    ap (λ (t : Told). accepted_in t.side) (row_after rows f i lt) ∙ accepted_after (i + 1) (row_at rows i).side f

pub received_row : (rows : List Told) (f : Fact) (i : ℕ) → i < length rows
    → received_in (row_at (rows_after rows f) i).side
    ≡ received_in (row_at rows i).side ++ received_by (i + 1) (row_at rows i).side f
received_row rows f i lt =
    ap (λ (t : Told). received_in t.side) (row_after rows f i lt) ∙ received_after (i + 1) (row_at rows i).side f

pub dropped_row : (rows : List Told) (f : Fact) (i : ℕ) → i < length rows
    → dropped_by (i + 1) (row_at rows i).side f ≡ []
    → dropped_in (row_at (rows_after rows f) i).side ≡ dropped_in (row_at rows i).side
dropped_row rows f i lt none =
    ap (λ (t : Told). dropped_in t.side) (row_after rows f i lt) ∙ dropped_after (i + 1) (row_at rows i).side f
    ∙ ap (λ ds. last_or (dropped_in (row_at rows i).side) ds) none

-- a record says that messages of a row are gone only where that accepted none
abbrev pub DropsFirst : List Told → Fact → Type 0
DropsFirst rows f =
    (i : ℕ) → i < length rows
    → (dropped_by (i + 1) (row_at rows i).side f ≡ []) ⊎ (accepted_count_in (row_at rows i).side ≡ 0)

pub no-drops : (s : ℕ) (x : Side) (f : Fact) → dropped_of s f ≡ [] → dropped_by s x f ≡ []
no-drops s (Sends t) f none = none
no-drops s (Receives t) f none = refl

drops-none : (x : Side) (s upto : ℕ) → takes x (Dropped s upto) ≡ true → accepted_count_in x ≡ 0
drops-none (Sends t) s upto is =
    let rest = (and_parts (follows t.phase (Dropped s upto)) _ is).1 in
    eqb-true (accepted_count t) 0 (and_parts (accepted_count t == 0) (nat_le 1 upto && nat_le upto max_number) rest).0
drops-none (Receives t) s upto is = refl

pub drops-first : (t : Table) (f : Fact) → Holds t → fits (records_in t) f ≡ true → DropsFirst t.rows f
drops-first t (Dropped seq upto) h fit i lt = elim (cases_eq seq (i + 1)) [
  | inl same ↦
      let place : seq - 1 ≡ i = omega (arith, same) in
      inr (subst (λ (k : ℕ). accepted_count_in (row_at t.rows k).side ≡ 0) place
      (drops-none (row_at t.rows (seq - 1)).side seq upto (row-taken t (Dropped seq upto) h refl fit).takes_))
  | inr other ↦
      inl (no-drops (i + 1) (row_at t.rows i).side (Dropped seq upto)
      (ap (λ b. cond b (upto ∷ []) []) (ne_eqb seq (i + 1) other)))
]
drops-first t f h fit i lt = inl (no-drops (i + 1) (row_at t.rows i).side f refl)

kept_same : (kept more : List Fact) (place : ℕ) → place < length kept
    → kept_at (kept ++ more) place ≡ kept_at kept place
kept_same kept more place lt = get_or_append_left kept more no_fact place lt

-- one note
-- the row of a note has what was gone
gone_same : (rows : List Told) (f : Fact) (row n : ℕ) → DropsFirst rows f → row < length rows
    → dropped_in (row_at rows row).side < n → n ≤ accepted_count_in (row_at rows row).side
    → dropped_in (row_at (rows_after rows f) row).side ≡ dropped_in (row_at rows row).side
gone_same rows f row n first lt above within = elim (first row lt) [
  | inl none ↦ dropped_row rows f row lt none
  | inr zero_ ↦ absurd (omega (arith, above, within, zero_))
]

note_same : (kept more : List Fact) (rows : List Told) (f : Fact) (n : Note) → DropsFirst rows f → IsHeld kept rows n
    → fact_at (kept ++ more) (rows_after rows f) n ≡ fact_at kept rows n
note_same kept more rows f (note.Kept place) first h = kept_same kept more place h
note_same kept more rows f (note.Accepted row n) first h =
    let gone = dropped_in (row_at rows row).side in
    ap (λ p. Accepted (row + 1) p)
    (ap (λ d. get_or (accepted_in (row_at (rows_after rows f) row).side) (n - (d + 1)) [])
    (gone_same rows f row n first h.0 h.1 h.2)
    ∙ ap (λ ps. get_or ps (n - (gone + 1)) []) (accepted_row rows f row h.0)
    ∙ get_or_append_left (accepted_in (row_at rows row).side) (accepted_by (row + 1) (row_at rows row).side f) []
    (n - (gone + 1)) (omega (arith, h.1, h.2, count-in (row_at rows row).side)))
note_same kept more rows f (note.Received row n is_first) first h =
    ap (λ p. Received (row + 1) n p)
    (ap (λ ms. payload_of n ms) (received_row rows f row h.0)
    ∙ payload_of-append n (received_in (row_at rows row).side)
    (received_by (row + 1) (row_at rows row).side f) h.1)
note_same kept more rows f _ first h = refl

note_held : (kept more : List Fact) (rows : List Told) (f : Fact) (n : Note) → DropsFirst rows f → IsHeld kept rows n
    → IsHeld (kept ++ more) (rows_after rows f) n
note_held kept more rows f (note.Kept place) first h = omega (arith, h, length-append kept more)
note_held kept more rows f (note.Accepted row n) first h =
    let x = (row_at rows row).side in
    let y = (row_at (rows_after rows f) row).side in
    let gone : dropped_in y ≡ dropped_in x = gone_same rows f row n first h.0 h.1 h.2 in
    let more : length (accepted_in y) ≡ length (accepted_in x) + length (accepted_by (row + 1) x f) =
    ap length (accepted_row rows f row h.0) ∙ length-append (accepted_in x) (accepted_by (row + 1) x f) in (
      omega (arith, h.0, rows_longer rows f),
      omega (arith, h.1, gone),
      omega (arith, h.2, gone, more, count-in x, count-in y),
    )
note_held kept more rows f (note.Received row n is_first) first h = (
  omega (arith, h.0, rows_longer rows f),
  ap (λ ms. has_number (numbers_of ms) n) (received_row rows f row h.0)
      ∙ has_number-append n (received_in (row_at rows row).side)
      (received_by (row + 1) (row_at rows row).side f) h.1,
)
note_held kept more rows f _ first h = tt

notes_same : (kept more : List Fact) (rows : List Told) (f : Fact) (ns : List Note) → DropsFirst rows f
    → AllHeld kept rows ns → records_of (kept ++ more) (rows_after rows f) ns ≡ records_of kept rows ns
notes_same kept more rows f [] first h = refl
notes_same kept more rows f (n ∷ ns) first h =
    ap (λ x. x ∷ records_of (kept ++ more) (rows_after rows f) ns) (note_same kept more rows f n first h.0)
    ∙ ap (λ xs. fact_at kept rows n ∷ xs) (notes_same kept more rows f ns first h.1)

notes_held : (kept more : List Fact) (rows : List Told) (f : Fact) (ns : List Note) (n : Note) → DropsFirst rows f
    → AllHeld kept rows ns → IsHeld (kept ++ more) (rows_after rows f) n
    → AllHeld (kept ++ more) (rows_after rows f) (ns ++ n ∷ [])
notes_held kept more rows f [] n first h g = (g, tt)
notes_held kept more rows f (m ∷ ns) n first h g =
    (note_held kept more rows f m first h.0, notes_held kept more rows f ns n first h.1 g)

notes_placed : (kept more : List Fact) (rows : List Told) (f : Fact) (before : List Fact) (ns : List Note) (n : Note)
    → DropsFirst rows f → AllHeld kept rows ns → HavePlaces kept rows before ns
    → HasPlace (before ++ records_of kept rows ns) n
    → HavePlaces (kept ++ more) (rows_after rows f) before (ns ++ n ∷ [])
notes_placed kept more rows f before [] n first h places one =
    (subst (λ b. HasPlace b n) (append-nil before) one, tt)
notes_placed kept more rows f before (m ∷ ns) n first h places one =
    let g = fact_at kept rows m in (
      places.0,
      subst (λ x. HavePlaces (kept ++ more) (rows_after rows f) (before ++ x ∷ []) (ns ++ n ∷ []))
          (sym (note_same kept more rows f m first h.0))
          (notes_placed kept more rows f (before ++ g ∷ []) ns n first h.1 places.1
          (subst (λ b. HasPlace b n) (sym (append_assoc before (g ∷ []) (records_of kept rows ns))) one)),
    )

within-more : (n m : ℕ) (ks : List ℕ) → n ≤ m → AreWithin n ks → AreWithin m ks
within-more n m [] le h = tt
within-more n m (k ∷ ks) le h = (omega (arith, le, h.0), within-more n m ks le h.1)

within-append : (n : ℕ) (ks js : List ℕ) → AreWithin n ks → AreWithin n js → AreWithin n (ks ++ js)
within-append n [] js h g = g
within-append n (k ∷ ks) js h g = (h.0, within-append n ks js h.1 g)

makers_same : (kept more : List Fact) (os : List Origin) → AreWithin (length kept) (origins_of os)
    → map (maker_at (kept ++ more)) os ≡ map (maker_at kept) os
makers_same kept more [] h = refl
makers_same kept more (o ∷ os) h =
    let one : maker_at (kept ++ more) o ≡ maker_at kept o =
    ap (λ f. get_or (makers_of f) (cond o.is_second 1 0) no_maker) (kept_same kept more o.made h.0) in
    ap (λ m. m ∷ map (maker_at (kept ++ more)) os) one ∙ ap (λ ms. maker_at kept o ∷ ms) (makers_same kept more os h.1)

named_same : (kept more : List Fact) (ns : List Named) → AreWithin (length kept) (names_of ns)
    → map (named_at (kept ++ more)) ns ≡ map (named_at kept) ns
named_same kept more [] h = refl
named_same kept more (n ∷ ns) h =
    let one : named_at (kept ++ more) n ≡ named_at kept n =
    ap (λ f. (n.seq, ident_given f)) (kept_same kept more n.place h.0) in
    ap (λ m. m ∷ map (named_at (kept ++ more)) ns) one ∙ ap (λ ms. named_at kept n ∷ ms) (named_same kept more ns h.1)

made_same : (kept more : List Fact) (os : List Origin) → AreWithin (length kept) (origins_of os) → AreMade kept os
    → AreMade (kept ++ more) os
made_same kept more [] h made = tt
made_same kept more (o ∷ os) h made = (
  subst (λ (f : Fact). cond o.is_second 1 0 < length (makers_of f)) (sym (kept_same kept more o.made h.0)) made.0,
  made_same kept more os h.1 made.1,
)

made-append : (kept : List Fact) (os ps : List Origin) → AreMade kept os → AreMade kept ps → AreMade kept (os ++ ps)
made-append kept [] ps h g = g
made-append kept (o ∷ os) ps h g = (h.0, made-append kept os ps h.1 g)

given_same : (kept more : List Fact) (ns : List Named) → AreWithin (length kept) (names_of ns) → AreGiven kept ns
    → AreGiven (kept ++ more) ns
given_same kept more [] h given = tt
given_same kept more (n ∷ ns) h given = (
  ap gives_ident (kept_same kept more n.place h.0) ∙ given.0,
  given_same kept more ns h.1 given.1,
)

given-append : (kept : List Fact) (ns ms : List Named) → AreGiven kept ns → AreGiven kept ms → AreGiven kept (ns ++ ms)
given-append kept [] ms h g = g
given-append kept (n ∷ ns) ms h g = (h.0, given-append kept ns ms h.1 g)

accepts_same : (kept more : List Fact) (ns : List Named) → AreWithin (length kept) (names_of ns)
    → flat_map (accept_at (kept ++ more)) ns ≡ flat_map (accept_at kept) ns
accepts_same kept more [] h = refl
accepts_same kept more (n ∷ ns) h =
    ap (λ xs. xs ++ flat_map (accept_at (kept ++ more)) ns) (ap accept_of (kept_same kept more n.place h.0))
    ∙ ap (λ xs. accept_at kept n ++ xs) (accepts_same kept more ns h.1)

-- one more record
pub records_more : (t : Table) (f : Fact) (a : Added) → Holds t → fits (records_in t) f ≡ true → Tells t f a
    → records_in (with_record t f a) ≡ records_in t ++ f ∷ []
records_more t f a h fit tells =
    let kept = t.kept ++ a.whole in
    let rows = rows_after t.rows f in
    map-append (fact_at kept rows) t.notes (a.note_ ∷ [])
    ∙ ap (λ xs. xs ++ fact_at kept rows a.note_ ∷ []) (notes_same t.kept a.whole t.rows f t.notes
    (drops-first t f h fit) h.held)
    ∙ ap (λ x. records_in t ++ x ∷ []) tells.note_

whole-append : (xs ys : List Fact) → AreWhole xs → AreWhole ys → AreWhole (xs ++ ys)
whole-append [] ys all more = more
whole-append (x ∷ xs) ys all more = (all.0, whole-append xs ys all.1 more)

pub holds_more : (t : Table) (f : Fact) (a : Added) → Holds t → fits (records_in t) f ≡ true → Tells t f a
    → Holds (with_record t f a)
holds_more t f a h fit tells =
    let r = records_in t in
    let is : records_in (with_record t f a) ≡ r ++ f ∷ [] = records_more t f a h fit tells in
    let kept = t.kept ++ a.whole in
    let longer : length t.kept ≤ length kept = omega (arith, length-append t.kept a.whole) in
    let count : length (makers r) ≡ length t.origins =
    ap length h.makers_ ∙ length-map t.origins (maker_at t.kept) in
    record {
      fit = ap (λ rs. all_fit [] rs) is ∙ one_more.fit r f ∙ and_from (all_fit [] r) (fits r f) h.fit fit;
      rows_ =
          ap (λ ts. each_after 0 ts f ++ map begun (makers_of f)) h.rows_
          ∙ sym (told_all-more r f h.fit fit) ∙ ap told_all (sym is);
      makers_ =
          ap makers is ∙ one_more.makers_ r f
          ∙ ap (λ ms. ms ++ makers_of f) (h.makers_ ∙ sym (makers_same t.kept a.whole t.origins h.origins_held))
          ∙ ap (λ ms. map (maker_at kept) t.origins ++ ms) (sym tells.makes)
          ∙ sym (map-append (maker_at kept) t.origins a.makes);
      created_ =
          ap created is ∙ one_more.created_ r f
          ∙ ap (λ n. created r ++ created_of n f) count
          ∙ ap (λ cs. cs ++ created_of (length t.origins) f)
          (h.created_ ∙ sym (named_same t.kept a.whole t.named h.named_held))
          ∙ ap (λ cs. map (named_at kept) t.named ++ cs) (sym tells.gives)
          ∙ sym (map-append (named_at kept) t.named a.gives);
      number_ = ap (λ n. number_after n f) h.number_ ∙ sym (one_more.number_ r f fit) ∙ ap number (sym is);
      drawn_ = ap (λ n. n + length (draws_of f)) h.drawn_ ∙ sym (one_more.counter_ r f) ∙ ap counter (sym is);
      held = notes_held t.kept a.whole t.rows f t.notes a.note_ (drops-first t f h fit) h.held tells.held;
      places_ =
          notes_placed t.kept a.whole t.rows f [] t.notes a.note_ (drops-first t f h fit) h.held h.places_ tells.place;
      origins_held =
          subst (λ ks. AreWithin (length kept) ks) (sym (map-append (λ (o : Origin). o.made) t.origins a.makes))
          (within-append (length kept) (origins_of t.origins) (origins_of a.makes)
          (within-more (length t.kept) (length kept) (origins_of t.origins) longer h.origins_held) tells.makes_held);
      named_held =
          subst (λ ks. AreWithin (length kept) ks) (sym (map-append (λ (n : Named). n.place) t.named a.gives))
          (within-append (length kept) (names_of t.named) (names_of a.gives)
          (within-more (length t.kept) (length kept) (names_of t.named) longer h.named_held) tells.gives_held);
      addresses_ =
          ap (λ rs. flat_map addresses_of rs) is ∙ one_more.addresses r f
          ∙ ap (λ xs. xs ++ addresses_of f) h.addresses_
          ∙ ap (λ xs. flat_map addresses_of t.kept ++ xs) (sym tells.addresses)
          ∙ sym (flat_map-append addresses_of t.kept a.whole);
      accepts_ =
          ap (λ rs. flat_map accept_of rs) is ∙ flat_map-more accept_of r f
          ∙ ap (λ xs. xs ++ accept_of f)
          (h.accepts_ ∙ sym (accepts_same t.kept a.whole t.named h.named_held))
          ∙ ap (λ xs. flat_map (accept_at kept) t.named ++ xs) (sym tells.accepts)
          ∙ sym (flat_map-append (accept_at kept) t.named a.gives);
      origins_made =
          made-append kept t.origins a.makes (made_same t.kept a.whole t.origins h.origins_held h.origins_made)
          tells.made;
      whole_ = whole-append t.kept a.whole h.whole_ tells.whole_;
      named_given =
          given-append kept t.named a.gives (given_same t.kept a.whole t.named h.named_held h.named_given) tells.given;
    }
