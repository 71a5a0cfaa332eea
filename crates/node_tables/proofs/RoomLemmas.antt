-- Room that is made for records, and what is left of it after the first of them.
use Rattle.std.proofs.Common.{◌≡◌, ◌≢◌, ℕ, zero, suc, ◌+◌, ◌-◌, ◌<◌, ◌≤◌, ◌==◌, Bool, true, false, cond, List, []}
use Rattle.std.proofs.Common.{◌∷◌, ◌++◌, length, get_or, set, refl, sym, ap, subst, ◌∙◌, arith, inl, inr}
use Rattle.std.specs.List.{flat_map, list_all}
use Rattle.std.proofs.lemmas.Bool.{and_parts, cases_eq, eq-eqb, ne_eqb, false≢true}
use Rattle.std.proofs.lemmas.List.{get_or_append_left, get_or-set_other, get_or-set_same, length-append, length-map}
use Rattle.std.proofs.lemmas.List.{get_or-append_right, get_or-map, length-set, map-set, set-append_left}
use Rattle.std.proofs.lemmas.List.{set-append_right}
use Rattle.std.proofs.lemmas.List.Sums.{sum_by-cons}
use Rattle.rm_sides.specs.declared.ranges.range.Range.{Range}
use Rattle.record_batch.specs.Fact.{Fact, Created, Accepted, Acked, Received, Closing, ClosedOut, Closed}
use Rattle.record_batch.specs.Fact.{Ending}
use Rattle.record_batch.specs.Fact.{EndedOut, Ended, Failed, Consumed, Dropped, Purged}
use Rattle.record_batch.specs.Sequences.Told.{Side, Sends, Receives, Told, names}
use Rattle.rm_base.specs.declared.message.Payload.{Payload}
use Rattle.node_tables.specs.Row.Row.{Room, Seen, is_sender, side_step, takes, takes_message, takes_payload, with_room}
use Rattle.node_tables.specs.Row.Row.{with_accepted, with_acked, with_received}
use Rattle.node_tables.specs.declared.note.Coming.{Coming}
use Rattle.node_tables.specs.Kept.{Tabled, row_at, tolds}
use Rattle.node_tables.specs.Ready.{IsReady}
use Rattle.node_tables.specs.Room.{AreClaimed, AreEnough, HasPlaces, IsClaimed, IsEnough, NodeRoom, Places, Spare}
use Rattle.node_tables.specs.Room.{all_spares, has_room, messages_for, no_spare, payloads_for, ranges_for, spare_at}
use Rattle.node_tables.specs.Room.{spare_of}
use Rattle.node_tables.specs.Room.{spares, spares_ahead, spent, spent_at, starts, starts_of}

-- the first record is applied elsewhere
enough-later : (x : Spare) (s : ℕ) (f : Fact) (more : List Fact) → IsEnough x s (f ∷ more) → IsEnough x s more
enough-later x s f more h = record {
  payloads = λ e. let was = h.payloads e in omega (arith, was, sum_by-cons (payloads_for s) f more);
  ranges = λ e. let was = h.ranges e in omega (arith, was, sum_by-cons (ranges_for s) f more);
  messages = λ e. let was = h.messages e in omega (arith, was, sum_by-cons (messages_for s) f more);
}

here : (s n : ℕ) → cond (s == s) n 0 ≡ n
here s n = ap (λ b. cond b n 0) (eq-eqb s s refl)

-- the first record is applied here
enough-spent : (x : Spare) (f : Fact) (more : List Fact) → IsEnough x (names f) (f ∷ more)
    → IsEnough (spent x f) (names f) more
enough-spent x (Accepted s payload) more h =
    let later = enough-later x s (Accepted s payload) more h in
    record {
      payloads = λ e.
          let was = h.payloads e in
          omega (arith, was, sum_by-cons (payloads_for s) (Accepted s payload) more, here s 1);
      ranges = later.ranges;
      messages = later.messages;
    }
enough-spent x (Acked s ranges) more h =
    let later = enough-later x s (Acked s ranges) more h in
    record {
      payloads = later.payloads;
      ranges = λ e.
          let was = h.ranges e in
          omega (arith, was, sum_by-cons (ranges_for s) (Acked s ranges) more, here s (length ranges));
      messages = later.messages;
    }
enough-spent x (Received s n payload) more h =
    let later = enough-later x s (Received s n payload) more h in
    record {
      payloads = later.payloads;
      ranges = later.ranges;
      messages = λ e.
          let was = h.messages e in
          omega (arith, was, sum_by-cons (messages_for s) (Received s n payload) more, here s 1);
    }
enough-spent x f more h = enough-later x (names f) f more h

are-spent : (rows : List Spare) (k : ℕ) (f : Fact) (more : List Fact) → k < length rows → names f ≡ k + 1
    → AreEnough rows (f ∷ more) → AreEnough (spent_at rows k f) more
are-spent rows k f more lt at h i within =
    let was = h i (omega (arith, within, length-set rows k (spent (spare_at rows k) f))) in
    elim (cases_eq i k) [
      | inl e ↦
          let one = enough-spent (spare_at rows i) f more
          (subst (λ s. IsEnough (spare_at rows i) s (f ∷ more)) (let is : i + 1 ≡ names f = omega (arith, e, at) in is)
          was) in
          let two = subst (λ s. IsEnough (spent (spare_at rows i) f) s more)
          (let is : names f ≡ i + 1 = omega (arith, e, at) in is) one in
          subst (λ x. IsEnough x (i + 1) more)
          (ap (λ j. spent (spare_at rows j) f) e
          ∙ sym (ap (λ j. spare_at (spent_at rows k f) j) e
          ∙ get_or-set_same rows k (spent (spare_at rows k) f) no_spare lt)) two
      | inr ne ↦
          subst (λ x. IsEnough x (i + 1) more)
          (sym (get_or-set_other rows k i (spent (spare_at rows k) f) no_spare ne))
          (enough-later (spare_at rows i) (i + 1) f more was)
    ]

-- after a payload, a message or numbers of the row at a place
pub ready-row : (old new : Tabled) (f : Fact) (more : List Fact) (k : ℕ) → IsReady old (f ∷ more) → starts_of f ≡ []
    → names f ≡ k + 1 → k < length old.room.rows → old.room.slots ≤ new.room.slots + 1
    → new.room.ahead ≡ old.room.ahead → new.room.rows ≡ spent_at old.room.rows k f → IsReady new more
ready-row old new f more k h none at lt slots ahead rows = record {
  live = (and_parts (has_room f) (list_all has_room more) h.live).1;
  slots = let was = h.slots in omega (arith, was, slots);
  ahead = ahead ∙ h.ahead ∙ ap (λ xs. xs ++ flat_map starts_of more) none;
  enough =
      subst (λ xs. AreEnough xs more) (sym rows) (are-spent old.room.rows k f more lt at h.enough);
}

-- after a record that is kept whole
pub ready-whole : (old new : Tabled) (f : Fact) (more : List Fact) → IsReady old (f ∷ more)
    → old.room.slots ≤ new.room.slots + 1 → new.room.ahead ≡ flat_map starts_of more
    → new.room.rows ≡ old.room.rows → IsReady new more
ready-whole old new f more h slots ahead rows = record {
  live = (and_parts (has_room f) (list_all has_room more) h.live).1;
  slots = let was = h.slots in omega (arith, was, slots);
  ahead = ahead;
  enough =
      subst (λ xs. AreEnough xs more) (sym rows)
      (λ i lt. enough-later (spare_at old.room.rows i) (i + 1) f more (h.enough i lt));
}

-- there is room for the first of them
pub has-room : (t : Tabled) (f : Fact) (more : List Fact) → IsReady t (f ∷ more) → has_room f ≡ true
has-room t f more h = (and_parts (has_room f) (list_all has_room more) h.live).0

-- a record adds nothing to a sequence that it doesn't name
payloads_elsewhere : (f : Fact) (s : ℕ) → names f ≢ s → payloads_for s f ≡ 0
payloads_elsewhere (Accepted seq payload) s ne = ap (λ b. cond b 1 0) (ne_eqb seq s ne)
payloads_elsewhere _ s ne = refl

ranges_elsewhere : (f : Fact) (s : ℕ) → names f ≢ s → ranges_for s f ≡ 0
ranges_elsewhere (Acked seq ranges) s ne = ap (λ b. cond b (length ranges) 0) (ne_eqb seq s ne)
ranges_elsewhere _ s ne = refl

messages_elsewhere : (f : Fact) (s : ℕ) → names f ≢ s → messages_for s f ≡ 0
messages_elsewhere (Received seq n payload) s ne = ap (λ b. cond b 1 0) (ne_eqb seq s ne)
messages_elsewhere _ s ne = refl

claimed-elsewhere : (x : Spare) (s : ℕ) (f : Fact) → names f ≢ s → IsClaimed x x s f
claimed-elsewhere x s f ne = record {
  same = refl;
  payloads = λ e. omega (arith, payloads_elsewhere f s ne);
  ranges = λ e. omega (arith, ranges_elsewhere f s ne);
  messages = λ e. omega (arith, messages_elsewhere f s ne);
}

-- the row at a place is named
pub claimed-set : (rows : List Spare) (k : ℕ) (y : Spare) (f : Fact) → k < length rows → names f ≡ k + 1
    → IsClaimed (spare_at rows k) y (names f) f → AreClaimed rows (set rows k y) f
claimed-set rows k y f lt at c = record {
  len = length-set rows k y;
  each = λ i within. elim (cases_eq i k) [
    | inl e ↦
        subst (λ j. IsClaimed (spare_at rows j) (spare_at (set rows k y) j) (j + 1) f) (sym e)
        (subst (λ x. IsClaimed (spare_at rows k) x (k + 1) f) (sym (get_or-set_same rows k y no_spare lt))
        (subst (λ s. IsClaimed (spare_at rows k) y s f) at c))
    | inr ne ↦
        subst (λ x. IsClaimed (spare_at rows i) x (i + 1) f) (sym (get_or-set_other rows k i y no_spare ne))
        (claimed-elsewhere (spare_at rows i) (i + 1) f (λ e. ne (let is : i ≡ k = omega (arith, e, at) in is)))
  ];
}

-- the value of these fields
spare_with : Bool → Room → Spare
spare_with sends room = record { sends = sends; room = room }

claimed_side : (x : Side) (room : Room) (f : Fact)
    → IsClaimed (record { sends = is_sender x; room = room })
    (record { sends = is_sender x; room = with_room x room f }) (names f) f
claimed_side (Sends t) room (Accepted s payload) = record {
  same = refl;
  payloads = λ e. omega (arith, here s 1);
  ranges = λ e. omega arith;
  messages = λ e. absurd (false≢true (sym e));
}
claimed_side (Sends t) room (Acked s ranges) = record {
  same = refl;
  payloads = λ e. omega arith;
  ranges = λ e. omega (arith, here s (length ranges));
  messages = λ e. absurd (false≢true (sym e));
}
claimed_side (Sends t) room (Received s n payload) = record {
  same = refl;
  payloads = λ e. omega arith;
  ranges = λ e. omega arith;
  messages = λ e. absurd (false≢true (sym e));
}
claimed_side (Receives t) room (Received s n payload) = record {
  same = refl;
  payloads = λ e. absurd (false≢true e);
  ranges = λ e. absurd (false≢true e);
  messages = λ e. omega (arith, here s 1);
}
claimed_side (Receives t) room (Accepted s payload) = record {
  same = refl;
  payloads = λ e. absurd (false≢true e);
  ranges = λ e. absurd (false≢true e);
  messages = λ e. omega arith;
}
claimed_side (Receives t) room (Acked s ranges) = record {
  same = refl;
  payloads = λ e. absurd (false≢true e);
  ranges = λ e. absurd (false≢true e);
  messages = λ e. omega arith;
}
claimed_side (Sends t) room _ =
    record { same = refl; payloads = λ e. omega arith; ranges = λ e. omega arith; messages = λ e. omega arith }
claimed_side (Receives t) room _ =
    record { same = refl; payloads = λ e. omega arith; ranges = λ e. omega arith; messages = λ e. omega arith }

-- a row made room for a record that names it
pub claimed-row : (x y : Seen) (f : Fact) → y.told ≡ x.told → y.room ≡ with_room x.told.side x.room f
    → IsClaimed (spare_of x) (spare_of y) (names f) f
unfolding spare_with
claimed-row x y f told room =
    subst (λ z. IsClaimed (spare_of x) z (names f) f)
    (sym (ap (λ (t : Told). spare_with (is_sender t.side) y.room) told
    ∙ ap (λ r. spare_with (is_sender x.told.side) r) room))
    (claimed_side x.told.side x.room f)

-- what is spent of the rows, before those that are to come
spent-front : (xs ys : List Spare) (k : ℕ) (f : Fact) → k < length xs → spent_at (xs ++ ys) k f ≡ spent_at xs k f ++ ys
spent-front xs ys k f lt =
    ap (λ x. set (xs ++ ys) k (spent x f)) (get_or_append_left xs ys no_spare k lt)
    ∙ set-append_left xs ys k (spent (spare_at xs k) f) lt

-- the room of tables
abbrev pub room_with : ℕ → List Seen → List Coming → NodeRoom
room_with slots rows ahead = record { slots = slots; rows = all_spares rows ahead; ahead = starts ahead }

-- after a payload, a message or numbers of a row
pub row-next : (old : Tabled) (r : List Fact) (rows rows2 : List Seen) (ahead : List Coming) (slots slots2 : ℕ)
    (f : Fact) (more : List Fact) (k : ℕ) → IsReady old (f ∷ more) → old.room ≡ room_with slots rows ahead
    → starts_of f ≡ [] → names f ≡ k + 1 → k < length rows → slots ≤ slots2 + 1
    → spares rows2 ≡ spent_at (spares rows) k f
    → IsReady (record { records = r; room = room_with slots2 rows2 ahead; is_marked = false }) more
row-next old r rows rows2 ahead slots slots2 f more k h is none at lt fewer spends =
    let long : k < length (spares rows) = omega (arith, lt, length-map rows spare_of) in
    let within : k < length old.room.rows =
    omega (arith, ap (λ (x : NodeRoom). length x.rows) is, length-append (spares rows) (spares_ahead ahead), long) in
    ready-row old _ f more k h none at within
    (let same : old.room.slots ≤ slots2 + 1 = omega (arith, ap (λ (x : NodeRoom). x.slots) is, fewer) in same)
    (sym (ap (λ (x : NodeRoom). x.ahead) is))
    (ap (λ xs. xs ++ spares_ahead ahead) spends
    ∙ sym (spent-front (spares rows) (spares_ahead ahead) k f long)
    ∙ ap (λ xs. spent_at xs k f) (sym (ap (λ (x : NodeRoom). x.rows) is)))

spare-row : (rows : List Seen) (k : ℕ) → k < length rows
    → (spare_at (spares rows) k).sends ≡ is_sender (row_at (tolds rows) k).side
spare-row [] k lt = absurd (omega (arith, lt))
spare-row (x ∷ rows) zero lt = refl
spare-row (x ∷ rows) (suc k) lt = spare-row rows k (omega (arith, lt))

-- the room of a row
row-enough : (old : Tabled) (rows : List Seen) (ahead : List Coming) (slots : ℕ) (f : Fact) (more : List Fact) (k : ℕ)
    → IsReady old (f ∷ more) → old.room ≡ room_with slots rows ahead → k < length rows
    → IsEnough (spare_at (spares rows) k) (k + 1) (f ∷ more)
row-enough old rows ahead slots f more k h is lt =
    let long : k < length (spares rows) = omega (arith, lt, length-map rows spare_of) in
    let within : k < length old.room.rows =
    omega (arith, ap (λ (x : NodeRoom). length x.rows) is, length-append (spares rows) (spares_ahead ahead), long) in
    subst (λ x. IsEnough x (k + 1) (f ∷ more))
    (ap (λ (x : NodeRoom). spare_at x.rows k) is
    ∙ get_or_append_left (spares rows) (spares_ahead ahead) no_spare k long) (h.enough k within)

there : (s n m : ℕ) → s ≡ n → cond (s == n) m 0 ≡ m
there s n m e = ap (λ b. cond b m 0) (eq-eqb s n e)

payload_side : (x : Side) → takes_payload x ≡ true → is_sender x ≡ true
payload_side (Sends t) h = refl
payload_side (Receives t) h = h

message_side : (x : Side) (n : ℕ) → takes_message x n ≡ true → is_sender x ≡ false
message_side (Sends t) n h = absurd (false≢true h)
message_side (Receives t) n h = refl

acked_side : (x : Side) (s : ℕ) (rs : List Range) → takes x (Acked s rs) ≡ true → is_sender x ≡ true
acked_side (Sends t) s rs h = refl
acked_side (Receives t) s rs h = h

-- the row has room for a payload
pub payload-room : (old : Tabled) (rows : List Seen) (ahead : List Coming) (slots s : ℕ) (payload : List ℕ)
    (more : List Fact) (k : ℕ) → IsReady old (Accepted s payload ∷ more) → old.room ≡ room_with slots rows ahead
    → s ≡ k + 1 → k < length rows → takes_payload (row_at (tolds rows) k).side ≡ true
    → 0 < (spare_at (spares rows) k).room.payloads
payload-room old rows ahead slots s payload more k h is at lt takes =
    let enough = row-enough old rows ahead slots (Accepted s payload) more k h is lt in
    let was = enough.payloads (spare-row rows k lt ∙ payload_side (row_at (tolds rows) k).side takes) in
    omega (arith, was, sum_by-cons (payloads_for (k + 1)) (Accepted s payload) more, there s (k + 1) 1 at)

-- the row has room for a message
pub message-room : (old : Tabled) (rows : List Seen) (ahead : List Coming) (slots s n : ℕ) (payload : Payload)
    (more : List Fact) (k : ℕ) → IsReady old (Received s n payload ∷ more) → old.room ≡ room_with slots rows ahead
    → s ≡ k + 1 → k < length rows → takes_message (row_at (tolds rows) k).side n ≡ true
    → 0 < (spare_at (spares rows) k).room.messages
message-room old rows ahead slots s n payload more k h is at lt takes =
    let enough = row-enough old rows ahead slots (Received s n payload) more k h is lt in
    let was = enough.messages (spare-row rows k lt ∙ message_side (row_at (tolds rows) k).side n takes) in
    omega (arith, was, sum_by-cons (messages_for (k + 1)) (Received s n payload) more, there s (k + 1) 1 at)

-- the row has room for the ranges of numbers
pub ranges-room : (old : Tabled) (rows : List Seen) (ahead : List Coming) (slots s : ℕ) (ranges : List Range)
    (more : List Fact) (k : ℕ) → IsReady old (Acked s ranges ∷ more) → old.room ≡ room_with slots rows ahead
    → s ≡ k + 1 → k < length rows → takes (row_at (tolds rows) k).side (Acked s ranges) ≡ true
    → length ranges ≤ (spare_at (spares rows) k).room.ranges
ranges-room old rows ahead slots s ranges more k h is at lt takes_it =
    let enough = row-enough old rows ahead slots (Acked s ranges) more k h is lt in
    let was = enough.ranges (spare-row rows k lt ∙ acked_side (row_at (tolds rows) k).side s ranges takes_it) in
    omega (arith, was, sum_by-cons (ranges_for (k + 1)) (Acked s ranges) more, there s (k + 1) (length ranges) at)

-- there is a place for the first record
pub one-place : (old : Tabled) (rows : List Seen) (ahead : List Coming) (slots : ℕ) (spare : Places) (f : Fact)
    (more : List Fact) → IsReady old (f ∷ more) → old.room ≡ room_with slots rows ahead → HasPlaces slots spare
    → HasPlaces 1 spare
one-place old rows ahead slots spare f more h is places =
    let some : 1 ≤ slots = omega (arith, h.slots, ap (λ (x : NodeRoom). x.slots) is) in
    record {
      kept_ = omega (arith, some, places.kept_);
      rows_ = omega (arith, some, places.rows_);
      notes_ = omega (arith, some, places.notes_);
      origins_ = omega (arith, some, places.origins_);
      named_ = omega (arith, some, places.named_);
    }

-- rows of which one keeps what is known of it
pub told-same : (rows : List Seen) (k : ℕ) (row row2 : Seen) → row ≡ get_or rows k row → row2.told ≡ row.told
    → tolds (set rows k row2) ≡ tolds rows
told-same [] k row row2 e h = refl
told-same (x ∷ rows) zero row row2 e h = ap (λ t. t ∷ tolds rows) (h ∙ ap (λ (r : Seen). r.told) e)
told-same (x ∷ rows) (suc k) row row2 e h = ap (λ ts. x.told ∷ ts) (told-same rows k row row2 e h)

-- rows of which one keeps its room
pub spares-same : (rows : List Seen) (k : ℕ) (row row2 : Seen) → row ≡ get_or rows k row
    → spare_of row2 ≡ spare_of row → spares (set rows k row2) ≡ spares rows
spares-same [] k row row2 e h = refl
spares-same (x ∷ rows) zero row row2 e h = ap (λ y. y ∷ spares rows) (h ∙ ap spare_of e)
spares-same (x ∷ rows) (suc k) row row2 e h = ap (λ ys. spare_of x ∷ ys) (spares-same rows k row row2 e h)

-- rows of which one spent some of its room
pub spares-spent : (rows : List Seen) (k : ℕ) (row row2 : Seen) (f : Fact) → row ≡ get_or rows k row
    → spare_of row2 ≡ spent (spare_of row) f → spares (set rows k row2) ≡ spent_at (spares rows) k f
spares-spent [] k row row2 f e h = refl
spares-spent (x ∷ rows) zero row row2 f e h =
    ap (λ y. y ∷ spares rows) (h ∙ ap (λ (r : Seen). spent (spare_of r) f) e)
spares-spent (x ∷ rows) (suc k) row row2 f e h = ap (λ ys. spare_of x ∷ ys) (spares-spent rows k row row2 f e h)

-- the room of one row
pub same-spare : (row row2 : Seen) (room : Room) → is_sender row2.told.side ≡ is_sender row.told.side → row2.room ≡ room
    → spare_of row2 ≡ record { sends = is_sender row.told.side; room = room }
unfolding spare_with
same-spare row row2 room side is =
    ap (λ b. spare_with b row2.room) side ∙ ap (λ x. spare_with (is_sender row.told.side) x) is

pub accepted-kind : (x : Side) (payload : List ℕ) → is_sender (with_accepted x payload) ≡ is_sender x
accepted-kind (Sends t) payload = refl
accepted-kind (Receives t) payload = refl

pub received-kind : (x : Side) (n : ℕ) (payload : Payload) → is_sender (with_received x n payload) ≡ is_sender x
received-kind (Sends t) n payload = refl
received-kind (Receives t) n payload = refl

pub acked-kind : (x : Side) (ranges : List Range) → is_sender (with_acked x ranges) ≡ is_sender x
acked-kind (Sends t) ranges = refl
acked-kind (Receives t) ranges = refl

-- a record doesn't turn a side into the other
pub step-kind : (x : Side) (f : Fact) → is_sender (side_step x f) ≡ is_sender x
step-kind (Sends t) (Created seq ident accept) = refl
step-kind (Sends t) (Accepted seq payload) = refl
step-kind (Sends t) (Acked seq ranges) = refl
step-kind (Sends t) (Received seq n payload) = refl
step-kind (Sends t) (Closing seq ticket) = refl
step-kind (Sends t) (ClosedOut seq) = refl
step-kind (Sends t) (Closed seq cause last) = refl
step-kind (Sends t) (Ending seq ticket) = refl
step-kind (Sends t) (EndedOut seq) = refl
step-kind (Sends t) (Ended seq cause last) = refl
step-kind (Sends t) (Failed seq fault) = refl
step-kind (Sends t) (Consumed seq upto) = refl
step-kind (Sends t) (Dropped seq upto) = refl
step-kind (Sends t) (Purged seq ranges) = refl
step-kind (Sends t) _ = refl
step-kind (Receives t) (Created seq ident accept) = refl
step-kind (Receives t) (Accepted seq payload) = refl
step-kind (Receives t) (Acked seq ranges) = refl
step-kind (Receives t) (Received seq n payload) = refl
step-kind (Receives t) (Closing seq ticket) = refl
step-kind (Receives t) (ClosedOut seq) = refl
step-kind (Receives t) (Closed seq cause last) = refl
step-kind (Receives t) (Ending seq ticket) = refl
step-kind (Receives t) (EndedOut seq) = refl
step-kind (Receives t) (Ended seq cause last) = refl
step-kind (Receives t) (Failed seq fault) = refl
step-kind (Receives t) (Consumed seq upto) = refl
step-kind (Receives t) (Dropped seq upto) = refl
step-kind (Receives t) (Purged seq ranges) = refl
step-kind (Receives t) _ = refl

-- a row made room
pub claimed-front : (rows : List Seen) (ahead : List Coming) (k : ℕ) (row row2 : Seen) (f : Fact) → k < length rows
    → row ≡ get_or rows k row → names f ≡ k + 1 → row2.told ≡ row.told
    → row2.room ≡ with_room row.told.side row.room f
    → AreClaimed (all_spares rows ahead) (all_spares (set rows k row2) ahead) f
claimed-front rows ahead k row row2 f lt e at told room =
    let long : k < length (spares rows) = omega (arith, lt, length-map rows spare_of) in
    let within : k < length (all_spares rows ahead) =
    omega (arith, long, length-append (spares rows) (spares_ahead ahead)) in
    let old : spare_of row ≡ spare_at (all_spares rows ahead) k =
    ap spare_of e ∙ sym (get_or_append_left (spares rows) (spares_ahead ahead) no_spare k long
    ∙ get_or-map spare_of rows k row no_spare lt) in
    let new : set (all_spares rows ahead) k (spare_of row2) ≡ all_spares (set rows k row2) ahead =
    set-append_left (spares rows) (spares_ahead ahead) k (spare_of row2) long
    ∙ ap (λ xs. xs ++ spares_ahead ahead) (sym (map-set spare_of rows k row2)) in
    subst (λ ys. AreClaimed (all_spares rows ahead) ys f) new
    (claimed-set (all_spares rows ahead) k (spare_of row2) f within at
    (subst (λ x. IsClaimed x (spare_of row2) (names f) f) old (claimed-row row row2 f told room)))

-- the row of a sequence
row_ahead : Coming → Spare
row_ahead a = spare_of a.row

-- a row that is to come made room
pub claimed-back : (rows : List Seen) (ahead : List Coming) (k n : ℕ) (a b : Coming) (f : Fact) → n ≡ length rows
    → n ≤ k → k - n < length ahead → a ≡ get_or ahead (k - n) a → names f ≡ k + 1 → b.row.told ≡ a.row.told
    → b.row.room ≡ with_room a.row.told.side a.row.room f
    → AreClaimed (all_spares rows ahead) (all_spares rows (set ahead (k - n) b)) f
unfolding row_ahead
claimed-back rows ahead k n a b f count from lt e at told room =
    let back = spares_ahead ahead in
    let len : length (spares rows) ≡ n = omega (arith, count, length-map rows spare_of) in
    let within : k < length (all_spares rows ahead) =
    omega (arith, lt, from, len, length-append (spares rows) back, length-map ahead row_ahead) in
    let old : spare_of a.row ≡ spare_at (all_spares rows ahead) k =
    ap (λ (x : Coming). spare_of x.row) e
    ∙ sym (get_or-append_right (spares rows) back n k no_spare len from
    ∙ get_or-map row_ahead ahead (k - n) a no_spare lt) in
    let new : set (all_spares rows ahead) k (spare_of b.row) ≡ all_spares rows (set ahead (k - n) b) =
    set-append_right (spares rows) back n k (spare_of b.row) len from
    ∙ ap (λ xs. spares rows ++ xs) (sym (map-set row_ahead ahead (k - n) b)) in
    subst (λ ys. AreClaimed (all_spares rows ahead) ys f) new
    (claimed-set (all_spares rows ahead) k (spare_of b.row) f within at
    (subst (λ x. IsClaimed x (spare_of b.row) (names f) f) old (claimed-row a.row b.row f told room)))
