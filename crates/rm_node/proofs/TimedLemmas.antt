-- The keys that wait at a node, and what a call makes of them.
use Rattle.std.proofs.Common.{◌≡◌, ℕ, ◌<◌, ◌||◌, cond, Bool, true, false, List, [], ◌∷◌, ◌++◌}
use Rattle.std.proofs.Common.{length, map, filter, max, Option, Some, None, refl, sym, ap, ap₂, subst, ◌∙◌, arith}
use Rattle.std.specs.Prelude.{is_some, IfSome}
use Rattle.std.specs.List.{AllByRecursion, flat_map}
use Rattle.std.specs.Option.{option_to_list}
use Rattle.std.proofs.lemmas.Bool.{false≢true}
use Rattle.rm_disk.specs.Journal.JournalState.{end_of}
use Rattle.timers.specs.declared.slots.timers.Key.{Key}
use Rattle.timers.specs.Slots.Waits.{Entry}
use Rattle.timers.specs.declared.keys.cells.Cell.{Cell}
use Rattle.timers.specs.Keys.Keyed.{Keyed, Once, Rises, StandsFor, Steps as Moves, cell_of, is_before, slot_at}
use Rattle.timers.specs.Keys.Keyed.{wait_of}
use Rattle.timers.specs.Keys.KeyLemmas.{before-apart, same_key-is, same_key-refl}
use Rattle.timers.specs.Keys.Waits.{Wait, begin_all, fresh, has_key, keys_of, same_key, send_all, urge_all}
use Rattle.node_waits.specs.Keys.Settled.{AreTouched, OneMoreHasRoom, OnlyTheTouched, cells_all, changed, is_kept}
use Rattle.node_waits.specs.Keys.Settled.{settled_all, settled_cells, touched_by}
use Rattle.node_waits.specs.declared.keys.touched.Touched.{Touched}
use Rattle.node_laws.specs.Records.{HasRoomForKeys, IsKept}
use Rattle.rm_protocol.specs.Exact.{AreExactly, IsExactAtFirst, StaysExact}
use Rattle.rm_protocol.specs.Calls.{Answer}
use Rattle.record_batch.specs.Fact.{Fact}
use Rattle.record_batch.specs.Sequences.Fits.{all_fit}
use Rattle.timers.specs.Pending.Waiting.{Waiting}
use Rattle.rm_message.specs.declared.message.Message.{Message}
use Rattle.rm_protocol.specs.Polls.{polled_after}
use Rattle.rm_protocol.specs.WaitLemmas.{all-wait}
use Rattle.rm_protocol.specs.Waiting.{Moves as KeyMoves, begun_by, is_waiting, mounted_waits, still, waiting_keys}
use Rattle.rm_protocol.specs.Waiting.{waits_after}
use Rattle.std.proofs.lemmas.List.{append-nil}
use Rattle.rm_base.specs.Limits.{most_keys}
use Rattle.node_store.specs.Stored.{Stored, first_stored, stored_after}
use Rattle.node_laws.specs.Answers.Answers.{outcome_seen}
use Rattle.node_laws.specs.declared.answers.answer.Cause.{Cause as CodeCause}
use Rattle.node_laws.specs.declared.answers.answer.Outcome.{Outcome as CodeOutcome}
use Rattle.node_laws.specs.declared.answers.answer.Outcome.TheVariants as code
use Rattle.rm_node.specs.Ends.{is_refused}
use Rattle.rm_node.specs.Keeping.{IsKeeping, Keeping, Keeps, kept_after}
use Rattle.rm_node.specs.Noded.{Noded, Runs}
use Rattle.rm_node.specs.declared.kept.Kept.{Kept}
use Rattle.rm_node.specs.Timed.{Begins, IsKeptRight, IsTimed, MayBeWritten, has_cell}

-- ---- cells and the plain list

entries-keys : (es : List Entry) (key : Key) → has_cell (map cell_of es) key ≡ has_key (keys_of (map wait_of es)) key
entries-keys [] key = refl
entries-keys (e ∷ es) key =
    elim (same_key key e.key) as (λ b. is_some (cond b (Some e.slot) (slot_at (map cell_of es) key))
    ≡ (b || has_key (keys_of (map wait_of es)) key)) [
      | true ↦ refl
      | false ↦ entries-keys es key
    ]

-- a key has a cell where it waits
pub cell-waits : (k : Keyed) (waits : List Wait) (key : Key) → StandsFor k waits
    → has_cell k.cells key ≡ has_key (keys_of waits) key
cell-waits k waits key s =
    ap (λ (o : Option ℕ). is_some o) (sym (s.found key)) ∙ entries-keys s.entries key
    ∙ ap (λ (ws : List Wait). has_key (keys_of ws) key) s.are

-- those that wait are exactly those that do so by the records
pub exact-waits : (r : List Fact) (k : Keyed) (waits : List Wait)
    → ((key : Key) → has_cell k.cells key ≡ is_waiting r key) → StandsFor k waits → AreExactly r waits
exact-waits r k waits exact s key = sym (cell-waits k waits key s) ∙ exact key

pub exact-cells : (r : List Fact) (k : Keyed) (waits : List Wait) → StandsFor k waits → AreExactly r waits
    → (key : Key) → has_cell k.cells key ≡ is_waiting r key
exact-cells r k waits s exact key = cell-waits k waits key s ∙ exact key

-- ---- what a call makes of those that wait

pub changed-is : OnlyTheTouched → (r delta : List Fact) (touched : List Touched) (begun : Option Key) (moves : KeyMoves)
    (time : ℕ) (waits : List Wait) → all_fit r delta ≡ true → touched ≡ flat_map touched_by delta
    → begun_by r delta ≡ option_to_list begun → AreExactly r waits
    → changed (r ++ delta) touched begun moves.urged moves.emitted time waits ≡ waits_after r delta moves time waits
changed-is law r delta touched begun moves time waits fit is are exact =
    let at : AreTouched touched delta = subst (λ (l : List Touched). AreTouched l delta) (sym is) (λ k e. e) in
    let gone = law r delta touched waits fit at (all-wait r waits exact) in
    ap₂ (λ (keys : List Key) (ws : List Wait).
    send_all time (keys ++ moves.emitted) (urge_all moves.urged (begin_all keys ws)))
    (sym are) gone

-- the key that begins waits by all records
begun-waits : (r delta : List Fact) (begun : Option Key) → Begins r delta begun
    → (k : Key) → has_key (begun_by r delta) k ≡ true → is_waiting (r ++ delta) k ≡ true
begun-waits r delta None b k h = absurd (false≢true (ap (λ (keys : List Key). has_key keys k) (sym b.are) ∙ h))
begun-waits r delta (Some key) b k h =
    let e : (same_key k key || false) ≡ true = ap (λ (keys : List Key). has_key keys k) (sym b.are) ∙ h in
    let is : k ≡ key = same_key-is k key (or-false (same_key k key) e) in
    ap (is_waiting (r ++ delta)) is ∙ b.wait
  where
    or-false : (a : Bool) → (a || false) ≡ true → a ≡ true
    or-false true e = refl
    or-false false e = e

-- the records of an answer are there: they might be written behind those before, now these are all, and they may
-- end these keys
pub record Grown (old : Noded) (a : Answer) (begun : Option Key) (now : List Fact) (touched_ : List Touched)
    : Type 0 where
  pub may : MayBeWritten old.stored.records (end_of old.stored.journal) a begun
  pub begins : Begins old.stored.records a.delta begun
  pub records : now ≡ old.stored.records ++ a.delta
  pub touched : touched_ ≡ flat_map touched_by a.delta

-- what is kept after a call that went well
pub kept-well : OnlyTheTouched → (old : Noded) (a : Answer) (begun : Option Key) (new : Kept) (now : List Fact)
    (touched : List Touched) → IsTimed old.stored.records old.kept.timers → Grown old a begun now touched
    → new.granted ≡ old.kept.granted → Moves old.kept.timers new.timers (changed now touched begun a.moves.urged
    a.moves.emitted (max old.kept.timers.time a.moves.time))
    → new.timers.time ≡ max old.kept.timers.time a.moves.time
    → new.polled.waits ≡ polled_after old.kept.polled.waits a → (kept : Keeping) → Keeps old.kept kept
    → Keeps new (kept_after old.stored.records a kept)
kept-well law old a begun new now touched timed grown same steps passed polled kept keeps =
    let r = old.stored.records in
    let time = max old.kept.timers.time a.moves.time in
    let later : time ≡ max kept.time a.moves.time = ap (λ (t : ℕ). max t a.moves.time) keeps.time in
    record {
      granted = same ∙ keeps.granted;
      waits = subst (StandsFor new.timers)
          (ap (λ (l : List Fact). changed l touched begun a.moves.urged a.moves.emitted time kept.waits) grown.records
          ∙ changed-is law r a.delta touched begun a.moves time kept.waits grown.may.stored.fit grown.touched
          grown.begins.are (exact-waits r old.kept.timers kept.waits timed.exact keeps.waits)
          ∙ ap (λ (t : ℕ). waits_after r a.delta a.moves t kept.waits) later) (steps kept.waits keeps.waits);
      time = passed ∙ later;
      polled = polled ∙ ap (λ (w : Waiting Message). polled_after w a) keeps.polled;
    }

-- what a node keeps
keeping-of : (n : Noded) → IsTimed n.stored.records n.kept.timers → IsKeeping n.kept
keeping-of n timed = (
  record { granted = n.kept.granted; waits = timed.waits; time = n.kept.timers.time; polled = n.kept.polled.waits },
  record { granted = refl; waits = timed.stands; time = refl; polled = refl },
)

-- what holds of it
pub runs : (n : Noded) → IsKeptRight n.stored.records n.kept → Runs n
runs n right = record {
  records = right.timed.kept;
  keeping = keeping-of n right.timed;
  exact = λ kept keeps. exact-waits n.stored.records n.kept.timers kept.waits right.timed.exact keeps.waits;
}

-- the node's keys are exact after it
pub timed-well : StaysExact → (old : Noded) (a : Answer) (begun : Option Key) (new : Kept) (now : List Fact)
    (touched : List Touched) → IsTimed old.stored.records old.kept.timers → Grown old a begun now touched
    → ((kept : Keeping) → Keeps old.kept kept → Keeps new (kept_after old.stored.records a kept))
    → IsTimed now new.timers
unfolding keeping-of
timed-well law old a begun new now touched timed grown keeps =
    let r = old.stored.records in
    let time = max old.kept.timers.time a.moves.time in
    let after = waits_after r a.delta a.moves time timed.waits in
    let keeping = keeping-of old timed in
    let stands : StandsFor new.timers after = (keeps keeping.0 keeping.1).waits in
    subst (λ (l : List Fact). IsTimed l new.timers) (sym grown.records) (record {
      kept = grown.may.leaves;
      waits = after;
      stands = stands;
      exact = exact-cells (r ++ a.delta) new.timers after stands
          (law r a.delta a.moves time timed.waits timed.kept.node.fit grown.may.stored.fit
          (begun-waits r a.delta begun grown.begins)
          (exact-waits r old.kept.timers timed.waits timed.exact timed.stands));
    })

-- after a mount, or at a node that was just made
pub timed-first : IsExactAtFirst → (r : List Fact) (k : Keyed) → IsKept r → StandsFor k (mounted_waits r) → IsTimed r k
timed-first law r k kept stands = record {
  kept = kept;
  waits = mounted_waits r;
  stands = stands;
  exact = exact-cells r k (mounted_waits r) stands (law r);
}

-- nothing waits at a node that was just made
pub stands-made : (s : Stored) (number : ℕ) (address : List ℕ) (k : Keyed) → s ≡ first_stored number address
    → StandsFor k [] → StandsFor k (mounted_waits s.records)
stands-made s number address k e stands =
    subst (λ (x : Stored). StandsFor k (mounted_waits x.records)) (sym e) stands

-- the records after a call that went well
pub records-after : (s new : Stored) (delta : List Fact) → new ≡ stored_after s delta true false
    → new.records ≡ s.records ++ delta
records-after s new [] e = ap (λ (x : Stored). x.records) e ∙ sym (append-nil s.records)
records-after s new (f ∷ delta) e = ap (λ (x : Stored). x.records) e

-- ---- room for the key that begins

none-before : (c : Cell) (cells : List Cell) → AllByRecursion (λ (d : Cell). is_before c.key d.key ≡ true) cells
    → slot_at cells c.key ≡ None
none-before c [] h = refl
none-before c (d ∷ cells) h =
    ap (λ (b : Bool). cond b (Some d.slot) (slot_at cells c.key)) (before-apart c.key d.key h.0)
    ∙ none-before c cells h.1

pub once : (cells : List Cell) → Rises cells → Once cells
once [] h = tt
once (c ∷ cells) h = (none-before c cells h.0, once cells h.1)

filter-none : (p : Cell → Bool) (key : Key) (cells : List Cell) → slot_at cells key ≡ None
    → slot_at (filter p cells) key ≡ None
filter-none p key [] n = refl
filter-none p key (d ∷ cells) n =
    elim (same_key key d.key) as (λ b. same_key key d.key ≡ b → cond b (Some d.slot) (slot_at cells key) ≡ None
    → slot_at (cond (p d) (d ∷ filter p cells) (filter p cells)) key ≡ None) [
      | true ↦ λ e k. absurd (cc)
      | false ↦ λ e k. elim (p d) as (λ b. slot_at (cond b (d ∷ filter p cells) (filter p cells)) key ≡ None) [
        | true ↦ ap (λ (b : Bool). cond b (Some d.slot) (slot_at (filter p cells) key)) e ∙ filter-none p key cells k
        | false ↦ filter-none p key cells k
      ]
    ] refl n

filter-once : (p : Cell → Bool) (cells : List Cell) → Once cells → Once (filter p cells)
filter-once p [] o = tt
filter-once p (c ∷ cells) o =
    elim (p c) as (λ b. Once (cond b (c ∷ filter p cells) (filter p cells))) [
      | true ↦ (filter-none p c.key cells o.0, filter-once p cells o.1)
      | false ↦ filter-once p cells o.1
    ]

all-once : (r : List Fact) (touched : List Touched) (cells : List Cell) → Once cells → Once (cells_all r touched cells)
all-once r [] cells o = o
all-once r (t ∷ touched) cells o =
    all-once r touched (settled_cells r t cells) (filter-once (λ (c : Cell). is_kept r t c.key) cells o)

-- a cell as one that waits
plain : Cell → Wait
plain c = record { key = c.key; class = 0; due = 0 }

plain-filter : (r : List Fact) (t : Touched) (cells : List Cell)
    → filter (λ (w : Wait). is_kept r t w.key) (map plain cells) ≡ map plain (settled_cells r t cells)
unfolding plain
plain-filter r t [] = refl
plain-filter r t (c ∷ cells) =
    elim (is_kept r t c.key) as (λ b. cond b (plain c ∷ filter (λ (w : Wait). is_kept r t w.key) (map plain cells))
    (filter (λ (w : Wait). is_kept r t w.key) (map plain cells))
    ≡ map plain (cond b (c ∷ settled_cells r t cells) (settled_cells r t cells))) [
      | true ↦ ap (λ (l : List Wait). plain c ∷ l) (plain-filter r t cells)
      | false ↦ plain-filter r t cells
    ]

plain-all : (r : List Fact) (touched : List Touched) (cells : List Cell)
    → settled_all r touched (map plain cells) ≡ map plain (cells_all r touched cells)
plain-all r [] cells = refl
plain-all r (t ∷ touched) cells =
    ap (settled_all r touched) (plain-filter r t cells) ∙ plain-all r touched (settled_cells r t cells)

still-waits : (r : List Fact) (waits : List Wait)
    → AllByRecursion (λ (w : Wait). is_waiting r w.key ≡ true) (still r waits)
still-waits r [] = tt
still-waits r (w ∷ waits) =
    elim (is_waiting r w.key) as (λ b. is_waiting r w.key ≡ b
    → AllByRecursion (λ (x : Wait). is_waiting r x.key ≡ true) (cond b (w ∷ still r waits) (still r waits))) [
      | true ↦ λ e. (e, still-waits r waits)
      | false ↦ λ e. still-waits r waits
    ] refl

plain-cells : (r : List Fact) (cells : List Cell)
    → AllByRecursion (λ (w : Wait). is_waiting r w.key ≡ true) (map plain cells)
    → AllByRecursion (λ (c : Cell). is_waiting r c.key ≡ true) cells
unfolding plain
plain-cells r [] h = tt
plain-cells r (c ∷ cells) h = (h.0, plain-cells r cells h.1)

cells-plain : (r : List Fact) (cells : List Cell) → AllByRecursion (λ (c : Cell). is_waiting r c.key ≡ true) cells
    → AllByRecursion (λ (w : Wait). is_waiting r w.key ≡ true) (map plain cells)
unfolding plain
cells-plain r [] h = tt
cells-plain r (c ∷ cells) h = (h.0, cells-plain r cells h.1)

each-cell : (r : List Fact) (cells : List Cell) → ((key : Key) → has_cell cells key ≡ true → is_waiting r key ≡ true)
    → AllByRecursion (λ (c : Cell). is_waiting r c.key ≡ true) cells
each-cell r [] h = tt
each-cell r (c ∷ cells) h = (
  h c.key (ap (λ (b : Bool). is_some (cond b (Some c.slot) (slot_at cells c.key))) (same_key-refl c.key)),
  each-cell r cells (λ key e. h key (more key e)),
)
  where
    more : (key : Key) → has_cell cells key ≡ true → has_cell (c ∷ cells) key ≡ true
    more key e = elim (same_key key c.key) as (λ b. is_some (cond b (Some c.slot) (slot_at cells key)) ≡ true) [
      | true ↦ refl
      | false ↦ e
    ]

keys-fresh : (keys : List Key) → keys_of (fresh keys) ≡ keys
keys-fresh [] = refl
keys-fresh (k ∷ keys) = ap (λ (l : List Key). k ∷ l) (keys-fresh keys)

-- a key is among those that wait by the records where it waits
among : IsExactAtFirst → (r : List Fact) (key : Key) → is_waiting r key ≡ true → has_key (waiting_keys r) key ≡ true
among law r key e = ap (λ (keys : List Key). has_key keys key) (sym (keys-fresh (waiting_keys r))) ∙ law r key ∙ e

all-among : IsExactAtFirst → (r : List Fact) (cells : List Cell)
    → AllByRecursion (λ (c : Cell). is_waiting r c.key ≡ true) cells
    → AllByRecursion (λ (c : Cell). has_key (waiting_keys r) c.key ≡ true) cells
all-among law r [] h = tt
all-among law r (c ∷ cells) h = (among law r c.key h.0, all-among law r cells h.1)

-- after the pass over the keys that records may end there is room for the key that begins
pub has-room : OnlyTheTouched → OneMoreHasRoom → IsExactAtFirst → HasRoomForKeys → (old : Noded) (a : Answer)
    (begun : Option Key) (now : List Fact) (touched : List Touched) → IsTimed old.stored.records old.kept.timers
    → Rises old.kept.timers.cells → Grown old a begun now touched
    → IfSome begun (λ key. slot_at (cells_all now touched old.kept.timers.cells) key ≡ None
    → length (cells_all now touched old.kept.timers.cells) < most_keys)
has-room only one first room old a None now touched timed rising grown = tt
has-room only one first room old a (Some key) now touched timed rising grown =
    subst (λ (l : List Fact). slot_at (cells_all l touched k.cells) key ≡ None
    → length (cells_all l touched k.cells) < most_keys) (sym grown.records) few
  where
    r : List Fact
    r = old.stored.records

    delta : List Fact
    delta = a.delta

    k : Keyed
    k = old.kept.timers

    at : AreTouched touched delta
    at = subst (λ (l : List Touched). AreTouched l delta) (sym grown.touched) (λ x e. e)

    waited : AllByRecursion (λ (c : Cell). is_waiting r c.key ≡ true) k.cells
    waited = each-cell r k.cells (λ x e. sym (timed.exact x) ∙ e)

    gone : map plain (cells_all (r ++ delta) touched k.cells) ≡ still (r ++ delta) (map plain k.cells)
    gone = sym (plain-all (r ++ delta) touched k.cells)
        ∙ only r delta touched (map plain k.cells) grown.may.stored.fit at (cells-plain r k.cells waited)

    wait : AllByRecursion (λ (c : Cell). is_waiting (r ++ delta) c.key ≡ true) (cells_all (r ++ delta) touched k.cells)
    wait = plain-cells (r ++ delta) (cells_all (r ++ delta) touched k.cells)
        (subst (λ (ws : List Wait). AllByRecursion (λ (w : Wait). is_waiting (r ++ delta) w.key ≡ true) ws) (sym gone)
        (still-waits (r ++ delta) (map plain k.cells)))

    few : slot_at (cells_all (r ++ delta) touched k.cells) key ≡ None
        → length (cells_all (r ++ delta) touched k.cells) < most_keys
    few none =
        let less = one (cells_all (r ++ delta) touched k.cells) (waiting_keys (r ++ delta)) key
        (all-once (r ++ delta) touched k.cells (once k.cells rising))
        (all-among first (r ++ delta) (cells_all (r ++ delta) touched k.cells) wait) none
        (among first (r ++ delta) key grown.begins.wait) in
        omega (arith, less, room (r ++ delta) grown.may.leaves)

-- an answer that is no refusal
pub not-refused : (o : CodeOutcome) → ((cause : CodeCause) → o ≡ code.Refused cause → ⊥)
    → is_refused (outcome_seen o) ≡ false
not-refused code.Done h = refl
not-refused (code.Judged fault) h = refl
not-refused (code.Refused cause) h = absurd (h cause refl)
