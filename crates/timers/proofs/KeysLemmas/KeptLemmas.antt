-- What the calls keep.
use Rattle.std.proofs.Common.{◌≡◌, ℕ, zero, suc, ◌+◌, ◌<◌, ◌≤◌, ◌==◌, ◌&&◌, nat_le, cond, Bool, true, false, List, []}
use Rattle.std.proofs.Common.{◌∷◌, ◌++◌, Option, Some}
use Rattle.std.proofs.Common.{None, get_or, length, map, filter, option_map, refl, sym, ap, ap₂, ◌∙◌, subst, arith}
use Rattle.std.specs.Prelude.{flat_map, slice_get}
use Rattle.std.specs.List.{AllByRecursion, insert, remove}
use Rattle.std.proofs.lemmas.List.{map-append}
use Rattle.std.proofs.lemmas.List.Edits.{length-insert, length-remove, insert_end}
use Rattle.timers.specs.declared.slots.timers.Key.{Key}
use Rattle.timers.specs.Slots.Waits.{Entry, Waiting, classes_in_order}
use Rattle.timers.specs.Slots.Waits as plain
use Rattle.timers.specs.declared.keys.cells.Cell.{Cell}
use Rattle.timers.specs.Keys.Waits.{Wait, same_key, without, begun, due_at, keys_of}
use Rattle.timers.specs.Keys.Keyed.{slot_at, Rises, wait_of, Steps, cell_at, IsGap, IsAt, IsKept, is_before, keys_in}
use Rattle.timers.specs.Keys.KeyLemmas.{same_key-refl, same_key-sym, before-other}
use Rattle.timers.proofs.KeysLemmas.CellLemmas.{slot_at-insert, slot_at-found, Rises-once, All-at, slot_at-none}
use Rattle.timers.proofs.KeysLemmas.CellLemmas.{Rises-insert, Rises-remove, gap-after}
use Rattle.timers.proofs.KeysLemmas.EntryLemmas.{put-step, take-step, map-filter}

pub kept-put : (old new : Waiting) (cells newer : List Cell) (room more place slot time : ℕ) (key : Key)
    → IsKept old cells room time → IsGap cells key place
    → newer ≡ insert cells place (record { key = key; slot = slot }) → plain.Steps old new (plain.begun slot key)
    → new.time ≡ old.time → new.spare + 1 ≡ old.spare → room ≤ more → IsKept new newer more time
kept-put old new cells newer room more place slot time key k g is step same spare wider =
    subst (λ (v : List Cell). IsKept new v more time) (sym is)
    (let early = k.early in
    let count = k.count in
    let has_room = k.has_room in
    record {
      rising = Rises-insert cells place (record { key = key; slot = slot }) k.rising
          (λ i lt in'. g.place_is.before i lt) (gap-after cells key place g);
      count = omega (arith, length-insert cells place (record { key = key; slot = slot }) g.place_is.within);
      has_room = omega arith;
      early = omega arith;
      now = k.now;
      waits = begun key k.waits;
      stands = put-step old new cells place slot time key g.absent step k.waits k.stands;
    })

pub kept-take : (old new : Waiting) (cells newer : List Cell) (room more place time : ℕ) → IsKept old cells room time
    → place < length cells → newer ≡ remove cells place → plain.Steps old new (plain.without (cell_at cells place).slot)
    → new.time ≡ old.time → new.spare ≡ old.spare + 1 → room ≤ more → IsKept new newer more time
kept-take old new cells newer room more place time k lt is step same spare wider =
    subst (λ (v : List Cell). IsKept new v more time) (sym is)
    (let early = k.early in
    let count = k.count in
    let has_room = k.has_room in
    record {
      rising = Rises-remove cells place k.rising;
      count = omega (arith, length-remove cells place lt);
      has_room = omega arith;
      early = omega arith;
      now = k.now;
      waits = without (cell_at cells place).key k.waits;
      stands = take-step old new cells place time k.rising lt step k.waits k.stands;
    })

pub kept-moved : (old new : Waiting) (cells : List Cell) (room time : ℕ) (step : List Wait → List Wait)
    → IsKept old cells room time → new.time ≤ time → new.spare ≡ old.spare
    → Steps (record { timing = old; cells = cells; time = time })
    (record { timing = new; cells = cells; time = time }) step
    → IsKept new cells room time
kept-moved old new cells room time step k early spare steps =
    let count = k.count in
    record {
      rising = k.rising;
      count = omega arith;
      has_room = k.has_room;
      early = early;
      now = k.now;
      waits = step k.waits;
      stands = steps k.waits k.stands;
    }

-- the slot of a key that stands at a place
pub slot-there : (cells : List Cell) (key : Key) (place : ℕ) → Rises cells → IsAt cells key place
    → slot_at cells key ≡ Some (cell_at cells place).slot
slot-there cells key place h at =
    ap (slot_at cells) (sym at.key_is) ∙ slot_at-found cells place (Rises-once cells h) at.within

-- what is due
due-seen : (now : ℕ) (es : List Entry) (classes : List ℕ)
    → map wait_of (flat_map (λ class. filter (λ (e : Entry). (e.class == class) && nat_le e.due now) es) classes)
    ≡ flat_map (λ class. filter (λ (w : Wait). (w.class == class) && nat_le w.due now) (map wait_of es)) classes
due-seen now es [] = refl
due-seen now es (class ∷ classes) =
    map-append wait_of (filter (λ (e : Entry). (e.class == class) && nat_le e.due now) es)
    (flat_map (λ class. filter (λ (e : Entry). (e.class == class) && nat_le e.due now) es) classes)
    ∙ ap₂ (λ (v w : List Wait). v ++ w)
    (map-filter wait_of (λ (w : Wait). (w.class == class) && nat_le w.due now) es) (due-seen now es classes)

got-map : {A B : Type 0} (f : A → B) (xs : List A) (k : ℕ) → slice_get (map f xs) k ≡ option_map f (slice_get xs k)
got-map f [] k = refl
got-map f (x ∷ xs) zero = refl
got-map f (x ∷ xs) (suc k) = got-map f xs k

keys-seen : (es : List Entry) → keys_of (map wait_of es) ≡ map (λ (e : Entry). e.key) es
keys-seen [] = refl
keys-seen (e ∷ es) = ap (λ (v : List Key). e.key ∷ v) (keys-seen es)

pub due-key : (now k : ℕ) (waits : List Wait) (es : List Entry) (o : Option Key) → map wait_of es ≡ waits
    → o ≡ option_map (λ e. e.key) (slice_get (plain.due_at now es) k)
    → o ≡ slice_get (keys_of (due_at now waits)) k
due-key now k waits es o is e =
    e ∙ sym (got-map (λ (x : Entry). x.key) (plain.due_at now es) k)
    ∙ ap (λ (v : List Key). slice_get v k) (sym (keys-seen (plain.due_at now es))
    ∙ ap keys_of (due-seen now es classes_in_order ∙ ap (due_at now) is))

-- a cell that was read at a place
pub read-at : (cells : List Cell) (place : ℕ) (c : Cell) → place < length cells → c ≡ get_or cells place c
    → c ≡ cell_at cells place
read-at [] place c lt e = absurd (omega arith)
read-at (d ∷ cells) zero c lt e = e
read-at (d ∷ cells) (suc place) c lt e = read-at cells place c (omega arith) e

-- a key that was put in where it didn't stand
pub put-found : (cells mid newer : List Cell) (key other : Key) (place slot : ℕ)
    → ((o : Key) → slot_at mid o ≡ cond (same_key key o) None (slot_at cells o))
    → newer ≡ insert mid place (record { key = key; slot = slot })
    → slot_at newer other ≡ cond (same_key key other) (Some slot) (slot_at cells other)
put-found cells mid newer key other place slot were is =
    let none : slot_at mid key ≡ None =
    were key ∙ ap (λ (b : Bool). cond b None (slot_at cells key)) (same_key-refl key) in
    ap (λ (v : List Cell). slot_at v other) is
    ∙ slot_at-insert mid place (record { key = key; slot = slot }) other none
    ∙ ap₂ (λ (b : Bool) (o : Option ℕ). cond b (Some slot) o) (same_key-sym other key) (were other)
    ∙ elim (same_key key other) as (λ b. cond b (Some slot) (cond b None (slot_at cells other))
    ≡ cond b (Some slot) (slot_at cells other)) [
      | true ↦ refl
      | false ↦ refl
    ]

-- behind all cells
all-keys : (P : Key → Type 0) (cells : List Cell) → AllByRecursion P (keys_in cells)
    → AllByRecursion (λ (c : Cell). P c.key) cells
all-keys P [] h = tt
all-keys P (c ∷ cells) h = (h.0, all-keys P cells h.1)

none-last : (v : List Cell) (key : Key) → AllByRecursion (λ (c : Cell). is_before c.key key ≡ true) v
    → AllByRecursion (λ (c : Cell). same_key key c.key ≡ false) v
none-last [] key k = tt
none-last (c ∷ v) key k = (before-other c.key key k.0, none-last v key k.1)

pub last-gap : (cells : List Cell) (key : Key) → AllByRecursion (λ (k : Key). is_before k key ≡ true) (keys_in cells)
    → IsGap cells key (length cells)
last-gap cells key h =
    let all = all-keys (λ (k : Key). is_before k key ≡ true) cells h in
    record {
      place_is = record {
        within = omega arith;
        before = λ k lt. All-at (λ (c : Cell). is_before c.key key ≡ true) cells k all lt;
        after = λ k le lt. absurd (omega arith);
      };
      absent = slot_at-none cells key (none-last cells key all);
    }

pub last-keys : (cells newer : List Cell) (key : Key) (slot : ℕ)
    → newer ≡ insert cells (length cells) (record { key = key; slot = slot })
    → keys_in newer ≡ keys_in cells ++ key ∷ []
last-keys cells newer key slot is =
    ap keys_in (is ∙ insert_end cells (record { key = key; slot = slot }))
    ∙ map-append (λ (c : Cell). c.key) cells (record { key = key; slot = slot } ∷ [])
