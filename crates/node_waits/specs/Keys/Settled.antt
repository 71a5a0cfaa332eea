-- What becomes of the keys that records may end.
use Rattle.std.specs.Prelude.{◌<◌, length, ◌≡◌, ℕ, ◌==◌, ◌||◌, ◌&&◌, not, Bool, true, List, [], ◌∷◌, ◌++◌, filter, map}
use Rattle.std.specs.Prelude.{Option, Some, None, if◌then◌else◌}
use Rattle.std.specs.List.{AllByRecursion, flat_map, list_any}
use Rattle.rm_sides.specs.declared.ranges.range.Range.{Range}
use Rattle.rm_sides.specs.Ranges.Ranges.{in_range}
use Rattle.std.specs.Option.{option_to_list}
use Rattle.timers.specs.declared.slots.timers.Key.{Key}
use Rattle.timers.specs.declared.keys.cells.Cell.{Cell}
use Rattle.timers.specs.Keys.Keyed.{Once, slot_at}
use Rattle.timers.specs.Keys.Waits.{Wait, has_key, begin_all, send_all, urge_all}
use Rattle.node_waits.specs.declared.keys.touched.Touched.{Touched}
use Rattle.record_batch.specs.Fact.{Fact, Acked}
use Rattle.rm_protocol.specs.Waiting.{is_waiting, key_count, still}
use Rattle.record_batch.specs.Sequences.Told.{names}
use Rattle.record_batch.specs.Sequences.Fits.{all_fit}
use Rattle.record_batch.specs.Sequences.Makers.{Maker}

-- the number is in the range, where there is one
abbrev pub has_number : Option Range → ℕ → Bool
has_number None n = true
has_number (Some range) n = in_range range n

-- the key is one of those that were touched
abbrev pub is_within : Touched → Key → Bool
is_within t k = (k.seq == t.seq) && has_number t.numbers k.number

-- one of these has it
abbrev pub is_touched : List Touched → Key → Bool
is_touched touched k = list_any (λ (t : Touched). is_within t k) touched

-- all keys of a sequence
abbrev pub all_of : ℕ → Touched
all_of s = record { seq = s; numbers = None }

-- the keys of its numbers in a range
abbrev pub each_of : ℕ → Range → Touched
each_of s range = record { seq = s; numbers = Some range }

-- the keys that a record may end: of an acknowledgement those of its numbers, range by range, and of another record all
-- keys of the sequence that it names
abbrev pub touched_by : Fact → List Touched
touched_by (Acked seq ranges) = map (each_of seq) ranges
touched_by f = all_of (names f) ∷ []

-- the first number of the range, and 0 where there is none
abbrev pub first_number : Option Range → ℕ
first_number None = 0
first_number (Some range) = range.lower

-- the first of the keys that were touched
abbrev pub first_key : Touched → Key
first_key t = record { seq = t.seq; number = first_number t.numbers }

-- the key wasn't touched, or waits by the records
abbrev pub is_kept : List Fact → Touched → Key → Bool
is_kept r t k = not (is_within t k) || is_waiting r k

-- of a list, those whose key is kept
abbrev pub settled : List Fact → Touched → List Wait → List Wait
settled r t waits = filter (λ (w : Wait). is_kept r t w.key) waits

-- and of the cells
abbrev pub settled_cells : List Fact → Touched → List Cell → List Cell
settled_cells r t cells = filter (λ (c : Cell). is_kept r t c.key) cells

-- a key, where it was touched
abbrev pub own_of : Touched → Option Key → Option Key
own_of t None = None
own_of t (Some k) = if is_within t k then Some k else None

-- how many keys a sequence has that was made so; none where it wasn't made
abbrev pub count_of : List Fact → ℕ → Option Maker → ℕ
count_of r s None = 0
count_of r s (Some m) = key_count r s m

-- of all that was touched, one after the other
abbrev pub settled_all : List Fact → List Touched → List Wait → List Wait
settled_all r [] waits = waits
settled_all r (t ∷ touched) waits = settled_all r touched (settled r t waits)

-- and of the cells
abbrev pub cells_all : List Fact → List Touched → List Cell → List Cell
cells_all r [] cells = cells
cells_all r (t ∷ touched) cells = cells_all r touched (settled_cells r t cells)

-- What a call makes of those that wait: of the keys that were touched those that don't wait by the records are gone;
-- then the key that begins to wait is put last in class 0, where there is one; then each that is wanted at once; and
-- then the one that began is emitted, and these keys are.
abbrev pub changed : List Fact → List Touched → Option Key → List Key → List Key → ℕ → List Wait → List Wait
changed r touched begun urged emitted time waits =
    send_all time (option_to_list begun ++ emitted)
    (urge_all urged (begin_all (option_to_list begun) (settled_all r touched waits)))

-- each key that the records may end was touched
abbrev pub AreTouched : List Touched → List Fact → Type 0
AreTouched touched delta = (k : Key) → is_touched (flat_map touched_by delta) k ≡ true → is_touched touched k ≡ true

-- where all that waited did so by the records before, and each key that the new records may end was touched, what is
-- left is exactly what waits by all records, in its order
abbrev pub OnlyTheTouched : Type 0
OnlyTheTouched =
    (r delta : List Fact) (touched : List Touched) (waits : List Wait) → all_fit r delta ≡ true
    → AreTouched touched delta → AllByRecursion (λ (w : Wait). is_waiting r w.key ≡ true) waits
    → settled_all (r ++ delta) touched waits ≡ still (r ++ delta) waits

-- Where no key has two of some cells, each key that has one is among some keys, and so is one more that has none, there
-- are fewer cells than keys.
abbrev pub OneMoreHasRoom : Type 0
OneMoreHasRoom =
    (cells : List Cell) (keys : List Key) (key : Key) → Once cells
    → AllByRecursion (λ (c : Cell). has_key keys c.key ≡ true) cells → slot_at cells key ≡ None
    → has_key keys key ≡ true → length cells < length keys
