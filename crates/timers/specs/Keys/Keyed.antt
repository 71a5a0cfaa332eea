-- How timers whose slots are found by key stand for the plain list.
use Rattle.std.specs.Prelude.{◌≡◌, ℕ, ◌+◌, ◌<◌, ◌≤◌, ◌==◌, nat_lt, Bool, true, false, if◌then◌else◌, List, [], ◌∷◌, map}
use Rattle.std.specs.Prelude.{length, slice_index_or, Option, Some, None}
use Rattle.std.specs.List.{AllByRecursion}
use Rattle.rm_base.specs.Limits as limits
use Rattle.timers.specs.declared.slots.timers.Key.{Key}
use Rattle.timers.specs.Slots.Waits.{Entry, Waiting, StandFor}
use Rattle.timers.specs.declared.keys.cells.Cell.{Cell}
use Rattle.timers.specs.Keys.Waits.{Wait, same_key}

-- what contracts see: what waits by slot, with a time of its own; cells, each a key with its slot; and the time
pub record Keyed : Type 0 where
  pub timing : Waiting
  pub cells : List Cell
  pub time : ℕ

-- the keys of cells, as these stand
abbrev pub keys_in : List Cell → List Key
keys_in cells = map (λ (c : Cell). c.key) cells

-- a key comes before another
abbrev pub is_before : Key → Key → Bool
is_before a b = if a.seq == b.seq then nat_lt a.number b.number else nat_lt a.seq b.seq

-- the slot of the first cell with this key
abbrev pub slot_at : List Cell → Key → Option ℕ
slot_at [] key = None
slot_at (c ∷ cells) key = if same_key key c.key then Some c.slot else slot_at cells key

-- no key stands in two cells
abbrev pub Once : List Cell → Type 0
Once [] = Unit {0}
Once (c ∷ cells) = (slot_at cells c.key ≡ None) × Once cells

-- the keys rise, by sequence and number
abbrev pub Rises : List Cell → Type 0
Rises [] = Unit {0}
Rises (c ∷ cells) = AllByRecursion (λ (d : Cell). is_before c.key d.key ≡ true) cells × Rises cells

-- an entry without its slot
abbrev pub wait_of : Entry → Wait
wait_of e = record { key = e.key; class = e.class; due = e.due }

-- an entry's key and its slot
abbrev pub cell_of : Entry → Cell
cell_of e = record { key = e.key; slot = e.slot }

-- the timers stand for this plain list: it is some entries without their slots, for which what waits by slot stands, no
-- two of one key; and the cells have for each key the slot of its entry, and none where it has no entry
pub record StandsFor (k : Keyed) (waits : List Wait) : Type 0 where
  pub entries : List Entry
  pub stands : StandFor k.timing entries
  pub once : Once (map cell_of entries)
  pub found : (key : Key) → slot_at (map cell_of entries) key ≡ slot_at k.cells key
  pub are : map wait_of entries ≡ waits

-- a step of the timers is this step of each plain list that they stand for
abbrev pub Steps : Keyed → Keyed → (List Wait → List Wait) → Type 0
Steps old new step = (waits : List Wait) → StandsFor old waits → StandsFor new (step waits)

-- a cell behind all cells
abbrev pub blank_cell : Cell
blank_cell = record { key = record { seq = 0; number = 0 }; slot = 0 }

-- the cell at a place
abbrev pub cell_at : List Cell → ℕ → Cell
cell_at cells at = slice_index_or cells at blank_cell

-- in front of this place stand the cells whose keys come before this one, and no others
pub record IsPlace (cells : List Cell) (key : Key) (place : ℕ) : Type 0 where
  pub within : place ≤ length cells
  pub before : (k : ℕ) → k < place → is_before (cell_at cells k).key key ≡ true
  pub after : (k : ℕ) → place ≤ k → k < length cells → is_before (cell_at cells k).key key ≡ false

-- the key stands there
pub record IsAt (cells : List Cell) (key : Key) (place : ℕ) : Type 0 where
  pub within : place < length cells
  pub key_is : (cell_at cells place).key ≡ key

-- the key stands nowhere, and would stand there
pub record IsGap (cells : List Cell) (key : Key) (place : ℕ) : Type 0 where
  pub place_is : IsPlace cells key place
  pub absent : slot_at cells key ≡ None

-- what the timers keep: the cells rise; they and the spare slots are together as many as there are slots, and there is
-- room for so many; the time of what waits by slot is not after theirs, which is bounded; and they stand for some plain
-- list
pub record IsKept (timing : Waiting) (cells : List Cell) (room time : ℕ) : Type 0 where
  pub rising : Rises cells
  pub count : length cells + timing.spare ≡ limits.most_keys
  pub has_room : limits.most_keys ≤ room
  pub early : timing.time ≤ time
  pub now : time ≤ limits.now_max
  pub waits : List Wait
  pub stands : StandsFor (record { timing = timing; cells = cells; time = time }) waits
