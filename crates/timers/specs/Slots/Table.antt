-- How timers keep their keys: an item of a list names the slot of the timers, whose cell names the slot of the list.
-- No public clause cites this module.
use Rattle.std.specs.Prelude.{◌≡◌, ◌≢◌, ℕ, ◌+◌, ◌<◌, ◌≤◌, Bool, true, false, cond, min, nat_le, List, [], ◌∷◌, ◌++◌}
use Rattle.std.specs.Prelude.{map, length, slice_index_or, slice_set, All, AllPairs, flat_map}
use Rattle.rm_base.specs.Limits as limits
use Rattle.timers.specs.declared.links.links.Item.{Item}
use Rattle.timers.specs.Links.Items.{Stands, list_at}
use Rattle.timers.specs.declared.slots.table.Cell.{Cell}
use Rattle.timers.specs.Slots.Waits.{Entry, Waiting, StandFor}

-- a cell behind all cells
abbrev pub blank_cell : Cell
blank_cell = record { key = record { seq = 0; number = 0 }; at = 0 }

-- the cell of a slot of the timers
abbrev pub cell_at : List Cell → ℕ → Cell
cell_at cells slot = slice_index_or cells slot blank_cell

-- the key of a slot stands at another slot of the lists
abbrev pub with_at : List Cell → ℕ → ℕ → List Cell
with_at cells slot at = slice_set cells slot (record (cell_at cells slot) { at = at })

-- P holds of each item
abbrev pub Each : (Item → Type 0) → List Item → Type 0
Each P [] = Unit {0}
Each P (x ∷ xs) = P x × Each P xs

-- the item names its class, and its cell names the item's slot
pub record IsTiedItem (cells : List Cell) (class : ℕ) (item : Item) : Type 0 where
  pub list : item.list ≡ class
  pub owned : item.key < length cells
  pub at : (cell_at cells item.key).at ≡ item.slot

-- the items of the seven lists are tied to the cells
pub record IsTied (lists : List (List Item)) (cells : List Cell) : Type 0 where
  pub seven : length lists ≡ 7
  pub each : (l : ℕ) → l < 7 → Each (IsTiedItem cells l) (list_at lists l)
  pub small : length cells ≡ limits.most_keys

-- an item has the slot of the timers
pub record IsOwned (lists : List (List Item)) (slot : ℕ) : Type 0 where
  pub before : List Item
  pub item : Item
  pub after : List Item
  pub has : item.key ≡ slot
  pub stands : Stands lists before item after

-- no item has the slot of the timers
abbrev pub NotOwned : List (List Item) → ℕ → Type 0
NotOwned lists slot = (l : ℕ) → l < 7 → Each (λ i. i.key ≢ slot) (list_at lists l)

-- the class of a key that is urged, or emitted
abbrev pub class_after : Bool → ℕ → ℕ
class_after true class = 0
class_after false class = min (class + 1) 6

-- the lists without an item
abbrev pub left_of : List (List Item) → List Item → Item → List Item → List (List Item)
left_of lists before item after = slice_set lists item.list (before ++ after)

-- the item goes out of its place, and last into a class, with another due and at another slot
abbrev pub shifted : List (List Item) → List Item → Item → List Item → ℕ → ℕ → ℕ → List (List Item)
shifted lists before item after class due at =
    slice_set (left_of lists before item after) class
    (list_at (left_of lists before item after) class
    ++ record { slot = at; list = class; key = item.key; due = due } ∷ [])

-- a new key is put last into class 0, due at once
abbrev pub with_new : List (List Item) → ℕ → ℕ → List (List Item)
with_new lists slot at = slice_set lists 0 (list_at lists 0 ++ record { slot = at; list = 0; key = slot; due = 0 } ∷ [])

-- the items at the front of a list that are due, up to the first that isn't
abbrev pub front : ℕ → List Item → List Item
front now [] = []
front now (x ∷ xs) = cond (nat_le x.due now) (x ∷ front now xs) []

-- those of all lists, in order
abbrev pub fronts : ℕ → List (List Item) → List Item
fronts now lists = flat_map (front now) lists

-- what an item of the lists stands for
abbrev pub entry_of : List Cell → Item → Entry
entry_of cells item = record { slot = item.key; key = (cell_at cells item.key).key; class = item.list; due = item.due }

-- what the lists stand for
abbrev pub entries : List Cell → List (List Item) → List (List Entry)
entries cells lists = map (map (entry_of cells)) lists

-- what contracts see
abbrev pub waiting : List Cell → List (List Item) → ℕ → ℕ → Waiting
waiting cells lists time spare = record { classes = entries cells lists; time = time; spare = spare }

-- the free slots are no entry's, and none stands twice
pub record AreFree (free : List ℕ) (waits : List Entry) : Type 0 where
  pub low : All (λ slot. slot < limits.most_keys) free
  pub distinct : AllPairs ◌≢◌ free
  pub apart : All (λ slot. All (λ entry. entry.slot ≢ slot) waits) free

-- lists, cells and free slots are kept so, for some plain list
pub record IsKept (lists : List (List Item)) (cells : List Cell) (free : List ℕ) (room time spare : ℕ) : Type 0 where
  pub tied : IsTied lists cells
  pub now : time ≤ limits.now_max
  pub count : length free ≡ spare
  pub has_room : limits.most_keys ≤ room
  pub waits : List Entry
  pub stands : StandFor (waiting cells lists time spare) waits
  pub are_free : AreFree free waits
