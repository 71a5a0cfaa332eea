-- Lists of items, each with the slot that it stands in: what contracts see of `Links`.
use Rattle.std.specs.Prelude.{◌≡◌, ◌≢◌, ℕ, ◌+◌, ◌<◌, nat_le, if◌then◌else◌, List, [], ◌∷◌, ◌++◌, Option, Some, None}
use Rattle.std.specs.Prelude.{length, drop, slice_set, slice_index_or, All, AllPairs}
use Rattle.std.specs.List.{flat_map, prefix_len}
use Rattle.timers.specs.declared.links.links.Item.{Item}

-- the lists of items, how many slots there are, and how many of them have no item
pub record Contents : Type 0 where
  pub lists : List (List Item)
  pub slots : ℕ
  pub spare : ℕ

-- the items of a list, in order
abbrev pub list_at : List (List Item) → ℕ → List Item
list_at lists l = slice_index_or lists l []

-- all items, list by list
abbrev pub all_items : List (List Item) → List Item
all_items lists = flat_map (λ items. items) lists

-- what holds of every content: an item names its list and a slot, no two items have one slot, and all other slots
-- are spare
pub record IsWhole (contents : Contents) : Type 0 where
  pub in_list : (l : ℕ) → l < length contents.lists → All (λ item. item.list ≡ l) (list_at contents.lists l)
  pub in_slot : All (λ item. item.slot < contents.slots) (all_items contents.lists)
  pub distinct : AllPairs (λ one other. one.slot ≢ other.slot) (all_items contents.lists)
  pub spare_is : length (all_items contents.lists) + contents.spare ≡ contents.slots

-- the item stands in its list, between these
pub record Stands (lists : List (List Item)) (before : List Item) (item : Item) (after : List Item) : Type 0 where
  pub within : item.list < length lists
  pub split : list_at lists item.list ≡ before ++ item ∷ after

-- an item has the slot
pub record IsLive (lists : List (List Item)) (slot : ℕ) : Type 0 where
  pub before : List Item
  pub item : Item
  pub after : List Item
  pub has : item.slot ≡ slot
  pub stands : Stands lists before item after

-- wherever the slot's item stands, it is the one that was taken, and the lists are left without it
abbrev pub TakesOut : List (List Item) → List (List Item) → ℕ → Item → Type 0
TakesOut old new slot taken =
    (before : List Item) (item : Item) (after : List Item) → item.slot ≡ slot → Stands old before item after →
    (taken ≡ item) × (new ≡ slice_set old item.list (before ++ after))

-- new is old with the item last in its list
abbrev pub PutsLast : List (List Item) → List (List Item) → Item → Type 0
PutsLast old new item = new ≡ slice_set old item.list (list_at old item.list ++ item ∷ [])

-- the first of a list
abbrev pub first_of : List Item → Option Item
first_of [] = None
first_of (item ∷ items) = Some item

-- new is old without the first item of its list
abbrev pub TakesFirst : List (List Item) → List (List Item) → ℕ → Type 0
TakesFirst old new list = new ≡ slice_set old list (drop 1 (list_at old list))

-- the first item of the lowest list whose first item is due
abbrev pub first_due : ℕ → List (List Item) → Option Item
first_due now [] = None
first_due now ([] ∷ lists) = first_due now lists
first_due now ((item ∷ items) ∷ lists) = if nat_le item.due now then Some item else first_due now lists

-- how many items at the front of a list are due, up to the first that isn't
abbrev pub due_count : ℕ → List Item → ℕ
due_count now items = prefix_len (λ item. nat_le item.due now) items
