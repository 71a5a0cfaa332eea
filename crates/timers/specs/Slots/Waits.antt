-- What waits to be emitted: one plain list in the order of the last move, and what each call of the timers makes of it.
use Rattle.std.specs.Prelude.{◌≡◌, ◌≢◌, ℕ, zero, suc, ◌+◌, ◌*◌, ◌^◌, ◌<◌, ◌≤◌, ◌==◌, ◌&&◌, not, min, nat_le, List, []}
use Rattle.std.specs.Prelude.{◌∷◌, ◌++◌, map, filter, length, Option, Some, None, slice_index_or, All, AllPairs}
use Rattle.std.specs.Prelude.{flat_map}
use Rattle.rm_base.specs.Limits as limits
use Rattle.timers.specs.declared.slots.timers.Key.{Key}

-- a key that waits: the slot that its caller keeps, its class, and when it is due
pub record Entry : Type 0 where
  pub slot : ℕ
  pub key : Key
  pub class : ℕ
  pub due : ℕ

-- what contracts see of timers: the entries of each class, each class in the order of the last move; the time; how many
-- slots are free
pub record Waiting : Type 0 where
  pub classes : List (List Entry)
  pub time : ℕ
  pub spare : ℕ

-- when a key is due that was put into a class at this time: at once in class 0, and 2000 * 2^(class - 1) milliseconds
-- later in the others
abbrev pub due_in : ℕ → ℕ → ℕ
due_in zero time = 0
due_in (suc class) time = time + 2000 * 2 ^ class

-- the entry as it is put into a class at this time
abbrev pub put_into : ℕ → ℕ → Entry → Entry
put_into class time entry = record entry { class = class; due = due_in class time }

-- the entry after an emission at this time: in the next class, up to 6
abbrev pub emitted : ℕ → Entry → Entry
emitted time entry = put_into (min (entry.class + 1) 6) time entry

-- the entries of a slot
abbrev pub at_slot : ℕ → List Entry → List Entry
at_slot slot waits = filter (λ entry. entry.slot == slot) waits

-- all others
abbrev pub without : ℕ → List Entry → List Entry
without slot waits = filter (λ entry. not (entry.slot == slot)) waits

-- the entry of a slot goes last, changed so
abbrev pub moved_last : (Entry → Entry) → ℕ → List Entry → List Entry
moved_last change slot waits = without slot waits ++ map change (at_slot slot waits)

-- a key begins to wait: last, and due at once
abbrev pub begun : ℕ → Key → List Entry → List Entry
begun slot key waits = waits ++ record { slot = slot; key = key; class = 0; due = 0 } ∷ []

-- the entry, if there is one, is emitted at this time
abbrev pub with_emitted : ℕ → Option Entry → List Entry → List Entry
with_emitted time None waits = waits
with_emitted time (Some entry) waits = moved_last (emitted time) entry.slot waits

-- the classes
abbrev pub classes_in_order : List ℕ
classes_in_order = 0 ∷ 1 ∷ 2 ∷ 3 ∷ 4 ∷ 5 ∷ 6 ∷ []

-- the entries that are due, by class and then by place
abbrev pub due_at : ℕ → List Entry → List Entry
due_at now waits = flat_map (λ class. filter (λ entry. (entry.class == class) && nat_le entry.due now) waits)
    classes_in_order

-- the entries of a class
abbrev pub in_class : ℕ → List Entry → List Entry
in_class class waits = filter (λ entry. entry.class == class) waits

-- the plain list, seen by class
abbrev pub by_class : List Entry → List (List Entry)
by_class waits = map (λ class. in_class class waits) classes_in_order

-- what holds of the entries that wait at a time: slots are distinct; along each class the due moments never fall, and
-- none is later than that of a key that is put there now
pub record AreTimed (time : ℕ) (waits : List Entry) : Type 0 where
  pub in_classes : All (λ entry. entry.class < 7) waits
  pub in_slots : All (λ entry. entry.slot < limits.most_keys) waits
  pub distinct : AllPairs (λ one other. one.slot ≢ other.slot) waits
  pub bound : All (λ entry. entry.due ≤ due_in entry.class time) waits
  pub rising : AllPairs (λ one other. one.class ≡ other.class → one.due ≤ other.due) waits

-- the timers stand for the plain list: they keep its entries by class, and all slots without one are free
pub record StandFor (timers : Waiting) (waits : List Entry) : Type 0 where
  pub classes : timers.classes ≡ by_class waits
  pub timed : AreTimed timers.time waits
  pub spare : length waits + timers.spare ≡ limits.most_keys

-- a step of the timers is this step of each plain list that they stand for
abbrev pub Steps : Waiting → Waiting → (List Entry → List Entry) → Type 0
Steps old new step = (waits : List Entry) → StandFor old waits → StandFor new (step waits)

-- the entries of a class that timers keep
abbrev pub class_at : List (List Entry) → ℕ → List Entry
class_at classes class = slice_index_or classes class []

-- the entry stands in its class, between these
pub record Waits (classes : List (List Entry)) (before : List Entry) (entry : Entry) (after : List Entry) : Type 0 where
  pub within : entry.class < length classes
  pub split : class_at classes entry.class ≡ before ++ entry ∷ after

-- a key waits at the slot
pub record IsLive (timers : Waiting) (slot : ℕ) : Type 0 where
  pub before : List Entry
  pub entry : Entry
  pub after : List Entry
  pub has : entry.slot ≡ slot
  pub waits : Waits timers.classes before entry after
