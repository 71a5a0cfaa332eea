-- How queues of packets stand in lists linked by index: the slot of an item is the place of its packet. No public
-- clause cites this module.
use Rattle.std.specs.Prelude.{◌≡◌, ℕ, ◌<◌, ◌≤◌, List, [], ◌∷◌, length, map, Option, Some, None, flat_map}
use Rattle.std.specs.Prelude.{slice_index_or, slice_set}
use Rattle.std.specs.Option.{option_to_list}
use Rattle.std.specs.List.{AllByRecursion}
use Rattle.timers.specs.declared.links.links.Item.{Item}
use Rattle.timers.specs.Links.Items.{Contents, IsWhole, IsLive, PutsLast, list_at}
use Rattle.timers.specs.Pending.Limits.{most_waiting, most_addresses, most_packets}

-- a numbered queue
abbrev pub queue_at : {T : Type 0} → List (List T) → ℕ → List T
queue_at queues l = slice_index_or queues l []

-- the first packet of a queue
abbrev pub front_of : {T : Type 0} → List T → Option T
front_of [] = None
front_of (p ∷ ps) = Some p

-- the packet at a slot
abbrev pub packet_at : {T : Type 0} → List (Option T) → ℕ → Option T
packet_at packets slot = slice_index_or packets slot None

-- the packets of items
abbrev pub held : {T : Type 0} → List (Option T) → List Item → List T
held packets items = flat_map (λ (item : Item). option_to_list (packet_at packets item.slot)) items

-- the packets of all lists
abbrev pub contents : {T : Type 0} → List (Option T) → List (List Item) → List (List T)
contents packets lists = map (held packets) lists

-- an item of the list has a packet at its slot
pub record IsHeld {T : Type 0} (packets : List (Option T)) (l : ℕ) (item : Item) : Type 0 where
  pub list : item.list ≡ l
  pub slot : item.slot < most_packets
  pub packet : T
  pub there : packet_at packets item.slot ≡ Some packet

-- the items of all lists have their packets
pub record IsKept {T : Type 0} (packets : List (Option T)) (links : Contents) : Type 0 where
  pub places : length packets ≡ most_packets
  pub many : length links.lists ≡ most_addresses
  pub whole : IsWhole links
  pub slots_ : links.slots ≡ most_packets
  pub short : (l : ℕ) → l < most_addresses → length (list_at links.lists l) ≤ most_waiting
  pub each : (l : ℕ) → l < most_addresses → AllByRecursion (IsHeld packets l) (list_at links.lists l)

-- an item was put last into a list, at a slot that no item had
pub record Adds (old new : Contents) (list slot : ℕ) : Type 0 where
  pub free : IsLive old.lists slot → ⊥
  pub within : slot < most_packets
  pub put : PutsLast old.lists new.lists (record { slot = slot; list = list; key = 0; due = 0 })
  pub whole : IsWhole new
  pub slots_ : new.slots ≡ old.slots

-- the first item of a list was taken out
pub record Takes (old new : Contents) (list slot : ℕ) : Type 0 where
  pub first : Item
  pub rest : List Item
  pub is : list_at old.lists list ≡ first ∷ rest
  pub slot_ : first.slot ≡ slot
  pub lists_ : new.lists ≡ slice_set old.lists list rest
  pub gone : IsLive new.lists slot → ⊥
  pub whole : IsWhole new
  pub slots_ : new.slots ≡ old.slots
