-- How `Links` lays out its lists. No public clause cites this module.
use Rattle.std.specs.Prelude.{◌≡◌, ◌≢◌, ℕ, zero, suc, ◌+◌, ◌<◌, ◌≤◌, nat_lt, nat_le, cond, sum_by, List, [], ◌∷◌, map}
use Rattle.std.specs.Prelude.{length, take, drop, slice_index_or, slice_set}
use Rattle.timers.specs.declared.links.links.Item.{Item}
use Rattle.timers.specs.declared.links.nodes.Node.{Node}
use Rattle.timers.specs.Links.Items.{Contents}

-- a node that names itself, behind all nodes
abbrev pub blank_node : Node
blank_node = record { prev = 0; next = 0; item = record { slot = 0; list = 0; key = 0; due = 0 } }

-- the node at a place
abbrev pub node_at : List Node → ℕ → Node
node_at nodes i = slice_index_or nodes i blank_node

-- the place that it names as the next
abbrev pub next_of : List Node → ℕ → ℕ
next_of nodes i = (node_at nodes i).next

-- the place that it names as the one before
abbrev pub prev_of : List Node → ℕ → ℕ
prev_of nodes i = (node_at nodes i).prev

-- its item
abbrev pub item_at : List Node → ℕ → Item
item_at nodes i = (node_at nodes i).item

-- a node is written
abbrev pub with_node : List Node → ℕ → Node → List Node
with_node nodes i node = slice_set nodes i node

-- the place of the next node is written
abbrev pub with_next : List Node → ℕ → ℕ → List Node
with_next nodes i to = slice_set nodes i (record (node_at nodes i) { next = to })

-- the place of the node before is written
abbrev pub with_prev : List Node → ℕ → ℕ → List Node
with_prev nodes i to = slice_set nodes i (record (node_at nodes i) { prev = to })

-- p and q name one another
abbrev pub tied : List Node → ℕ → ℕ → List Node
tied nodes p q = with_prev (with_next nodes p q) q p

-- the neighbours of a slot name one another
abbrev pub unlinked : List Node → ℕ → List Node
unlinked nodes at = tied nodes (prev_of nodes at) (next_of nodes at)

-- a slot is put last into the list that has its ends at end
abbrev pub linked : List Node → ℕ → ℕ → Item → List Node
linked nodes end at item =
    with_node (with_prev (with_next nodes (prev_of nodes end) at) end at) at
    (record { prev = prev_of nodes end; next = end; item = item })

-- a slot goes out of its list and last into the one that has its ends at end
abbrev pub moved : List Node → ℕ → ℕ → Item → List Node
moved nodes end at item = linked (unlinked nodes at) end at item

-- all that a move reads and writes is there
pub record CanMove (nodes : List Node) (slots end at : ℕ) : Type 0 where
  pub here : at < length nodes
  pub prev : prev_of nodes at < length nodes
  pub next : next_of nodes at < length nodes
  pub behind : slots ≤ end
  pub ending : end < length nodes
  pub last : prev_of (unlinked nodes at) end < length nodes

-- t comes after s, and names it as the one before
abbrev pub Tied : List Node → ℕ → ℕ → Type 0
Tied nodes s t = (next_of nodes s ≡ t) × (prev_of nodes t ≡ s)

-- from a over these slots to b, each names the next one and the one before
abbrev pub Path : List Node → ℕ → List ℕ → ℕ → Type 0
Path nodes a [] b = Tied nodes a b
Path nodes a (x ∷ xs) b = Tied nodes a x × Path nodes x xs b

-- P holds of each
abbrev pub Each : (ℕ → Type 0) → List ℕ → Type 0
Each P [] = Unit {0}
Each P (x ∷ xs) = P x × Each P xs

-- x isn't among them
abbrev pub Off : ℕ → List ℕ → Type 0
Off x xs = Each (λ y. y ≢ x) xs

-- none stands twice
abbrev pub Distinct : List ℕ → Type 0
Distinct [] = Unit {0}
Distinct (x ∷ xs) = Off x xs × Distinct xs

-- x is a slot, and its item names slot and list
pub record IsSlotOf (nodes : List Node) (slots l x : ℕ) : Type 0 where
  pub within : x < slots
  pub list : (item_at nodes x).list ≡ l
  pub slot : (item_at nodes x).slot ≡ x

-- the slots of list l, in order
pub record IsList (nodes : List Node) (slots l : ℕ) (xs : List ℕ) : Type 0 where
  pub path : Path nodes (slots + l) xs (slots + l)
  pub each : Each (IsSlotOf nodes slots l) xs
  pub distinct : Distinct xs

-- each list has these slots in order, the last one those that are free, and all slots stand in one
pub record AreLists (nodes : List Node) (slots : ℕ) (order : List (List ℕ)) : Type 0 where
  pub long : length nodes ≡ slots + length order
  pub at : (l : ℕ) → l < length order → IsList nodes slots l (slice_index_or order l [])

-- the nodes are that many lists and the list of free slots
pub record IsSound (nodes : List Node) (slots lists spare : ℕ) : Type 0 where
  pub order : List (List ℕ)
  pub lists_are : AreLists nodes slots order
  pub all : sum_by length order ≡ slots
  pub many : length order ≡ lists + 1
  pub free : length (slice_index_or order lists []) ≡ spare

-- the slots from one on, as long as they are slots
abbrev pub walk : List Node → ℕ → ℕ → ℕ → List ℕ
walk nodes slots zero at = []
walk nodes slots (suc more) at = cond (nat_lt at slots) (at ∷ walk nodes slots more (next_of nodes at)) []

-- the slots of each list, by a walk from its end
abbrev pub walks : List Node → ℕ → List (List ℕ)
walks nodes slots = map (λ end. walk nodes slots slots end.next) (drop slots nodes)

-- the items of each list of slots
abbrev pub shown : List Node → List (List ℕ) → List (List Item)
shown nodes order = map (map (item_at nodes)) order

-- what the nodes hold
abbrev pub contents : List Node → ℕ → ℕ → ℕ → Contents
contents nodes slots lists spare =
    record { lists = take lists (shown nodes (walks nodes slots)); slots = slots; spare = spare }

-- k slots on from one, as long as they are slots
abbrev pub stepped : List Node → ℕ → ℕ → ℕ → ℕ
stepped nodes slots zero at = at
stepped nodes slots (suc k) at = cond (nat_lt at slots) (stepped nodes slots k (next_of nodes at)) at

-- how many slots from one on are due, up to the first that isn't, and at most k
abbrev pub due_along : List Node → ℕ → ℕ → ℕ → ℕ → ℕ
due_along nodes slots now zero at = 0
due_along nodes slots now (suc k) at =
    cond (nat_lt at slots) (cond (nat_le (item_at nodes at).due now)
    (1 + due_along nodes slots now k (next_of nodes at)) 0) 0

-- a node that is in no list and names itself
abbrev pub IsAlone : List Node → ℕ → Type 0
IsAlone nodes i = (next_of nodes i ≡ i) × (prev_of nodes i ≡ i)

-- the first slots up to k are the last list, and all others are empty
pub record IsBuilt (nodes : List Node) (slots lists k : ℕ) : Type 0 where
  pub order : List (List ℕ)
  pub lists_are : AreLists nodes slots order
  pub all : sum_by length order ≡ k
  pub many : length order ≡ lists + 1
  pub free : length (slice_index_or order lists []) ≡ k
  pub below : Each (λ x. x < k) (slice_index_or order lists [])
  pub empty : (l : ℕ) → l < lists → slice_index_or order l [] ≡ []
