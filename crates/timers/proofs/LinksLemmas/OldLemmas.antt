-- The lists of `Links`, in the words that a caller sees.
use Rattle.std.proofs.Common.{◌≡◌, ℕ, ◌+◌, ◌<◌, ◌≤◌, ◌⊎◌, List, [], ◌∷◌, Some, None, drop, length, min, slice_get}
use Rattle.std.proofs.Common.{sym, ap, subst, ◌∙◌, arith}
use Rattle.timers.specs.declared.links.links.Item.{Item}
use Rattle.timers.specs.declared.links.links.Links.TheInside.{Inside}
use Rattle.timers.specs.Links.Items.{Contents, IsWhole, Stands, list_at, due_count}
use Rattle.timers.specs.Links.Nodes.{next_of, item_at, IsSound, contents, stepped, due_along}
use Rattle.timers.proofs.LinksLemmas.ListsLemmas.{all_within}
use Rattle.timers.proofs.LinksLemmas.ShownLemmas.{seen}
use Rattle.timers.proofs.LinksLemmas.WalkLemmas.{some_first, no_first, first_stands, length-seen, nth_seen, list_is}
use Rattle.timers.proofs.LinksLemmas.WalkLemmas.{due_along_is}
use Rattle.timers.proofs.LinksLemmas.WholeLemmas.{whole_of}

-- the fields are seen so
pub record AreSeen (s : Inside) (old : Contents) : Type 0 where
  pub sound : IsSound s.nodes.items s.slots s.lists s.spare
  pub is : contents s.nodes.items s.slots s.lists s.spare ≡ old

pub old_lists : (s : Inside) (old : Contents) → AreSeen s old → seen s.nodes.items s.slots s.lists ≡ old.lists
old_lists s old are = ap (λ (v : Contents). v.lists) are.is

pub old_whole : (s : Inside) (old : Contents) → AreSeen s old → IsWhole old
old_whole s old are = subst IsWhole are.is (whole_of s.nodes.items s.slots s.lists s.spare are.sound)

pub old_length : (s : Inside) (old : Contents) → AreSeen s old → length old.lists ≡ s.lists
old_length s old are =
    ap length (sym (old_lists s old are)) ∙ length-seen s.nodes.items s.slots s.lists s.spare are.sound

-- what stands first
pub record Found (s : Inside) (old : Contents) (list at : ℕ) : Type 0 where
  pub item : Item
  pub node : item_at s.nodes.items at ≡ item
  pub slot : item.slot ≡ at
  pub in_list : item.list ≡ list
  pub stands : Stands old.lists [] item (drop 1 (list_at old.lists list))
  pub split : list_at old.lists list ≡ item ∷ drop 1 (list_at old.lists list)

pub found : (s : Inside) (old : Contents) (list at : ℕ) → AreSeen s old → list < length old.lists →
    at ≡ next_of s.nodes.items (s.slots + list) → at < s.slots → Found s old list at
found s old list at are lt at_is below =
    let n = s.nodes.items in
    let len = old_length s old are in
    let within : list < s.lists = omega arith in
    let low : next_of n (s.slots + list) < s.slots = omega arith in
    let h = some_first n s.slots s.lists s.spare list are.sound within low in
    let st = first_stands n s.slots s.lists s.spare list are.sound within low in
    let is = old_lists s old are in
    let item = item_at n (next_of n (s.slots + list)) in
    record {
      item = item;
      node = ap (item_at n) at_is;
      slot = h.slot ∙ sym at_is;
      in_list = h.list;
      stands = subst (λ (v : List (List Item)). Stands v [] item (drop 1 (list_at v list))) is st;
      split = subst (λ (v : List (List Item)). list_at v list ≡ item ∷ drop 1 (list_at v list)) is h.split;
    }

pub not_found : (s : Inside) (old : Contents) (list at : ℕ) → AreSeen s old → list < length old.lists →
    at ≡ next_of s.nodes.items (s.slots + list) → s.slots ≤ at → list_at old.lists list ≡ []
not_found s old list at are lt at_is above =
    let len = old_length s old are in
    ap (λ (v : List (List Item)). list_at v list) (sym (old_lists s old are))
    ∙ no_first s.nodes.items s.slots s.lists s.spare list are.sound (omega arith) (omega arith)

-- the item that is so many places on
abbrev pub IsNth : Inside → Contents → ℕ → ℕ → ℕ → Type 0
IsNth s old list k at =
    ((at < s.slots) × (slice_get (list_at old.lists list) k ≡ Some (item_at s.nodes.items at)))
    ⊎ ((s.slots ≤ at) × (slice_get (list_at old.lists list) k ≡ None))

pub old_nth : (s : Inside) (old : Contents) (list k first at : ℕ) → AreSeen s old → list < length old.lists →
    first ≡ next_of s.nodes.items (s.slots + list) → at ≡ stepped s.nodes.items s.slots k first → IsNth s old list k at
old_nth s old list k first at are lt first_is at_is =
    let n = s.nodes.items in
    let len = old_length s old are in
    let is = old_lists s old are in
    let there = at_is ∙ ap (stepped n s.slots k) first_is in
    let by = nth_seen n s.slots s.lists s.spare list k are.sound (omega arith) in
    subst (λ (v : List (List Item)). ((at < s.slots) × (slice_get (list_at v list) k ≡ Some (item_at n at)))
    ⊎ ((s.slots ≤ at) × (slice_get (list_at v list) k ≡ None))) is
    (subst (λ (a : ℕ). ((a < s.slots) × (slice_get (list_at (seen n s.slots s.lists) list) k ≡ Some (item_at n a)))
    ⊎ ((s.slots ≤ a) × (slice_get (list_at (seen n s.slots s.lists) list) k ≡ None))) (sym there) by)

-- how many of a list are due
pub old_due : (s : Inside) (old : Contents) (list now k first : ℕ) → AreSeen s old → list < length old.lists →
    first ≡ next_of s.nodes.items (s.slots + list) →
    due_along s.nodes.items s.slots now k first ≡ min k (due_count now (list_at old.lists list))
old_due s old list now k first are lt first_is =
    let n = s.nodes.items in
    let sound = are.sound in
    let many = sound.many in
    let len = old_length s old are in
    let below : list < s.lists = omega arith in
    let at = sound.lists_are.at list (omega arith) in
    ap (due_along n s.slots now k) first_is
    ∙ due_along_is n s.slots now (s.slots + list) (s.slots + list) _ k at.path (omega arith)
    (all_within n s.slots list _ at.each)
    ∙ ap (λ (v : List Item). min k (due_count now v)) (sym (list_is n s.slots s.lists s.spare list sound below)
    ∙ ap (λ (v : List (List Item)). list_at v list) (old_lists s old are))
