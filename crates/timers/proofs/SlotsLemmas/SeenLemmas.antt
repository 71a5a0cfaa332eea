-- What the lists and the cells stand for, by class.
use Rattle.std.proofs.Common.{◌≡◌, ◌≢◌, ℕ, zero, suc, ◌<◌, inl, inr, List, [], ◌∷◌, ◌++◌, ◌==◌, map, length, set}
use Rattle.std.proofs.Common.{refl, sym, ap, ap₂, ◌∙◌, arith, length-set}
use Rattle.std.specs.Prelude.{All}
use Rattle.std.proofs.lemmas.Bool.{cases_eq}
use Rattle.std.proofs.lemmas.List.{get_or-set_same, get_or-set_other, get_or-map, length-map, map-set, map-append}
use Rattle.std.proofs.lemmas.List.Elements.{All-head, All-tail, All-filter, All-same}
use Rattle.rm_base.specs.Limits.{most_keys}
use Rattle.timers.specs.declared.links.links.Item.{Item}
use Rattle.timers.specs.Links.Items.{Stands, list_at}
use Rattle.timers.specs.declared.slots.table.Cell.{Cell}
use Rattle.timers.specs.declared.slots.timers.Key.{Key}
use Rattle.timers.specs.Slots.Table.{blank_cell, cell_at, with_at, IsTied, IsOwned, NotOwned, Each, left_of, shifted}
use Rattle.timers.specs.Slots.Table.{with_new, entry_of, entries}
use Rattle.timers.specs.Slots.Waits.{Entry, IsLive, class_at, Waits, in_class, by_class}
use Rattle.timers.proofs.SlotsLemmas.PlainLemmas.{moved, at_class}
use Rattle.timers.proofs.SlotsLemmas.TableLemmas.{tied_at}

map_same : {A B : Type 0} (f g : A → B) → ((x : A) → f x ≡ g x) → (xs : List A) → map f xs ≡ map g xs
map_same f g h [] = refl
map_same {A} {B} f g h (x ∷ xs) = ap₂ (λ (y : B) (ys : List B). y ∷ ys) (h x) (map_same f g h xs)

-- a split of what a list is seen as is a split of the list
record SplitOf {A B : Type 0} (f : A → B) (xs : List A) (before : List B) (e : B) (after : List B) : Type 0 where
  left : List A
  item : A
  right : List A
  is : xs ≡ left ++ item ∷ right
  is_left : map f left ≡ before
  is_item : f item ≡ e
  is_right : map f right ≡ after

split_of : {A B : Type 0} (f : A → B) (xs : List A) (before : List B) (e : B) (after : List B) →
    map f xs ≡ before ++ e ∷ after → SplitOf f xs before e after
split_of f [] [] e after h = absurd (cc)
split_of f [] (b ∷ before) e after h = absurd (cc)
split_of f (x ∷ xs) [] e after h =
    record { left = []; item = x; right = xs; is = refl; is_left = refl; is_item = cc; is_right = cc }
split_of {A} {B} f (x ∷ xs) (b ∷ before) e after h =
    let tails : map f xs ≡ before ++ e ∷ after = cc in
    let rest = split_of f xs before e after tails in
    let heads : f x ≡ b = cc in
    record {
      left = x ∷ rest.left;
      item = rest.item;
      right = rest.right;
      is = ap (λ (l : List A). x ∷ l) rest.is;
      is_left = ap₂ (λ (v : B) (vs : List B). v ∷ vs) heads rest.is_left;
      is_item = rest.is_item;
      is_right = rest.is_right;
    }

entry_kept : (cells : List Cell) (s at : ℕ) (item : Item) → s < length cells →
    entry_of (with_at cells s at) item ≡ entry_of cells item
entry_kept cells s at item lt =
    let cell : Cell = record (cell_at cells s) { at = at } in
    let key : (cell_at (with_at cells s at) item.key).key ≡ (cell_at cells item.key).key = elim (cases_eq item.key s) [
      | inl e ↦ rw e (ap (λ (v : Cell). v.key) (get_or-set_same cells s cell blank_cell lt))
      | inr ne ↦ ap (λ (v : Cell). v.key) (get_or-set_other cells s item.key cell blank_cell ne)
    ] in
    ap (λ k. record { slot = item.key; key = k; class = item.list; due = item.due }) key

entries_kept : (cells : List Cell) (s at : ℕ) (lists : List (List Item)) → s < length cells →
    entries (with_at cells s at) lists ≡ entries cells lists
entries_kept cells s at lists lt =
    map_same (map (entry_of (with_at cells s at))) (map (entry_of cells))
    (λ xs. map_same (entry_of (with_at cells s at)) (entry_of cells) (λ i. entry_kept cells s at i lt) xs) lists

pub entries_left : (lists : List (List Item)) (cells : List Cell) (before : List Item) (item : Item)
    (after : List Item) →
    entries cells (left_of lists before item after)
    ≡ set (entries cells lists) item.list (map (entry_of cells) before ++ map (entry_of cells) after)
entries_left lists cells before item after =
    map-set (map (entry_of cells)) lists item.list (before ++ after)
    ∙ ap (set (entries cells lists) item.list) (map-append (entry_of cells) before after)

pub entries_shifted : (lists : List (List Item)) (cells : List Cell) (before : List Item) (item : Item)
    (after : List Item)
    (class due at : ℕ) → item.key < length cells → class < length lists →
    entries (with_at cells item.key at) (shifted lists before item after class due at)
    ≡ moved (entries cells lists) (map (entry_of cells) before) (entry_of cells item)
    (map (entry_of cells) after) class due
entries_shifted lists cells before item after class due at owned lt =
    let e = entry_of cells in
    let out = left_of lists before item after in
    let put : Item = record { slot = at; list = class; key = item.key; due = due } in
    let len : length out ≡ length lists = length-set lists item.list (before ++ after) in
    let at_it : map e (list_at out class) ≡ class_at (map (map e) out) class =
    sym (get_or-map (map e) out class [] [] (omega arith)) in
    entries_kept cells item.key at (shifted lists before item after class due at) owned
    ∙ map-set (map e) out class (list_at out class ++ put ∷ [])
    ∙ ap (set (map (map e) out) class) (map-append e (list_at out class) (put ∷ []))
    ∙ ap (λ (v : List Entry). set (map (map e) out) class (v ++ e put ∷ [])) at_it
    ∙ ap (λ (v : List (List Entry)). set v class (class_at v class ++ e put ∷ []))
    (entries_left lists cells before item after)

-- a cell that no item names may be written
entries_apart : (cells : List Cell) (slot : ℕ) (cell : Cell) (xs : List Item) → Each (λ i. i.key ≢ slot) xs →
    map (entry_of (set cells slot cell)) xs ≡ map (entry_of cells) xs
entries_apart cells slot cell [] h = refl
entries_apart cells slot cell (x ∷ xs) h =
    let key : (cell_at (set cells slot cell) x.key).key ≡ (cell_at cells x.key).key =
    ap (λ (v : Cell). v.key) (get_or-set_other cells slot x.key cell blank_cell h.0) in
    ap₂ (λ (k : Key) (es : List Entry). record { slot = x.key; key = k; class = x.list; due = x.due } ∷ es) key
    (entries_apart cells slot cell xs h.1)

entries_other : (cells : List Cell) (slot : ℕ) (cell : Cell) (lists : List (List Item)) →
    ((l : ℕ) → l < length lists → Each (λ i. i.key ≢ slot) (list_at lists l)) →
    entries (set cells slot cell) lists ≡ entries cells lists
entries_other cells slot cell [] h = refl
entries_other cells slot cell (xs ∷ lists) h =
    ap₂ (λ (v : List Entry) (vs : List (List Entry)). v ∷ vs) (entries_apart cells slot cell xs (h zero (omega arith)))
    (entries_other cells slot cell lists (λ l lt. h (suc l) (omega arith)))

pub entries_new : (lists : List (List Item)) (cells : List Cell) (cell : Cell) (slot : ℕ) → IsTied lists cells →
    slot < most_keys → NotOwned lists slot →
    entries (set cells slot cell) (with_new lists slot cell.at)
    ≡ set (entries cells lists) 0
    (class_at (entries cells lists) 0 ++ record { slot = slot; key = cell.key; class = 0; due = 0 } ∷ [])
entries_new lists cells cell slot t lt free =
    let new = set cells slot cell in
    let e = entry_of new in
    let seven = t.seven in
    let small = t.small in
    let put : Item = record { slot = cell.at; list = 0; key = slot; due = 0 } in
    let still : entries new lists ≡ entries cells lists =
    entries_other cells slot cell lists (λ l below. free l (omega arith)) in
    let key : (cell_at new slot).key ≡ cell.key =
    ap (λ (v : Cell). v.key) (get_or-set_same cells slot cell blank_cell (omega arith)) in
    map-set (map e) lists 0 (list_at lists 0 ++ put ∷ [])
    ∙ ap (set (entries new lists) 0) (map-append e (list_at lists 0) (put ∷ []))
    ∙ ap (λ (v : List Entry). set (entries new lists) 0 (v ++ e put ∷ []))
    (sym (get_or-map (map e) lists 0 [] [] (omega arith)))
    ∙ ap (λ (v : List (List Entry)). set v 0 (class_at v 0 ++ e put ∷ [])) still
    ∙ ap (λ (k : Key). set (entries cells lists) 0
    (class_at (entries cells lists) 0 ++ record { slot = slot; key = k; class = 0; due = 0 } ∷ [])) key

-- an entry that waits is an item that stands
pub record ItemOf (lists : List (List Item)) (cells : List Cell) (before : List Entry) (entry : Entry)
    (after : List Entry) : Type 0 where
  pub left : List Item
  pub item : Item
  pub right : List Item
  pub stands : Stands lists left item right
  pub is_left : map (entry_of cells) left ≡ before
  pub is_item : entry_of cells item ≡ entry
  pub is_right : map (entry_of cells) right ≡ after

pub item_of : (lists : List (List Item)) (cells : List Cell) (before : List Entry) (entry : Entry)
    (after : List Entry) →
    Waits (entries cells lists) before entry after → ItemOf lists cells before entry after
item_of lists cells before entry after w =
    let within = w.within in
    let len : length (entries cells lists) ≡ length lists = length-map lists (map (entry_of cells)) in
    let lt : entry.class < length lists = omega arith in
    let parts = split_of (entry_of cells) (list_at lists entry.class) before entry after
    (sym (get_or-map (map (entry_of cells)) lists entry.class [] [] lt) ∙ w.split) in
    let class : parts.item.list ≡ entry.class = ap (λ (v : Entry). v.class) parts.is_item in
    record {
      left = parts.left;
      item = parts.item;
      right = parts.right;
      stands = record { within = omega arith; split = ap (list_at lists) class ∙ parts.is };
      is_left = parts.is_left;
      is_item = parts.is_item;
      is_right = parts.is_right;
    }

pub owned_of : (lists : List (List Item)) (cells : List Cell) (time spare slot : ℕ) →
    IsLive (record { classes = entries cells lists; time = time; spare = spare }) slot → IsOwned lists slot
owned_of lists cells time spare slot h =
    let i = item_of lists cells h.before h.entry h.after h.waits in
    record {
      before = i.left;
      item = i.item;
      after = i.right;
      has = ap (λ (v : Entry). v.slot) i.is_item ∙ h.has;
      stands = i.stands;
    }

-- what a shift leaves is a move
pub moved_seen : (lists new : List (List Item)) (cells newer : List Cell) (slot at : ℕ) (class due : ℕ → ℕ)
    (before : List Entry) (entry : Entry) (after : List Entry) → IsTied lists cells → ((k : ℕ) → class k < 7) →
    ((b : List Item) (i : Item) (a : List Item) → i.key ≡ slot → Stands lists b i a →
    new ≡ shifted lists b i a (class i.list) (due i.list) at) →
    newer ≡ with_at cells slot at → entry.slot ≡ slot → Waits (entries cells lists) before entry after →
    entries newer new ≡ moved (entries cells lists) before entry after (class entry.class) (due entry.class)
moved_seen lists new cells newer slot at class due before entry after t low is kept has w =
    let i = item_of lists cells before entry after w in
    let key : i.item.key ≡ slot = ap (λ (v : Entry). v.slot) i.is_item ∙ has in
    let shape : new ≡ shifted lists i.left i.item i.right (class i.item.list) (due i.item.list) at =
    is i.left i.item i.right key i.stands in
    let cells_are : newer ≡ with_at cells i.item.key at = kept ∙ ap (λ (s : ℕ). with_at cells s at) (sym key) in
    let seven = t.seven in
    let lt = low i.item.list in
    let mine = tied_at lists cells i.left i.item i.right t i.stands in
    let e = entries_shifted lists cells i.left i.item i.right (class i.item.list) (due i.item.list) at mine.owned
    (omega arith) in
    let move : List Entry → Entry → List Entry → List (List Entry) =
    λ b x a. moved (entries cells lists) b x a (class x.class) (due x.class) in
    ap₂ (λ (c : List Cell) (v : List (List Item)). entries c v) cells_are shape ∙ e
    ∙ ap₂ (λ (b a : List Entry). move b (entry_of cells i.item) a) i.is_left i.is_right
    ∙ ap (λ (x : Entry). move before x after) i.is_item

-- what is taken out leaves its class
pub left_seen : (lists new : List (List Item)) (cells : List Cell) (slot : ℕ) (before : List Entry) (entry : Entry)
    (after : List Entry) →
    ((b : List Item) (i : Item) (a : List Item) → i.key ≡ slot → Stands lists b i a → new ≡ left_of lists b i a) →
    entry.slot ≡ slot → Waits (entries cells lists) before entry after →
    entries cells new ≡ set (entries cells lists) entry.class (before ++ after)
left_seen lists new cells slot before entry after is has w =
    let i = item_of lists cells before entry after w in
    let key : i.item.key ≡ slot = ap (λ (v : Entry). v.slot) i.is_item ∙ has in
    ap (entries cells) (is i.left i.item i.right key i.stands)
    ∙ entries_left lists cells i.left i.item i.right
    ∙ ap₂ (λ (b a : List Entry). set (entries cells lists) i.item.list (b ++ a)) i.is_left i.is_right
    ∙ ap (λ (x : Entry). set (entries cells lists) x.class (before ++ after)) i.is_item

keys_apart : (cells : List Cell) (slot : ℕ) (xs : List Item) → All (λ e. e.slot ≢ slot) (map (entry_of cells) xs) →
    Each (λ i. i.key ≢ slot) xs
keys_apart cells slot [] h = tt
keys_apart cells slot (x ∷ xs) h = (
  All-head (λ (e : Entry). e.slot ≢ slot) (entry_of cells x) (map (entry_of cells) xs) h,
  keys_apart cells slot xs (All-tail (λ (e : Entry). e.slot ≢ slot) (entry_of cells x) (map (entry_of cells) xs) h),
)

-- a slot that no entry has, no item has
pub not_owned : (lists : List (List Item)) (cells : List Cell) (slot : ℕ) (w : List Entry) → length lists ≡ 7 →
    entries cells lists ≡ by_class w → All (λ e. e.slot ≢ slot) w → NotOwned lists slot
not_owned lists cells slot w seven is free l lt =
    let here : map (entry_of cells) (list_at lists l) ≡ in_class l w =
    sym (get_or-map (map (entry_of cells)) lists l [] [] (omega arith)) ∙ ap
    (λ (c : List (List Entry)). class_at c l) is
    ∙ at_class w l lt in
    keys_apart cells slot (list_at lists l)
    (All-same (λ (e : Entry). e.slot ≢ slot) (map (entry_of cells) (list_at lists l)) (in_class l w) here
    (All-filter (λ e. e.class == l) (λ e. e.slot ≢ slot) w free))
