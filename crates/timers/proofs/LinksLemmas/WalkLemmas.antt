-- The first items of the lists, and steps along one.
use Rattle.std.proofs.Common.{◌≡◌, ℕ, zero, suc, ◌+◌, ◌-◌, ◌<◌, ◌≤◌, ◌⊎◌, inl, inr, List, [], ◌∷◌, Some, None, map}
use Rattle.std.proofs.Common.{length, get_or, drop, min, slice_get, refl, sym, ap, subst, ◌∙◌, arith, length-take}
use Rattle.std.proofs.lemmas.Bool.{cases_lt, lt-ltb, le-ltb, le-leb, lt-leb}
use Rattle.std.proofs.lemmas.List.{length-map, at_drop_more}
use Rattle.timers.specs.declared.links.links.Item.{Item}
use Rattle.timers.specs.declared.links.nodes.Node.{Node}
use Rattle.timers.specs.Links.Items.{Stands, list_at, first_of, first_due, due_count}
use Rattle.timers.specs.Links.Nodes.{next_of, item_at, Path, Each, IsList, IsSound, shown, stepped, due_along}
use Rattle.timers.proofs.LinksLemmas.ListsLemmas.{all_within}
use Rattle.timers.proofs.LinksLemmas.ShownLemmas.{seen, seen_is, list_seen}

pub stepped_more : (n : List Node) (slots k m at : ℕ) → at < slots → m < k →
    stepped n slots (k - m) at ≡ stepped n slots (k - (m + 1)) (next_of n at)
stepped_more n slots k m at h lt =
    let e : k - m ≡ suc (k - (m + 1)) = omega arith in
    rw (e, lt-ltb at slots h) refl

pub stepped_out : (n : List Node) (slots k at : ℕ) → slots ≤ at → stepped n slots k at ≡ at
stepped_out n slots zero at le = refl
stepped_out n slots (suc k) at le = rw (le-ltb at slots le) refl

pub stepped_is : (n : List Node) (slots a b : ℕ) (xs : List ℕ) (k : ℕ) → Path n a xs b → slots ≤ b →
    Each (λ y. y < slots) xs → stepped n slots k (next_of n a) ≡ get_or xs k b
stepped_is n slots a b [] k p le each = rw p.0 (stepped_out n slots k b le)
stepped_is n slots a b (y ∷ ys) zero p le each = p.0.0
stepped_is n slots a b (y ∷ ys) (suc k) p le each =
    let rest : stepped n slots k (next_of n y) ≡ get_or ys k b = stepped_is n slots y b ys k p.1 le each.1 in
    rw (p.0.0, lt-ltb y slots each.0) rest

-- how many lists are seen
pub length-seen : (n : List Node) (slots lists spare : ℕ) → IsSound n slots lists spare →
    length (seen n slots lists) ≡ lists
length-seen n slots lists spare s =
    let many = s.many in
    ap length (seen_is n slots lists s.order s.lists_are s.all) ∙ length-take lists (shown n s.order)
    ∙ (let long : length (shown n s.order) ≡ length s.order = length-map s.order (map (item_at n)) in omega arith)

-- a list is seen as the items of its slots
pub list_is : (n : List Node) (slots lists spare l : ℕ) (s : IsSound n slots lists spare) → l < lists →
    list_at (seen n slots lists) l ≡ map (item_at n) (get_or s.order l [])
list_is n slots lists spare l s lt =
    let many = s.many in
    ap (λ (v : List (List Item)). list_at v l) (seen_is n slots lists s.order s.lists_are s.all)
    ∙ list_seen n s.order lists l lt (omega arith)

-- the first item of a list
pub record HasFirst (n : List Node) (slots : ℕ) (items : List Item) (l at : ℕ) : Type 0 where
  pub within : at < slots
  pub slot : (item_at n at).slot ≡ at
  pub list : (item_at n at).list ≡ l
  pub split : items ≡ item_at n at ∷ drop 1 items

first_by : (n : List Node) (slots l : ℕ) (xs : List ℕ) → IsList n slots l xs →
    HasFirst n slots (map (item_at n) xs) l (next_of n (slots + l))
    ⊎ ((next_of n (slots + l) ≡ slots + l) × (map (item_at n) xs ≡ []))
first_by n slots l [] is = inr (is.path.0, refl)
first_by n slots l (x ∷ xs) is =
    let first = is.path.0.0 in
    let here = is.each.0 in
    inl (subst (HasFirst n slots (map (item_at n) (x ∷ xs)) l) (sym first)
    (record { within = here.within; slot = here.slot; list = here.list; split = refl }))

pub first_seen : (n : List Node) (slots lists spare l : ℕ) → IsSound n slots lists spare → l < lists →
    HasFirst n slots (list_at (seen n slots lists) l) l (next_of n (slots + l))
    ⊎ ((next_of n (slots + l) ≡ slots + l) × (list_at (seen n slots lists) l ≡ []))
first_seen n slots lists spare l s lt =
    let many = s.many in
    let by = first_by n slots l (get_or s.order l []) (s.lists_are.at l (omega arith)) in
    let e = sym (list_is n slots lists spare l s lt) in
    subst (λ (v : List Item). HasFirst n slots v l (next_of n (slots + l)) ⊎
    ((next_of n (slots + l) ≡ slots + l) × (v ≡ []))) e by

pub some_first : (n : List Node) (slots lists spare l : ℕ) → IsSound n slots lists spare → l < lists →
    next_of n (slots + l) < slots → HasFirst n slots (list_at (seen n slots lists) l) l (next_of n (slots + l))
some_first n slots lists spare l s lt below = elim (first_seen n slots lists spare l s lt) [
  | inl h ↦ h
  | inr h ↦ let e = h.0 in absurd (omega arith)
]

pub no_first : (n : List Node) (slots lists spare l : ℕ) → IsSound n slots lists spare → l < lists →
    slots ≤ next_of n (slots + l) → list_at (seen n slots lists) l ≡ []
no_first n slots lists spare l s lt above = elim (first_seen n slots lists spare l s lt) [
  | inl h ↦ let w = h.within in absurd (omega arith)
  | inr h ↦ h.1
]

pub first_stands : (n : List Node) (slots lists spare l : ℕ) → IsSound n slots lists spare → l < lists →
    next_of n (slots + l) < slots →
    Stands (seen n slots lists) [] (item_at n (next_of n (slots + l))) (drop 1 (list_at (seen n slots lists) l))
first_stands n slots lists spare l s lt below =
    let h = some_first n slots lists spare l s lt below in
    let len = length-seen n slots lists spare s in
    let at = h.list in
    record {
      within = omega arith;
      split = ap (list_at (seen n slots lists)) at ∙ h.split;
    }

-- slots that are due from one on, as its list says
pub due_along_is : (n : List Node) (slots now a b : ℕ) (xs : List ℕ) (k : ℕ) → Path n a xs b → slots ≤ b →
    Each (λ y. y < slots) xs → due_along n slots now k (next_of n a) ≡ min k (due_count now (map (item_at n) xs))
due_along_is n slots now a b [] zero p le each = omega arith
due_along_is n slots now a b (y ∷ ys) zero p le each = omega arith
due_along_is n slots now a b [] (suc k) p le each = rw (p.0, le-ltb b slots le) (omega arith)
due_along_is n slots now a b (y ∷ ys) (suc k) p le each =
    let rest = due_along_is n slots now y b ys k p.1 le each.1 in
    elim (cases_lt now (item_at n y).due) [
      | inl late ↦ rw (p.0.0, lt-ltb y slots each.0, lt-leb (item_at n y).due now late) (omega arith)
      | inr due ↦ rw (p.0.0, lt-ltb y slots each.0, le-leb (item_at n y).due now due) (omega arith)
    ]

pub due_along_more : (n : List Node) (slots now k m at : ℕ) → at < slots → m < k → (item_at n at).due ≤ now →
    due_along n slots now (k - m) at ≡ 1 + due_along n slots now (k - (m + 1)) (next_of n at)
due_along_more n slots now k m at h lt due =
    let e : k - m ≡ suc (k - (m + 1)) = omega arith in
    rw (e, lt-ltb at slots h, le-leb (item_at n at).due now due) refl

-- the search for the lowest list that is due, by one more list
pub due_empty : (now : ℕ) (lists : List (List Item)) (i : ℕ) → i < length lists → list_at lists i ≡ [] →
    first_due now (drop i lists) ≡ first_due now (drop (i + 1) lists)
due_empty now lists i lt none =
    at_drop_more (first_due now) lists i [] lt ∙ ap (λ (v : List Item). first_due now (v ∷ drop (i + 1) lists)) none

pub due_not : (now : ℕ) (lists : List (List Item)) (i : ℕ) (item : Item) (rest : List Item) → i < length lists →
    list_at lists i ≡ item ∷ rest → now < item.due → first_due now (drop i lists) ≡ first_due now (drop (i + 1) lists)
due_not now lists i item rest lt some late =
    at_drop_more (first_due now) lists i [] lt
    ∙ ap (λ (v : List Item). first_due now (v ∷ drop (i + 1) lists)) some
    ∙ rw (lt-leb item.due now late) refl

pub due_here : (now : ℕ) (lists : List (List Item)) (i : ℕ) (item : Item) (rest : List Item) → i < length lists →
    list_at lists i ≡ item ∷ rest → item.due ≤ now → first_due now (drop i lists) ≡ first_of (list_at lists i)
due_here now lists i item rest lt some due =
    at_drop_more (first_due now) lists i [] lt
    ∙ ap (λ (v : List Item). first_due now (v ∷ drop (i + 1) lists)) some
    ∙ rw (le-leb item.due now due) (sym (ap first_of some))

pub nth_seen : (n : List Node) (slots lists spare l k : ℕ) → IsSound n slots lists spare → l < lists →
    ((stepped n slots k (next_of n (slots + l)) < slots)
    × (slice_get (list_at (seen n slots lists) l) k ≡ Some (item_at n (stepped n slots k (next_of n (slots + l))))))
    ⊎ ((slots ≤ stepped n slots k (next_of n (slots + l))) × (slice_get (list_at (seen n slots lists) l) k ≡ None))
nth_seen n slots lists spare l k s lt =
    let many = s.many in
    let is = s.lists_are.at l (omega arith) in
    let xs = get_or s.order l [] in
    let all = all_within n slots l xs is.each in
    let at = stepped_is n slots (slots + l) (slots + l) xs k is.path (omega arith) all in
    rw (at, list_is n slots lists spare l s lt) (by_place (item_at n) slots (slots + l) xs k (omega arith) all)
  where
    by_place : (f : ℕ → Item) (slots b : ℕ) (xs : List ℕ) (k : ℕ) → slots ≤ b → Each (λ y. y < slots) xs →
        ((get_or xs k b < slots) × (slice_get (map f xs) k ≡ Some (f (get_or xs k b))))
        ⊎ ((slots ≤ get_or xs k b) × (slice_get (map f xs) k ≡ None))
    by_place f slots b [] k le all = inr (le, refl)
    by_place f slots b (x ∷ xs) zero le all = inl (all.0, refl)
    by_place f slots b (x ∷ xs) (suc k) le all = by_place f slots b xs k le all.1
