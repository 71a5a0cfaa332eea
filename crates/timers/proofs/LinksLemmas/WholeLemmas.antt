-- The items of all lists have slots of their own, and all other slots are free.
use Rattle.std.proofs.Common.{◌≡◌, ◌≢◌, ℕ, zero, suc, ◌+◌, ◌<◌, ◌≤◌, List, [], ◌∷◌, ◌++◌, map, length, get_or, take}
use Rattle.std.proofs.Common.{sum_by, sym, ap, subst, ◌∙◌, arith, length-take, length-append, get_or-take}
use Rattle.std.specs.Prelude.{All, AllPairs}
use Rattle.std.proofs.lemmas.List.{length-map, take-map}
use Rattle.std.proofs.lemmas.List.Elements.{All-nil, All-cons, All-append, All-weaker}
use Rattle.std.proofs.lemmas.List.Kept.{AllPairs-cons}
use Rattle.std.proofs.lemmas.List.Sums.{sum_by-cons}
use Rattle.timers.specs.declared.links.links.Item.{Item}
use Rattle.timers.specs.declared.links.nodes.Node.{Node}
use Rattle.timers.specs.Links.Items.{IsWhole, all_items}
use Rattle.timers.specs.Links.Nodes.{item_at, Each, Off, Distinct, IsSlotOf, IsList, IsSound, shown, contents}
use Rattle.timers.proofs.LinksLemmas.ShownLemmas.{seen, seen_is}
use Rattle.timers.proofs.LinksLemmas.WalkLemmas.{list_is, length-seen}

AllPairs-append : (R : Item → Item → Type 0) (xs ys : List Item) → AllPairs R xs → AllPairs R ys →
    All (λ x. All (R x) ys) xs → AllPairs R (xs ++ ys)
AllPairs-append R [] ys left right across = right
AllPairs-append R (x ∷ xs) ys left right across =
    AllPairs-cons R x (xs ++ ys)
    (All-append (R x) xs ys (λ k d lt. left zero (suc k) d (omega arith) (omega arith)) (across zero x (omega arith)))
    (AllPairs-append R xs ys (λ i j d lt jl. left (suc i) (suc j) d (omega arith) (omega arith)) right
    (λ k d lt. across (suc k) d (omega arith)))

-- two items have slots of their own
abbrev Differ : Item → Item → Type 0
Differ one other = one.slot ≢ other.slot

-- the item stands in the slot that it names, in list l or behind it
record IsOwn (n : List Node) (slots l : ℕ) (item : Item) : Type 0 where
  within : item.slot < slots
  own : item_at n item.slot ≡ item
  behind : l ≤ item.list

-- what holds of the items of lists of slots from list l on
record AreOwn (n : List Node) (slots l : ℕ) (items : List Item) : Type 0 where
  each : All (IsOwn n slots l) items
  distinct : AllPairs Differ items

-- x stands apart from slots that it isn't among
apart : (n : List Node) (slots l x : ℕ) (xs : List ℕ) → (item_at n x).slot ≡ x → Each (IsSlotOf n slots l) xs →
    Off x xs →
    All (Differ (item_at n x)) (map (item_at n) xs)
apart n slots l x [] is each off = All-nil (Differ (item_at n x))
apart n slots l x (y ∷ ys) is each off =
    let other = each.0.slot in
    All-cons (Differ (item_at n x)) (item_at n y) (map (item_at n) ys) (λ same. off.0 (sym other ∙ sym same ∙ is))
    (apart n slots l x ys is each.1 off.1)

list_own : (n : List Node) (slots l : ℕ) (xs : List ℕ) → Each (IsSlotOf n slots l) xs → Distinct xs →
    AreOwn n slots l (map (item_at n) xs) × All (λ item. item.list ≡ l) (map (item_at n) xs)
list_own n slots l [] each d = (
  record { each = All-nil (IsOwn n slots l); distinct = λ i j e lt jl. absurd (omega arith) },
  All-nil
      (λ i. i.list ≡ l),
)
list_own n slots l (x ∷ xs) each d =
    let here = each.0 in
    let slot = here.slot in
    let in_list = here.list in
    let low = here.within in
    let rest = list_own n slots l xs each.1 d.1 in
    let first : IsOwn n slots l (item_at n x) =
    record { within = omega arith; own = ap (item_at n) slot; behind = omega arith } in (
      record {
        each = All-cons (IsOwn n slots l) (item_at n x) (map (item_at n) xs) first rest.0.each;
        distinct = AllPairs-cons Differ (item_at n x) (map (item_at n) xs)
            (apart n slots l x xs slot each.1 d.0) rest.0.distinct;
      },
      All-cons (λ i. i.list ≡ l) (item_at n x) (map (item_at n) xs) in_list rest.1,
    )

-- items of a list differ from those of later lists
across : (n : List Node) (slots l : ℕ) (xs ys : List Item) → All (IsOwn n slots l) xs → All (λ item. item.list ≡ l) xs →
    All (IsOwn n slots (l + 1)) ys → All (λ x. All (Differ x) ys) xs
across n slots l xs ys left in_list right k d lt =
    let x = get_or xs k d in
    let mine = left k d lt in
    let here = in_list k d lt in
    All-weaker (IsOwn n slots (l + 1)) (Differ x)
    (λ y h same.
    let as_one : x ≡ y = sym mine.own ∙ ap (item_at n) same ∙ h.own in
    let lists : x.list ≡ y.list = ap (λ (v : Item). v.list) as_one in
    let later = h.behind in
    omega arith)
    ys right

all_own : (n : List Node) (slots l : ℕ) (order : List (List ℕ)) →
    ((k : ℕ) → k < length order → IsList n slots (l + k) (get_or order k [])) →
    AreOwn n slots l (all_items (shown n order))
all_own n slots l [] are =
    record { each = All-nil (IsOwn n slots l); distinct = λ i j e lt jl. absurd (omega arith) }
all_own n slots l (xs ∷ order) are =
    let e : l + zero ≡ l = omega arith in
    let is : IsList n slots l xs = subst (λ (j : ℕ). IsList n slots j xs) e (are zero (omega arith)) in
    let here = list_own n slots l xs is.each is.distinct in
    let rest : AreOwn n slots (l + 1) (all_items (shown n order)) = all_own n slots (l + 1) order
    (λ k lt.
    let step : l + suc k ≡ l + 1 + k = omega arith in
    subst (λ (j : ℕ). IsList n slots j (get_or order k [])) step (are (suc k) (omega arith))) in
    let later : All (IsOwn n slots l) (all_items (shown n order)) =
    All-weaker (IsOwn n slots (l + 1)) (IsOwn n slots l)
    (λ i h. let b = h.behind in record { within = h.within; own = h.own; behind = omega arith })
    (all_items (shown n order)) rest.each in
    record {
      each = All-append (IsOwn n slots l) (map (item_at n) xs) (all_items (shown n order)) here.0.each later;
      distinct = AllPairs-append Differ (map (item_at n) xs) (all_items (shown n order)) here.0.distinct rest.distinct
          (across n slots l (map (item_at n) xs) (all_items (shown n order)) here.0.each here.1 rest.each);
    }

-- the items of all lists but the last, and the slots of the last
count_of : (f : ℕ → Item) (order : List (List ℕ)) (k : ℕ) → length order ≡ k + 1 →
    length (all_items (take k (map (map f) order))) + length (get_or order k []) ≡ sum_by length order
count_of f [] k e = absurd (omega arith)
count_of f (xs ∷ []) zero e = omega (arith, sum_by-cons (length {A = ℕ}) xs [])
count_of f (xs ∷ (ys ∷ order)) zero e = absurd (omega arith)
count_of f (xs ∷ order) (suc k) e =
    let rest = count_of f order k (omega arith) in
    let front = length-append (map f xs) (all_items (take k (map (map f) order))) in
    let long : length (map f xs) ≡ length xs = length-map xs f in
    omega (arith, sum_by-cons (length {A = ℕ}) xs order)

pub whole_of : (n : List Node) (slots lists spare : ℕ) → IsSound n slots lists spare →
    IsWhole (contents n slots lists spare)
whole_of n slots lists spare s =
    let many = s.many in
    let si : seen n slots lists ≡ take lists (shown n s.order) = seen_is n slots lists s.order s.lists_are s.all in
    let front = take lists s.order in
    let short = length-take lists s.order in
    let own : AreOwn n slots 0 (all_items (shown n front)) = all_own n slots 0 front
    (λ k lt.
    let below : k < lists = omega arith in
    let e : 0 + k ≡ k = omega arith in
    subst (λ (j : ℕ). IsList n slots j (get_or front k [])) (sym e)
    (subst (IsList n slots k) (sym (get_or-take lists s.order k [] below)) (s.lists_are.at k (omega arith)))) in
    let is : shown n front ≡ seen n slots lists = sym (take-map (map (item_at n)) lists s.order) ∙ sym si in
    let here : AreOwn n slots 0 (all_items (seen n slots lists)) =
    subst (λ (v : List (List Item)). AreOwn n slots 0 (all_items v)) is own in
    let count = count_of (item_at n) s.order lists many in
    let same : length (all_items (seen n slots lists)) ≡ length (all_items (take lists (shown n s.order))) =
    ap (λ (v : List (List Item)). length (all_items v)) si in
    let free = s.free in
    let all = s.all in
    record {
      in_list = λ l lt.
          let len = length-seen n slots lists spare s in
          let below : l < lists = omega arith in
          let at = s.lists_are.at l (omega arith) in
          subst (All (λ item. item.list ≡ l)) (sym (list_is n slots lists spare l s below))
          (list_own n slots l (get_or s.order l []) at.each at.distinct).1;
      in_slot = All-weaker (IsOwn n slots 0) (λ item. item.slot < slots) (λ i h. h.within)
          (all_items (seen n slots lists)) here.each;
      distinct = here.distinct;
      spare_is = omega arith;
    }
