-- What callers see of the nodes.
use Rattle.std.proofs.Common.{◌≡◌, ◌≢◌, ℕ, zero, suc, ◌+◌, ◌-◌, ◌<◌, ◌≤◌, List, [], ◌∷◌, ◌++◌, map, length, get_or}
use Rattle.std.proofs.Common.{set, take, drop, sum_by, refl, sym, ap, ap₂, subst, ◌∙◌, arith, length-set}
use Rattle.std.proofs.Common.{length-append, length-drop, length-take, get_or-take}
use Rattle.std.proofs.lemmas.Bool.{lt-ltb, le-ltb}
use Rattle.std.proofs.lemmas.List.{get_or-set_same, get_or-set_other, get_or-map, get_or-drop, get_or_default}
use Rattle.std.proofs.lemmas.List.{length-map, same_lists, map-set, map-append, take-set}
use Rattle.std.proofs.Math.Seq.{take-set-lt}
use Rattle.std.proofs.lemmas.List.Sums.{sum_by-set, get_or-le-sum_by}
use Rattle.timers.specs.declared.links.links.Item.{Item}
use Rattle.timers.specs.declared.links.nodes.Node.{Node}
use Rattle.timers.specs.Links.Items.{Stands, IsLive, PutsLast, list_at}
use Rattle.timers.specs.Links.Nodes.{blank_node, next_of, item_at, unlinked, linked, moved, CanMove, Path, Each, Off}
use Rattle.timers.specs.Links.Nodes.{IsSlotOf, IsList, AreLists, IsSound, walk, walks, shown}
use Rattle.timers.proofs.LinksLemmas.NodeLemmas.{Between, Behind, length-unlinked, item-unlinked, item-linked_same}
use Rattle.timers.proofs.LinksLemmas.NodeLemmas.{item-linked_other}
use Rattle.timers.proofs.LinksLemmas.ListsLemmas.{SameBut, AreWithout, all_within, between_of, slot_of, unlinked_are}
use Rattle.timers.proofs.LinksLemmas.ListsLemmas.{behind_of, linked_are}

pub walk_is : (n : List Node) (slots a b : ℕ) (xs : List ℕ) (k : ℕ) → Path n a xs b → slots ≤ b →
    Each (λ y. y < slots) xs → length xs ≤ k → walk n slots k (next_of n a) ≡ xs
walk_is n slots a b [] zero p le each h = refl
walk_is n slots a b [] (suc k) p le each h = rw (p.0, le-ltb b slots le) refl
walk_is n slots a b (y ∷ ys) zero p le each h = absurd (omega arith)
walk_is n slots a b (y ∷ ys) (suc k) p le each h =
    let rest : walk n slots k (next_of n y) ≡ ys = walk_is n slots y b ys k p.1 le each.1 (omega arith) in
    rw (p.0.0, lt-ltb y slots each.0) (ap (λ l. y ∷ l) rest)

pub walks_are : (n : List Node) (slots : ℕ) (order : List (List ℕ)) → AreLists n slots order →
    sum_by length order ≡ slots → walks n slots ≡ order
walks_are n slots order are all =
    let long = are.long in
    let f : Node → List ℕ = λ end. walk n slots slots end.next in
    same_lists (walks n slots) order
    (length-map (drop slots n) f ∙ length-drop slots n ∙ omega arith)
    (λ k d h.
    let lt : k < length order = omega (arith, length-map (drop slots n) f, length-drop slots n) in
    let in_drop : k < length (drop slots n) = omega (arith, length-drop slots n) in
    let is = are.at k lt in
    let short : length (get_or order k []) ≤ slots = omega (arith, get_or-le-sum_by length order k [] lt) in
    get_or-map f (drop slots n) k blank_node d in_drop
    ∙ ap f (get_or-drop slots n k blank_node)
    ∙ walk_is n slots (slots + k) (slots + k) (get_or order k []) slots is.path (omega arith)
    (all_within n slots k (get_or order k []) is.each) short
    ∙ get_or_default order k [] d lt)

-- what is seen, by the slots in order
abbrev pub seen : List Node → ℕ → ℕ → List (List Item)
seen n slots lists = take lists (shown n (walks n slots))

pub seen_is : (n : List Node) (slots lists : ℕ) (order : List (List ℕ)) → AreLists n slots order →
    sum_by length order ≡ slots → seen n slots lists ≡ take lists (shown n order)
seen_is n slots lists order are all =
    ap (λ (w : List (List ℕ)). take lists (shown n w)) (walks_are n slots order are all)

pub items_keep : (n m : List Node) (x : ℕ) (xs : List ℕ) → SameBut n m x → Off x xs →
    map (item_at m) xs ≡ map (item_at n) xs
items_keep n m x [] same off = refl
items_keep n m x (y ∷ ys) same off = ap₂ (λ v vs. v ∷ vs) (same y off.0) (items_keep n m x ys same off.1)

pub shown_keep : (n m : List Node) (x : ℕ) (order : List (List ℕ)) → SameBut n m x →
    ((l : ℕ) → l < length order → Off x (get_or order l [])) → shown m order ≡ shown n order
shown_keep n m x [] same off = refl
shown_keep n m x (xs ∷ order) same off =
    ap₂ (λ v vs. v ∷ vs) (items_keep n m x xs same (off zero (omega arith)))
    (shown_keep n m x order same (λ l lt. off (suc l) (omega arith)))

-- x goes out of list l, and last into list k
pub record IsMoved (n m : List Node) (slots : ℕ) (order new : List (List ℕ)) (l k x : ℕ) (ys zs : List ℕ)
    (item : Item) : Type 0 where
  pub can : CanMove n slots (slots + k) x
  pub slot : IsSlotOf n slots l x
  pub mine : item_at m x ≡ item
  pub are : AreLists m slots new
  pub all : sum_by length new ≡ slots
  pub many : length new ≡ length order
  pub now : new ≡ set (set order l (ys ++ zs)) k (get_or (set order l (ys ++ zs)) k [] ++ x ∷ [])
  pub seen : shown m new ≡ set (set (shown n order) l (map (item_at n) ys ++ map (item_at n) zs)) k
      (map (item_at n) (get_or (set order l (ys ++ zs)) k []) ++ item ∷ [])

pub moved_are : (n : List Node) (slots : ℕ) (order : List (List ℕ)) (l k x : ℕ) (ys zs : List ℕ) (item : Item) →
    AreLists n slots order → sum_by length order ≡ slots → l < length order → k < length order →
    get_or order l [] ≡ ys ++ x ∷ zs → item.list ≡ k → item.slot ≡ x →
    IsMoved n (linked (unlinked n x) (slots + k) x item) slots order
    (set (set order l (ys ++ zs)) k (get_or (set order l (ys ++ zs)) k [] ++ x ∷ [])) l k x ys zs item
moved_are n slots order l k x ys zs item are all lt ltk split in_list in_slot =
    let was : IsList n slots l (ys ++ x ∷ zs) = subst (IsList n slots l) split (are.at l lt) in
    let long = are.long in
    let inside : slots + l < length n = omega arith in
    let b : Between n x = between_of n slots l x ys zs inside was in
    let is : IsSlotOf n slots l x = slot_of n slots l x ys zs was in
    let one = set order l (ys ++ zs) in
    let mid = unlinked n x in
    let m = linked mid (slots + k) x item in
    let w : AreWithout mid slots one x = unlinked_are n slots order l x ys zs are lt split in
    let len : length one ≡ length order = length-set order l (ys ++ zs) in
    let ltk1 : k < length one = omega arith in
    let xlt : x < slots = is.within in
    let be : Behind mid (slots + k) x = behind_of mid slots one k x w ltk1 xlt in
    let add = get_or one k [] ++ x ∷ [] in
    let two = set one k add in
    let same : SameBut n m x = λ i ne. item-linked_other mid (slots + k) x item i be ne ∙ item-unlinked n x i b in
    let first = sum_by-set length order l (ys ++ zs) [] lt in
    let second = sum_by-set length one k add [] ltk1 in
    let len_split : length (get_or order l []) ≡ length ys + suc (length zs) = ap length split ∙ length-append ys
    (x ∷ zs) in
    let len_one : length (ys ++ zs) ≡ length ys + length zs = length-append ys zs in
    let len_add : length add ≡ length (get_or one k []) + 1 = length-append (get_or one k []) (x ∷ []) in
    let mine : item_at m x ≡ item = item-linked_same mid (slots + k) x item be in
    let last = be.last in
    let long1 : length mid ≡ length n = length-unlinked n x in
    record {
      can = record {
        here = omega arith;
        prev = b.prev;
        next = b.next;
        behind = omega arith;
        ending = omega arith;
        last = omega arith;
      };
      slot = is;
      mine = mine;
      are = linked_are mid slots one k x item w ltk1 xlt in_list in_slot;
      all = omega arith;
      many = length-set one k add ∙ len;
      now = refl;
      seen =
          map-set (map (item_at m)) one k add
          ∙ ap₂ (λ (a : List (List Item)) (v : List Item). set a k v)
          (shown_keep n m x one same w.off ∙ map-set (map (item_at n)) order l (ys ++ zs)
          ∙ ap (set (shown n order) l) (map-append (item_at n) ys zs))
          (map-append (item_at m) (get_or one k []) (x ∷ [])
          ∙ ap₂ (λ (a b : List Item). a ++ b) (items_keep n m x (get_or one k []) same (w.off k ltk1))
          (ap (λ (v : Item). v ∷ []) mine));
    }

-- a split of what is seen of a list is one of its slots
pub split_of : (f : ℕ → Item) (xs : List ℕ) (before after : List Item) (item : Item) →
    map f xs ≡ before ++ item ∷ after →
    (ys : List ℕ) × (x : ℕ) × (zs : List ℕ) × (xs ≡ ys ++ x ∷ zs) × (map f ys ≡ before) × (f x ≡ item) ×
    (map f zs ≡ after)
split_of f [] [] after item e = absurd (cc)
split_of f [] (b ∷ before) after item e = absurd (cc)
split_of f (x ∷ xs) [] after item e = ([], x, xs, refl, refl, (cc), (cc))
split_of f (x ∷ xs) (b ∷ before) after item e =
    let tails : map f xs ≡ before ++ item ∷ after = cc in
    let rest = split_of f xs before after item tails in
    let heads : f x ≡ b = cc in (
      x ∷ rest.0,
      rest.1,
      rest.2,
      ap (λ l. x ∷ l) rest.3,
      ap₂ (λ (v : Item) (vs : List Item). v ∷ vs) heads rest.4,
      rest.5,
      rest.6,
    )

-- the first slot of a list that isn't empty
pub first_slot : (n : List Node) (a b : ℕ) (xs : List ℕ) → Path n a xs b → 0 < length xs →
    (zs : List ℕ) × (xs ≡ next_of n a ∷ zs)
first_slot n a b [] p h = absurd (omega arith)
first_slot n a b (y ∷ ys) p h = (ys, ap (λ (v : ℕ). v ∷ ys) (sym p.0.0))

-- the list of l is seen as the items of its slots
pub list_seen : (n : List Node) (order : List (List ℕ)) (lists l : ℕ) → l < lists → lists ≤ length order →
    list_at (take lists (shown n order)) l ≡ map (item_at n) (get_or order l [])
list_seen n order lists l lt le =
    get_or-take lists (shown n order) l [] lt ∙ get_or-map (map (item_at n)) order l [] [] (omega arith)

-- a slot's item is one of a list's
pub slot_seen : (n : List Node) (slots : ℕ) (order : List (List ℕ)) (lists : ℕ) → AreLists n slots order →
    lists ≤ length order → (before : List Item) (item : Item) (after : List Item) →
    Stands (take lists (shown n order)) before item after →
    (ys : List ℕ) × (zs : List ℕ) × (get_or order item.list [] ≡ ys ++ item.slot ∷ zs) × (map (item_at n) ys ≡ before)
    × (item_at n item.slot ≡ item) × (map (item_at n) zs ≡ after) × (item.list < lists)
slot_seen n slots order lists are le before item after st =
    let within = st.within in
    let shorter : length (take lists (shown n order)) ≤ lists = omega (arith, length-take lists (shown n order)) in
    let lt : item.list < lists = omega arith in
    let eq : map (item_at n) (get_or order item.list []) ≡ before ++ item ∷ after =
    sym (list_seen n order lists item.list lt le) ∙ st.split in
    let parts = split_of (item_at n) (get_or order item.list []) before after item eq in
    let x = parts.1 in
    let is : IsSlotOf n slots item.list x =
    slot_of n slots item.list x parts.0 parts.2 (subst (IsList n slots item.list) parts.3
    (are.at item.list (omega arith))) in
    let same : x ≡ item.slot = sym is.slot ∙ ap (λ (v : Item). v.slot) parts.5 in (
      parts.0,
      parts.2,
      parts.3 ∙ ap (λ (v : ℕ). parts.0 ++ v ∷ parts.2) same,
      parts.4,
      ap (item_at n) (sym same) ∙ parts.5,
      parts.6,
      lt,
    )

pub record IsAdded (n : List Node) (slots lists spare : ℕ) (item : Item) : Type 0 where
  pub can : CanMove n slots (slots + item.list) item.slot
  pub sound : IsSound (moved n (slots + item.list) item.slot item) slots lists (spare - 1)
  pub put : PutsLast (seen n slots lists) (seen (moved n (slots + item.list) item.slot item) slots lists) item
  pub is_free : IsLive (seen n slots lists) item.slot → ⊥

-- the first free slot, and those behind it
pub free_slot : (n : List Node) (slots lists spare : ℕ) (s : IsSound n slots lists spare) → 0 < spare →
    (zs : List ℕ) × (get_or s.order lists [] ≡ next_of n (slots + lists) ∷ zs)
free_slot n slots lists spare s some =
    let many = s.many in
    let free = s.free in
    first_slot n (slots + lists) (slots + lists) (get_or s.order lists []) (s.lists_are.at lists (omega arith)).path
    (omega arith)

pub free_is_slot : (n : List Node) (slots lists spare : ℕ) → IsSound n slots lists spare → 0 < spare →
    next_of n (slots + lists) < slots
free_is_slot n slots lists spare s some =
    let free = free_slot n slots lists spare s some in
    let many = s.many in
    let is = subst (IsList n slots lists) free.1 (s.lists_are.at lists (omega arith)) in
    is.each.0.within

pub added : (n : List Node) (slots lists spare : ℕ) (item : Item) → IsSound n slots lists spare →
    0 < spare → item.list < lists → item.slot ≡ next_of n (slots + lists) → IsAdded n slots lists spare item
added n slots lists spare item s some lt first =
    let order = s.order in
    let are = s.lists_are in
    let many = s.many in
    let count = s.free in
    let l = item.list in
    let x = item.slot in
    let si : seen n slots lists ≡ take lists (shown n order) = seen_is n slots lists order are s.all in
    let free = free_slot n slots lists spare s some in
    let zs = free.0 in
    let split : get_or order lists [] ≡ [] ++ x ∷ zs = free.1 ∙ ap (λ (v : ℕ). v ∷ zs) (sym first) in
    let one = set order lists zs in
    let two = set one l (get_or one l [] ++ x ∷ []) in
    let m = moved n (slots + l) x item in
    let mv : IsMoved n m slots order two lists l x [] zs item =
    moved_are n slots order lists l x [] zs item are s.all (omega arith) (omega arith) split refl refl in
    let sm : seen m slots lists ≡ take lists (shown m two) = seen_is m slots lists two mv.are mv.all in
    let ne : l ≢ lists = λ e. omega arith in
    let kept : get_or one l [] ≡ get_or order l [] = get_or-set_other order lists l zs [] ne in
    let old = take lists (shown n order) in
    let a = map (item_at n) zs in
    let v = map (item_at n) (get_or one l []) ++ item ∷ [] in
    let here : map (item_at n) (get_or one l []) ≡ list_at old l =
    ap (map (item_at n)) kept ∙ sym (list_seen n order lists l lt (omega arith)) in
    let eq : take lists (shown m two) ≡ set old l (list_at old l ++ item ∷ []) =
    ap (take lists) mv.seen ∙ take-set-lt lists (set (shown n order) lists a) l v lt
    ∙ ap₂ (λ (p : List (List Item)) (q : List Item). set p l (q ++ item ∷ []))
    (take-set (shown n order) lists a) here in
    let len1 : length one ≡ length order = length-set order lists zs in
    let was : length (get_or order lists []) ≡ suc (length zs) = ap length split in
    let now : length (get_or two lists []) ≡ length zs =
    ap length (get_or-set_other one l lists (get_or one l [] ++ x ∷ []) [] (λ e. omega arith)
    ∙ get_or-set_same order lists zs [] (omega arith)) in
    record {
      can = mv.can;
      sound = record {
        order = two;
        lists_are = mv.are;
        all = mv.all;
        many = mv.many ∙ many;
        free = omega arith;
      };
      put = sm ∙ eq ∙ sym (ap (λ (c : List (List Item)). set c l (list_at c l ++ item ∷ [])) si);
      is_free = λ live.
          let st : Stands old live.before live.item live.after =
          subst (λ (c : List (List Item)). Stands c live.before live.item live.after) si live.stands in
          let at = slot_seen n slots order lists are (omega arith) live.before live.item live.after st in
          let is : IsSlotOf n slots live.item.list live.item.slot =
          slot_of n slots live.item.list live.item.slot at.0 at.1
          (subst (IsList n slots live.item.list) at.2 (are.at live.item.list (omega (arith, at.6)))) in
          let other : (item_at n x).list ≡ lists = mv.slot.list in
          let mine : (item_at n live.item.slot).list ≡ live.item.list = is.list in
          let same : (item_at n live.item.slot).list ≡ (item_at n x).list =
          ap (λ (i : ℕ). (item_at n i).list) live.has in
          let below = at.6 in
          omega arith;
    }

pub record IsRemoved (n : List Node) (slots lists spare slot : ℕ) (free : Item) : Type 0 where
  pub can : CanMove n slots (slots + lists) slot
  pub sound : IsSound (moved n (slots + lists) slot free) slots lists (spare + 1)
  pub room : spare + 1 ≤ slots
  pub gone : IsLive (seen (moved n (slots + lists) slot free) slots lists) slot → ⊥

pub removed_at : (n : List Node) (slots lists spare : ℕ) (free : Item) → IsSound n slots lists spare →
    free.list ≡ lists → (before : List Item) (item : Item) (after : List Item) → item.slot ≡ free.slot →
    Stands (seen n slots lists) before item after →
    IsRemoved n slots lists spare free.slot free × (item_at n free.slot ≡ item)
    × (seen (moved n (slots + lists) free.slot free) slots lists ≡ set (seen n slots lists) item.list (before ++ after))
removed_at n slots lists spare free s in_free before item after same stands =
    let order = s.order in
    let are = s.lists_are in
    let many = s.many in
    let count = s.free in
    let x = free.slot in
    let si : seen n slots lists ≡ take lists (shown n order) = seen_is n slots lists order are s.all in
    let st : Stands (take lists (shown n order)) before item after =
    subst (λ (c : List (List Item)). Stands c before item after) si stands in
    let at = slot_seen n slots order lists are (omega arith) before item after st in
    let l = item.list in
    let ys = at.0 in
    let zs = at.1 in
    let below : l < lists = at.6 in
    let split : get_or order l [] ≡ ys ++ x ∷ zs = at.2 ∙ ap (λ (v : ℕ). ys ++ v ∷ zs) same in
    let one = set order l (ys ++ zs) in
    let two = set one lists (get_or one lists [] ++ x ∷ []) in
    let m = moved n (slots + lists) x free in
    let mv : IsMoved n m slots order two l lists x ys zs free =
    moved_are n slots order l lists x ys zs free are s.all (omega arith) (omega arith) split in_free refl in
    let sm : seen m slots lists ≡ take lists (shown m two) = seen_is m slots lists two mv.are mv.all in
    let a = map (item_at n) ys ++ map (item_at n) zs in
    let v = map (item_at n) (get_or one lists []) ++ free ∷ [] in
    let parts : a ≡ before ++ after = ap₂ (λ (p q : List Item). p ++ q) at.3 at.5 in
    let eq : take lists (shown m two) ≡ set (take lists (shown n order)) l (before ++ after) =
    ap (take lists) mv.seen ∙ take-set (set (shown n order) l a) lists v ∙ take-set-lt lists (shown n order) l a below
    ∙ ap (set (take lists (shown n order)) l) parts in
    let len1 : length one ≡ length order = length-set order l (ys ++ zs) in
    let kept : get_or one lists [] ≡ get_or order lists [] =
    get_or-set_other order l lists (ys ++ zs) [] (λ e. omega arith) in
    let now : length (get_or two lists []) ≡ length (get_or one lists []) + 1 =
    ap length (get_or-set_same one lists (get_or one lists [] ++ x ∷ []) [] (omega arith))
    ∙ length-append (get_or one lists []) (x ∷ []) in
    let len : length (get_or one lists []) ≡ length (get_or order lists []) = ap length kept in
    let all = mv.all in
    let many2 = mv.many in
    let part = get_or-le-sum_by length two lists [] (omega arith) in (
      record {
        can = mv.can;
        sound = record {
          order = two;
          lists_are = mv.are;
          all = mv.all;
          many = mv.many ∙ many;
          free = omega arith;
        };
        room = omega arith;
        gone = λ live.
            let st2 : Stands (take lists (shown m two)) live.before live.item live.after =
            subst (λ (c : List (List Item)). Stands c live.before live.item live.after) sm live.stands in
            let there = slot_seen m slots two lists mv.are (omega arith) live.before live.item live.after st2 in
            let mine = ap (λ (v : Item). v.list) there.4 in
            let other : (item_at m x).list ≡ lists = ap (λ (v : Item). v.list) mv.mine ∙ in_free in
            let same2 : (item_at m live.item.slot).list ≡ (item_at m x).list = ap
            (λ (i : ℕ). (item_at m i).list) live.has in
            let low = there.6 in
            omega arith;
      },
      ap (item_at n) (sym same) ∙ at.4,
      sm ∙ eq ∙ sym (ap (λ (c : List (List Item)). set c l (before ++ after)) si),
    )

pub removed : (n : List Node) (slots lists spare : ℕ) (free : Item) → IsSound n slots lists spare → free.list ≡ lists →
    IsLive (seen n slots lists) free.slot → IsRemoved n slots lists spare free.slot free
removed n slots lists spare free s in_free live =
    (removed_at n slots lists spare free s in_free live.before live.item live.after live.has live.stands).0

pub in_lists : (n : List Node) (slots lists l : ℕ) → l < length (seen n slots lists) → l < lists
in_lists n slots lists l h = omega (arith, length-take lists (shown n (walks n slots)))
