-- Keys that all differ.
use Rattle.std.proofs.Common.{◌≡◌, ℕ, ◌+◌, ◌<◌, ◌≤◌, Result, Ok, Err, IfOk, List, [], ◌∷◌, ◌++◌, Bool, true}
use Rattle.std.proofs.Common.{false, not, ◌&&◌, cond, map, take, length, get_or, Ordering, Less, Equal}
use Rattle.std.proofs.Common.{Greater, nat_cmp, is_eq, refl, sym, ap, ap₂, ◌∙◌, subst, arith}
use Rattle.std.proofs.lemmas.List.{take_more, take_all, map-append, append-nil}
use Rattle.std.specs.Cmp.Lexicographic.{slice_cmp}
use Rattle.std.specs.Cmp.{IsTotalOrder}
use Rattle.std.specs.List.{list_all, dedup, dedup_from, AllByRecursion, IsDistinct}
use Rattle.std.specs.List.Sorted.{IsPermutation, IsSorted, IsStrictlySortedBy}
use Rattle.std.specs.Ordering.{ordering_then, eq_by_cmp}
use Rattle.std.specs.Str.{bytes_eq}
use Rattle.std.proofs.Math.Bool.{and-true}
use Rattle.std.proofs.lemmas.Bool.{and_parts, and_from, true≢false}
use Rattle.std.proofs.lemmas.Cmp.{then_total, on_total, nat_list_cmp_total, eq_by_cmp_equiv}
use Rattle.std.proofs.lemmas.List.Kept.{IsStrictlySortedBy-dedup}
use Rattle.std.proofs.lemmas.List.Sorted.{IsPermutation-sym}
use Rattle.std.proofs.lemmas.Map.Keys.{IsDistinct-from_sorted, IsDistinct-head, IsDistinct-tail, IsDistinct-cons}
use Rattle.std.proofs.lemmas.Map.Keys.{IsDistinct-IsPermutation}
use Rattle.std.proofs.lemmas.Map.Text.{is_eq-slice_cmp}
use Rattle.std.proofs.lemmas.Slice.Eq.{bytes_eq-Decides}
use Rattle.soap_document.specs.declared.attribute.WrittenAttribute.{WrittenAttribute}
use Rattle.soap_document.proofs.ProfileLemmas.Items.{item_attribute, items_push, attrs-append}
use Rattle.soap_document.specs.Profile.Items.{Item, a_declaration, an_attribute, a_text, a_child, attrs_among}
use Rattle.soap_document.specs.Profile.Keys.{Key, Lent, same_key, differ, key_of, keys_of}
use Rattle.soap_document.specs.Profile.Keys.{neighbours_differ}
use Rattle.soap_document.specs.Profile.Namespaces.{is_new, are_distinct, is_other, is_new_name, are_distinct_names}
use Rattle.soap_document.specs.Profile.Tree.{Attr, Element, Expanded}
use Rattle.soap_document.specs.Profile.View.{item_step, element_step, item_view, element_view, items_view, attrs_view}
use Rattle.soap_document.specs.declared.profile.tree.Element.{Element as CodeElement}
use Rattle.soap_document.specs.declared.profile.tree.Item.{Item as CodeItem, Item-F, map-Item, fold_out-Item, out-Item}
use Rattle.soap_document.specs.declared.profile.tree.Item.{roll-Item, roll-out-Item}
use Rattle.soap_document.specs.declared.profile.tree.Item.TheOpen
use Rattle.soap_document.specs.declared.profile.tree.Item.TheVariants.{Attribute, rolls-Attribute}

abbrev pub lent_cmp : Lent → Lent → Ordering
lent_cmp x y = ordering_then (slice_cmp nat_cmp x.0.now y.0.now) (slice_cmp nat_cmp x.1.now y.1.now)

then_eq : (a b : Ordering) → is_eq (ordering_then a b) ≡ (is_eq a && is_eq b)
then_eq Less b = refl
then_eq Equal b = refl
then_eq Greater b = refl

both_ways : (a b : List ℕ) (s t : Bool) → bytes_eq a b ≡ s → bytes_eq b a ≡ t → s ≡ t
both_ways a b true true e f = refl
both_ways a b false false e f = refl
both_ways a b true false e f = absurd (true≢false (sym ((bytes_eq-Decides b a).1 (sym ((bytes_eq-Decides a b).0 e)))
    ∙ f))
both_ways a b false true e f = absurd (true≢false (sym ((bytes_eq-Decides a b).1 (sym ((bytes_eq-Decides b a).0 f)))
    ∙ e))

turned : (a b : List ℕ) → bytes_eq a b ≡ bytes_eq b a
turned a b = both_ways a b (bytes_eq a b) (bytes_eq b a) refl refl

pub cmp_same : (k q : Lent) → is_eq (lent_cmp k q) ≡ same_key (key_of k) (key_of q)
cmp_same k q =
    then_eq (slice_cmp nat_cmp k.0.now q.0.now) (slice_cmp nat_cmp k.1.now q.1.now)
    ∙ ap₂ (λ x y. x && y) (is_eq-slice_cmp k.0.now q.0.now ∙ turned k.0.now q.0.now) (is_eq-slice_cmp k.1.now
    q.1.now ∙ turned k.1.now q.1.now)

-- ---- in order

lent_total : IsTotalOrder lent_cmp
lent_total = then_total (on_total (λ (x : Lent). x.0.now) nat_list_cmp_total)
    (on_total (λ (x : Lent). x.1.now) nat_list_cmp_total)

abbrev Same : Lent → Lent → Bool
Same = eq_by_cmp lent_cmp

flips : (x y : Lent) → Same x y ≡ Same y x
flips x y = (eq_by_cmp_equiv lent_total).symm x y

not_true : (b : Bool) → not b ≡ true → b ≡ false
not_true true e = cc
not_true false e = refl

-- this key is another than all of these, as the definition says it, and as std does
others_from : (x : Lent) (keys : List Lent) → list_all (λ o. not (same_key (key_of x) o)) (keys_of keys) ≡ true
    → AllByRecursion (λ y. Same x y ≡ false) keys
others_from x [] h = tt
others_from x (y ∷ keys) h =
    let (here, later) = and_parts (not (same_key (key_of x) (key_of y)))
    (list_all (λ o. not (same_key (key_of x) o)) (keys_of keys)) h in
    (cmp_same x y ∙ not_true _ here, others_from x keys later)

others_to : (x : Lent) (keys : List Lent) → AllByRecursion (λ y. Same x y ≡ false) keys
    → list_all (λ o. not (same_key (key_of x) o)) (keys_of keys) ≡ true
others_to x [] h = refl
others_to x (y ∷ keys) h = and_from _ _ (ap not (sym (cmp_same x y) ∙ h.0)) (others_to x keys h.1)

IsDistinct-nil : (same : Lent → Lent → Bool) → IsDistinct same []
unfolding IsDistinct
IsDistinct-nil same = tt

distinct_from : (keys : List Lent) → differ (keys_of keys) ≡ true → IsDistinct Same keys
distinct_from [] h = IsDistinct-nil Same
distinct_from (x ∷ keys) h =
    let (here, later) = and_parts (list_all (λ o. not (same_key (key_of x) o)) (keys_of keys))
    (differ (keys_of keys)) h in
    IsDistinct-cons Same x keys (others_from x keys here) (distinct_from keys later)

distinct_to : (keys : List Lent) → IsDistinct Same keys → differ (keys_of keys) ≡ true
distinct_to [] h = refl
distinct_to (x ∷ keys) h =
    and_from _ _ (others_to x keys (IsDistinct-head Same x keys h)) (distinct_to keys (IsDistinct-tail Same x keys h))

-- where no neighbours are the same, nothing is left out
kept : (x : Lent) (keys : List Lent) → neighbours_differ (key_of x ∷ keys_of keys) ≡ true
    → dedup_from Same x keys ≡ x ∷ keys
kept x [] h = refl
kept x (y ∷ keys) h =
    let (here, later) = and_parts (not (same_key (key_of x) (key_of y)))
    (neighbours_differ (key_of y ∷ keys_of keys)) h in
    ap (λ b. cond b (dedup_from Same x keys) (x ∷ dedup_from Same y keys)) (flips y x ∙ cmp_same x y
    ∙ not_true _ here) ∙ ap (λ (l : List Lent). x ∷ l) (kept y keys later)

kept_all : (keys : List Lent) → neighbours_differ (keys_of keys) ≡ true → dedup Same keys ≡ keys
kept_all [] h = refl
kept_all (x ∷ keys) h = kept x keys h

neighbours_from : (keys : List Lent) → differ (keys_of keys) ≡ true → neighbours_differ (keys_of keys) ≡ true
neighbours_from [] h = refl
neighbours_from (x ∷ []) h = refl
neighbours_from (x ∷ y ∷ keys) h =
    let (here, later) = and_parts (list_all (λ o. not (same_key (key_of x) o)) (keys_of (y ∷ keys)))
    (differ (keys_of (y ∷ keys))) h in
    let (first, others) = and_parts (not (same_key (key_of x) (key_of y)))
    (list_all (λ o. not (same_key (key_of x) o)) (keys_of keys)) here in
    and_from _ _ first (neighbours_from (y ∷ keys) later)

-- keys in order, in which no neighbours are the same, all differ
neighbours_to : (keys : List Lent) → IsSorted lent_cmp keys → neighbours_differ (keys_of keys) ≡ true
    → IsDistinct Same keys
neighbours_to keys s h =
    IsDistinct-from_sorted lent_cmp keys (subst (λ (xs : List Lent). IsStrictlySortedBy lent_cmp xs) (kept_all keys h)
    (IsStrictlySortedBy-dedup lent_total (λ x y. refl) keys s))

alike : (a b : Bool) → (a ≡ true → b ≡ true) → (b ≡ true → a ≡ true) → a ≡ b
alike true b f g = sym (f refl)
alike false true f g = g refl
alike false false f g = refl

pub sorted_differ : (keys sorted : List Lent) → IsPermutation keys sorted → IsSorted lent_cmp sorted
    → neighbours_differ (keys_of sorted) ≡ differ (keys_of keys)
sorted_differ keys sorted p s = alike _ _
    (λ h. distinct_to keys (IsDistinct-IsPermutation Same flips sorted keys (IsPermutation-sym keys sorted p)
    (neighbours_to sorted s h)))
    (λ h. neighbours_from sorted (distinct_to sorted (IsDistinct-IsPermutation Same flips keys sorted p
    (distinct_from keys h))))

-- ---- attributes

is_new-keys : (name : List ℕ) (attributes : List WrittenAttribute) → is_new name attributes
    ≡ list_all (λ o. not (same_key (name, []) o)) (map (λ a. (a.name, [])) attributes)
is_new-keys name [] = refl
is_new-keys name (a ∷ attributes) = ap₂ (λ x y. x && y) (ap not (sym (and-true (bytes_eq a.name name))))
    (is_new-keys name attributes)

pub are_distinct-keys : (attributes : List WrittenAttribute) → are_distinct attributes
    ≡ differ (map (λ a. (a.name, [])) attributes)
are_distinct-keys [] = refl
are_distinct-keys (a ∷ attributes) = ap₂ (λ x y. x && y) (is_new-keys a.name attributes) (are_distinct-keys attributes)

abbrev pub name_key : Attr → Key
name_key a = (a.name.local, a.name.space)

is_new_name-keys : (name : Expanded) (attrs : List Attr) → is_new_name name attrs
    ≡ list_all (λ o. not (same_key (name.local, name.space) o)) (map name_key attrs)
is_new_name-keys name [] = refl
is_new_name-keys name (a ∷ attrs) = ap (λ b. is_other name a && b) (is_new_name-keys name attrs)

pub are_distinct_names-keys : (attrs : List Attr) → are_distinct_names attrs ≡ differ (map name_key attrs)
are_distinct_names-keys [] = refl
are_distinct_names-keys (a ∷ attrs) = ap₂ (λ x y. x && y) (is_new_name-keys a.name attrs) (are_distinct_names-keys
    attrs)

-- ---- none, or one alone

pub alone : (attributes : List WrittenAttribute) → length attributes < 2 → true ≡ are_distinct attributes
alone [] h = refl
alone (a ∷ []) h = refl
alone (a ∷ b ∷ attributes) h = absurd (omega arith)

alone_among : (item : Item) → true ≡ are_distinct_names (attrs_among (item ∷ []))
alone_among (a_declaration b) = refl
alone_among (an_attribute a) = refl
alone_among (a_text bytes) = refl
alone_among (a_child e) = refl

pub alone_name : (items : List CodeItem) → length items < 2 → true ≡ are_distinct_names (attrs_view items)
alone_name [] h = refl
alone_name (item ∷ []) h = alone_among (item_view item)
alone_name (item ∷ other ∷ items) h = absurd (omega arith)

-- ---- attributes among items

keys-append : (xs ys : List Lent) → keys_of (xs ++ ys) ≡ keys_of xs ++ keys_of ys
keys-append [] ys = refl
keys-append (x ∷ xs) ys = ap (λ (l : List Key). key_of x ∷ l) (keys-append xs ys)

new-more : (name : Expanded) (item : Item) (items : List Item) → is_new_name name (attrs_among (item ∷ items))
    ≡ (is_new_name name (attrs_among (item ∷ [])) && is_new_name name (attrs_among items))
new-more name (a_declaration b) items = refl
new-more name (an_attribute a) items =
    ap (λ b. b && is_new_name name (attrs_among items)) (sym (and-true (is_other name a)))
new-more name (a_text bytes) items = refl
new-more name (a_child e) items = refl

pub is_new_name-among : (name : Expanded) (items : List CodeItem)
    → list_all (λ item. is_new_name name (attrs_view (item ∷ []))) items ≡ is_new_name name (attrs_view items)
is_new_name-among name [] = refl
is_new_name-among name (item ∷ items) =
    ap (λ b. is_new_name name (attrs_view (item ∷ [])) && b) (is_new_name-among name items)
    ∙ sym (new-more name (item_view item) (items_view items))

attrs_one : (x : CodeItem) (a : Attr) → x ≡ Attribute a → attrs_view (x ∷ []) ≡ a ∷ []
attrs_one x a e = ap (λ (item : Item). attrs_among (item ∷ [])) (ap item_view e ∙ item_attribute a)

layer_none : (x : CodeItem) (l : Item-F CodeItem CodeElement) → out-Item x ≡ l
    → ((a : Attr) → x ≡ Attribute a → ⊥)
    → attrs_among (item_step (map-Item CodeItem CodeElement Item Element item_view element_view l) ∷ []) ≡ []
layer_none x (TheOpen.Declaration b) e n = refl
layer_none x (TheOpen.Attribute a) e n =
    absurd (n a (sym (roll-out-Item x) ∙ ap roll-Item e ∙ rolls-Attribute a))
layer_none x (TheOpen.Text bytes) e n = refl
layer_none x (TheOpen.Child child) e n = refl

attrs_none : (x : CodeItem) → ((a : Attr) → x ≡ Attribute a → ⊥) → attrs_view (x ∷ []) ≡ []
attrs_none x n =
    ap (λ (item : Item). attrs_among (item ∷ [])) (fold_out-Item Item Element item_step element_step x)
    ∙ layer_none x (out-Item x) refl n

attrs_more : (items : List CodeItem) (i : ℕ) (d : CodeItem) → i < length items
    → attrs_view (take (i + 1) items) ≡ attrs_view (take i items) ++ attrs_view (get_or items i d ∷ [])
attrs_more items i d h =
    ap attrs_view (take_more items i d h) ∙ ap attrs_among (items_push (take i items) (get_or items i d))
    ∙ attrs-append (items_view (take i items)) (item_view (get_or items i d) ∷ [])

-- the keys of one item more
pub keys_attribute : (items : List CodeItem) (i : ℕ) (d : CodeItem) (keys : List Lent) (lent : Lent) (a : Attr)
    → i < length items → get_or items i d ≡ Attribute a → lent.0.now ≡ a.name.local → lent.1.now ≡ a.name.space
    → keys_of keys ≡ map name_key (attrs_view (take i items))
    → keys_of (keys ++ lent ∷ []) ≡ map name_key (attrs_view (take (i + 1) items))
keys_attribute items i d keys lent a h e l s k =
    keys-append keys (lent ∷ []) ∙ ap₂ (λ (xs : List Key) (x : Key). xs ++ x ∷ []) k (ap₂ (λ x y. (x, y)) l s)
    ∙ sym (map-append name_key (attrs_view (take i items)) (a ∷ []))
    ∙ ap (map name_key) (sym (attrs_more items i d h
    ∙ ap (λ (xs : List Attr). attrs_view (take i items) ++ xs) (attrs_one (get_or items i d) a e)))

pub keys_other : (items : List CodeItem) (i : ℕ) (d : CodeItem) (keys : List Lent) → i < length items
    → get_or items i d ≡ d → ((a : Attr) → d ≡ Attribute a → ⊥)
    → keys_of keys ≡ map name_key (attrs_view (take i items))
    → keys_of keys ≡ map name_key (attrs_view (take (i + 1) items))
keys_other items i d keys h e n k =
    let none = ap (λ (x : CodeItem). attrs_view (x ∷ [])) e ∙ attrs_none d n in
    k ∙ ap (map name_key) (sym (attrs_more items i d h
    ∙ ap (λ (xs : List Attr). attrs_view (take i items) ++ xs) none ∙ append-nil (attrs_view (take i items))))

-- ---- answers

pub same_answer : {E : Type 0} (r : Result Bool E) (x y : Bool) → IfOk r (λ answer. answer ≡ x) → x ≡ y
    → IfOk r (λ answer. answer ≡ y)
same_answer (Ok a) x y h e = h ∙ e
same_answer (Err k) x y h e = tt

pub taken_all : {A : Type 0} (n : ℕ) (xs : List A) → length xs ≤ n → take n xs ≡ xs
taken_all n xs h = take_all n xs h
