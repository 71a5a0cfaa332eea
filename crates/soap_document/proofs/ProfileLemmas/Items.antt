-- What items stand for, one behind the other.
use Rattle.std.proofs.Common.{◌≡◌, ℕ, List, [], ◌∷◌, ◌++◌, map, refl, sym, ap, ◌∙◌}
use Rattle.std.proofs.lemmas.List.{map-append}
use Rattle.soap_document.specs.Profile.Items.{Item, a_declaration, an_attribute, a_text, a_child, decls_among}
use Rattle.soap_document.specs.Profile.Items.{attrs_among}
use Rattle.soap_document.specs.Profile.Items.{parts_among, stripped_items}
use Rattle.soap_document.specs.Profile.Steps.{join}
use Rattle.soap_document.specs.Profile.Tree.{Attr, Element, element, Parts, none, text, child, without_declarations}
use Rattle.rm_base.specs.declared.message.Binding.{Binding}
use Rattle.soap_document.specs.Profile.Tree.{parts_without}
use Rattle.soap_document.specs.Profile.View.{item_step, element_step, item_view, element_view, items_view, decls_view}
use Rattle.soap_document.specs.Profile.View.{attrs_view, parts_view}
use Rattle.soap_document.specs.declared.profile.tree.Element.{Element as CodeElement, fold_out-Element}
use Rattle.soap_document.specs.declared.profile.tree.Item.{Item as CodeItem, fold-roll-Item}
use Rattle.soap_document.specs.declared.profile.tree.Item.TheOpen
use Rattle.soap_document.specs.declared.profile.tree.Item.TheVariants.{Declaration, Attribute, Text, Child}
use Rattle.soap_document.specs.declared.profile.tree.Item.TheVariants.{rolls-Declaration}
use Rattle.soap_document.specs.declared.profile.tree.Item.TheVariants.{rolls-Attribute, rolls-Text, rolls-Child}

-- ---- one item

pub item_declaration : (b : Binding) → item_view (Declaration b) ≡ a_declaration b
item_declaration b =
    ap item_view (sym (rolls-Declaration b))
    ∙ fold-roll-Item Item Element item_step element_step (TheOpen.Declaration b)

pub item_attribute : (a : Attr) → item_view (Attribute a) ≡ an_attribute a
item_attribute a =
    ap item_view (sym (rolls-Attribute a)) ∙ fold-roll-Item Item Element item_step element_step (TheOpen.Attribute a)

pub item_text : (bytes : List ℕ) → item_view (Text bytes) ≡ a_text bytes
item_text bytes =
    ap item_view (sym (rolls-Text bytes)) ∙ fold-roll-Item Item Element item_step element_step (TheOpen.Text bytes)

pub item_child : (e : CodeElement) → item_view (Child e) ≡ a_child (element_view e)
item_child e =
    ap item_view (sym (rolls-Child e)) ∙ fold-roll-Item Item Element item_step element_step (TheOpen.Child e)

pub element_is : (e : CodeElement) → element_view e
    ≡ element e.name (decls_view e.items.items) (attrs_view e.items.items) (parts_view e.items.items)
element_is e = fold_out-Element Item Element item_step element_step e

-- ---- one more item

pub items_push : (items : List CodeItem) (item : CodeItem) → items_view (items ++ item ∷ [])
    ≡ items_view items ++ item_view item ∷ []
items_push items item = map-append item_view items (item ∷ [])

-- ---- items behind others

pub join-none : (a : Parts) → join a none ≡ a
join-none none = refl
join-none (text x a) = ap (text x) (join-none a)
join-none (child u a) = ap (child u) (join-none a)

pub decls-append : (a b : List Item) → decls_among (a ++ b) ≡ decls_among a ++ decls_among b
decls-append [] b = refl
decls-append (a_declaration d ∷ a) b = ap (λ (ds : List Binding). d ∷ ds) (decls-append a b)
decls-append (an_attribute x ∷ a) b = decls-append a b
decls-append (a_text bytes ∷ a) b = decls-append a b
decls-append (a_child e ∷ a) b = decls-append a b

pub attrs-append : (a b : List Item) → attrs_among (a ++ b) ≡ attrs_among a ++ attrs_among b
attrs-append [] b = refl
attrs-append (a_declaration d ∷ a) b = attrs-append a b
attrs-append (an_attribute x ∷ a) b = ap (λ (xs : List Attr). x ∷ xs) (attrs-append a b)
attrs-append (a_text bytes ∷ a) b = attrs-append a b
attrs-append (a_child e ∷ a) b = attrs-append a b

pub parts-append : (a b : List Item) → parts_among (a ++ b) ≡ join (parts_among a) (parts_among b)
parts-append [] b = refl
parts-append (a_declaration d ∷ a) b = parts-append a b
parts-append (an_attribute x ∷ a) b = parts-append a b
parts-append (a_text bytes ∷ a) b = ap (text bytes) (parts-append a b)
parts-append (a_child e ∷ a) b = ap (child e) (parts-append a b)

-- ---- items of one kind

pub decls-declarations : (ds : List Binding) → decls_among (map a_declaration ds) ≡ ds
decls-declarations [] = refl
decls-declarations (d ∷ ds) = ap (λ (xs : List Binding). d ∷ xs) (decls-declarations ds)

pub attrs-declarations : (ds : List Binding) → attrs_among (map a_declaration ds) ≡ []
attrs-declarations [] = refl
attrs-declarations (d ∷ ds) = attrs-declarations ds

pub parts-declarations : (ds : List Binding) → parts_among (map a_declaration ds) ≡ none
parts-declarations [] = refl
parts-declarations (d ∷ ds) = parts-declarations ds

pub decls-attributes : (attrs : List Attr) → decls_among (map an_attribute attrs) ≡ []
decls-attributes [] = refl
decls-attributes (a ∷ attrs) = decls-attributes attrs

pub attrs-attributes : (attrs : List Attr) → attrs_among (map an_attribute attrs) ≡ attrs
attrs-attributes [] = refl
attrs-attributes (a ∷ attrs) = ap (λ (xs : List Attr). a ∷ xs) (attrs-attributes attrs)

pub parts-attributes : (attrs : List Attr) → parts_among (map an_attribute attrs) ≡ none
parts-attributes [] = refl
parts-attributes (a ∷ attrs) = parts-attributes attrs

-- ---- items without declarations

decls-stripped : (items : List Item) → decls_among (stripped_items items) ≡ []
decls-stripped [] = refl
decls-stripped (a_declaration d ∷ items) = decls-stripped items
decls-stripped (an_attribute a ∷ items) = decls-stripped items
decls-stripped (a_text bytes ∷ items) = decls-stripped items
decls-stripped (a_child e ∷ items) = decls-stripped items

attrs-stripped : (items : List Item) → attrs_among (stripped_items items) ≡ attrs_among items
attrs-stripped [] = refl
attrs-stripped (a_declaration d ∷ items) = attrs-stripped items
attrs-stripped (an_attribute a ∷ items) = ap (λ (xs : List Attr). a ∷ xs) (attrs-stripped items)
attrs-stripped (a_text bytes ∷ items) = attrs-stripped items
attrs-stripped (a_child e ∷ items) = attrs-stripped items

parts-stripped : (items : List Item) → parts_among (stripped_items items) ≡ parts_without (parts_among items)
parts-stripped [] = refl
parts-stripped (a_declaration d ∷ items) = parts-stripped items
parts-stripped (an_attribute a ∷ items) = parts-stripped items
parts-stripped (a_text bytes ∷ items) = ap (text bytes) (parts-stripped items)
parts-stripped (a_child e ∷ items) = ap (child (without_declarations e)) (parts-stripped items)

pub element-stripped : (made e : CodeElement) → made.name ≡ e.name
    → items_view made.items.items ≡ stripped_items (items_view e.items.items)
    → element_view made ≡ without_declarations (element_view e)
element-stripped made e n i =
    let items = items_view e.items.items in
    let decls : decls_view made.items.items ≡ [] = ap decls_among i ∙ decls-stripped items in
    let attrs : attrs_view made.items.items ≡ attrs_among items = ap attrs_among i ∙ attrs-stripped items in
    let parts : parts_view made.items.items ≡ parts_without (parts_among items) =
    ap parts_among i ∙ parts-stripped items in
    let from = ap without_declarations (element_is e) in
    cc (element_is made, from, decls, attrs, parts, n)
