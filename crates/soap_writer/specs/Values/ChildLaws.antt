-- Laws: an element as what it has, and one item before others.
use Rattle.std.proofs.Common.{◌≡◌, ◌++◌, List, [], ◌∷◌, Bool, true, false, if◌then◌else◌, refl}
use Rattle.soap_document.specs.Profile.Items.{Item, a_declaration, an_attribute, a_text, a_child, parts_among}
use Rattle.soap_document.specs.Profile.Tree.{Element, element, children_of}
use Rattle.soap_document.specs.declared.profile.name.Expanded.{Expanded}
use Rattle.soap_document.specs.Profile.View.{element_view, element_step, item_step, item_view, items_view, decls_view}
use Rattle.soap_document.specs.Profile.View.{attrs_view, parts_view}
use Rattle.soap_document.specs.declared.profile.tree.Element.{Element as CodeElement, fold_out-Element}
use Rattle.soap_document.specs.declared.profile.tree.Item.{Item as CodeItem}
use Rattle.soap_writer.specs.Values.Children.{children_named, has_name}

-- an element is seen as its name, its declarations, its attributes and its parts
pub element_is : (e : CodeElement) → element_view e
    ≡ element e.name (decls_view e.items.items) (attrs_view e.items.items) (parts_view e.items.items)
element_is e = fold_out-Element Item Element item_step element_step e

kept : (b : Bool) (e : Element) (es : List Element) → (if b then e ∷ es else es) ≡ (if b then e ∷ [] else []) ++ es
kept true e es = refl
kept false e es = refl

one_more : (name : Expanded) (i : Item) (is : List Item) → children_named name (parts_among (i ∷ is))
    ≡ children_named name (parts_among (i ∷ [])) ++ children_named name (parts_among is)
one_more name (a_declaration b) is = refl
one_more name (an_attribute a) is = refl
one_more name (a_text bytes) is = refl
one_more name (a_child e) is = kept (has_name name e) e (children_named name (parts_among is))

-- and so do its children of a name
pub children_more : (name : Expanded) (x : CodeItem) (xs : List CodeItem) → children_named name (parts_view (x ∷ xs))
    ≡ children_named name (parts_view (x ∷ [])) ++ children_named name (parts_view xs)
children_more name x xs = one_more name (item_view x) (items_view xs)

child_more : (i : Item) (is : List Item) → children_of (parts_among (i ∷ is))
    ≡ children_of (parts_among (i ∷ [])) ++ children_of (parts_among is)
child_more (a_declaration b) is = refl
child_more (an_attribute a) is = refl
child_more (a_text bytes) is = refl
child_more (a_child e) is = refl

-- the children of one item stand before those of the others
pub children_of_more : (x : CodeItem) (xs : List CodeItem) → children_of (parts_view (x ∷ xs))
    ≡ children_of (parts_view (x ∷ [])) ++ children_of (parts_view xs)
children_of_more x xs = child_more (item_view x) (items_view xs)
