-- An element without its mark.
use Rattle.std.proofs.Common.{◌≡◌, List, [], ◌∷◌, Bool, true, false, not, if◌then◌else◌, refl, ap, ◌∙◌}
use Rattle.std.specs.List.{filter}
use Rattle.soap_document.specs.Profile.Items.{Item, a_declaration, an_attribute, a_text, a_child, decls_among}
use Rattle.soap_document.specs.Profile.Items.{attrs_among}
use Rattle.soap_document.specs.Profile.Items.{parts_among}
use Rattle.soap_document.specs.Profile.Tree.{element, text, child}
use Rattle.soap_document.specs.declared.profile.name.Expanded.{Expanded}
use Rattle.soap_document.specs.declared.profile.tree.Attr.{Attr}
use Rattle.soap_document.specs.Profile.View.{items_view}
use Rattle.soap_document.specs.declared.profile.tree.Item.{Item as CodeItem}
use Rattle.soap_writer.specs.Values.Children.{is_same}
use Rattle.wsa_headers.specs.Endpoint.{unmarked, is_no_mark, mark_name}
use Rattle.wsa_headers.specs.Steps.{unmarked_items}

attr_kept : (b : Bool) (a : Attr) (is : List Item) → attrs_among (if not b then an_attribute a ∷ is else is)
    ≡ (if not b then a ∷ attrs_among is else attrs_among is)
attr_kept true a is = refl
attr_kept false a is = refl

decl_kept : (b : Bool) (a : Attr) (is : List Item)
    → decls_among (if not b then an_attribute a ∷ is else is) ≡ decls_among is
decl_kept true a is = refl
decl_kept false a is = refl

part_kept : (b : Bool) (a : Attr) (is : List Item)
    → parts_among (if not b then an_attribute a ∷ is else is) ≡ parts_among is
part_kept true a is = refl
part_kept false a is = refl

attrs_are : (is : List Item) → attrs_among (unmarked_items is) ≡ filter is_no_mark (attrs_among is)
attrs_are [] = refl
attrs_are (a_declaration b ∷ is) = attrs_are is
attrs_are (an_attribute a ∷ is) =
    attr_kept (is_same a.name mark_name) a (unmarked_items is)
    ∙ ap (λ l. if is_no_mark a then a ∷ l else l) (attrs_are is)
attrs_are (a_text bytes ∷ is) = attrs_are is
attrs_are (a_child e ∷ is) = attrs_are is

decls_are : (is : List Item) → decls_among (unmarked_items is) ≡ decls_among is
decls_are [] = refl
decls_are (a_declaration b ∷ is) = ap (λ l. b ∷ l) (decls_are is)
decls_are (an_attribute a ∷ is) = decl_kept (is_same a.name mark_name) a (unmarked_items is) ∙ decls_are is
decls_are (a_text bytes ∷ is) = decls_are is
decls_are (a_child e ∷ is) = decls_are is

parts_are : (is : List Item) → parts_among (unmarked_items is) ≡ parts_among is
parts_are [] = refl
parts_are (a_declaration b ∷ is) = parts_are is
parts_are (an_attribute a ∷ is) = part_kept (is_same a.name mark_name) a (unmarked_items is) ∙ parts_are is
parts_are (a_text bytes ∷ is) = ap (text bytes) (parts_are is)
parts_are (a_child e ∷ is) = ap (child e) (parts_are is)

-- what is kept of an element's items is the element without its mark
pub unmarked_view : (name : Expanded) (xs ys : List CodeItem) → items_view ys ≡ unmarked_items (items_view xs)
    → element name (decls_among (items_view ys)) (attrs_among (items_view ys)) (parts_among (items_view ys))
    ≡ unmarked (element name (decls_among (items_view xs)) (attrs_among (items_view xs)) (parts_among (items_view xs)))
unmarked_view name xs ys e =
    rw (e, decls_are (items_view xs), attrs_are (items_view xs), parts_are (items_view xs)) refl
