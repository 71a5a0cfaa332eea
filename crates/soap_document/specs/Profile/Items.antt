-- What an element has, in order: its declarations, its attributes and its parts.
use Rattle.std.specs.Prelude.{ℕ, List, [], ◌∷◌, Bool, true, false}
use Rattle.std.specs.List.{flat_map}
use Rattle.soap_document.specs.Profile.Tree.{Attr, Element, Parts, none, text, child, without_declarations}
use Rattle.rm_base.specs.declared.message.Binding.{Binding}

-- one thing that an element has
pub data Item : Type 0 where
  a_declaration : Binding → Item
  an_attribute : Attr → Item
  a_text : List ℕ → Item
  a_child : Element → Item

-- the declarations, in order
abbrev pub decls_among : List Item → List Binding
decls_among [] = []
decls_among (a_declaration b ∷ items) = b ∷ decls_among items
decls_among (an_attribute a ∷ items) = decls_among items
decls_among (a_text bytes ∷ items) = decls_among items
decls_among (a_child e ∷ items) = decls_among items

-- the attributes, in order
abbrev pub attrs_among : List Item → List Attr
attrs_among [] = []
attrs_among (a_declaration b ∷ items) = attrs_among items
attrs_among (an_attribute a ∷ items) = a ∷ attrs_among items
attrs_among (a_text bytes ∷ items) = attrs_among items
attrs_among (a_child e ∷ items) = attrs_among items

-- the parts, in order
abbrev pub parts_among : List Item → Parts
parts_among [] = none
parts_among (a_declaration b ∷ items) = parts_among items
parts_among (an_attribute a ∷ items) = parts_among items
parts_among (a_text bytes ∷ items) = text bytes (parts_among items)
parts_among (a_child e ∷ items) = child e (parts_among items)

-- whether it is a part of content: a text or an element
abbrev pub is_part : Item → Bool
is_part (a_declaration b) = false
is_part (an_attribute a) = false
is_part (a_text bytes) = true
is_part (a_child e) = true

-- the items that parts are
abbrev pub listed : Parts → List Item
listed none = []
listed (text bytes more) = a_text bytes ∷ listed more
listed (child e more) = a_child e ∷ listed more

-- the same with no declarations, at every level
abbrev pub stripped_item : Item → List Item
stripped_item (a_declaration b) = []
stripped_item (an_attribute a) = an_attribute a ∷ []
stripped_item (a_text bytes) = a_text bytes ∷ []
stripped_item (a_child e) = a_child (without_declarations e) ∷ []

-- the same of each
abbrev pub stripped_items : List Item → List Item
stripped_items items = flat_map stripped_item items
