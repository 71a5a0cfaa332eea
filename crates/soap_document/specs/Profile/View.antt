-- The tree that an element stands for.
use Rattle.std.specs.Prelude.{◌≡◌, List, map, true}
use Rattle.std.specs.List.{list_all}
use Rattle.soap_document.specs.Profile.Items.{Item, a_declaration, an_attribute, a_text, a_child, decls_among}
use Rattle.soap_document.specs.Profile.Items.{attrs_among}
use Rattle.soap_document.specs.Profile.Items.{parts_among, is_part}
use Rattle.soap_document.specs.Profile.Namespaces.{Resolved}
use Rattle.soap_document.specs.Profile.Tree.{Attr, Element, element, Parts}
use Rattle.rm_base.specs.declared.message.Binding.{Binding}
use Rattle.soap_document.specs.declared.profile.tree.Element.{Element as CodeElement, Element-F, fold-Element}
use Rattle.soap_document.specs.declared.profile.tree.Item.{Item as CodeItem, Item-F, fold-Item}
use Rattle.soap_document.specs.declared.profile.tree.Item.TheOpen

-- one level, with each item inside already seen so
abbrev pub item_step : Item-F Item Element → Item
item_step (TheOpen.Item-F.Declaration declaration) = a_declaration declaration
item_step (TheOpen.Item-F.Attribute attribute) = an_attribute attribute
item_step (TheOpen.Item-F.Text bytes) = a_text bytes
item_step (TheOpen.Item-F.Child tree) = a_child tree

-- one level of an element, with its items already seen so
abbrev pub element_step : Element-F Item Element → Element
element_step e =
    element e.name (decls_among e.items.items) (attrs_among e.items.items) (parts_among e.items.items)

-- the item that one of the code is
abbrev pub item_view : CodeItem → Item
item_view = fold-Item Item Element item_step element_step

-- the tree that an element of the code is
abbrev pub element_view : CodeElement → Element
element_view = fold-Element Item Element item_step element_step

-- the items that those of the code are
abbrev pub items_view : List CodeItem → List Item
items_view items = map item_view items

-- their declarations
abbrev pub decls_view : List CodeItem → List Binding
decls_view items = decls_among (items_view items)

-- their attributes
abbrev pub attrs_view : List CodeItem → List Attr
attrs_view items = attrs_among (items_view items)

-- their parts
abbrev pub parts_view : List CodeItem → Parts
parts_view items = parts_among (items_view items)

-- each of them is a part
abbrev pub AreParts : List CodeItem → Type 0
AreParts items = list_all is_part (items_view items) ≡ true

-- the start tag of an element
abbrev pub tag_view : CodeElement → Resolved
tag_view e = record { name = e.name; decls = decls_view e.items.items; attrs = attrs_view e.items.items }
