-- The tree of a document with expanded names: the declarations of an element stand apart from its attributes.
use Rattle.std.specs.Prelude.{ℕ, List, [], ◌∷◌}
-- a prefix, which is empty for the default namespace, and what it is bound to
use Rattle.rm_base.specs.declared.message.Binding.{Binding}
-- a namespace, empty where there is none, and a local name
pub use Rattle.soap_document.specs.declared.profile.name.Expanded.{Expanded}
-- an expanded name and a value
pub use Rattle.soap_document.specs.declared.profile.tree.Attr.{Attr}

-- elements and their parts
mutual
  pub data Element : Type 0 where
    element : Expanded → List Binding → List Attr → Parts → Element

  pub data Parts : Type 0 where
    none : Parts
    text : List ℕ → Parts → Parts
    child : Element → Parts → Parts

-- the same with no declarations, at every level
abbrev mutual
  pub without_declarations : Element → Element
  without_declarations (element name decls attrs parts) = element name [] attrs (parts_without parts)

  pub parts_without : Parts → Parts
  parts_without none = none
  parts_without (text bytes parts) = text bytes (parts_without parts)
  parts_without (child first parts) = child (without_declarations first) (parts_without parts)

-- what an element is called
abbrev pub name_of : Element → Expanded
name_of (element name decls attrs parts) = name

-- the bindings that an element declares
abbrev pub decls_of : Element → List Binding
decls_of (element name decls attrs parts) = decls

-- the attributes of an element
abbrev pub attrs_of : Element → List Attr
attrs_of (element name decls attrs parts) = attrs

-- an element's content
abbrev pub parts_of : Element → Parts
parts_of (element name decls attrs parts) = parts

-- the elements that stand in content, in order
abbrev pub children_of : Parts → List Element
children_of none = []
children_of (text bytes parts) = children_of parts
children_of (child first parts) = first ∷ children_of parts
