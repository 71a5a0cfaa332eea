-- The tree of a document as it is written: names keep their prefixes, and declarations stand among the attributes.
use Rattle.std.specs.Prelude.{ℕ, List, [], ◌∷◌, Option, Some, None}
-- a name and a value, each as bytes
pub use Rattle.soap_document.specs.declared.attribute.WrittenAttribute.{WrittenAttribute as Attribute}

-- elements and their parts
mutual
  -- an element: its name, its attributes in order, the places in the document where its content begins and where that
  -- ends, and its parts
  pub data Element : Type 0 where
    element : List ℕ → List Attribute → ℕ → ℕ → Parts → Element

  -- text and elements, in order
  pub data Parts : Type 0 where
    none : Parts
    text : List ℕ → Parts → Parts
    child : Element → Parts → Parts

-- text before parts; empty text is not kept
abbrev pub onto : List ℕ → Parts → Parts
onto [] parts = parts
onto (byte ∷ bytes) parts = text (byte ∷ bytes) parts

-- the last of the elements among parts
abbrev pub last_child : Parts → Option Element
last_child none = None
last_child (text bytes parts) = last_child parts
last_child (child first parts) = elim (last_child parts) [ None ↦ Some first | Some last ↦ Some last ]

-- the last element that stands in an element
abbrev pub last_within : Element → Option Element
last_within (element name attributes start end parts) = last_child parts
