-- What is written is read back as, wherever it stands: the exact tree, with the declarations that were written.
use Rattle.std.specs.Prelude.{◌≡◌, ◌≤◌, ℕ, ◌+◌, List, [], ◌∷◌, ◌++◌, Bool, true, false, ◌||◌, if◌then◌else◌, None}
use Rattle.std.specs.Prelude.{Some, codes}
use Rattle.std.specs.List.{flat_map}
use Rattle.std.specs.Str.{bytes_eq}
use Rattle.soap_lex.specs.Characters.{IsChars}
use Rattle.soap_document.specs.Grammar.{IsElement, IsContent, IsQName, max_depth}
use Rattle.soap_lex.specs.Tests.{is_nil}
use Rattle.soap_document.specs.Tree as written
use Rattle.soap_document.specs.declared.attribute.WrittenAttribute.{WrittenAttribute}
use Rattle.rm_base.specs.declared.message.Binding.{Binding}
use Rattle.soap_document.specs.Profile.Namespaces.{bound, resolve, resolve_parts, is_new_name, xml_space}
use Rattle.soap_document.specs.Profile.Payload.{height}
use Rattle.soap_document.specs.Profile.Tree.{Element, element, Parts, none, text, child, attrs_of}
use Rattle.soap_document.specs.declared.profile.name.Expanded.{Expanded}
use Rattle.soap_document.specs.declared.profile.tree.Attr.{Attr}
use Rattle.soap_writer.specs.ElementText.{attribute_prefix, element_text, quoted}
use Rattle.soap_writer.specs.Frame.{addressing_space}
use Rattle.soap_writer.specs.Writable.{IsWritable}

-- the bytes are an element that begins at a place within so many elements, and where these bindings are in force it is
-- this tree
pub record ReadsAs (depth at : ℕ) (scope : List Binding) (bytes : List ℕ) (tree : Element) : Type 0 where
  pub raw : written.Element
  pub is : IsElement depth at bytes raw
  pub resolved : resolve scope raw ≡ Some tree

-- the bytes are content from a place on within so many elements, and where these bindings are in force it is these
-- parts
pub record ContentReadsAs (depth at : ℕ) (scope : List Binding) (bytes : List ℕ) (parts : Parts) : Type 0 where
  pub raw : written.Parts
  pub is : IsContent depth at bytes raw
  pub resolved : resolve_parts scope raw ≡ Some parts

-- ---- an element that stands on its own

-- the attribute that marks a reference parameter (WS-Addressing 1.0 SOAP Binding, section 3.3)
abbrev pub reference_mark : Attr
reference_mark = record {
  name = record { space = addressing_space; local = codes "IsReferenceParameter" };
  value = codes "true";
}

-- the mark among attributes, where there is one
abbrev pub marks : Bool → List Attr
marks true = reference_mark ∷ []
marks false = []

-- an element with the mark as its first attribute
abbrev pub with_mark : Element → Element
with_mark (element name decls attrs parts) = element name decls (reference_mark ∷ attrs) parts

-- what a name declares of its prefix where it is written
abbrev pub declared_by : List ℕ → Expanded → List Binding
declared_by prefix name =
    if is_nil name.space || bytes_eq name.space xml_space then []
    else record { prefix = prefix; space = name.space } ∷ []

-- what attributes declare, counted from i
abbrev pub declared_from : ℕ → List Attr → List Binding
declared_from i [] = []
declared_from i (a ∷ attrs) = declared_by (attribute_prefix i) a.name ++ declared_from (i + 1) attrs

-- what a start tag declares
abbrev pub declared_in : Expanded → List Attr → List Binding
declared_in name attrs = declared_by (codes "n") name ++ declared_from 0 attrs

-- an element with the declarations, and the mark, with which it is written
abbrev mutual
  pub written_tree : Bool → Element → Element
  written_tree marked (element name decls attrs parts) =
      element name (declared_in name attrs) (marks marked ++ attrs) (written_parts parts)

  pub written_parts : Parts → Parts
  written_parts none = none
  written_parts (text bytes parts) = text bytes (written_parts parts)
  written_parts (child first parts) = child (written_tree false first) (written_parts parts)

-- the mark's prefix is bound, and none of the element's attributes has its name
pub record IsMarkable (scope : List Binding) (tree : Element) : Type 0 where
  pub prefix : bound (codes "a") scope ≡ Some addressing_space
  pub unmarked : is_new_name reference_mark.name (attrs_of tree) ≡ true

-- that, where it is marked
abbrev pub MarkFits : Bool → List Binding → Element → Type 0
MarkFits true scope tree = IsMarkable scope tree
MarkFits false scope tree = Unit {0}

-- an element may be written within so many elements where these bindings are in force
pub record MayStand (marked : Bool) (depth : ℕ) (scope : List Binding) (tree : Element) : Type 0 where
  pub writable : IsWritable tree
  pub shallow : depth + height tree ≤ max_depth
  pub no_default : bound [] scope ≡ None
  pub mark : MarkFits marked scope tree

-- ---- content

-- the texts of elements, one behind the other
abbrev pub elements_text : Bool → List Element → List ℕ
elements_text marked elements = flat_map (element_text marked) elements

-- content that is these elements and nothing else
abbrev pub content_of : List Element → Parts
content_of [] = none
content_of (first ∷ elements) = child first (content_of elements)

-- ---- attributes as they are written

-- a name, and a value of characters
pub record IsAttributeWritten (a : WrittenAttribute) : Type 0 where
  pub qname : IsQName a.name
  pub chars : IsChars a.value

-- a space before each, and its value between double quotes
abbrev pub written_attributes : List WrittenAttribute → List ℕ
written_attributes [] = []
written_attributes (a ∷ attributes) =
    codes " " ++ (a.name ++ (codes "=" ++ (quoted a.value ++ written_attributes attributes)))
