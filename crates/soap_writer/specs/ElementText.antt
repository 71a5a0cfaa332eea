-- The text of an element that stands on its own: it declares each namespace where it uses it, at its own name and at
-- each attribute. XML 1.0, section 3.1; Namespaces in XML 1.0, sections 3 to 5.
use Rattle.std.specs.Prelude.{ℕ, ◌+◌, List, [], ◌∷◌, ◌++◌, Bool, false, ◌||◌, if◌then◌else◌, codes, decimal}
use Rattle.std.specs.Str.{bytes_eq}
use Rattle.soap_lex.specs.Escapes.{escaped_text, escaped_value}
use Rattle.soap_document.specs.Grammar.{start_tag, end_tag}
use Rattle.soap_lex.specs.Tests.{is_nil}
use Rattle.soap_document.specs.Profile.Namespaces.{xml_space}
use Rattle.soap_document.specs.Profile.Tree.{Element, element, Parts, none, text, child}
use Rattle.soap_document.specs.declared.profile.name.Expanded.{Expanded}
use Rattle.soap_document.specs.declared.profile.tree.Attr.{Attr}

-- a value between double quotes
abbrev pub quoted : List ℕ → List ℕ
quoted value = codes "\"" ++ (escaped_value value ++ codes "\"")

-- a name in no namespace, in that of xml, whose prefix is always bound, or in one that is bound to the prefix
abbrev pub written_name : List ℕ → Expanded → List ℕ
written_name prefix name =
    if is_nil name.space then name.local else if bytes_eq name.space xml_space then codes "xml:" ++ name.local
    else prefix ++ (codes ":" ++ name.local)

-- the declaration of the prefix, where the name needs one
abbrev pub declaration : List ℕ → Expanded → List ℕ
declaration prefix name =
    if is_nil name.space || bytes_eq name.space xml_space then []
    else codes " xmlns:" ++ (prefix ++ (codes "=" ++ quoted name.space))

-- an attribute, with its declaration before it
abbrev pub attribute_text : List ℕ → Attr → List ℕ
attribute_text prefix a =
    declaration prefix a.name ++ (codes " " ++ (written_name prefix a.name ++ (codes "=" ++ quoted a.value)))

-- the prefix of the attribute with this number
abbrev pub attribute_prefix : ℕ → List ℕ
attribute_prefix i = codes "q" ++ decimal i

-- attributes, counted from i
abbrev pub attributes_text : ℕ → List Attr → List ℕ
attributes_text i [] = []
attributes_text i (a ∷ attrs) = attribute_text (attribute_prefix i) a ++ attributes_text (i + 1) attrs

-- the mark of a reference parameter (WS-Addressing 1.0 SOAP Binding, section 3.3)
abbrev pub mark : Bool → List ℕ
mark marked = if marked then codes " a:IsReferenceParameter=\"true\"" else []

-- what stands behind the name in the start tag of an element
abbrev pub tag_text : Bool → Expanded → List Attr → List ℕ
tag_text marked name attrs = declaration (codes "n") name ++ (mark marked ++ attributes_text 0 attrs)

-- an element, marked or not; those within it are not
abbrev mutual
  pub element_text : Bool → Element → List ℕ
  element_text marked (element name decls attrs parts) =
      start_tag (written_name (codes "n") name) (tag_text marked name attrs)
      ++ (parts_text parts ++ end_tag (written_name (codes "n") name) [])

  pub parts_text : Parts → List ℕ
  parts_text none = []
  parts_text (text bytes parts) = escaped_text bytes ++ parts_text parts
  parts_text (child first parts) = element_text false first ++ parts_text parts
