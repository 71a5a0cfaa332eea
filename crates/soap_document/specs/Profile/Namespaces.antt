-- How names are resolved: Namespaces in XML 1.0. The section of each rule stands beside it.
use Rattle.std.specs.Prelude.{ℕ, List, [], ◌∷◌, ◌++◌, Bool, true, not, ◌&&◌, ◌||◌, if◌then◌else◌, Option, Some, None}
use Rattle.std.specs.Prelude.{option_map, codes}
use Rattle.std.specs.List.{list_all}
use Rattle.std.specs.Str.{bytes_eq}
use Rattle.soap_document.specs.Tokens.{cut}
use Rattle.soap_lex.specs.Tests.{is_nil}
use Rattle.soap_document.specs.declared.attribute.WrittenAttribute.{WrittenAttribute}
use Rattle.soap_document.specs.Tree as written
use Rattle.soap_document.specs.Profile.Tree.{Expanded, Attr, Element, element, Parts, none, text, child}
use Rattle.rm_base.specs.declared.message.Binding.{Binding}

-- the two namespaces that are bound from the start (3)
abbrev pub xml_space : List ℕ
xml_space = codes "http://www.w3.org/XML/1998/namespace"

-- that of declarations
abbrev pub xmlns_space : List ℕ
xmlns_space = codes "http://www.w3.org/2000/xmlns/"

-- a written name as its prefix, empty where it has none, and its local name (4)
abbrev pub split : List ℕ → List ℕ × List ℕ
split name = elim (cut 58 name) [ None ↦ ([], name) | Some parts ↦ parts ]

-- the prefix that an attribute of this name declares, if it is a declaration (3): xmlns declares the default namespace
abbrev pub declared_prefix : List ℕ → Option (List ℕ)
declared_prefix name =
    if bytes_eq name (codes "xmlns") then Some []
    else if bytes_eq (split name).0 (codes "xmlns") then Some (split name).1 else None

-- whether a prefix may be bound so (2.2, 3, 5): no prefix is undeclared, xml is bound to its namespace and nothing else
-- is, and xmlns is not bound, nor anything to its namespace
abbrev pub may_bind : List ℕ → List ℕ → Bool
may_bind prefix space =
    if bytes_eq prefix (codes "xml") then bytes_eq space xml_space
    else not (bytes_eq space xml_space) && (not (bytes_eq space xmlns_space)
    && (is_nil prefix || (not (is_nil space) && not (bytes_eq prefix (codes "xmlns")))))

-- a declaration, or another attribute, before the declarations of those behind it
abbrev pub with_declaration : Option (List ℕ) → List ℕ → Option (List Binding) → Option (List Binding)
with_declaration None space later = later
with_declaration (Some prefix) space later =
    if may_bind prefix space then option_map (λ bindings. record { prefix = prefix; space = space } ∷ bindings)
    later else None

-- the declarations among attributes, in order; none where one may not stand
abbrev pub declarations : List WrittenAttribute → Option (List Binding)
declarations [] = Some []
declarations (a ∷ attributes) = with_declaration (declared_prefix a.name) a.value (declarations attributes)

-- what a prefix is bound to; of bindings the first counts
abbrev pub bound : List ℕ → List Binding → Option (List ℕ)
bound prefix [] = None
bound prefix (b ∷ bindings) = if bytes_eq b.prefix prefix then Some b.space else bound prefix bindings

-- the namespace of names with this prefix (6.1, 6.2): xml needs no declaration
abbrev pub prefix_space : List ℕ → List Binding → Option (List ℕ)
prefix_space prefix scope = if bytes_eq prefix (codes "xml") then Some xml_space else bound prefix scope

-- the default namespace, or none
abbrev pub or_none : Option (List ℕ) → Option (List ℕ)
or_none None = Some []
or_none (Some space) = Some space

-- the default namespace applies to the names of elements, and where there is none they are in no namespace (6.2)
abbrev pub element_space : List ℕ → List Binding → Option (List ℕ)
element_space prefix scope = if is_nil prefix then or_none (bound [] scope) else prefix_space prefix scope

-- and to no attribute (6.2)
abbrev pub attribute_space : List ℕ → List Binding → Option (List ℕ)
attribute_space prefix scope = if is_nil prefix then Some [] else prefix_space prefix scope

-- the local name in this namespace
abbrev pub named : List ℕ → Option (List ℕ) → Option Expanded
named local space = option_map (λ space. record { space = space; local = local }) space

-- the expanded name of an element (6.1)
abbrev pub element_name : List Binding → List ℕ → Option Expanded
element_name scope name = named (split name).1 (element_space (split name).0 scope)

-- the expanded name of an attribute (6.1)
abbrev pub attribute_name : List Binding → List ℕ → Option Expanded
attribute_name scope name = named (split name).1 (attribute_space (split name).0 scope)

-- an attribute before those behind it
abbrev pub with_attribute : Option Expanded → List ℕ → Option (List Attr) → Option (List Attr)
with_attribute None value later = None
with_attribute (Some name) value later = option_map (λ attrs. record { name = name; value = value } ∷ attrs) later

-- the same, unless it is a declaration
abbrev pub unless_declared : Option (List ℕ) → Option Expanded → List ℕ → Option (List Attr) → Option (List Attr)
unless_declared None name value later = with_attribute name value later
unless_declared (Some prefix) name value later = later

-- the attributes that are no declarations, with expanded names
abbrev pub expanded : List Binding → List WrittenAttribute → Option (List Attr)
expanded scope [] = Some []
expanded scope (a ∷ attributes) = unless_declared (declared_prefix a.name) (attribute_name scope a.name) a.value
    (expanded scope attributes)

-- no name stands twice among attributes as they are written (XML 1.0, 3.1), and none as it is expanded (6.3)
abbrev pub is_new : List ℕ → List WrittenAttribute → Bool
is_new name attributes = list_all (λ a. not (bytes_eq a.name name)) attributes

-- no name stands twice among attributes as they are written
abbrev pub are_distinct : List WrittenAttribute → Bool
are_distinct [] = true
are_distinct (a ∷ attributes) = is_new a.name attributes && are_distinct attributes

-- an attribute with another expanded name
abbrev pub is_other : Expanded → Attr → Bool
is_other name a = not (bytes_eq a.name.local name.local && bytes_eq a.name.space name.space)

-- no attribute has this expanded name
abbrev pub is_new_name : Expanded → List Attr → Bool
is_new_name name attrs = list_all (is_other name) attrs

-- no expanded name stands twice among attributes (6.3)
abbrev pub are_distinct_names : List Attr → Bool
are_distinct_names [] = true
are_distinct_names (a ∷ attrs) = is_new_name a.name attrs && are_distinct_names attrs

-- a start tag with its names resolved
pub record Resolved : Type 0 where
  pub name : Expanded
  pub decls : List Binding
  pub attrs : List Attr

-- a start tag whose names these are
abbrev pub resolved_with : List Binding → Option Expanded → Option (List Attr) → Option Resolved
resolved_with decls None attrs = None
resolved_with decls (Some name) None = None
resolved_with decls (Some name) (Some attrs) =
    if are_distinct_names attrs then Some (record { name = name; decls = decls; attrs = attrs }) else None

-- with these declarations, within these bindings
abbrev pub tag_within : List Binding → List Binding → List ℕ → List WrittenAttribute → Option Resolved
tag_within decls scope name attributes = resolved_with decls (element_name (decls ++ scope) name) (expanded (decls
    ++ scope) attributes)

-- with these declarations, where they may stand
abbrev pub declaring : Option (List Binding) → List Binding → List ℕ → List WrittenAttribute → Option Resolved
declaring None scope name attributes = None
declaring (Some decls) scope name attributes = tag_within decls scope name attributes

-- a start tag within these bindings; none where a rule is broken
abbrev pub tag_of : List Binding → List ℕ → List WrittenAttribute → Option Resolved
tag_of scope name attributes = if are_distinct attributes then declaring (declarations attributes) scope name
    attributes else None

-- an element before the parts behind it
abbrev pub joined : Option Element → Option Parts → Option Parts
joined None parts = None
joined (Some first) parts = option_map (child first) parts

-- an element within these bindings, with its names resolved; none where a rule is broken
abbrev mutual
  pub resolve : List Binding → written.Element → Option Element
  resolve scope (written.element name attributes start end parts) =
      elim (tag_of scope name attributes) [
        | None ↦ None
        | Some tag ↦ option_map (element tag.name tag.decls tag.attrs) (resolve_parts (tag.decls ++ scope) parts)
      ]

  pub resolve_parts : List Binding → written.Parts → Option Parts
  resolve_parts scope written.none = Some none
  resolve_parts scope (written.text bytes parts) = option_map (text bytes) (resolve_parts scope parts)
  resolve_parts scope (written.child first parts) = joined (resolve scope first) (resolve_parts scope parts)
