-- Elements as they are written within a frame, with the prefixes that it binds.
use Rattle.std.specs.Prelude.{ℕ, List, [], ◌∷◌, ◌++◌, Bool, codes}
use Rattle.std.specs.List.{flat_map}
use Rattle.rm_base.specs.declared.message.Binding.{Binding}
use Rattle.soap_lex.specs.Escapes.{escaped_text}
use Rattle.soap_document.specs.Grammar.{end_tag}
use Rattle.soap_document.specs.Profile.Namespaces.{xml_space}
use Rattle.soap_document.specs.Profile.Tree.{Element, element, Parts, none, text, child}
use Rattle.soap_document.specs.declared.profile.name.Expanded.{Expanded}
use Rattle.soap_document.specs.declared.profile.tree.Attr.{Attr}
use Rattle.soap_writer.specs.ElementText.{quoted, element_text}
use Rattle.soap_writer.specs.Frame.{Prefix, letter, space_of}
use Rattle.soap_writer.specs.ReadBack.{written_tree}

-- the name of an element: with a prefix of the frame, or in no namespace
pub data Tag : Type 0 where
  framed : Prefix → List ℕ → Tag
  bare : List ℕ → Tag

-- without its prefix
abbrev pub local_of : Tag → List ℕ
local_of (framed prefix local) = local
local_of (bare local) = local

-- as it is written
unfoldable pub tag_name : Tag → List ℕ
tag_name (framed prefix local) = letter prefix ++ (codes ":" ++ local)
tag_name (bare local) = local

-- the name that it stands for, where SOAP has this namespace
abbrev pub expanded_name : List ℕ → Tag → Expanded
expanded_name soap (framed prefix local) = record { space = space_of soap prefix; local = local }
expanded_name soap (bare local) = record { space = []; local = local }

-- what stands in a start tag behind the name: an attribute in no namespace, with a prefix of the frame or with that of
-- xml, which is always bound (Namespaces 3), each with its value; or the declaration of a prefix
pub data Note : Type 0 where
  plain : List ℕ → List ℕ → Note
  prefixed : Prefix → List ℕ → List ℕ → Note
  of_xml : List ℕ → List ℕ → Note
  declared : List ℕ → List ℕ → Note

-- how it is written
unfoldable pub note_text : Note → List ℕ
note_text (plain local value) = codes " " ++ (local ++ (codes "=" ++ quoted value))
note_text (prefixed prefix local value) =
    codes " " ++ ((letter prefix ++ (codes ":" ++ local)) ++ (codes "=" ++ quoted value))
note_text (of_xml local value) = codes " xml:" ++ (local ++ (codes "=" ++ quoted value))
note_text (declared prefix space) = codes " xmlns:" ++ (prefix ++ (codes "=" ++ quoted space))

-- the attribute that it is, if it is one
abbrev pub note_attrs : List ℕ → Note → List Attr
note_attrs soap (plain local value) = record { name = record { space = []; local = local }; value = value } ∷ []
note_attrs soap (prefixed prefix local value) =
    record { name = record { space = space_of soap prefix; local = local }; value = value } ∷ []
note_attrs soap (of_xml local value) =
    record { name = record { space = xml_space; local = local }; value = value } ∷ []
note_attrs soap (declared prefix space) = []

-- the binding that it declares, if it does
abbrev pub note_bindings : Note → List Binding
note_bindings (plain local value) = []
note_bindings (prefixed prefix local value) = []
note_bindings (of_xml local value) = []
note_bindings (declared prefix space) = record { prefix = prefix; space = space } ∷ []

-- elements within a frame, and what stands in them
mutual
  -- an element with content, or with an empty-element tag; or one that stands on its own, marked or not
  pub data Node : Type 0 where
    full : Tag → List Note → Nodes → Node
    void : Tag → List Note → Node
    whole : Bool → Element → Node

  -- nothing, a text, or a node and what stands behind it
  pub data Nodes : Type 0 where
    nothing : Nodes
    words : List ℕ → Nodes
    more : Node → Nodes → Nodes

-- the front of a start tag
unfoldable pub begin_text : List ℕ → List ℕ
begin_text name = codes "<" ++ name

-- an end tag
unfoldable pub close_text : List ℕ → List ℕ
close_text name = end_tag name []

-- notes, one behind the other
abbrev pub notes_text : List Note → List ℕ
notes_text notes = flat_map note_text notes

-- how nodes are written
abbrev mutual
  pub node_text : Node → List ℕ
  node_text (full tag notes nodes) =
      begin_text (tag_name tag) ++ (notes_text notes ++ (codes ">" ++ (nodes_text nodes ++ close_text (tag_name tag))))
  node_text (void tag notes) = begin_text (tag_name tag) ++ (notes_text notes ++ codes "/>")
  node_text (whole marked e) = element_text marked e

  pub nodes_text : Nodes → List ℕ
  nodes_text nothing = []
  nodes_text (words bytes) = escaped_text bytes
  nodes_text (more node nodes) = node_text node ++ nodes_text nodes

-- what they are read as, with the declarations that were written, where SOAP has this namespace
abbrev mutual
  pub node_tree : List ℕ → Node → Element
  node_tree soap (full tag notes nodes) =
      element (expanded_name soap tag) (flat_map note_bindings notes) (flat_map (note_attrs soap) notes)
      (nodes_tree soap nodes)
  node_tree soap (void tag notes) =
      element (expanded_name soap tag) (flat_map note_bindings notes) (flat_map (note_attrs soap) notes) none
  node_tree soap (whole marked e) = written_tree marked e

  pub nodes_tree : List ℕ → Nodes → Parts
  nodes_tree soap nothing = none
  nodes_tree soap (words bytes) = text bytes none
  nodes_tree soap (more node nodes) = child (node_tree soap node) (nodes_tree soap nodes)

-- an element of text
abbrev pub leaf : Tag → List ℕ → Node
leaf tag bytes = full tag [] (words bytes)

-- a node for each, before others
abbrev pub each_node : {A : Type 0} → (A → Node) → List A → Nodes → Nodes
each_node f [] others = others
each_node f (x ∷ xs) others = more (f x) (each_node f xs others)
