-- Nodes that are read back as they were written.
use Rattle.std.specs.Prelude.{◌≡◌, ℕ, suc, ◌<◌, List, [], ◌∷◌, ◌++◌, true, Some, codes}
use Rattle.std.specs.List.{AllByRecursion, flat_map}
use Rattle.rm_base.specs.declared.message.Binding.{Binding}
use Rattle.soap_lex.specs.Characters.{IsChars}
use Rattle.soap_document.specs.declared.attribute.WrittenAttribute.{WrittenAttribute}
use Rattle.soap_document.specs.Grammar.{max_depth}
use Rattle.soap_document.specs.Profile.Namespaces.{tag_of}
use Rattle.soap_writer.specs.Frame.{letter}
use Rattle.soap_writer.specs.Plain.{is_plain_name}
use Rattle.soap_writer.specs.ReadBack.{MayStand}
use Rattle.soap_writer.specs.Writable.{IsTextWritable}
use Rattle.soap_writer.specs.Nodes.Node.{Tag, local_of, tag_name, expanded_name, Note, plain, prefixed, of_xml}
use Rattle.soap_writer.specs.Nodes.Node.{declared}
use Rattle.soap_writer.specs.Nodes.Node.{note_attrs, note_bindings, Node, full, void, whole, Nodes, nothing, words}
use Rattle.soap_writer.specs.Nodes.Node.{more}

-- a note among the attributes of the tag as it is written
abbrev pub note_attribute : Note → WrittenAttribute
note_attribute (plain local value) = record { name = local; value = value }
note_attribute (prefixed prefix local value) =
    record { name = letter prefix ++ (codes ":" ++ local); value = value }
note_attribute (of_xml local value) = record { name = codes "xml" ++ (codes ":" ++ local); value = value }
note_attribute (declared prefix space) = record { name = codes "xmlns" ++ (codes ":" ++ prefix); value = space }

-- all of them
abbrev pub note_attributes : List Note → List WrittenAttribute
note_attributes [] = []
note_attributes (note ∷ notes) = note_attribute note ∷ note_attributes notes

-- names of ASCII and a value of characters
abbrev pub IsNoteGood : Note → Type 0
IsNoteGood (plain local value) = (is_plain_name local ≡ true) × IsChars value
IsNoteGood (prefixed prefix local value) = (is_plain_name local ≡ true) × IsChars value
IsNoteGood (of_xml local value) = (is_plain_name local ≡ true) × IsChars value
IsNoteGood (declared prefix space) = (is_plain_name prefix ≡ true) × IsChars space

-- a tag of such names and notes, which Namespaces in XML resolves where these bindings are in force
pub record IsTagGood (soap : List ℕ) (scope : List Binding) (tag : Tag) (notes : List Note) : Type 0 where
  pub named : is_plain_name (local_of tag) ≡ true
  pub each : AllByRecursion IsNoteGood notes
  pub resolved : tag_of scope (tag_name tag) (note_attributes notes) ≡ Some (record {
    name = expanded_name soap tag;
    decls = flat_map note_bindings notes;
    attrs = flat_map (note_attrs soap) notes;
  })

-- nodes of such tags, texts, and elements that may stand there, within so many elements
abbrev mutual
  pub IsGood : List ℕ → ℕ → List Binding → Node → Type 0
  IsGood soap depth scope (full tag notes nodes) =
      IsTagGood soap scope tag notes × (depth < max_depth)
      × AreGood soap (suc depth) (flat_map note_bindings notes ++ scope) nodes
  IsGood soap depth scope (void tag notes) = IsTagGood soap scope tag notes × (depth < max_depth)
  IsGood soap depth scope (whole marked e) = MayStand marked depth scope e

  pub AreGood : List ℕ → ℕ → List Binding → Nodes → Type 0
  AreGood soap depth scope nothing = Unit {0}
  AreGood soap depth scope (words bytes) = IsTextWritable bytes
  AreGood soap depth scope (more node nodes) = IsGood soap depth scope node × AreGood soap depth scope nodes
