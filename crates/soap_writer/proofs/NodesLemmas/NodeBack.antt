-- A node is read back as its tree, by the laws of what stands in it.
use Rattle.std.proofs.Common.{◌≡◌, ℕ, suc, ◌+◌, List, [], ◌∷◌, ◌++◌, Bool, true, Option, Some, None, option_map}
use Rattle.std.proofs.Common.{codes, length, refl, sym, ap, subst, ◌∙◌, append_assoc}
use Rattle.std.specs.List.{AllByRecursion, flat_map}
use Rattle.rm_base.specs.declared.message.Binding.{Binding}
use Rattle.soap_lex.specs.Characters.{IsName}
use Rattle.soap_lex.specs.Escapes.{escaped_text}
use Rattle.soap_document.specs.declared.attribute.WrittenAttribute.{WrittenAttribute}
use Rattle.soap_document.specs.Grammar as grammar
use Rattle.soap_document.specs.Grammar.{IsAttributes, IsQName, start_tag, end_tag, empty_tag}
use Rattle.soap_document.specs.Tree as written
use Rattle.soap_document.specs.Profile.Namespaces.{bound, named, Resolved, resolved_with, resolve_parts}
use Rattle.soap_document.specs.Profile.Tree.{Element, element, Parts, none, text, child}
use Rattle.soap_document.specs.declared.profile.name.Expanded.{Expanded}
use Rattle.soap_writer.specs.ElementText.{quoted, element_text}
use Rattle.soap_writer.specs.Frame.{Prefix, of_soap, of_addressing, of_messaging, of_connection, letter, space_of}
use Rattle.soap_writer.specs.Plain.{is_plain_name, name_from}
use Rattle.soap_writer.specs.ReadBack.{ReadsAs, ContentReadsAs, MayStand, written_tree, IsAttributeWritten}
use Rattle.soap_writer.specs.ReadBack.{written_attributes}
use Rattle.soap_writer.specs.Writable.{IsTextWritable}
use Rattle.soap_writer.specs.Nodes.Good.{note_attribute, note_attributes, IsNoteGood, IsTagGood, IsGood, AreGood}
use Rattle.soap_writer.specs.Nodes.Node.{Tag, framed, bare, local_of, tag_name, expanded_name, Note, plain, prefixed}
use Rattle.soap_writer.specs.Nodes.Node.{of_xml, declared, note_text, note_attrs, note_bindings, Node, full, void}
use Rattle.soap_writer.specs.Nodes.Node.{whole}
use Rattle.soap_writer.specs.Nodes.Node.{Nodes, nothing, words, more, begin_text, close_text, node_text, nodes_text}
use Rattle.soap_writer.specs.Nodes.Node.{node_tree, nodes_tree}

-- what is known of attributes, elements and content
pub record Known : Type 0 where
  pub attributes : (attributes : List WrittenAttribute) → AllByRecursion IsAttributeWritten attributes
      → IsAttributes (written_attributes attributes) attributes
  pub elements : (marked : Bool) (tree : Element) (depth at : ℕ) (scope : List Binding)
      → MayStand marked depth scope tree → ReadsAs depth at scope (element_text marked tree) (written_tree marked tree)
  pub nothing : (depth at : ℕ) (scope : List Binding) → ContentReadsAs depth at scope [] none
  pub words : (depth at : ℕ) (scope : List Binding) (bytes : List ℕ) → IsTextWritable bytes
      → ContentReadsAs depth at scope (escaped_text bytes) (text bytes none)
  pub more : (depth at : ℕ) (scope : List Binding) (inner rest : List ℕ) (first : Element) (parts : Parts)
      → ((at : ℕ) → ReadsAs depth at scope inner first) → ((at : ℕ) → ContentReadsAs depth at scope rest parts)
      → ContentReadsAs depth at scope (inner ++ rest) (child first parts)

-- ---- tags

letter-IsName : (p : Prefix) → IsName (letter p)
letter-IsName of_soap = name_from (codes "s") refl
letter-IsName of_addressing = name_from (codes "a") refl
letter-IsName of_messaging = name_from (codes "r") refl
letter-IsName of_connection = name_from (codes "c") refl

name_IsQName : (t : Tag) → is_plain_name (local_of t) ≡ true → IsQName (tag_name t)
unfolding tag_name
name_IsQName (framed p local) e = grammar.prefixed (letter p) local (letter-IsName p) (name_from local e)
name_IsQName (bare local) e = grammar.unprefixed local (name_from local e)

notes_are : (notes : List Note) → flat_map note_text notes ≡ written_attributes (note_attributes notes)
unfolding note_text
notes_are [] = refl
notes_are (plain local value ∷ notes) =
    ap (λ l. codes " " ++ l) (append_assoc local (codes "=" ++ quoted value) (flat_map note_text notes))
    ∙ ap (λ l. codes " " ++ (local ++ (codes "=" ++ (quoted value ++ l)))) (notes_are notes)
notes_are (prefixed p local value ∷ notes) =
    let name = letter p ++ (codes ":" ++ local) in
    ap (λ l. codes " " ++ l) (append_assoc name (codes "=" ++ quoted value) (flat_map note_text notes))
    ∙ ap (λ l. codes " " ++ (name ++ (codes "=" ++ (quoted value ++ l)))) (notes_are notes)
notes_are (of_xml local value ∷ notes) =
    ap (λ l. codes " xml:" ++ l) (append_assoc local (codes "=" ++ quoted value) (flat_map note_text notes))
    ∙ ap (λ l. codes " xml:" ++ (local ++ (codes "=" ++ (quoted value ++ l)))) (notes_are notes)
notes_are (declared prefix space ∷ notes) =
    ap (λ l. codes " xmlns:" ++ l) (append_assoc prefix (codes "=" ++ quoted space) (flat_map note_text notes))
    ∙ ap (λ l. codes " xmlns:" ++ (prefix ++ (codes "=" ++ (quoted space ++ l)))) (notes_are notes)

note_written : (n : Note) → IsNoteGood n → IsAttributeWritten (note_attribute n)
note_written (plain local value) is =
    record { qname = grammar.unprefixed local (name_from local is.0); chars = is.1 }
note_written (prefixed p local value) is =
    record { qname = grammar.prefixed (letter p) local (letter-IsName p) (name_from local is.0); chars = is.1 }
note_written (of_xml local value) is = record {
  qname = grammar.prefixed (codes "xml") local (name_from (codes "xml") refl) (name_from local is.0);
  chars = is.1;
}
note_written (declared prefix space) is = record {
  qname = grammar.prefixed (codes "xmlns") prefix (name_from (codes "xmlns") refl) (name_from prefix is.0);
  chars = is.1;
}

notes_written : (notes : List Note) → AllByRecursion IsNoteGood notes
    → AllByRecursion IsAttributeWritten (note_attributes notes)
notes_written [] all = tt
notes_written (n ∷ notes) all = (note_written n all.0, notes_written notes all.1)

tag_attributes : Known → (soap : List ℕ) (scope : List Binding) (t : Tag) (notes : List Note)
    → IsTagGood soap scope t notes → IsAttributes (flat_map note_text notes) (note_attributes notes)
tag_attributes known soap scope t notes good =
    subst (λ (l : List ℕ). IsAttributes l (note_attributes notes)) (sym (notes_are notes))
    (known.attributes (note_attributes notes) (notes_written notes good.each))

full_text : (w tag inner close : List ℕ) → start_tag w tag ++ (inner ++ close)
    ≡ (codes "<" ++ w) ++ (tag ++ (codes ">" ++ (inner ++ close)))
full_text w tag inner close =
    ap (λ l. codes "<" ++ l) (append_assoc w (tag ++ codes ">") (inner ++ close)
    ∙ ap (λ l. w ++ l) (append_assoc tag (codes ">") (inner ++ close)))

void_text : (w tag : List ℕ) → empty_tag w tag ≡ (codes "<" ++ w) ++ (tag ++ codes "/>")
void_text w tag = refl

-- an element, where its tag is resolved so
abbrev of_tag : List Binding → Option Resolved → written.Parts → Option Element
of_tag scope tag parts =
    elim tag [
      | None ↦ None
      | Some t ↦ option_map (element t.name t.decls t.attrs) (resolve_parts (t.decls ++ scope) parts)
    ]

-- ---- nodes

mutual
  unfolding begin_text close_text

  pub node_back : (node : Node) (known : Known) (soap : List ℕ) (depth at : ℕ) (scope : List Binding)
      → IsGood soap depth scope node → ReadsAs depth at scope (node_text node) (node_tree soap node)
  node_back (full t notes nodes) known soap depth at scope good =
      let w = tag_name t in
      let tag = flat_map note_text notes in
      let attrs = flat_map (note_attrs soap) notes in
      let decls = flat_map note_bindings notes in
      let name : Expanded = expanded_name soap t in
      let from = at + length (start_tag w tag) in
      let inner = nodes_back nodes known soap (suc depth) from (decls ++ scope) good.2 in
      subst (λ (l : List ℕ). ReadsAs depth at scope l (element name decls attrs (nodes_tree soap nodes)))
      (full_text w tag (nodes_text nodes) (end_tag w [])) (record {
        raw = written.element w (note_attributes notes) from (from + length (nodes_text nodes)) inner.raw;
        is = grammar.full depth at w tag (note_attributes notes) (nodes_text nodes) inner.raw [] good.1
            (name_IsQName t good.0.named) (tag_attributes known soap scope t notes good.0) inner.is tt;
        resolved = ap (λ (o : Option Resolved). of_tag scope o inner.raw) good.0.resolved
            ∙ ap (option_map (element name decls attrs)) inner.resolved;
      })
  node_back (void t notes) known soap depth at scope good =
      let w = tag_name t in
      let tag = flat_map note_text notes in
      let attrs = flat_map (note_attrs soap) notes in
      let decls = flat_map note_bindings notes in
      let name : Expanded = expanded_name soap t in
      let from = at + length (empty_tag w tag) in
      subst (λ (l : List ℕ). ReadsAs depth at scope l (element name decls attrs none)) (void_text w tag) (record {
        raw = written.element w (note_attributes notes) from from written.none;
        is = grammar.empty depth at w tag (note_attributes notes) good.1 (name_IsQName t good.0.named)
            (tag_attributes known soap scope t notes good.0);
        resolved = ap (λ (o : Option Resolved). of_tag scope o written.none) good.0.resolved;
      })
  node_back (whole marked e) known soap depth at scope good = known.elements marked e depth at scope good

  pub nodes_back : (nodes : Nodes) (known : Known) (soap : List ℕ) (depth at : ℕ) (scope : List Binding)
      → AreGood soap depth scope nodes → ContentReadsAs depth at scope (nodes_text nodes) (nodes_tree soap nodes)
  nodes_back nothing known soap depth at scope good = known.nothing depth at scope
  nodes_back (words bytes) known soap depth at scope good = known.words depth at scope bytes good
  nodes_back (more node nodes) known soap depth at scope good =
      known.more depth at scope (node_text node) (nodes_text nodes) (node_tree soap node) (nodes_tree soap nodes)
      (λ from. node_back node known soap depth from scope good.0)
      (λ from. nodes_back nodes known soap depth from scope good.1)

-- ---- a tag without notes

pub tag_good : (soap : List ℕ) (scope : List Binding) (prefix : Prefix) (local : List ℕ) → is_plain_name local ≡ true
    → bound (letter prefix) scope ≡ Some (space_of soap prefix) → IsTagGood soap scope (framed prefix local) []
unfolding tag_name
tag_good soap scope of_soap local name is =
    record { named = name; each = tt; resolved = ap (λ o. resolved_with [] (named local o) (Some [])) is }
tag_good soap scope of_addressing local name is =
    record { named = name; each = tt; resolved = ap (λ o. resolved_with [] (named local o) (Some [])) is }
tag_good soap scope of_messaging local name is =
    record { named = name; each = tt; resolved = ap (λ o. resolved_with [] (named local o) (Some [])) is }
tag_good soap scope of_connection local name is =
    record { named = name; each = tt; resolved = ap (λ o. resolved_with [] (named local o) (Some [])) is }
