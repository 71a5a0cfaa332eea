-- A written element is read back exactly.
use Rattle.std.proofs.Common.{◌≡◌, ◌≢◌, ℕ, suc, ◌+◌, ◌<◌, ◌≤◌, List, [], ◌∷◌, ◌++◌, Bool, true, false, if◌then◌else◌}
use Rattle.std.proofs.Common.{Option, Some, None, option_map, codes, length, refl, sym, ap, ap₂, subst, ◌∙◌, arith}
use Rattle.std.proofs.Common.{map}
use Rattle.std.proofs.Math.Nat.{le-max_left, le-max_right}
use Rattle.std.proofs.lemmas.Bool.{and_from}
use Rattle.std.proofs.lemmas.List.{append-nil}
use Rattle.std.specs.List.{AllByRecursion}
use Rattle.soap_lex.specs.Characters.{IsChars}
use Rattle.soap_lex.specs.Escapes.{escaped_text}
use Rattle.soap_document.specs.Grammar.{IsQName, full, IsContent, last, more, start_tag, max_depth, IsDocument}
use Rattle.soap_document.specs.Grammar.{document, unmarked, without, white}
use Rattle.soap_document.specs.Tree as written
use Rattle.soap_document.specs.Profile.Document.{Document}
use Rattle.rm_base.specs.declared.message.Binding.{Binding}
use Rattle.soap_document.specs.Profile.Namespaces.{bound, declarations, resolve_parts, joined, Resolved, tag_of}
use Rattle.soap_document.specs.Profile.Namespaces.{declaring}
use Rattle.soap_document.specs.Profile.Namespaces.{resolved_with, are_distinct_names}
use Rattle.soap_document.specs.Profile.Payload.{height, depth as depth_of_parts}
use Rattle.soap_document.specs.Profile.Tree.{Element, element, Parts, none, text, child, without_declarations}
use Rattle.soap_document.specs.Profile.Tree.{parts_without}
use Rattle.soap_document.specs.declared.profile.name.Expanded.{Expanded}
use Rattle.soap_document.specs.declared.profile.tree.Attr.{Attr}
use Rattle.soap_writer.specs.ElementText.{written_name, tag_text, element_text, parts_text}
use Rattle.soap_writer.specs.ReadBack.{with_mark, MarkFits, MayStand, ReadsAs, ContentReadsAs, marks, declared_in}
use Rattle.soap_writer.specs.ReadBack.{written_tree, written_parts, elements_text, content_of}
use Rattle.soap_writer.specs.Writable.{IsTagWritable, IsTextWritable, IsWritable, ArePartsWritable}
use Rattle.soap_writer.proofs.Apart.{tag_distinct}
use Rattle.soap_writer.proofs.Expands.{MarkBound, tag_declarations, tag_expanded, tag_named, tag_default}
use Rattle.soap_writer.proofs.Prefixes.{n-IsName}
use Rattle.soap_writer.proofs.Raws.{Known, kind, raw_tag, tag_bindings, tag_bindings_is, tag_attributes}
use Rattle.soap_writer.proofs.Raws.{written_name-spelled, spelled-IsQName}

-- ---- the start tag

abbrev tag_read : Bool → Expanded → List Attr → Resolved
tag_read marked name attrs =
    record { name = name; decls = declared_in name attrs; attrs = marks marked ++ attrs }

mark_bound : (marked : Bool) (scope : List Binding) (tree : Element) → MarkFits marked scope tree
    → MarkBound marked scope
mark_bound true scope tree fits = fits.prefix
mark_bound false scope tree fits = tt

marked_distinct : (marked : Bool) (scope : List Binding) (name : Expanded) (decls : List Binding) (attrs : List Attr)
    (parts : Parts) → MarkFits marked scope (element name decls attrs parts) → are_distinct_names attrs ≡ true
    → are_distinct_names (marks marked ++ attrs) ≡ true
marked_distinct true scope name decls attrs parts fits distinct = and_from _ _ fits.unmarked distinct
marked_distinct false scope name decls attrs parts fits distinct = distinct

tag_back : (marked : Bool) (scope : List Binding) (name : Expanded) (decls : List Binding) (attrs : List Attr)
    (parts : Parts) → IsTagWritable name decls attrs → bound [] scope ≡ None
    → MarkFits marked scope (element name decls attrs parts)
    → tag_of scope (written_name (codes "n") name) (raw_tag marked name attrs) ≡ Some (tag_read marked name attrs)
tag_back marked scope name decls attrs parts is default fits =
    let bs = tag_bindings name attrs in
    let raw = raw_tag marked name attrs in
    let w = written_name (codes "n") name in
    ap (λ b. if b then declaring (declarations raw) scope w raw else None) (tag_distinct marked name decls attrs is)
    ∙ ap (λ o. declaring o scope w raw) (tag_declarations marked name decls attrs is)
    ∙ ap₂ (λ (n : Option Expanded) (found : Option (List Attr)). resolved_with bs n found)
    (tag_named name decls attrs scope is default)
    (tag_expanded marked name decls attrs scope is (mark_bound marked scope (element name decls attrs parts) fits))
    ∙ ap (λ b. if b then Some (record { name = name; decls = bs; attrs = marks marked ++ attrs }) else None)
    (marked_distinct marked scope name decls attrs parts fits is.distinct)
    ∙ ap (λ ds. Some (record { name = name; decls = ds; attrs = marks marked ++ attrs })) (tag_bindings_is name attrs)

name_IsQName : (name : Expanded) (decls : List Binding) (attrs : List Attr) → IsTagWritable name decls attrs
    → IsQName (written_name (codes "n") name)
name_IsQName name decls attrs is =
    subst IsQName (sym (written_name-spelled (codes "n") name)) (spelled-IsQName (kind name.space) (codes "n")
    name.local n-IsName is.named.local)

-- within it the default namespace is bound no more than around it
inner_default : (name : Expanded) (attrs : List Attr) (scope : List Binding) → bound [] scope ≡ None
    → bound [] (declared_in name attrs ++ scope) ≡ None
inner_default name attrs scope default =
    ap (λ (ds : List Binding). bound [] (ds ++ scope)) (sym (tag_bindings_is name attrs))
    ∙ tag_default name attrs scope default

-- ---- content

no_characters : IsChars []
no_characters = record { characters = []; each = tt; coded = refl }

-- an element from its tag and its content
element_from : Known → (marked : Bool) (depth at : ℕ) (scope : List Binding) (name : Expanded) (decls : List Binding)
    (attrs : List Attr) (parts read : Parts) → IsTagWritable name decls attrs → depth < max_depth
    → bound [] scope ≡ None → MarkFits marked scope (element name decls attrs parts)
    → ContentReadsAs (suc depth) (at + length (start_tag (written_name (codes "n") name) (tag_text marked name attrs)))
    (declared_in name attrs ++ scope) (parts_text parts) read
    → ReadsAs depth at scope (element_text marked (element name decls attrs parts))
    (element name (declared_in name attrs) (marks marked ++ attrs) read)
element_from known marked depth at scope name decls attrs parts read is room default fits inner =
    let w = written_name (codes "n") name in
    let tag = tag_text marked name attrs in
    let from = at + length (start_tag w tag) in
    record {
      raw = written.element w (raw_tag marked name attrs) from (from + length (parts_text parts)) inner.raw;
      is = full depth at w tag (raw_tag marked name attrs) (parts_text parts) inner.raw [] room (name_IsQName name decls
          attrs is) (tag_attributes known marked name decls attrs is) inner.is tt;
      resolved = ap (λ (o : Option Resolved). elim o [
        | None ↦ None
        | Some t ↦ option_map (element t.name t.decls t.attrs) (resolve_parts (t.decls ++ scope) inner.raw)
      ]) (tag_back marked scope name decls attrs parts is default fits)
          ∙ ap (option_map (element name (declared_in name attrs) (marks marked ++ attrs))) inner.resolved;
    }

onto_some : (bytes : List ℕ) (parts : written.Parts) → bytes ≢ [] → written.onto bytes parts ≡ written.text bytes parts
onto_some [] parts some = absurd (some refl)
onto_some (b ∷ bytes) parts some = refl

-- nothing
pub nothing_back : Known → (depth at : ℕ) (scope : List Binding) → ContentReadsAs depth at scope [] none
nothing_back known depth at scope = record {
  raw = written.none;
  is = last depth at [] [] (known.text [] no_characters);
  resolved = refl;
}

-- text
pub text_alone : Known → (depth at : ℕ) (scope : List Binding) (bytes : List ℕ) → IsTextWritable bytes
    → ContentReadsAs depth at scope (escaped_text bytes) (text bytes none)
text_alone known depth at scope bytes is =
    let P : written.Parts → Type 0 = λ p. IsContent depth at (escaped_text bytes) p in
    record {
      raw = written.text bytes written.none;
      is = subst P (onto_some bytes written.none is.some) (last depth at (escaped_text bytes) bytes (known.text bytes
          is.chars));
      resolved = refl;
    }

-- an element, and what stands behind it
pub child_more : Known → (depth at : ℕ) (scope : List Binding) (inner rest : List ℕ) (first : Element) (parts : Parts)
    → ((at : ℕ) → ReadsAs depth at scope inner first) → ((at : ℕ) → ContentReadsAs depth at scope rest parts)
    → ContentReadsAs depth at scope (inner ++ rest) (child first parts)
child_more known depth at scope inner rest first parts one others =
    let a = one (at + 0) in
    let b = others (at + 0 + length inner) in
    record {
      raw = written.child a.raw b.raw;
      is = more depth at [] [] inner a.raw rest b.raw (known.text [] no_characters) a.is b.is;
      resolved = ap₂ joined a.resolved b.resolved;
    }

-- text, an element, and what stands behind it
text_more : Known → (depth at : ℕ) (scope : List Binding) (bytes inner rest : List ℕ) (first : Element) (parts : Parts)
    → IsTextWritable bytes → ((at : ℕ) → ReadsAs depth at scope inner first)
    → ((at : ℕ) → ContentReadsAs depth at scope rest parts)
    → ContentReadsAs depth at scope (escaped_text bytes ++ (inner ++ rest)) (text bytes (child first parts))
text_more known depth at scope bytes inner rest first parts is one others =
    let a = one (at + length (escaped_text bytes)) in
    let b = others (at + length (escaped_text bytes) + length inner) in
    let P : written.Parts → Type 0 = λ p. IsContent depth at (escaped_text bytes ++ (inner ++ rest)) p in
    record {
      raw = written.text bytes (written.child a.raw b.raw);
      is = subst P (onto_some bytes (written.child a.raw b.raw) is.some) (more depth at (escaped_text bytes) bytes inner
          a.raw rest b.raw (known.text bytes is.chars) a.is b.is);
      resolved = ap (option_map (text bytes)) (ap₂ joined a.resolved b.resolved);
    }

-- ---- every element

first_fits : (depth : ℕ) (first : Element) (parts : Parts) → depth + depth_of_parts (child first parts) ≤ max_depth
    → depth + height first ≤ max_depth
first_fits depth first parts room = omega (arith, le-max_left (height first) (depth_of_parts parts))

others_fit : (depth : ℕ) (first : Element) (parts : Parts) → depth + depth_of_parts (child first parts) ≤ max_depth
    → depth + depth_of_parts parts ≤ max_depth
others_fit depth first parts room = omega (arith, le-max_right (height first) (depth_of_parts parts))

mutual
  pub marked_back : Known → (e : Element) (marked : Bool) (depth at : ℕ) (scope : List Binding) → IsWritable e
      → depth + height e ≤ max_depth → bound [] scope ≡ None → MarkFits marked scope e
      → ReadsAs depth at scope (element_text marked e) (written_tree marked e)
  marked_back known (element name decls attrs parts) marked depth at scope is room default fits =
      element_from known marked depth at scope name decls attrs parts (written_parts parts) is.0 (omega arith)
      default fits
      (parts_back known parts (suc depth) _ (declared_in name attrs ++ scope) is.1 (omega arith) (inner_default name
      attrs
      scope default))

  parts_back : Known → (ps : Parts) (depth at : ℕ) (scope : List Binding) → ArePartsWritable ps
      → depth + depth_of_parts ps ≤ max_depth → bound [] scope ≡ None
      → ContentReadsAs depth at scope (parts_text ps) (written_parts ps)
  parts_back known none depth at scope is room default = nothing_back known depth at scope
  parts_back known (text bytes none) depth at scope is room default =
      subst (λ (l : List ℕ). ContentReadsAs depth at scope l (text bytes none)) (sym (append-nil (escaped_text bytes)))
      (text_alone known depth at scope bytes is.0)
  parts_back known (text bytes (text later parts)) depth at scope is room default = absurd is.1
  parts_back known (text bytes (child first parts)) depth at scope is room default =
      text_more known depth at scope bytes (element_text false first) (parts_text parts) (written_tree false first)
      (written_parts parts) is.0
      (λ from. marked_back known first false depth from scope is.2.0 (first_fits depth first parts room) default tt)
      (λ from. parts_back known parts depth from scope is.2.1 (others_fit depth first parts room) default)
  parts_back known (child first parts) depth at scope is room default =
      child_more known depth at scope (element_text false first) (parts_text parts) (written_tree false first)
      (written_parts parts)
      (λ from. marked_back known first false depth from scope is.0 (first_fits depth first parts room) default tt)
      (λ from. parts_back known parts depth from scope is.1 (others_fit depth first parts room) default)

pub element_back : Known → (marked : Bool) (e : Element) (depth at : ℕ) (scope : List Binding)
    → MayStand marked depth scope e
    → ReadsAs depth at scope (element_text marked e) (written_tree marked e)
element_back known marked e depth at scope may =
    marked_back known e marked depth at scope may.writable may.shallow may.no_default may.mark

-- elements, one behind the other
pub elements_back : Known → (marked : Bool) (es : List Element) (depth at : ℕ) (scope : List Binding)
    → AllByRecursion (MayStand marked depth scope) es
    → ContentReadsAs depth at scope (elements_text marked es) (content_of (map (written_tree marked) es))
elements_back known marked [] depth at scope all = nothing_back known depth at scope
elements_back known marked (e ∷ es) depth at scope all =
    child_more known depth at scope (element_text marked e) (elements_text marked es) (written_tree marked e)
    (content_of (map (written_tree marked) es)) (λ from. element_back known marked e depth from scope all.0)
    (λ from. elements_back known marked es depth from scope all.1)

-- ---- the trees

mutual
  pub tree_same : (e : Element) → IsWritable e → without_declarations (written_tree false e) ≡ e
  tree_same (element name decls attrs parts) is =
      ap (element name [] attrs) (parts_same parts is.1)
      ∙ ap (λ (ds : List Binding). element name ds attrs parts) (sym is.0.no_decls)

  parts_same : (ps : Parts) → ArePartsWritable ps → parts_without (written_parts ps) ≡ ps
  parts_same none is = refl
  parts_same (text bytes parts) is = ap (text bytes) (parts_same parts is.2)
  parts_same (child first parts) is = ap₂ child (tree_same first is.0) (parts_same parts is.1)

pub marked_same : (e : Element) → IsWritable e → without_declarations (written_tree true e) ≡ with_mark e
marked_same (element name decls attrs parts) is =
    ap (element name [] (marks true ++ attrs)) (parts_same parts is.1)
    ∙ ap (λ (ds : List Binding). element name ds (marks true ++ attrs) parts) (sym is.0.no_decls)

-- what is read as an element is a document
document_from : (bytes : List ℕ) (e : Element) → ReadsAs 0 0 [] bytes e → Document bytes e
document_from bytes e back =
    let P : List ℕ → Type 0 = λ l. IsDocument l back.raw in
    record {
      raw = back.raw;
      is = subst P (append-nil bytes) (document [] [] [] bytes back.raw [] unmarked without (white [] tt) back.is
          (white [] tt));
      resolved = back.resolved;
    }

pub document_back : Known → (e : Element) → IsWritable e → height e ≤ max_depth
    → Document (element_text false e) (written_tree false e)
document_back known e is room =
    document_from (element_text false e) (written_tree false e)
    (marked_back known e false 0 0 [] is (omega arith) refl tt)
