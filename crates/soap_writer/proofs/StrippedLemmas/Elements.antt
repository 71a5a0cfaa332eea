-- Elements and their content, once their names are resolved.
use Rattle.std.proofs.Common.{◌≡◌, ℕ, suc, ◌+◌, ◌≤◌, ◌<◌, ◌^◌, List, [], ◌∷◌, ◌++◌, Option, Some, None, option_map}
use Rattle.std.proofs.Common.{length, refl, subst, arith}
use Rattle.std.proofs.lemmas.List.{length-append}
use Rattle.soap_lex.specs.Characters.{IsChars}
use Rattle.soap_document.specs.Grammar.{IsElement, full, empty, IsContent, last, more}
use Rattle.soap_document.specs.Grammar.{IsDocument, document, start_tag, end_tag, empty_tag}
use Rattle.soap_document.specs.Tree as written
use Rattle.soap_document.specs.declared.attribute.WrittenAttribute.{WrittenAttribute}
use Rattle.soap_document.specs.Profile.Document.{Document}
use Rattle.soap_document.specs.Profile.Namespaces.{Resolved, tag_of, joined, resolve, resolve_parts}
use Rattle.soap_document.specs.Profile.Payload.{depth as nested}
use Rattle.soap_document.specs.Profile.Tree.{Element, element, Parts, none, text, child, parts_without}
use Rattle.rm_base.specs.declared.message.Binding.{Binding}
use Rattle.soap_writer.specs.Writable.{NoText, ArePartsWritable}
use Rattle.soap_writer.specs.Stripped.Resolved.{AreInForce, PartsDeclare, IsResolved}
use Rattle.soap_writer.proofs.StrippedLemmas.Meanings.{text_chars}
use Rattle.soap_writer.specs.Stripped.ResolvedLaws.{none_in_force, more_in_force}
use Rattle.soap_writer.proofs.StrippedLemmas.Tags.{attributes_written, attributes_few, IsTag, tag_resolved}

-- the same of what stands in so many elements
record AreResolved (depth : ℕ) (parts : Parts) : Type 0 where
  writable : ArePartsWritable (parts_without parts)
  declares : PartsDeclare parts
  shallow : depth + nested parts ≤ 100

-- and no text is first
record AreChildren (depth : ℕ) (parts : Parts) : Type 0 where
  resolved : AreResolved depth parts
  no_text : NoText (parts_without parts)

-- ---- an element is built of its tag and of its parts

record IsBuilt (scope : List Binding) (name : List ℕ) (attributes : List WrittenAttribute) (parts : written.Parts)
    (tree : Element) : Type 0 where
  tag : Resolved
  found : tag_of scope name attributes ≡ Some tag
  inner : Parts
  resolved : resolve_parts (tag.decls ++ scope) parts ≡ Some inner
  same : element tag.name tag.decls tag.attrs inner ≡ tree

built_with : (scope : List Binding) (name : List ℕ) (attributes : List WrittenAttribute) (parts : written.Parts)
    (tree : Element) (tag : Resolved) (o : Option Parts) → tag_of scope name attributes ≡ Some tag
    → resolve_parts (tag.decls ++ scope) parts ≡ o
    → option_map (element tag.name tag.decls tag.attrs) o ≡ Some tree → IsBuilt scope name attributes parts tree
built_with scope name attributes parts tree tag None f r e = cc
built_with scope name attributes parts tree tag (Some inner) f r e =
    record { tag = tag; found = f; inner = inner; resolved = r; same = cc }

built_at : (scope : List Binding) (name : List ℕ) (attributes : List WrittenAttribute) (parts : written.Parts)
    (tree : Element) (t : Option Resolved) → tag_of scope name attributes ≡ t
    → elim t [
      | None ↦ None
      | Some tag ↦ option_map (element tag.name tag.decls tag.attrs) (resolve_parts (tag.decls ++ scope) parts)
    ] ≡ Some tree → IsBuilt scope name attributes parts tree
built_at scope name attributes parts tree None f e = cc
built_at scope name attributes parts tree (Some tag) f e =
    built_with scope name attributes parts tree tag (resolve_parts (tag.decls ++ scope) parts) f refl e

built : (scope : List Binding) (name : List ℕ) (attributes : List WrittenAttribute) (start stop : ℕ)
    (parts : written.Parts)
    (tree : Element) → resolve scope (written.element name attributes start stop parts) ≡ Some tree
    → IsBuilt scope name attributes parts tree
built scope name attributes start stop parts tree e =
    built_at scope name attributes parts tree (tag_of scope name attributes) refl e

-- an element of such a tag and of such parts
made : (depth n : ℕ) (tag : Resolved) (inner : Parts) → IsTag n tag → n < 2 ^ 64 → AreResolved (suc depth) inner
    → IsResolved depth (element tag.name tag.decls tag.attrs inner)
made depth n tag inner is few parts = record {
  writable = (
    record {
      named = is.named;
      no_decls = refl;
      each = is.attrs.each;
      distinct = is.distinct;
      counted = omega (arith, is.attrs.few, few);
    },
    parts.writable,
  );
  declares = (is.decls, parts.declares);
  shallow = omega (arith, parts.shallow);
}

-- ---- content

text_before : (depth b : ℕ) (bytes : List ℕ) (o : Option Parts) (parts : Parts) → IsChars (b ∷ bytes)
    → option_map (text (b ∷ bytes)) o ≡ Some parts → ((ps : Parts) → o ≡ Some ps → AreChildren depth ps)
    → AreResolved depth parts
text_before depth b bytes None parts chars e behind = cc
text_before depth b bytes (Some ps) parts chars e behind =
    let is : text (b ∷ bytes) ps ≡ parts = cc in
    let rest = behind ps refl in
    subst (AreResolved depth) is (record {
      writable = (record { some = λ d. cc; chars = chars }, rest.no_text, rest.resolved.writable);
      declares = rest.resolved.declares;
      shallow = rest.resolved.shallow;
    })

onto_resolved : (depth : ℕ) (scope : List Binding) (meaning : List ℕ) (raw : written.Parts) (parts : Parts)
    → IsChars meaning → resolve_parts scope (written.onto meaning raw) ≡ Some parts
    → ((ps : Parts) → resolve_parts scope raw ≡ Some ps → AreChildren depth ps) → AreResolved depth parts
onto_resolved depth scope [] raw parts chars e behind = (behind parts e).resolved
onto_resolved depth scope (b ∷ bytes) raw parts chars e behind =
    text_before depth b bytes (resolve_parts scope raw) parts chars e behind

nothing : (depth : ℕ) (parts : Parts) → depth ≤ 100 → Some none ≡ Some parts → AreChildren depth parts
nothing depth parts room e =
    let is : none ≡ parts = cc in
    subst (AreChildren depth) is
    (record { resolved = record { writable = tt; declares = tt; shallow = omega (arith, room) }; no_text = tt })

child_before : (depth : ℕ) (first : Option Element) (rest : Option Parts) (parts : Parts)
    → joined first rest ≡ Some parts → ((e : Element) → first ≡ Some e → IsResolved depth e)
    → ((ps : Parts) → rest ≡ Some ps → AreResolved depth ps) → AreChildren depth parts
child_before depth None rest parts e here behind = cc
child_before depth (Some first) None parts e here behind = cc
child_before depth (Some first) (Some ps) parts e here behind =
    let is : child first ps ≡ parts = cc in
    let one = here first refl in
    let others = behind ps refl in
    subst (AreChildren depth) is (record {
      resolved = record {
        writable = (one.writable, others.writable);
        declares = (one.declares, others.declares);
        shallow = omega (arith, one.shallow, others.shallow);
      };
      no_text = tt;
    })

-- ---- lengths

tag_short : (name tag rest : List ℕ) (n : ℕ) → length (start_tag name tag ++ rest) < n → length tag < n
tag_short name tag rest n h = let k = simp length-append at h in omega (arith, k)

content_short : (name tag content rest : List ℕ) (n : ℕ) → length (start_tag name tag ++ (content ++ rest)) < n
    → length content < n
content_short name tag content rest n h = let k = simp length-append at h in omega (arith, k)

empty_short : (name tag : List ℕ) (n : ℕ) → length (empty_tag name tag) < n → length tag < n
empty_short name tag n h = let k = simp length-append at h in omega (arith, k)

inner_short : (bytes inner rest : List ℕ) (n : ℕ) → length (bytes ++ (inner ++ rest)) < n
    → (length inner < n) × (length rest < n)
inner_short bytes inner rest n h = let k = simp length-append at h in (omega (arith, k), omega (arith, k))

-- ---- elements

mutual
  element_resolved : {depth at : ℕ} {bytes : List ℕ} {raw : written.Element} → IsElement depth at bytes raw
      → (scope : List Binding) → AreInForce scope → length bytes < 2 ^ 64 → (tree : Element)
      → resolve scope raw ≡ Some tree → IsResolved depth tree
  element_resolved (full depth at name tag attributes content parts space room q a c s) scope outer fits tree e =
      let is = built scope name attributes (at + length (start_tag name tag))
      (at + length (start_tag name tag) + length content) parts tree e in
      let found = tag_resolved scope name attributes is.tag is.found q (attributes_written a) outer in
      let short = tag_short name tag (content ++ end_tag name space) (2 ^ 64) fits in
      let inner = content_resolved c (is.tag.decls ++ scope)
      (more_in_force is.tag.decls scope found.decls outer) (omega (arith, room))
      (content_short name tag content (end_tag name space) (2 ^ 64) fits) is.inner is.resolved in
      subst (IsResolved depth) is.same
      (made depth (length attributes) is.tag is.inner found (omega (arith, attributes_few a, short)) inner)
  element_resolved (empty depth at name tag attributes room q a) scope outer fits tree e =
      let is = built scope name attributes (at + length (empty_tag name tag)) (at + length (empty_tag name tag))
      written.none tree e in
      let found = tag_resolved scope name attributes is.tag is.found q (attributes_written a) outer in
      let short = empty_short name tag (2 ^ 64) fits in
      subst (IsResolved depth) is.same
      (made depth (length attributes) is.tag is.inner found (omega (arith, attributes_few a, short))
      (nothing (suc depth) is.inner (omega (arith, room)) is.resolved).resolved)

  content_resolved : {depth at : ℕ} {bytes : List ℕ} {raw : written.Parts} → IsContent depth at bytes raw
      → (scope : List Binding) → AreInForce scope → depth ≤ 100 → length bytes < 2 ^ 64 → (parts : Parts)
      → resolve_parts scope raw ≡ Some parts → AreResolved depth parts
  content_resolved (last depth at bytes meaning t) scope outer room fits parts e =
      onto_resolved depth scope meaning written.none parts (text_chars t) e (λ ps d. nothing depth ps room d)
  content_resolved (more depth at bytes meaning inner first rest parts t i c) scope outer room fits tree e =
      let short = inner_short bytes inner rest (2 ^ 64) fits in
      onto_resolved depth scope meaning (written.child first parts) tree (text_chars t) e
      (λ ps d. child_before depth (resolve scope first) (resolve_parts scope parts) ps d
      (λ one h. element_resolved i scope outer short.0 one h)
      (λ others h. content_resolved c scope outer room short.1 others h))

root_resolved : {bytes : List ℕ} {raw : written.Element} → IsDocument bytes raw → (tree : Element)
    → resolve [] raw ≡ Some tree → length bytes < 2 ^ 64 → IsResolved 0 tree
root_resolved (document mark declaration before bytes root after m d b i a) tree e fits =
    let k = simp length-append at fits in
    element_resolved i [] none_in_force (omega (arith, k)) tree e

pub document_resolved : (bytes : List ℕ) (tree : Element) → Document bytes tree → length bytes < 2 ^ 64
    → IsResolved 0 tree
document_resolved bytes tree is fits = root_resolved is.is tree is.resolved fits
