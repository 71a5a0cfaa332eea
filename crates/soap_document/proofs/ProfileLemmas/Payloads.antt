-- What makes a payload.
use Rattle.std.proofs.Common.{◌≡◌, ◌↔◌, ℕ, ◌+◌, nat_le, nat_eq, List, [], Bool, true, false, ◌&&◌, IsTrue, Option}
use Rattle.std.proofs.Common.{Some, None, option_map, length, codes, refl, sym, ap, subst, ◌∙◌}
use Rattle.std.proofs.lemmas.Bool.{and_parts, and_from, leb-true, le-leb, eqb-true, eq-eqb}
use Rattle.soap_document.specs.Grammar.{IsDocument}
use Rattle.soap_document.specs.Inside.{IsInside, around, root_around}
use Rattle.soap_document.specs.Tree as written
use Rattle.soap_document.specs.declared.attribute.WrittenAttribute.{WrittenAttribute}
use Rattle.soap_document.specs.Profile.Document.{place_of}
use Rattle.soap_document.specs.Profile.Namespaces.{resolve, resolve_parts}
use Rattle.soap_document.specs.Profile.Opened.{Root}
use Rattle.soap_document.specs.Profile.Payload.{depth, is_white_outside, IsClosedContent}
use Rattle.soap_document.specs.Profile.Tree.{Expanded, Attr, Element, element, Parts}
use Rattle.rm_base.specs.declared.message.Binding.{Binding}
use Rattle.soap_document.specs.declared.profile.place.Place.{Place}
use Rattle.soap_document.proofs.ProfileLemmas.Roots.{IsRead, read, root_with, has_root, only_root}

-- whether this is the place of the content in the document around it
abbrev pub is_whole : List ℕ → Place → Bool
is_whole bytes place = nat_eq place.start 3 && nat_eq place.end (3 + length bytes)

abbrev a_tree : Parts → Element
a_tree parts = element (record { space = []; local = codes "a" }) [] [] parts

-- the root <a> of a document around content, with its names resolved
abbrev around_root : List ℕ → written.Parts → Parts → Root
around_root bytes raw parts = root_with (root_around bytes raw) (a_tree parts)

-- ---- what the root says of the content

-- the bytes are content whose names can be resolved, and this is the root of the document around them
pub record HoldsContent (bytes : List ℕ) (root : Root) : Type 0 where
  pub raw : written.Parts
  pub is : IsInside bytes raw
  pub parts : Parts
  pub resolved : resolve_parts [] raw ≡ Some parts
  pub tree : a_tree parts ≡ root.tree

content_made : (bytes : List ℕ) (root : Root) (raw : written.Parts) (parts : Option Parts) → IsInside bytes raw
    → resolve_parts [] raw ≡ parts → option_map a_tree parts ≡ Some root.tree → HoldsContent bytes root
content_made bytes root raw None is r e = cc
content_made bytes root raw (Some parts) is r e =
    let same : a_tree parts ≡ root.tree = cc in
    record { raw = raw; is = is; parts = parts; resolved = r; tree = same }

-- bytes are content exactly where they make a document between the tags of an element
pub record Frames : Type 0 where
  pub made : (bytes : List ℕ) (parts : written.Parts) → IsInside bytes parts
      → IsDocument (around bytes) (root_around bytes parts)
  pub found : (bytes name : List ℕ) (attributes : List WrittenAttribute) (start end : ℕ) (parts : written.Parts)
      → IsDocument (around bytes) (written.element name attributes start end parts) → start ≡ 3
      → end ≡ 3 + length bytes
      → IsInside bytes parts × (written.element name attributes start end parts ≡ root_around bytes parts)

abbrev parts_of : Element → Parts
parts_of (element name decls attrs parts) = parts

abbrev pub is_payload : Parts → Bool
is_payload parts = nat_le (depth parts) 90 && is_white_outside parts

module _ (law : IsRead) (frames : Frames) where
  -- closed content makes such a root
  closed_root : (bytes : List ℕ) (h : IsClosedContent bytes) → read (around bytes)
      ≡ Some (around_root bytes h.raw h.parts)
  closed_root bytes h = only_root law (frames.made bytes h.raw h.is) (ap (option_map a_tree) h.resolved)

  same_root : (bytes : List ℕ) (root : Root) (h : IsClosedContent bytes) → read (around bytes) ≡ Some root
      → around_root bytes h.raw h.parts ≡ root
  same_root bytes root h e = let same = sym (closed_root bytes h) ∙ e in cc

  content_of : (bytes : List ℕ) (root : Root) (raw : written.Element) → IsDocument (around bytes) raw
      → resolve [] raw ≡ Some root.tree → is_whole bytes (place_of raw) ≡ true → HoldsContent bytes root
  content_of bytes root (written.element name attributes start end parts) d r p =
      let tests = and_parts (nat_eq start 3) (nat_eq end (3 + length bytes)) p in
      let i = frames.found bytes name attributes start end parts d (eqb-true start 3 tests.0) (eqb-true end (3 + length
      bytes) tests.1) in
      content_made bytes root parts (resolve_parts [] parts) i.0 refl (ap (resolve []) (sym i.1) ∙ r)

  pub holds_content : (bytes : List ℕ) (root : Root) → read (around bytes) ≡ Some root
      → is_whole bytes root.place ≡ true
      → HoldsContent bytes root
  holds_content bytes root e p =
      let h = has_root law (around bytes) root e in
      content_of bytes root h.raw h.is h.resolved (ap (λ (r : Root). is_whole bytes r.place) h.same ∙ p)

  -- ---- the answer

  pub not_closed : (bytes : List ℕ) → read (around bytes) ≡ None → IsTrue false ↔ IsClosedContent bytes
  not_closed bytes e = (λ y. cc, λ h. let wrong = sym e ∙ closed_root bytes h in cc)

  pub elsewhere : (bytes : List ℕ) (root : Root) → read (around bytes) ≡ Some root → is_whole bytes root.place ≡ false
      → IsTrue false ↔ IsClosedContent bytes
  elsewhere bytes root e n = (
    λ y. cc,
    λ h. sym n ∙ ap (λ (r : Root). is_whole bytes r.place) (sym (same_root bytes root h e))
        ∙ eq-eqb (3 + length bytes) (3 + length bytes) refl,
  )

  -- where the root stands for closed content
  closed_here : (bytes : List ℕ) (root : Root) → read (around bytes) ≡ Some root → is_whole bytes root.place ≡ true
      → IsTrue (is_payload (parts_of root.tree)) ↔ IsClosedContent bytes
  closed_here bytes root e p =
      let h = holds_content bytes root e p in
      let same : h.parts ≡ parts_of root.tree = ap parts_of h.tree in
      subst (λ (parts : Parts). IsTrue (is_payload parts) ↔ IsClosedContent bytes) same (
        λ y. let tests = and_parts (nat_le (depth h.parts) 90) (is_white_outside h.parts) y in record {
          raw = h.raw;
          is = h.is;
          parts = h.parts;
          resolved = h.resolved;
          shallow = leb-true (depth h.parts) 90 tests.0;
          white = tests.1;
        },
        λ k. subst (λ (parts : Parts). IsTrue (is_payload parts)) (ap (λ (r : Root). parts_of r.tree) (same_root bytes
            root k e) ∙ sym same) (and_from (nat_le (depth k.parts) 90) (is_white_outside k.parts) (le-leb
            (depth k.parts)
            90 k.shallow) k.white),
      )

  pub closed : (bytes : List ℕ) (root : Root) (name : Expanded) (decls : List Binding) (attrs : List Attr)
      (parts : Parts)
      (answer : Bool) → read (around bytes) ≡ Some root → is_whole bytes root.place ≡ true
      → root.tree ≡ element name decls attrs parts → answer ≡ is_payload parts → IsTrue answer ↔ IsClosedContent bytes
  closed bytes root name decls attrs parts answer e p t a =
      subst (λ (b : Bool). IsTrue b ↔ IsClosedContent bytes) (ap (λ (r : Element). is_payload (parts_of r)) t ∙ sym a)
      (closed_here bytes root e p)
