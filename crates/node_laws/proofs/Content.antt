-- A test that tells closed content: the document around it is read, and its root is asked.
use Rattle.std.proofs.Common.{◌≡◌, ℕ, ◌+◌, Bool, true, false, List, [], length, refl, sym, ap, subst, ◌∙◌}
use Rattle.std.proofs.Common.{Option, Some, None}
use Rattle.std.specs.Prelude.{◌&&◌, ◌==◌, ◌↔◌, nat_le, IsTrue}
use Rattle.std.proofs.lemmas.Bool.{and_parts, and_from, eqb-true, eq-eqb, leb-true, le-leb}
use Rattle.soap_document.specs.Grammar.{IsDocument}
use Rattle.soap_document.specs.Inside.{IsInside, around, root_around}
use Rattle.soap_document.specs.Machine.{start, run, root_of}
use Rattle.soap_document.specs.Tree as written
use Rattle.soap_document.specs.declared.attribute.WrittenAttribute.{WrittenAttribute}
use Rattle.soap_document.specs.Profile.Namespaces.{resolve_parts}
use Rattle.soap_document.specs.Profile.Payload.{depth, is_white_outside, IsClosedContent}
use Rattle.soap_document.specs.Profile.Tree.{Parts}

-- what is known of documents
pub record Documents : Type 0 where
  pub read : (bytes : List ℕ) (root : written.Element)
      → IsDocument bytes root ↔ (root_of (run start bytes) ≡ Some root)
  pub made : (bytes : List ℕ) (parts : written.Parts) → IsInside bytes parts
      → IsDocument (around bytes) (root_around bytes parts)
  pub found : (bytes name : List ℕ) (attributes : List WrittenAttribute) (from to : ℕ) (parts : written.Parts)
      → IsDocument (around bytes) (written.element name attributes from to parts) → from ≡ 3
      → to ≡ 3 + length bytes
      → IsInside bytes parts × (written.element name attributes from to parts ≡ root_around bytes parts)

-- a test that tells whether bytes are closed content
pub record IsTold (bytes : List ℕ) : Type 0 where
  pub answer : Bool
  pub tells : IsTrue answer ↔ IsClosedContent bytes

-- the places and the parts of a root
abbrev is_whole : List ℕ → written.Element → Bool
is_whole bytes (written.element name attributes from to parts) = (from == 3) && (to == 3 + length bytes)

abbrev parts_in : written.Element → written.Parts
parts_in (written.element name attributes from to parts) = parts

-- the root of the document around closed content
root-is : Documents → (bytes : List ℕ) (root : written.Element) (h : IsClosedContent bytes)
    → root_of (run start (around bytes)) ≡ Some root → root_around bytes h.raw ≡ root
root-is documents bytes root h e =
    let same : Some (root_around bytes h.raw) ≡ Some root =
    sym ((documents.read (around bytes) (root_around bytes h.raw)).0 (documents.made bytes h.raw h.is)) ∙ e in
    cc

no-root : Documents → (bytes : List ℕ) → root_of (run start (around bytes)) ≡ None → IsClosedContent bytes → ⊥
no-root documents bytes e h =
    let none : None ≡ Some (root_around bytes h.raw) =
    sym e ∙ (documents.read (around bytes) (root_around bytes h.raw)).0 (documents.made bytes h.raw h.is) in
    cc

never : (bytes : List ℕ) → (IsClosedContent bytes → ⊥) → IsTold bytes
never bytes h = record { answer = false; tells = (λ y. cc, λ k. absurd (h k)) }

-- content whose names are resolved, or aren't
by-parts : (bytes : List ℕ) (raw : written.Parts) → IsInside bytes raw
    → ((h : IsClosedContent bytes) → h.raw ≡ raw) → (parts : Option Parts) → resolve_parts [] raw ≡ parts
    → IsTold bytes
by-parts bytes raw is one None e =
    never bytes (λ h. let wrong : None ≡ Some h.parts = sym e ∙ ap (resolve_parts []) (sym (one h)) ∙ h.resolved in cc)
by-parts bytes raw is one (Some parts) e = record {
  answer = nat_le (depth parts) 90 && is_white_outside parts;
  tells = (
    λ y. let tests = and_parts (nat_le (depth parts) 90) (is_white_outside parts) y in record {
      raw = raw;
      is = is;
      parts = parts;
      resolved = e;
      shallow = leb-true (depth parts) 90 tests.0;
      white = tests.1;
    },
    λ h.
        let some : Some h.parts ≡ Some parts = sym h.resolved ∙ ap (resolve_parts []) (one h) ∙ e in
        let same : h.parts ≡ parts = cc in
        subst (λ (z : Parts). (nat_le (depth z) 90 && is_white_outside z) ≡ true) same
        (and_from (nat_le (depth h.parts) 90) (is_white_outside h.parts) (le-leb (depth h.parts) 90 h.shallow) h.white),
  );
}

by-root : Documents → (bytes : List ℕ) (root : written.Element) → root_of (run start (around bytes)) ≡ Some root
    → IsTold bytes
by-root documents bytes (written.element name attributes from to raw) e =
    by_place (is_whole bytes (written.element name attributes from to raw)) refl
  where
    one : (h : IsClosedContent bytes) → root_around bytes h.raw ≡ written.element name attributes from to raw
    one h = root-is documents bytes (written.element name attributes from to raw) h e

    by_place : (x : Bool) → is_whole bytes (written.element name attributes from to raw) ≡ x → IsTold bytes
    by_place true f =
        let tests = and_parts (from == 3) (to == 3 + length bytes) f in
        let inside = documents.found bytes name attributes from to raw
        ((documents.read (around bytes) (written.element name attributes from to raw)).1 e)
        (eqb-true from 3 tests.0) (eqb-true to (3 + length bytes) tests.1) in
        by-parts bytes raw inside.0 (λ h. ap parts_in (one h)) (resolve_parts [] raw) refl
    by_place false f =
        never bytes (λ h.
        let whole : is_whole bytes (root_around bytes h.raw) ≡ true =
        eq-eqb (3 + length bytes) (3 + length bytes) refl in
        let wrong : true ≡ false = sym whole ∙ ap (is_whole bytes) (one h) ∙ f in cc)

-- each text is told
pub told : Documents → (bytes : List ℕ) → IsTold bytes
told documents bytes = by_read (root_of (run start (around bytes))) refl
  where
    by_read : (x : Option written.Element) → root_of (run start (around bytes)) ≡ x → IsTold bytes
    by_read None e = never bytes (no-root documents bytes e)
    by_read (Some root) e = by-root documents bytes root e
