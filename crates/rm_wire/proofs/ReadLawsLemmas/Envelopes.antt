-- The header blocks and the body of an envelope are elements of a document, and so are the bindings in force at both.
use Rattle.std.proofs.Common.{◌≡◌, ◌≤◌, ◌<◌, ◌^◌, ℕ, Bool, true, false, if◌then◌else◌, List, [], ◌∷◌, ◌++◌, Option}
use Rattle.std.proofs.Common.{Some, None, codes, length, refl, sym, ap, subst, ◌∙◌, arith}
use Rattle.std.specs.Prelude.{IfSome}
use Rattle.std.proofs.lemmas.List.{append-nil}
use Rattle.std.specs.List.{AllByRecursion}
use Rattle.std.specs.Str.{bytes_eq}
use Rattle.soap_document.specs.Profile.Document.{Document}
use Rattle.soap_document.specs.Profile.Namespaces.{bound}
use Rattle.soap_document.specs.Profile.Tree.{Element, element, Parts, decls_of, children_of}
use Rattle.rm_base.specs.declared.message.Binding.{Binding}
use Rattle.soap_envelope.specs.Envelope.{name_in, IsSpaced, bare, spaced, IsBodyAlone, IsOutline, headless, headed}
use Rattle.soap_envelope.specs.Envelope.{IsHeader, without, blocks, Envelope, IsEnvelope}
use Rattle.soap_envelope.specs.Scope.{declared, IsScope}
use Rattle.soap_writer.specs.Stripped.Resolved.{IsBinding, AreInForce, IsResolved}
use Rattle.soap_writer.specs.Stripped.ResolvedLaws.{none_in_force, more_in_force, children_resolved}

-- the law of documents that this stands on
abbrev pub Documents : Type 0
Documents = (bytes : List ℕ) (tree : Element) → Document bytes tree → length bytes < 2 ^ 64 → IsResolved 0 tree

-- what an envelope of a document has
pub record AreParts (e : Envelope) : Type 0 where
  pub headers : AllByRecursion (IsResolved 2) e.headers
  pub header_scope : AreInForce e.header_scope
  pub scope : AreInForce e.scope
  pub body : AllByRecursion (IsResolved 2) (children_of e.body)

-- ---- bindings

pub declares : (depth : ℕ) (e : Element) → IsResolved depth e → AllByRecursion IsBinding (decls_of e)
declares depth (element name decls attrs parts) is = is.declares.0

declared_at : (bindings : List Binding) (prefix space : List ℕ) (o : Option (List ℕ)) → AreInForce bindings
    → bound prefix bindings ≡ o → declared o ≡ Some space → bound prefix bindings ≡ Some space
declared_at bindings prefix space None outer b e = cc
declared_at bindings prefix space (Some []) outer b e = cc
declared_at bindings prefix space (Some (byte ∷ rest)) outer b e =
    let is : byte ∷ rest ≡ space = cc in b ∙ ap (λ l. Some l) is

force_at : (bindings : List Binding) (prefix space : List ℕ) (is_xml : Bool) → AreInForce bindings
    → (if is_xml then None else declared (bound prefix bindings)) ≡ Some space → bound prefix bindings ≡ Some space
force_at bindings prefix space true outer e = cc
force_at bindings prefix space false outer e =
    declared_at bindings prefix space (bound prefix bindings) outer refl e

scope_in_force : (bindings scope : List Binding) → IsScope bindings scope → AreInForce bindings → AreInForce scope
scope_in_force bindings scope is outer prefix space e =
    outer prefix space (force_at bindings prefix space (bytes_eq prefix (codes "xml")) outer
    (sym (is.same prefix) ∙ e))

-- ---- the outline

spaced_children : {parts inner : Parts} → IsSpaced parts inner → children_of parts ≡ children_of inner
spaced_children (bare parts) = refl
spaced_children (spaced space parts white) = refl

-- Header, where there is one, and Body
record AreOutlined (header : Option Element) (body : Element) : Type 0 where
  before : IfSome header (IsResolved 1)
  last : IsResolved 1 body

body_is : (soap : List ℕ) (parts : Parts) (body : Element) → IsBodyAlone soap parts body
    → AllByRecursion (IsResolved 1) (children_of parts) → IsResolved 1 body
body_is soap parts body alone all =
    let inner : AllByRecursion (IsResolved 1) (body ∷ children_of alone.after) =
    subst (AllByRecursion (IsResolved 1)) (spaced_children alone.before) all in
    inner.0

outlined : (soap : List ℕ) {parts : Parts} {header : Option Element} {body : Element} → IsOutline soap parts header body
    → AllByRecursion (IsResolved 1) (children_of parts) → AreOutlined header body
outlined soap (headless parts body alone) all = record { before = tt; last = body_is soap parts body alone all }
outlined soap (headed parts rest header body before named alone) all =
    let inner : AllByRecursion (IsResolved 1) (header ∷ children_of rest) =
    subst (AllByRecursion (IsResolved 1)) (spaced_children before) all in
    record { before = inner.0; last = body_is soap rest body alone inner.1 }

-- ---- the header

record AreBlocks (headers : List Element) (scope : List Binding) : Type 0 where
  each : AllByRecursion (IsResolved 2) headers
  in_force : AreInForce scope

blocks_are : (outer : List Binding) {header : Option Element} {headers : List Element} {scope : List Binding}
    → IsHeader outer header headers scope → AreInForce outer → IfSome header (IsResolved 1) → AreBlocks headers scope
blocks_are outer without around is = record { each = tt; in_force = none_in_force }
blocks_are outer (blocks header scope s) around is = record {
  each = children_resolved 1 header is;
  in_force = scope_in_force (decls_of header ++ outer) scope s (more_in_force (decls_of header) outer
      (declares 1 header is) around);
}

-- ---- the envelope

around_root : (decls : List Binding) → AllByRecursion IsBinding decls → AreInForce decls
around_root decls all = subst AreInForce (append-nil decls) (more_in_force decls [] all none_in_force)

-- what its root declares, and what stands in it
record IsRootRead {soap bytes : List ℕ} {e : Envelope} (is : IsEnvelope soap bytes e) : Type 0 where
  outer : AreInForce is.decls
  outline : AreOutlined is.header is.body

root_is : Documents → (soap bytes : List ℕ) (e : Envelope) (is : IsEnvelope soap bytes e) → length bytes ≤ 2097152
    → IsRootRead is
root_is documents soap bytes e is fits =
    let root : Element = element (name_in soap (codes "Envelope")) is.decls is.attrs is.parts in
    let resolved : IsResolved 0 root =
    documents bytes root (record { raw = is.raw; is = is.document; resolved = is.resolved }) (omega (arith, fits)) in
    record {
      outer = around_root is.decls resolved.declares.0;
      outline = outlined soap is.outline (children_resolved 0 root resolved);
    }

-- what is bound around what stands in its Body
pub body_in_force : Documents → (soap bytes : List ℕ) (e : Envelope) (is : IsEnvelope soap bytes e)
    → length bytes ≤ 2097152 → AreInForce (decls_of is.body ++ is.decls)
body_in_force documents soap bytes e is fits =
    let root = root_is documents soap bytes e is fits in
    more_in_force (decls_of is.body) is.decls (declares 1 is.body root.outline.last) root.outer

pub parts_are : Documents → (soap bytes : List ℕ) (e : Envelope) → IsEnvelope soap bytes e → length bytes ≤ 2097152
    → AreParts e
parts_are documents soap bytes e is fits =
    let root = root_is documents soap bytes e is fits in
    let header = blocks_are is.decls is.blocks root.outer root.outline.before in
    record {
      headers = header.each;
      header_scope = header.in_force;
      scope = scope_in_force (decls_of is.body ++ is.decls) e.scope is.scope
          (body_in_force documents soap bytes e is fits);
      body = subst (λ (parts : Parts). AllByRecursion (IsResolved 2) (children_of parts)) (sym is.content)
          (children_resolved 1 is.body root.outline.last);
    }
