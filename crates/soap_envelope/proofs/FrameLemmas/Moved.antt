-- Content is content at another place and depth too.
use Rattle.std.proofs.Common.{◌≡◌, ℕ, suc, ◌+◌, ◌≤◌, max, List, [], ◌∷◌, ◌++◌, Option, Some, None, option_map, length}
use Rattle.std.proofs.Common.{refl, ap, ap₂, arith}
use Rattle.std.proofs.Math.Nat.{le-max_left, le-max_right}
use Rattle.rm_base.specs.declared.message.Binding.{Binding}
use Rattle.soap_document.specs.Grammar.{IsElement, IsContent, full, empty, last, more, start_tag, empty_tag, max_depth}
use Rattle.soap_document.specs.Tree as written
use Rattle.soap_document.specs.Tree.{onto}
use Rattle.soap_document.specs.Profile.Namespaces.{resolve, resolve_parts, joined, Resolved, tag_of}
use Rattle.soap_document.specs.Profile.Tree.{Element, element, Parts, text}

abbrev mutual
  pub tall : written.Element → ℕ
  tall (written.element name attributes start end parts) = suc (deep parts)

  pub deep : written.Parts → ℕ
  deep written.none = 0
  deep (written.text bytes parts) = deep parts
  deep (written.child first parts) = max (tall first) (deep parts)

pub record MovedElement (depth at : ℕ) (bytes : List ℕ) (old : written.Element) : Type 0 where
  pub raw : written.Element
  pub is : IsElement depth at bytes raw
  pub same : (scope : List Binding) → resolve scope raw ≡ resolve scope old

pub record MovedParts (depth at : ℕ) (bytes : List ℕ) (old : written.Parts) : Type 0 where
  pub raw : written.Parts
  pub is : IsContent depth at bytes raw
  pub same : (scope : List Binding) → resolve_parts scope raw ≡ resolve_parts scope old

pub onto_same : (bytes : List ℕ) (a b : written.Parts) (scope : List Binding)
    → resolve_parts scope a ≡ resolve_parts scope b
    → resolve_parts scope (onto bytes a) ≡ resolve_parts scope (onto bytes b)
onto_same [] a b scope e = e
onto_same (c ∷ bytes) a b scope e = ap (option_map (text (c ∷ bytes))) e

deep-onto : (bytes : List ℕ) (ps : written.Parts) → deep (onto bytes ps) ≡ deep ps
deep-onto [] ps = refl
deep-onto (c ∷ bytes) ps = refl

abbrev pub with_tag : Option Resolved → (Resolved → Option Parts) → Option Element
with_tag o inner = elim o [ None ↦ None | Some t ↦ option_map (element t.name t.decls t.attrs) (inner t) ]

pub inner_same : (o : Option Resolved) (scope : List Binding) (a b : written.Parts)
    → ((scope : List Binding) → resolve_parts scope a ≡ resolve_parts scope b)
    → with_tag o (λ t. resolve_parts (t.decls ++ scope) a) ≡ with_tag o (λ t. resolve_parts (t.decls ++ scope) b)
inner_same None scope a b f = refl
inner_same (Some t) scope a b f = ap (option_map (element t.name t.decls t.attrs)) (f (t.decls ++ scope))

mutual
  pub element_moved : (depth at : ℕ) (bytes : List ℕ) (old : written.Element) → IsElement depth at bytes old
      → (d n : ℕ) → d + tall old ≤ max_depth → MovedElement d n bytes old
  element_moved _ _ _ _ (full depth at name tag attributes content parts space room named tags inner white) d n fits =
      let from = n + length (start_tag name tag) in
      let i = content_moved (suc depth) (at + length (start_tag name tag)) content parts inner (suc d) from (omega
      (arith, fits)) in
      record {
        raw = written.element name attributes from (from + length content) i.raw;
        is = full d n name tag attributes content i.raw space (omega (arith, fits)) named tags i.is white;
        same = λ scope. inner_same (tag_of scope name attributes) scope i.raw parts i.same;
      }
  element_moved _ _ _ _ (empty depth at name tag attributes room named tags) d n fits =
      let from = n + length (empty_tag name tag) in
      record {
        raw = written.element name attributes from from written.none;
        is = empty d n name tag attributes (omega (arith, fits)) named tags;
        same = λ scope. refl;
      }

  pub content_moved : (depth at : ℕ) (bytes : List ℕ) (old : written.Parts) → IsContent depth at bytes old
      → (d n : ℕ) → d + deep old ≤ max_depth → MovedParts d n bytes old
  content_moved _ _ _ _ (last depth at bytes meaning is) d n fits = record {
    raw = onto meaning written.none;
    is = last d n bytes meaning is;
    same = λ scope. refl;
  }
  content_moved _ _ _ _ (more depth at bytes meaning inner first rest parts is one others) d n fits =
      let whole = deep-onto meaning (written.child first parts) in
      let a = element_moved depth (at + length bytes) inner first one d (n + length bytes)
      (omega (arith, fits, whole, le-max_left (tall first) (deep parts))) in
      let b = content_moved depth (at + length bytes + length inner) rest parts others d (n + length bytes + length
      inner)
      (omega (arith, fits, whole, le-max_right (tall first) (deep parts))) in
      record {
        raw = onto meaning (written.child a.raw b.raw);
        is = more d n bytes meaning inner a.raw rest b.raw is a.is b.is;
        same = λ scope. onto_same meaning (written.child a.raw b.raw) (written.child first parts) scope
            (ap₂ joined (a.same scope) (b.same scope));
      }
