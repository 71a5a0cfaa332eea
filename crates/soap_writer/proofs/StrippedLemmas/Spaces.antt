-- What prefixes are bound to, and the names that come of it: Namespaces in XML 1.0, sections 2.2 to 6.
use Rattle.std.proofs.Common.{◌≡◌, ◌≢◌, ℕ, Bool, true, false, not, ◌&&◌, ◌||◌, List, [], ◌∷◌, Option, Some, None}
use Rattle.std.proofs.Common.{option_map, codes, if◌then◌else◌, refl, sym, subst, ◌∙◌, inl, inr}
use Rattle.std.specs.List.{AllByRecursion}
use Rattle.std.specs.Str.{bytes_eq}
use Rattle.std.proofs.lemmas.Bool.{and_parts, or_cases, true≢false}
use Rattle.soap_lex.specs.Characters.{IsChars, IsName}
use Rattle.soap_lex.specs.Facts.{same, equal}
use Rattle.soap_lex.specs.Tests.{is_nil}
use Rattle.soap_document.specs.Grammar.{IsQName}
use Rattle.soap_document.specs.declared.attribute.WrittenAttribute.{WrittenAttribute}
use Rattle.soap_document.specs.Profile.Namespaces.{xml_space, xmlns_space, split, declared_prefix, may_bind}
use Rattle.soap_document.specs.Profile.Namespaces.{with_declaration}
use Rattle.soap_document.specs.Profile.Namespaces.{declarations, bound, prefix_space, or_none, element_space}
use Rattle.soap_document.specs.Profile.Namespaces.{attribute_space}
use Rattle.soap_document.specs.Profile.Namespaces.{named, element_name, attribute_name}
use Rattle.rm_base.specs.declared.message.Binding.{Binding}
use Rattle.soap_document.specs.declared.profile.name.Expanded.{Expanded}
use Rattle.soap_writer.specs.Plain.{chars_from, name_from}
use Rattle.soap_writer.specs.ReadBack.{IsAttributeWritten}
use Rattle.soap_writer.specs.Writable.{IsNameWritable, IsAttrWritable}
use Rattle.soap_writer.specs.Stripped.Resolved.{IsBindable, IsBinding, AreInForce}
use Rattle.soap_writer.proofs.StrippedLemmas.Names.{IsParted, parted}

pub nil_from : (bytes : List ℕ) → is_nil bytes ≡ true → bytes ≡ []
nil_from [] e = refl
nil_from (b ∷ bytes) e = cc

not_nil : (space prefix : List ℕ) → not (is_nil space) ≡ true → space ≡ [] → prefix ≡ []
not_nil [] prefix e h = cc
not_nil (b ∷ space) prefix e h = cc

-- ---- declarations

xml_bindable : (prefix : List ℕ) → bytes_eq prefix (codes "xml") ≡ true → IsBindable prefix xml_space
xml_bindable prefix is = record {
  chars = chars_from xml_space refl;
  no_xmlns = λ e. true≢false (sym (equal xml_space xmlns_space e));
  some = λ e. absurd (true≢false (sym (equal xml_space [] e)));
  named = λ n. subst IsName (sym (same prefix (codes "xml") is)) (name_from (codes "xml") refl);
  may = rw is refl;
}

not_so : (a b : List ℕ) → not (bytes_eq a b) ≡ true → a ≢ b
not_so a b e h = let x : not true ≡ true = rw (equal a b h) at e in cc

bindable_at : (prefix space : List ℕ) (is_xml : Bool) → bytes_eq prefix (codes "xml") ≡ is_xml
    → may_bind prefix space ≡ true → (if is_xml then bytes_eq space xml_space
    else not (bytes_eq space xml_space) && (not (bytes_eq space xmlns_space)
    && (is_nil prefix || (not (is_nil space) && not (bytes_eq prefix (codes "xmlns")))))) ≡ true → IsChars space
    → (is_nil prefix ≡ false → IsName prefix) → IsBindable prefix space
bindable_at prefix space true x may e chars named =
    subst (IsBindable prefix) (sym (same space xml_space e)) (xml_bindable prefix x)
bindable_at prefix space false x may e chars named =
    let outer = and_parts (not (bytes_eq space xml_space)) _ e in
    let inner = and_parts (not (bytes_eq space xmlns_space)) _ outer.1 in
    record {
      chars = chars;
      no_xmlns = not_so space xmlns_space inner.0;
      some = λ h. elim (or_cases (is_nil prefix) _ inner.1) [
        | inl default ↦ nil_from prefix default
        | inr other ↦ not_nil space prefix (and_parts (not (is_nil space)) _ other).0 h
      ];
      named = named;
      may = may;
    }

bindable : (prefix space : List ℕ) → may_bind prefix space ≡ true → IsChars space
    → (is_nil prefix ≡ false → IsName prefix) → IsBindable prefix space
bindable prefix space may chars named =
    bindable_at prefix space (bytes_eq prefix (codes "xml")) refl may may chars named

-- what a declaration declares is a name, or the default
prefix_at : (local prefix : List ℕ) (a b : Bool) → (if a then Some [] else if b then Some local else None)
    ≡ Some prefix → IsName local → is_nil prefix ≡ false → IsName prefix
prefix_at local prefix true b e is some =
    let default : [] ≡ prefix = cc in
    absurd (true≢false (subst (λ (p : List ℕ). is_nil p ≡ false) (sym default) some))
prefix_at local prefix false true e is some = let one : local ≡ prefix = cc in subst IsName one is
prefix_at local prefix false false e is some = cc

declared_named : (name prefix : List ℕ) → IsQName name → declared_prefix name ≡ Some prefix → is_nil prefix ≡ false
    → IsName prefix
declared_named name prefix q e =
    prefix_at (split name).1 prefix (bytes_eq name (codes "xmlns")) (bytes_eq (split name).0 (codes "xmlns")) e
    (parted q).local

bind_at : (prefix value : List ℕ) (may : Bool) (later : Option (List Binding)) (decls : List Binding)
    → may_bind prefix value ≡ may → (if may then option_map (λ bindings. record { prefix = prefix; space = value }
    ∷ bindings) later else None) ≡ Some decls → IsChars value → (is_nil prefix ≡ false → IsName prefix)
    → ((ds : List Binding) → later ≡ Some ds → AllByRecursion IsBinding ds) → AllByRecursion IsBinding decls
bind_at prefix value false later decls m e chars named more = cc
bind_at prefix value true None decls m e chars named more = cc
bind_at prefix value true (Some ds) decls m e chars named more =
    let is : record { prefix = prefix; space = value } ∷ ds ≡ decls = cc in
    subst (AllByRecursion IsBinding) is (bindable prefix value m chars named, more ds refl)

declare_at : (value : List ℕ) (p : Option (List ℕ)) (later : Option (List Binding)) (decls : List Binding)
    → with_declaration p value later ≡ Some decls → IsChars value
    → ((prefix : List ℕ) → p ≡ Some prefix → is_nil prefix ≡ false → IsName prefix)
    → ((ds : List Binding) → later ≡ Some ds → AllByRecursion IsBinding ds) → AllByRecursion IsBinding decls
declare_at value None later decls e chars named more = more decls e
declare_at value (Some prefix) later decls e chars named more =
    bind_at prefix value (may_bind prefix value) later decls refl e chars (named prefix refl) more

pub declared_bind : (attributes : List WrittenAttribute) → AllByRecursion IsAttributeWritten attributes
    → (decls : List Binding) → declarations attributes ≡ Some decls → AllByRecursion IsBinding decls
declared_bind [] all decls e = let is : [] ≡ decls = cc in subst (AllByRecursion IsBinding) is tt
declared_bind (a ∷ attributes) all decls e =
    declare_at a.value (declared_prefix a.name) (declarations attributes) decls e all.0.chars
    (λ prefix d. declared_named a.name prefix all.0.qname d) (declared_bind attributes all.1)

-- ---- names

nothing_bindable : IsBindable [] []
nothing_bindable = record {
  chars = chars_from [] refl;
  no_xmlns = λ d. true≢false (sym (equal [] xmlns_space d));
  some = λ d. refl;
  named = λ d. absurd (true≢false d);
  may = refl;
}

-- a name with this local part, in a namespace to which the prefix may be bound
record IsNamed (prefix local : List ℕ) (name : Expanded) : Type 0 where
  same : name.local ≡ local
  bind : IsBindable prefix name.space

named_at : (prefix local : List ℕ) (o : Option (List ℕ)) (name : Expanded) → named local o ≡ Some name
    → ((space : List ℕ) → o ≡ Some space → IsBindable prefix space) → IsNamed prefix local name
named_at prefix local None name e bind = cc
named_at prefix local (Some space) name e bind =
    let is : record { space = space; local = local } ≡ name = cc in
    subst (IsNamed prefix local) is (record { same = refl; bind = bind space refl })

name_writable : (prefix local : List ℕ) (name : Expanded) → IsName local → IsNamed prefix local name
    → IsNameWritable name
name_writable prefix local name is h = record {
  local = subst IsName (sym h.same) is;
  space = h.bind.chars;
  no_xmlns = h.bind.no_xmlns;
}

no_default : (name : List ℕ) → declared_prefix name ≡ None → name ≢ codes "xmlns"
no_default name e is = let x = rw (equal name (codes "xmlns") is) at e in cc

module _ (scope : List Binding) (outer : AreInForce scope) where
  prefixed_at : (prefix space : List ℕ) (is_xml : Bool) → bytes_eq prefix (codes "xml") ≡ is_xml
      → (if is_xml then Some xml_space else bound prefix scope) ≡ Some space → IsBindable prefix space
  prefixed_at prefix space true x e =
      let is : xml_space ≡ space = cc in subst (IsBindable prefix) is (xml_bindable prefix x)
  prefixed_at prefix space false x e = outer prefix space e

  default_at : (space : List ℕ) (o : Option (List ℕ)) → bound [] scope ≡ o → or_none o ≡ Some space
      → IsBindable [] space
  default_at space None b e = let is : [] ≡ space = cc in subst (IsBindable []) is nothing_bindable
  default_at space (Some found) b e = outer [] space (b ∙ e)

  element_at : (prefix space : List ℕ) (t : Bool) → is_nil prefix ≡ t
      → (if t then or_none (bound [] scope) else prefix_space prefix scope) ≡ Some space → IsBindable prefix space
  element_at prefix space true d e =
      subst (λ (p : List ℕ). IsBindable p space) (sym (nil_from prefix d))
      (default_at space (bound [] scope) refl e)
  element_at prefix space false d e = prefixed_at prefix space (bytes_eq prefix (codes "xml")) refl e

  attribute_at : (prefix space : List ℕ) (t : Bool) → is_nil prefix ≡ t
      → (if t then Some [] else prefix_space prefix scope) ≡ Some space → IsBindable prefix space
  attribute_at prefix space true d e =
      let is : [] ≡ space = cc in
      subst (λ (p : List ℕ). IsBindable p space) (sym (nil_from prefix d)) (subst (IsBindable []) is nothing_bindable)
  attribute_at prefix space false d e = prefixed_at prefix space (bytes_eq prefix (codes "xml")) refl e

  -- the name of an element may be written
  pub element_named : (written : List ℕ) (name : Expanded) → IsName (split written).1
      → element_name scope written ≡ Some name → IsNameWritable name
  element_named written name is e =
      let prefix = (split written).0 in
      let local = (split written).1 in
      name_writable prefix local name is (named_at prefix local (element_space prefix scope) name e
      (λ space d. element_at prefix space (is_nil prefix) refl d))

  -- and so may an attribute that is no declaration
  pub attribute_named : (written value : List ℕ) (name : Expanded) → IsParted written → IsChars value
      → declared_prefix written ≡ None → attribute_name scope written ≡ Some name
      → IsAttrWritable (record { name = name; value = value })
  attribute_named written value name is chars other e =
      let prefix = (split written).0 in
      let local = (split written).1 in
      let own : IsNamed prefix local name =
      named_at prefix local (attribute_space prefix scope) name e
      (λ space d. attribute_at prefix space (is_nil prefix) refl d) in
      record {
        name = name_writable prefix local name is.local own;
        value = chars;
        no_declaration = λ bare default.
            no_default written other (is.whole (own.bind.some bare) ∙ sym own.same ∙ default);
      }
