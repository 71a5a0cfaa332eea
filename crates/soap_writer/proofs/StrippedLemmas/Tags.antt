-- What a start tag is, once its names are resolved.
use Rattle.std.proofs.Common.{◌≡◌, ◌≢◌, ℕ, suc, ◌≤◌, Bool, true, false, List, [], ◌∷◌, ◌++◌, Option, Some, None}
use Rattle.std.proofs.Common.{codes, length, if◌then◌else◌, refl, subst, arith}
use Rattle.std.specs.List.{AllByRecursion}
use Rattle.std.proofs.lemmas.List.{length-append}
use Rattle.soap_document.specs.Grammar.{IsQName, IsAttributes, end, more}
use Rattle.soap_document.specs.declared.attribute.WrittenAttribute.{WrittenAttribute}
use Rattle.soap_document.specs.Profile.Namespaces.{declared_prefix, declarations, element_name, attribute_name}
use Rattle.soap_document.specs.Profile.Namespaces.{unless_declared, expanded, are_distinct, are_distinct_names}
use Rattle.soap_document.specs.Profile.Namespaces.{Resolved}
use Rattle.soap_document.specs.Profile.Namespaces.{resolved_with, declaring, tag_of}
use Rattle.rm_base.specs.declared.message.Binding.{Binding}
use Rattle.soap_document.specs.declared.profile.name.Expanded.{Expanded}
use Rattle.soap_document.specs.declared.profile.tree.Attr.{Attr}
use Rattle.soap_writer.specs.ReadBack.{IsAttributeWritten}
use Rattle.soap_writer.specs.Writable.{IsNameWritable, IsAttrWritable}
use Rattle.soap_writer.specs.Stripped.Resolved.{IsBinding, AreInForce}
use Rattle.soap_writer.proofs.StrippedLemmas.Meanings.{value_chars}
use Rattle.soap_writer.proofs.StrippedLemmas.Names.{parted}
use Rattle.soap_writer.specs.Stripped.ResolvedLaws.{more_in_force}
use Rattle.soap_writer.proofs.StrippedLemmas.Spaces.{declared_bind, element_named, attribute_named}

-- ---- attributes as they are written

pub attributes_written : {bytes : List ℕ} {attributes : List WrittenAttribute} → IsAttributes bytes attributes
    → AllByRecursion IsAttributeWritten attributes
attributes_written (end space h) = tt
attributes_written (more space name left right quoted value rest attributes s q l r v h) =
    (record { qname = q; chars = value_chars v }, attributes_written h)

some_length : (bytes : List ℕ) → bytes ≢ [] → 1 ≤ length bytes
some_length [] some = absurd (some refl)
some_length (b ∷ bytes) some = omega arith

length_behind : (space name left right quoted rest : List ℕ) → 1 ≤ length space
    → suc (length rest) ≤ length (space ++ (name ++ (left ++ (codes "=" ++ (right ++ (quoted ++ rest))))))
length_behind space name left right quoted rest some = simp length-append (omega (arith, some))

pub attributes_few : {bytes : List ℕ} {attributes : List WrittenAttribute} → IsAttributes bytes attributes
    → length attributes ≤ length bytes
attributes_few (end space h) = omega arith
attributes_few (more space name left right quoted value rest attributes s q l r v h) =
    let behind = length_behind space name left right quoted rest (some_length space s.some) in
    let few = attributes_few h in
    omega (arith, behind, few)

-- ---- their names

-- attributes that may be written, and are no more than so many
pub record AreExpanded (n : ℕ) (attrs : List Attr) : Type 0 where
  pub each : AllByRecursion IsAttrWritable attrs
  pub few : length attrs ≤ n

expanded_at : (value : List ℕ) (d : Option (List ℕ)) (o : Option Expanded) (later : Option (List Attr))
    (attrs : List Attr)
    (n : ℕ) → unless_declared d o value later ≡ Some attrs
    → (d ≡ None → (name : Expanded) → o ≡ Some name → IsAttrWritable (record { name = name; value = value }))
    → ((xs : List Attr) → later ≡ Some xs → AreExpanded n xs) → AreExpanded (suc n) attrs
expanded_at value (Some prefix) o later attrs n e here behind =
    let is = behind attrs e in
    record { each = is.each; few = omega (arith, is.few) }
expanded_at value None None later attrs n e here behind = cc
expanded_at value None (Some name) None attrs n e here behind = cc
expanded_at value None (Some name) (Some xs) attrs n e here behind =
    let is : record { name = name; value = value } ∷ xs ≡ attrs = cc in
    let rest = behind xs refl in
    subst (AreExpanded (suc n)) is
    (record { each = (here refl name refl, rest.each); few = omega (arith, rest.few) })

are_expanded : (scope : List Binding) → AreInForce scope → (attributes : List WrittenAttribute)
    → AllByRecursion IsAttributeWritten attributes → (attrs : List Attr) → expanded scope attributes ≡ Some attrs
    → AreExpanded (length attributes) attrs
are_expanded scope outer [] all attrs e =
    let is : [] ≡ attrs = cc in subst (AreExpanded 0) is (record { each = tt; few = omega arith })
are_expanded scope outer (a ∷ attributes) all attrs e =
    expanded_at a.value (declared_prefix a.name) (attribute_name scope a.name) (expanded scope attributes) attrs
    (length attributes) e
    (λ other name d. attribute_named scope outer a.name a.value name (parted all.0.qname) all.0.chars other d)
    (are_expanded scope outer attributes all.1)

-- ---- the tag

-- a start tag whose names may be written, with no more attributes than so many
pub record IsTag (n : ℕ) (tag : Resolved) : Type 0 where
  pub named : IsNameWritable tag.name
  pub decls : AllByRecursion IsBinding tag.decls
  pub attrs : AreExpanded n tag.attrs
  pub distinct : are_distinct_names tag.attrs ≡ true

distinct_at : (decls : List Binding) (name : Expanded) (attrs : List Attr) (tag : Resolved) (n : ℕ) (t : Bool)
    → are_distinct_names attrs ≡ t
    → (if t then Some (record { name = name; decls = decls; attrs = attrs }) else None) ≡ Some tag
    → IsNameWritable name → AllByRecursion IsBinding decls → AreExpanded n attrs → IsTag n tag
distinct_at decls name attrs tag n false d e named bind each = cc
distinct_at decls name attrs tag n true d e named bind each =
    let is : record { name = name; decls = decls; attrs = attrs } ≡ tag = cc in
    subst (IsTag n) is (record { named = named; decls = bind; attrs = each; distinct = d })

within_at : (decls : List Binding) (o : Option Expanded) (p : Option (List Attr)) (tag : Resolved) (n : ℕ)
    → resolved_with decls o p ≡ Some tag → AllByRecursion IsBinding decls
    → ((name : Expanded) → o ≡ Some name → IsNameWritable name)
    → ((attrs : List Attr) → p ≡ Some attrs → AreExpanded n attrs) → IsTag n tag
within_at decls None p tag n e bind named each = cc
within_at decls (Some name) None tag n e bind named each = cc
within_at decls (Some name) (Some attrs) tag n e bind named each =
    distinct_at decls name attrs tag n (are_distinct_names attrs) refl e (named name refl) bind (each attrs refl)

declaring_at : (o : Option (List Binding)) (scope : List Binding) (name : List ℕ) (attributes : List WrittenAttribute)
    (tag : Resolved) → declarations attributes ≡ o → declaring o scope name attributes ≡ Some tag → IsQName name
    → AllByRecursion IsAttributeWritten attributes → AreInForce scope → IsTag (length attributes) tag
declaring_at None scope name attributes tag d e q all outer = cc
declaring_at (Some decls) scope name attributes tag d e q all outer =
    let bind = declared_bind attributes all decls d in
    let inner = more_in_force decls scope bind outer in
    within_at decls (element_name (decls ++ scope) name) (expanded (decls ++ scope) attributes) tag
    (length attributes) e bind
    (λ n h. element_named (decls ++ scope) inner name n (parted q).local h)
    (are_expanded (decls ++ scope) inner attributes all)

tag_at : (t : Bool) (scope : List Binding) (name : List ℕ) (attributes : List WrittenAttribute) (tag : Resolved)
    → (if t then declaring (declarations attributes) scope name attributes else None) ≡ Some tag → IsQName name
    → AllByRecursion IsAttributeWritten attributes → AreInForce scope → IsTag (length attributes) tag
tag_at false scope name attributes tag e q all outer = cc
tag_at true scope name attributes tag e q all outer =
    declaring_at (declarations attributes) scope name attributes tag refl e q all outer

pub tag_resolved : (scope : List Binding) (name : List ℕ) (attributes : List WrittenAttribute) (tag : Resolved)
    → tag_of scope name attributes ≡ Some tag → IsQName name → AllByRecursion IsAttributeWritten attributes
    → AreInForce scope → IsTag (length attributes) tag
tag_resolved scope name attributes tag e q all outer =
    tag_at (are_distinct attributes) scope name attributes tag e q all outer
