-- Names in values, as they are read: XML Schema Part 2, section 3.2.18.
use Rattle.std.proofs.Common.{◌≡◌, ℕ, Bool, true, false, not, ◌&&◌, if◌then◌else◌, List, [], ◌∷◌, Option, Some}
use Rattle.std.proofs.Common.{None, codes, encode_utf8_all, refl, sym, subst}
use Rattle.std.specs.List.{AllByRecursion, flat_map, list_all}
use Rattle.std.specs.Str.{bytes_eq, chars, is_utf8}
use Rattle.std.proofs.lemmas.Bool.{and_parts}
use Rattle.std.proofs.lemmas.Str.{encodes-chars, IsUtf8-from_is_utf8}
use Rattle.xml_chars.specs.Classes.{is_name_start, is_name_char}
use Rattle.soap_lex.specs.Characters.{IsName}
use Rattle.soap_lex.specs.Facts.{all_from_passes}
use Rattle.soap_document.specs.Cuts.{cut_from}
use Rattle.soap_document.specs.Grammar.{IsQName, unprefixed, prefixed}
use Rattle.soap_document.specs.Tokens.{cut, starts_name, is_name, is_qname}
use Rattle.soap_document.specs.Profile.Namespaces.{split, element_name}
use Rattle.soap_document.specs.Profile.Tree.{Element, decls_of}
use Rattle.rm_base.specs.declared.message.Binding.{Binding}
use Rattle.soap_document.specs.declared.profile.name.Expanded.{Expanded}
use Rattle.soap_writer.specs.Writable.{IsNameWritable}
use Rattle.soap_writer.specs.Stripped.Resolved.{IsBinding, AreInForce}
use Rattle.soap_writer.specs.Stripped.ResolvedLaws.{more_in_force}
use Rattle.soap_writer.specs.Values.QNames.{within, is_name_value, qname_in}
use Rattle.rm_wire.proofs.ReadLawsLemmas.Lists.{all_flat_map}

-- the law of names that this stands on
abbrev pub WrittenNames : Type 0
WrittenNames = (scope : List Binding) (written : List ℕ) (name : Expanded) → AreInForce scope → IsQName written
    → element_name scope written ≡ Some name → IsNameWritable name

-- the declarations of an element
abbrev pub Binds : Element → Type 0
Binds e = AllByRecursion IsBinding (decls_of e)

name_of_chars : (bytes cs : List ℕ) → bytes ≡ encode_utf8_all cs → starts_name cs ≡ true → IsName bytes
name_of_chars bytes [] coded e = cc
name_of_chars bytes (c ∷ cs) coded e =
    let (starts, all) = and_parts (is_name_start c) (list_all is_name_char cs) e in
    record { first = c; others = cs; starts = starts; each = all_from_passes is_name_char cs all; coded = coded }

name_told : (bytes : List ℕ) → is_name bytes ≡ true → IsName bytes
unfolding is_name
name_told bytes e =
    let (utf8, all) = and_parts (is_utf8 bytes) (starts_name (chars bytes)) e in
    name_of_chars bytes (chars bytes) (sym (encodes-chars bytes (IsUtf8-from_is_utf8 bytes utf8))) all

qname_at : (bytes : List ℕ) (o : Option (List ℕ × List ℕ)) → cut 58 bytes ≡ o
    → elim o [ None ↦ is_name bytes | Some p ↦ is_name p.0 && is_name p.1 ] ≡ true → IsQName bytes
qname_at bytes None c e = unprefixed bytes (name_told bytes e)
qname_at bytes (Some p) c e =
    let each = and_parts (is_name p.0) (is_name p.1) e in
    subst IsQName (sym (cut_from 58 bytes p c)) (prefixed p.0 p.1 (name_told p.0 each.0) (name_told p.1 each.1))

qname_told : (bytes : List ℕ) → is_qname bytes ≡ true → IsQName bytes
unfolding is_qname
qname_told bytes e = qname_at bytes (cut 58 bytes) refl e

value_at : WrittenNames → (scope : List Binding) → AreInForce scope → (bytes : List ℕ) (name : Expanded) (t : Bool)
    → is_name_value bytes ≡ t → (if t then element_name scope bytes else None) ≡ Some name → IsNameWritable name
value_at names scope outer bytes name false d e = cc
value_at names scope outer bytes name true d e =
    let tests = and_parts (is_qname bytes) (not (bytes_eq (split bytes).0 (codes "xmlns"))) d in
    names scope bytes name outer (qname_told bytes tests.0) e

-- the name that a value is, within elements of a document
pub qname_is : WrittenNames → (elements : List Element) (scope : List Binding) → AllByRecursion Binds elements
    → AreInForce scope → (bytes : List ℕ) (name : Expanded) → qname_in (within elements scope) bytes ≡ Some name
    → IsNameWritable name
qname_is names elements scope all outer bytes name e =
    let decls = all_flat_map Binds IsBinding decls_of (λ x is. is) elements all in
    value_at names (within elements scope) (more_in_force (flat_map decls_of elements) scope decls outer) bytes name
    (is_name_value bytes) refl e
