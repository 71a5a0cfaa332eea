-- Names in values are read back as they were written.
use Rattle.std.proofs.Common.{◌≡◌, ℕ, Bool, true, false, ◌&&◌, List, [], ◌∷◌, ◌++◌}
use Rattle.std.proofs.Common.{Some, None, codes, nat_eq, refl, sym, ap, ◌∙◌, arith}
use Rattle.std.specs.List.{AllByRecursion, flat_map}
use Rattle.std.specs.Str.{bytes_eq, chars, IsUtf8}
use Rattle.std.proofs.lemmas.Bool.Decides.{nat_tests}
use Rattle.std.proofs.lemmas.Str.{chars-encodes, is_utf8-from_IsUtf8}
use Rattle.xml_chars.specs.Classes.{is_space, is_name_char}
use Rattle.rm_base.specs.declared.message.Binding.{Binding}
use Rattle.soap_document.specs.Cuts.{cut_none, cut-append}
use Rattle.soap_document.specs.Tokens.{is_name, is_qname}
use Rattle.soap_lex.specs.Tests.{is_nil}
use Rattle.soap_lex.specs.Characters.{IsName}
use Rattle.soap_lex.specs.Facts.{all_passes, all_weaker, same}
use Rattle.soap_lex.specs.NameBytes.{IsNameByte, name_bytes}
use Rattle.soap_lex.specs.Scalars.{all_scalar, name_char-scalar, name_each}
use Rattle.soap_document.specs.Profile.Namespaces.{split, xml_space, bound}
use Rattle.soap_document.specs.declared.profile.name.Expanded.{Expanded}
use Rattle.soap_envelope.specs.Frame.Framed.{sorted_scope}
use Rattle.soap_writer.specs.Nodes.Node.{note_bindings}
use Rattle.soap_writer.specs.Values.QNames.{qname_in}
use Rattle.soap_writer.specs.Values.Values.{trimmed_start, trimmed_end, trimmed}
use Rattle.soap_writer.specs.Frame.{messaging_space}
use Rattle.soap_writer.specs.Plain.{name_from}
use Rattle.soap_writer.specs.Writable.{IsNameWritable}
use Rattle.message_writer.specs.Text.{qname, qname_notes}

-- ---- a name, and where it is cut

name_passes : (bytes : List ℕ) → IsName bytes → is_name bytes ≡ true
unfolding is_name
name_passes bytes h =
    let scalar_all = all_scalar is_name_char name_char-scalar (h.first ∷ h.others) (name_each bytes h) in
    let utf8 : IsUtf8 bytes = (h.first ∷ h.others, (scalar_all, sym h.coded)) in
    let listed : chars bytes ≡ h.first ∷ h.others = ap chars h.coded ∙ chars-encodes (h.first ∷ h.others) scalar_all in
    rw (is_utf8-from_IsUtf8 bytes utf8, listed, h.starts, all_passes is_name_char h.others h.each)

no_colon : (name : List ℕ) → IsName name → AllByRecursion (λ c. nat_eq c 58 ≡ false) name
no_colon name is =
    all_weaker IsNameByte (λ c. nat_eq c 58 ≡ false) (λ c b. b 58 (omega arith) refl) name (name_bytes name is)

split_name : (name : List ℕ) → IsName name → split name ≡ ([], name)
split_name name is = rw (split, cut_none 58 name (no_colon name is)) refl

split_prefixed : (prefix local : List ℕ) → IsName prefix → split (prefix ++ 58 ∷ local) ≡ (prefix, local)
split_prefixed prefix local is = rw (split, cut-append 58 prefix local (no_colon prefix is)) refl

q-IsName : IsName (codes "q")
q-IsName = name_from (codes "q") refl

xml-IsName : IsName (codes "xml")
xml-IsName = name_from (codes "xml") refl

bare_passes : (name : List ℕ) → IsName name → is_qname name ≡ true
unfolding is_qname
bare_passes name h = rw (is_qname, cut_none 58 name (no_colon name h)) (name_passes name h)

pub prefixed_passes : (prefix name : List ℕ) → IsName prefix → IsName name → is_qname (prefix ++ 58 ∷ name) ≡ true
unfolding is_qname
prefixed_passes prefix name p n =
    rw (is_qname, cut-append 58 prefix name (no_colon prefix p), name_passes prefix p) (name_passes name n)

-- ---- the name that it is

-- the bindings within which it stands bind no default namespace
bare_back : (scope : List Binding) (local : List ℕ) → IsName local → bound [] scope ≡ None
    → qname_in scope local ≡ Some (record { space = []; local = local })
bare_back scope local is free =
    rw (bare_passes local is, split_name local is, free) refl

xml_back : (scope : List Binding) (local : List ℕ) → IsName local
    → qname_in scope (codes "xml:" ++ local) ≡ Some (record { space = xml_space; local = local })
xml_back scope local is =
    let passes : is_qname (codes "xml:" ++ local) ≡ true = prefixed_passes (codes "xml") local xml-IsName is in
    rw passes refl

own_back : (scope : List Binding) (local space : List ℕ) → IsName local
    → qname_in (record { prefix = codes "q"; space = space } ∷ scope) (codes "q:" ++ local)
    ≡ Some (record { space = space; local = local })
own_back scope local space is =
    let passes : is_qname (codes "q:" ++ local) ≡ true = prefixed_passes (codes "q") local q-IsName is in
    rw passes refl

nil_from : (space : List ℕ) → is_nil space ≡ true → space ≡ []
nil_from [] e = refl
nil_from (b ∷ space) e = cc

-- the bindings that are declared with a name
abbrev pub declared_with : Expanded → List Binding
declared_with name = flat_map note_bindings (qname_notes name)

by_kind : (soap local space : List ℕ) (a b : Bool) → IsName local → is_nil space ≡ a → bytes_eq space xml_space ≡ b
    → qname_in (flat_map note_bindings (qname_notes (record { space = space; local = local })) ++ sorted_scope soap)
    (qname (record { space = space; local = local })) ≡ Some (record { space = space; local = local })
by_kind soap local space true b is e f =
    rw (nil_from space e) (bare_back (sorted_scope soap) local is refl)
by_kind soap local space false true is e f =
    rw (same space xml_space f) (xml_back (sorted_scope soap) local is)
by_kind soap local space false false is e f = rw (e, f) (own_back (sorted_scope soap) local space is)

pub name_again : (soap : List ℕ) (name : Expanded) → IsNameWritable name
    → qname_in (declared_with name ++ sorted_scope soap) (qname name) ≡ Some name
name_again soap name is =
    by_kind soap name.local name.space (is_nil name.space) (bytes_eq name.space xml_space) is.local refl refl

-- ---- no white space stands in it

abbrev pub IsPlain : List ℕ → Type 0
IsPlain bytes = AllByRecursion (λ c. is_space c ≡ false) bytes

name_plain : (c : ℕ) → IsNameByte c → is_space c ≡ false
name_plain c h =
    let tab : nat_eq c 9 ≡ false = h 9 (omega arith) refl in
    let feed : nat_eq c 10 ≡ false = h 10 (omega arith) refl in
    let carriage : nat_eq c 13 ≡ false = h 13 (omega arith) refl in
    let space : nat_eq c 32 ≡ false = h 32 (omega arith) refl in
    grind (arith, nat_tests)

pub plain_name : (name : List ℕ) → IsName name → IsPlain name
plain_name name is = all_weaker IsNameByte (λ c. is_space c ≡ false) name_plain name (name_bytes name is)

plain_by : (local space : List ℕ) (a b : Bool) → IsName local → is_nil space ≡ a → bytes_eq space xml_space ≡ b
    → IsPlain (qname (record { space = space; local = local }))
plain_by local space true b is e f = rw e (plain_name local is)
plain_by local space false true is e f = rw (e, f) (refl, (refl, (refl, (refl, plain_name local is))))
plain_by local space false false is e f = rw (e, f) (refl, (refl, plain_name local is))

pub last_not : (a : Bool) → (a && false) ≡ false
last_not true = refl
last_not false = refl

end_kept : (bytes : List ℕ) → IsPlain bytes → trimmed_end bytes ≡ bytes
end_kept [] all = refl
end_kept (b ∷ bytes) all =
    rw (all.0, last_not (is_nil (trimmed_end bytes))) (ap (λ l. b ∷ l) (end_kept bytes all.1))

start_kept : (bytes : List ℕ) → IsPlain bytes → trimmed_start bytes ≡ bytes
start_kept [] all = refl
start_kept (b ∷ bytes) all = rw (all.0) refl

pub plain_kept : (bytes : List ℕ) → IsPlain bytes → trimmed bytes ≡ bytes
plain_kept bytes all = ap trimmed_end (start_kept bytes all) ∙ end_kept bytes all

pub name_trimmed : (name : Expanded) → IsNameWritable name → trimmed (qname name) ≡ qname name
name_trimmed name is =
    plain_kept (qname name)
    (plain_by name.local name.space (is_nil name.space) (bytes_eq name.space xml_space) is.local refl refl)

-- ---- a name of SOAP, with the prefix of a frame

pub soap_name_again : (soap local : List ℕ) → IsName local
    → qname_in (sorted_scope soap) (codes "s:" ++ local) ≡ Some (record { space = soap; local = local })
soap_name_again soap local is =
    let passes : is_qname (codes "s:" ++ local) ≡ true =
    prefixed_passes (codes "s") local (name_from (codes "s") refl) is in
    rw passes refl

-- and one of WS-ReliableMessaging
pub messaging_name_again : (soap local : List ℕ) → IsName local
    → qname_in (sorted_scope soap) (codes "r:" ++ local) ≡ Some (record { space = messaging_space; local = local })
messaging_name_again soap local is =
    let passes : is_qname (codes "r:" ++ local) ≡ true =
    prefixed_passes (codes "r") local (name_from (codes "r") refl) is in
    rw passes refl

pub messaging_name_trimmed : (local : List ℕ) → IsName local → trimmed (codes "r:" ++ local) ≡ codes "r:" ++ local
messaging_name_trimmed local is = plain_kept (codes "r:" ++ local) (refl, (refl, plain_name local is))
