-- Names, as bytes.
use Rattle.std.proofs.Common.{◌≡◌, ◌≢◌, ℕ, true, List, [], ◌∷◌, ◌++◌, length}
use Rattle.std.proofs.Common.{encode_utf8, encode_utf8_all, sym, ap, ◌∙◌, arith}
use Rattle.std.proofs.Common.{length-append}
use Rattle.std.specs.List.{list_all}
use Rattle.std.specs.Str.{chars, is_utf8}
use Rattle.std.proofs.lemmas.Bool.{and_parts}
use Rattle.std.proofs.lemmas.Str.{chars_from_encodes, encodes-chars, length-encode, len_utf8_bounds}
use Rattle.std.proofs.lemmas.Str.{IsUtf8-from_is_utf8, is_utf8-from_IsUtf8}
use Rattle.xml_chars.specs.Classes.{is_name_start, is_name_char}
use Rattle.soap_lex.specs.Characters.{IsName}
use Rattle.soap_lex.specs.Scalars.{IsUtf8-IsName}
use Rattle.soap_document.specs.Tokens.{is_name, starts_name}
use Rattle.soap_lex.specs.Facts.{all_passes, all_from_passes}

-- ---- the tests

pub name_passes : (bytes : List ℕ) → IsName bytes → is_name bytes ≡ true
unfolding is_name
name_passes bytes h =
    let utf8 = IsUtf8-IsName bytes h in
    let listed : chars bytes ≡ h.first ∷ h.others =
    sym (chars_from_encodes (h.first ∷ h.others) bytes utf8 (sym h.coded)) in
    rw (is_utf8-from_IsUtf8 bytes utf8, listed, h.starts, all_passes is_name_char h.others h.each)

name_from : (bytes cs : List ℕ) → bytes ≡ encode_utf8_all cs → starts_name cs ≡ true → IsName bytes
name_from bytes [] coded e = cc
name_from bytes (c ∷ cs) coded e =
    let (starts, all) = and_parts (is_name_start c) (list_all is_name_char cs) e in
    record { first = c; others = cs; starts = starts; each = all_from_passes is_name_char cs all; coded = coded }

pub IsName-from : (bytes : List ℕ) → is_name bytes ≡ true → IsName bytes
unfolding is_name
IsName-from bytes e =
    let (utf8, all) = and_parts (is_utf8 bytes) (starts_name (chars bytes)) e in
    name_from bytes (chars bytes) (sym (encodes-chars bytes (IsUtf8-from_is_utf8 bytes utf8))) all

-- ---- the bytes of a name

pub name_some : (bytes : List ℕ) → IsName bytes → bytes ≢ []
name_some bytes h e =
    let first = encode_utf8 h.first in
    let size : length (first ++ encode_utf8_all h.others) ≡ 0 = ap length (sym h.coded ∙ e) in
    omega (arith, size, length-append first (encode_utf8_all h.others), length-encode h.first, len_utf8_bounds h.first)
