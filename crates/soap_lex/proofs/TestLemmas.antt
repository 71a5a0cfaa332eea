-- The tests of characters and of runs of characters, against the grammar.
use Rattle.std.proofs.Common.{◌≡◌, ℕ, Bool, true, false, not, ◌&&◌, ◌||◌, nat_eq, List, []}
use Rattle.std.proofs.Common.{◌∷◌, ◌++◌, codes, sym, ap, ◌∙◌}
use Rattle.std.specs.List.{AllByRecursion, list_all}
use Rattle.std.specs.Str.{chars, is_utf8, IsUtf8}
use Rattle.std.proofs.lemmas.Bool.{and_parts, or_from}
use Rattle.std.proofs.lemmas.Str.{chars-encodes, encodes-chars, IsUtf8-from_is_utf8, is_utf8-from_IsUtf8}
use Rattle.xml_chars.specs.Classes.{is_char}
use Rattle.soap_lex.specs.Characters.{IsChars}
use Rattle.soap_lex.specs.Text.{IsCharData, IsCdata, IsComment}
use Rattle.soap_lex.specs.Value.{IsPlainValue}
use Rattle.soap_lex.specs.Tests.{is_chars, is_char_data, is_cdata, is_comment, is_plain, holds}
use Rattle.soap_lex.proofs.HeldLemmas.{lacks, lacks_from, lacks_byte}
use Rattle.soap_lex.specs.Facts.{all_passes, all_from_passes}
use Rattle.soap_lex.specs.Scalars.{all_scalar}
use Rattle.soap_lex.specs.Scalars.{is_char-scalar}

-- ---- the tests

pub chars_passes : (bytes : List ℕ) → IsChars bytes → is_chars bytes ≡ true
unfolding is_chars
chars_passes bytes h =
    let scalar_all = all_scalar is_char is_char-scalar h.characters h.each in
    let utf8 : IsUtf8 bytes = (h.characters, (scalar_all, sym h.coded)) in
    let listed : chars bytes ≡ h.characters = ap chars h.coded ∙ chars-encodes h.characters scalar_all in
    rw (is_utf8-from_IsUtf8 bytes utf8, listed, all_passes is_char h.characters h.each)

pub IsChars-from : (bytes : List ℕ) → is_chars bytes ≡ true → IsChars bytes
unfolding is_chars
IsChars-from bytes e =
    let (utf8, all) = and_parts (is_utf8 bytes) (list_all is_char (chars bytes)) e in
    record {
      characters = chars bytes;
      each = all_from_passes is_char (chars bytes) all;
      coded = sym (encodes-chars
          bytes (IsUtf8-from_is_utf8 bytes utf8));
    }

-- ---- runs of characters

pub data_from : (bytes : List ℕ) → is_char_data bytes ≡ true → IsCharData bytes
unfolding is_char_data
data_from bytes e =
    let (a, e1) = and_parts (is_chars bytes) (not (holds bytes (codes "<")) && (not (holds bytes (codes "&")) && not
    (holds bytes (codes "]]>")))) e in
    let (b, e2) = and_parts (not (holds bytes (codes "<"))) (not (holds bytes (codes "&")) && not (holds bytes
    (codes "]]>"))) e1 in
    let (c, d) = and_parts (not (holds bytes (codes "&"))) (not (holds bytes (codes "]]>"))) e2 in
    record {
      chars = IsChars-from bytes a;
      no_less = lacks_from bytes (codes "<") (λ x. cc) b;
      no_ampersand = lacks_from bytes (codes "&") (λ x. cc) c;
      no_close = lacks_from bytes (codes "]]>") (λ x. cc) d;
    }

pub plain_from : (mark : ℕ) (bytes : List ℕ) → is_plain mark bytes ≡ true → IsPlainValue mark bytes
unfolding is_plain
plain_from mark bytes e =
    let (a, e1) = and_parts (is_chars bytes) (not (holds bytes (codes "<")) && (not (holds bytes (codes "&")) && not
    (holds bytes (mark ∷ [])))) e in
    let (b, e2) = and_parts (not (holds bytes (codes "<"))) (not (holds bytes (codes "&")) && not (holds bytes (mark
    ∷ []))) e1 in
    let (c, d) = and_parts (not (holds bytes (codes "&"))) (not (holds bytes (mark ∷ []))) e2 in
    record {
      chars = IsChars-from bytes a;
      no_less = lacks_from bytes (codes "<") (λ x. cc) b;
      no_ampersand = lacks_from bytes (codes "&") (λ x. cc) c;
      no_quote = lacks_from bytes (mark ∷ []) (λ x. cc) d;
    }

pub comment_from : (bytes : List ℕ) → is_comment bytes ≡ true → IsComment bytes
unfolding is_comment
comment_from bytes e =
    let (a, b) = and_parts (is_chars bytes) (not (holds (bytes ++ codes "-") (codes "--"))) e in
    record { chars = IsChars-from bytes a; no_dashes = lacks_from (bytes ++ codes "-") (codes "--") (λ x. cc) b }

pub cdata_from : (bytes : List ℕ) → is_cdata bytes ≡ true → IsCdata bytes
unfolding is_cdata
cdata_from bytes e =
    let (a, b) = and_parts (is_chars bytes) (not (holds bytes (codes "]]>"))) e in
    record { chars = IsChars-from bytes a; no_close = lacks_from bytes (codes "]]>") (λ x. cc) b }

pub data_passes : (bytes : List ℕ) → IsCharData bytes → is_char_data bytes ≡ true
unfolding is_char_data
data_passes bytes h = rw (
  chars_passes bytes h.chars,
  lacks bytes (codes "<") (λ e. cc) h.no_less,
  lacks bytes
      (codes "&") (λ e. cc) h.no_ampersand,
) (lacks bytes (codes "]]>") (λ e. cc) h.no_close)

all_or : (p q : ℕ → Bool) (bytes : List ℕ) → AllByRecursion (λ c. p c ≡ false) bytes → AllByRecursion (λ c. q c
    ≡ false) bytes → AllByRecursion (λ c. (p c || q c) ≡ false) bytes
all_or p q [] g h = tt
all_or p q (c ∷ bytes) g h = (or_from (p c) (q c) g.0 h.0, all_or p q bytes g.1 h.1)

-- no < and no & stands in character data
pub data_bytes : (bytes : List ℕ) → IsCharData bytes → AllByRecursion (λ c. (nat_eq c 60 || nat_eq c 38) ≡ false) bytes
data_bytes bytes h = all_or (λ c. nat_eq c 60) (λ c. nat_eq c 38) bytes (lacks_byte 60 bytes h.no_less) (lacks_byte
    38 bytes h.no_ampersand)

pub plain_passes : (mark : ℕ) (bytes : List ℕ) → IsPlainValue mark bytes → is_plain mark bytes ≡ true
unfolding is_plain
plain_passes mark bytes h = rw (
  chars_passes bytes h.chars,
  lacks bytes (codes "<") (λ e. cc) h.no_less,
  lacks bytes
      (codes "&") (λ e. cc) h.no_ampersand,
) (lacks bytes (mark ∷ []) (λ e. cc) h.no_quote)

-- no quote and no & stands in what may stand between these quotes
pub plain_bytes : (mark : ℕ) (bytes : List ℕ) → IsPlainValue mark bytes
    → AllByRecursion (λ c. (nat_eq c mark || nat_eq c 38) ≡ false) bytes
plain_bytes mark bytes h = all_or (λ c. nat_eq c mark) (λ c. nat_eq c 38) bytes (lacks_byte mark bytes h.no_quote)
    (lacks_byte 38 bytes h.no_ampersand)

pub comment_passes : (bytes : List ℕ) → IsComment bytes → is_comment bytes ≡ true
unfolding is_comment
comment_passes bytes h = rw (chars_passes bytes h.chars) (lacks (bytes ++ codes "-") (codes "--") (λ e. cc) h.no_dashes)

pub cdata_passes : (bytes : List ℕ) → IsCdata bytes → is_cdata bytes ≡ true
unfolding is_cdata
cdata_passes bytes h = rw (chars_passes bytes h.chars) (lacks bytes (codes "]]>") (λ e. cc) h.no_close)
