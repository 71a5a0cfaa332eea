-- What text and attribute values mean is characters.
use Rattle.std.proofs.Common.{◌≡◌, ℕ, true, List, ◌++◌, refl}
use Rattle.std.specs.Prelude.{encode_utf8}
use Rattle.xml_chars.specs.Classes.{is_char}
use Rattle.soap_lex.specs.Characters.{IsChars}
use Rattle.soap_lex.specs.References.{IsReference, ampersand, less, greater, apostrophe, quote, decimal, hexadecimal}
use Rattle.soap_lex.specs.Text.{IsMarkup, reference, cdata, comment, IsText, run, more, with_line_ends}
use Rattle.soap_lex.specs.Value.{IsInner, IsValue, double, single, run as inner_run, more as inner_more, with_spaces}
use Rattle.soap_writer.specs.Stripped.CharLaws.{chars_nil, chars_append, one_char}
use Rattle.soap_writer.proofs.StrippedLemmas.Lines.{with_line_ends_chars, with_spaces_chars}

reference_char : {bytes : List ℕ} {c : ℕ} → IsReference bytes c → is_char c ≡ true
reference_char ampersand = refl
reference_char less = refl
reference_char greater = refl
reference_char apostrophe = refl
reference_char quote = refl
reference_char (decimal digits some all char) = char
reference_char (hexadecimal digits some all char) = char

markup_chars : {bytes meaning : List ℕ} → IsMarkup bytes meaning → IsChars meaning
markup_chars (reference bytes c r) = one_char c (reference_char r)
markup_chars (cdata bytes h) = with_line_ends_chars bytes h.chars
markup_chars (comment bytes h) = chars_nil

pub text_chars : {bytes meaning : List ℕ} → IsText bytes meaning → IsChars meaning
text_chars (run bytes h) = with_line_ends_chars bytes h.chars
text_chars (more bytes markup meaning rest text h m t) =
    chars_append (with_line_ends bytes) (meaning ++ text) (with_line_ends_chars bytes h.chars)
    (chars_append meaning text (markup_chars m) (text_chars t))

inner_chars : {mark : ℕ} {bytes value : List ℕ} → IsInner mark bytes value → IsChars value
inner_chars (inner_run bytes h) = with_spaces_chars bytes h.chars
inner_chars (inner_more bytes token c rest value h r i) =
    chars_append (with_spaces bytes) (encode_utf8 c ++ value) (with_spaces_chars bytes h.chars)
    (chars_append (encode_utf8 c) value (one_char c (reference_char r)) (inner_chars i))

pub value_chars : {bytes value : List ℕ} → IsValue bytes value → IsChars value
value_chars (double inner value h) = inner_chars h
value_chars (single inner value h) = inner_chars h
