-- Texts, numbers and marks as values: XML Schema Part 2, sections 3.2.2 and 3.3.
use Rattle.std.specs.Prelude.{ℕ, List, [], ◌∷◌, Bool, not, ◌&&◌, ◌||◌, if◌then◌else◌, Option, Some, None, option_map}
use Rattle.std.specs.Prelude.{codes}
use Rattle.std.specs.Str.{all_ascii_digits, bytes_eq}
use Rattle.std.specs.Str.Parse.{digits_value, without_leading_plus}
use Rattle.xml_chars.specs.Classes.{is_space}
use Rattle.rm_base.specs.Text.{is_text}
use Rattle.soap_lex.specs.Tests.{is_nil}
use Rattle.soap_document.specs.Profile.Tree.{Element, parts_of}
use Rattle.soap_writer.specs.Values.Children.{text_among}
use Rattle.soap_writer.specs.Values.Outcome.{◌>>=◌}

-- without white space at its start: XML 1.0, section 2.3
abbrev pub trimmed_start : List ℕ → List ℕ
trimmed_start [] = []
trimmed_start (b ∷ bytes) = if is_space b then trimmed_start bytes else b ∷ bytes

-- without white space at its end
abbrev pub trimmed_end : List ℕ → List ℕ
trimmed_end [] = []
trimmed_end (b ∷ bytes) = if is_nil (trimmed_end bytes) && is_space b then [] else b ∷ trimmed_end bytes

-- without white space at either end
abbrev pub trimmed : List ℕ → List ℕ
trimmed bytes = trimmed_end (trimmed_start bytes)

-- the text of an element without white space at its ends
abbrev pub trimmed_text : Element → Option (List ℕ)
trimmed_text e = option_map trimmed (text_among (parts_of e))

-- digits, at least one: their number, however great
abbrev pub digits_number : List ℕ → Option ℕ
digits_number digits =
    if not (is_nil digits) && all_ascii_digits digits then Some (digits_value 10 digits) else None

-- a plus, if there is one, and digits
abbrev pub whole_number : List ℕ → Option ℕ
whole_number bytes = digits_number (without_leading_plus bytes)

-- whether a mark says that something holds: `true` or `1`, without white space at its ends
abbrev pub is_true : List ℕ → Bool
is_true bytes = bytes_eq (trimmed bytes) (codes "true") || bytes_eq (trimmed bytes) (codes "1")

-- a text of one byte to so many, without white space at either end; other bytes have no value
unfoldable pub text_within : ℕ → List ℕ → Option (List ℕ)
text_within limit bytes = if is_text limit bytes then Some bytes else None
