-- References: XML 1.0, section 4.1, productions 66 and 68, and section 4.6 for the five names.
use Rattle.std.specs.Prelude.{◌≢◌, ℕ, List, [], ◌++◌, IsTrue, codes}
use Rattle.std.specs.List.{AllByRecursion}
use Rattle.std.specs.Char.{is_ascii_digit, is_ascii_hexdigit}
use Rattle.std.specs.Str.Parse.{digits_value}
use Rattle.xml_chars.specs.Classes.{is_char}
use Rattle.soap_lex.specs.Bytes.{less_than, greater_than, ampersand_sign, double_quote, single_quote}

-- the bytes refer to this character
pub data IsReference : List ℕ → ℕ → Type 0 where
  ampersand : IsReference (codes "&amp;") ampersand_sign
  less : IsReference (codes "&lt;") less_than
  greater : IsReference (codes "&gt;") greater_than
  apostrophe : IsReference (codes "&apos;") single_quote
  quote : IsReference (codes "&quot;") double_quote
  decimal : (digits : List ℕ) → digits ≢ [] → AllByRecursion (λ d. IsTrue (is_ascii_digit d)) digits
      → IsTrue (is_char (digits_value 10 digits))
      → IsReference (codes "&#" ++ (digits ++ codes ";")) (digits_value 10 digits)
  hexadecimal : (digits : List ℕ) → digits ≢ [] → AllByRecursion (λ d. IsTrue (is_ascii_hexdigit d)) digits
      → IsTrue (is_char (digits_value 16 digits))
      → IsReference (codes "&#x" ++ (digits ++ codes ";")) (digits_value 16 digits)
