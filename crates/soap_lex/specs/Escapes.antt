-- What is written for text and for an attribute value between double quotes: XML 1.0, section 2.4, and sections 2.11
-- and 3.3.3 for the white space that a reader would otherwise change.
use Rattle.std.specs.Prelude.{ℕ, Bool, List, [], ◌∷◌, ◌==◌, if◌then◌else◌, codes}
use Rattle.std.specs.List.{flat_map}
use Rattle.soap_lex.specs.Bytes.{less_than, greater_than, ampersand_sign, double_quote, tab, line_feed, carriage_return}

-- a byte in text
abbrev pub text_escape : ℕ → List ℕ
text_escape byte =
    if byte == ampersand_sign then codes "&amp;"
    else if byte == less_than then codes "&lt;"
    else if byte == greater_than then codes "&gt;"
    else if byte == carriage_return then codes "&#13;" else byte ∷ []

-- a byte in an attribute value
abbrev pub value_escape : ℕ → List ℕ
value_escape byte =
    if byte == double_quote then codes "&quot;"
    else if byte == tab then codes "&#9;"
    else if byte == line_feed then codes "&#10;"
    else text_escape byte

-- a byte in a value where quoted says so, else in text
abbrev pub escape_of : Bool → ℕ → List ℕ
escape_of quoted byte = if quoted then value_escape byte else text_escape byte

-- what text is written as (2.4)
abbrev pub escaped_text : List ℕ → List ℕ
escaped_text bytes = flat_map text_escape bytes

-- what a value is written as, between double quotes (2.3, production 10)
abbrev pub escaped_value : List ℕ → List ℕ
escaped_value bytes = flat_map value_escape bytes
