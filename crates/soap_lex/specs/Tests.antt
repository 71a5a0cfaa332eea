-- The tests of whole tokens, as the readers make them: each says whether the bytes are what its name says.
use Rattle.std.specs.Prelude.{ℕ, List, [], ◌∷◌, ◌++◌, Bool, true, false, not, ◌&&◌, ◌||◌, ◌==◌, if◌then◌else◌, Option}
use Rattle.std.specs.Prelude.{Some, None, codes, drop}
use Rattle.std.specs.Char.{is_ascii_digit, is_ascii_hexdigit}
use Rattle.std.specs.Str.Parse.{digits_value}
use Rattle.std.specs.List.{list_all}
use Rattle.std.specs.Str.{is_utf8, chars, bytes_eq}
use Rattle.xml_chars.specs.Classes.{is_char}
use Rattle.soap_lex.specs.Bytes.{less_than, greater_than, ampersand_sign, semicolon, double_quote, single_quote}

-- the list is empty
abbrev pub is_nil : {X : Type 0} → List X → Bool
is_nil [] = true
is_nil (x ∷ xs) = false

-- the bytes begin with the word
abbrev pub begins : List ℕ → List ℕ → Bool
begins [] bytes = true
begins (w ∷ word) [] = false
begins (w ∷ word) (b ∷ bytes) = (w == b) && begins word bytes

-- the word stands somewhere in the bytes
abbrev pub holds : List ℕ → List ℕ → Bool
holds [] word = is_nil word
holds (b ∷ bytes) word = begins word (b ∷ bytes) || holds bytes word

-- characters of XML, in UTF-8 (2.2, production 2)
unfoldable pub is_chars : List ℕ → Bool
is_chars bytes = is_utf8 bytes && list_all is_char (chars bytes)

-- character data (2.4, production 14)
unfoldable pub is_char_data : List ℕ → Bool
is_char_data bytes = is_chars bytes && (not (holds bytes (codes "<")) && (not (holds bytes (codes "&"))
    && not (holds bytes (codes "]]>"))))

-- what stands in a CDATA section (2.7, production 20)
unfoldable pub is_cdata : List ℕ → Bool
is_cdata bytes = is_chars bytes && not (holds bytes (codes "]]>"))

-- what stands in a comment (2.5, production 15)
unfoldable pub is_comment : List ℕ → Bool
is_comment bytes = is_chars bytes && not (holds (bytes ++ codes "-") (codes "--"))

-- what stands in a value between these quotes, with no reference (2.3, production 10)
unfoldable pub is_plain : ℕ → List ℕ → Bool
is_plain quote bytes = is_chars bytes && (not (holds bytes (codes "<")) && (not (holds bytes (codes "&"))
    && not (holds bytes (quote ∷ []))))

-- the bytes without the semicolon at their end
abbrev pub before_semicolon : List ℕ → Option (List ℕ)
before_semicolon [] = None
before_semicolon (b ∷ bytes) = elim (before_semicolon bytes) [
  | None ↦ (if (b == semicolon) && is_nil bytes then Some [] else None)
  | Some front ↦ Some (b ∷ front)
]

-- the character with this number, written in these digits
abbrev pub character : (ℕ → Bool) → ℕ → Option (List ℕ) → Option ℕ
character is_digit base None = None
character is_digit base (Some digits) =
    if not (is_nil digits) && (list_all is_digit digits && is_char (digits_value base digits))
    then Some (digits_value base digits) else None

-- the character that a numeric reference refers to (4.1, production 66)
abbrev pub numbered : List ℕ → Option ℕ
numbered bytes =
    if begins (codes "&#x") bytes then character is_ascii_hexdigit 16 (before_semicolon (drop 3 bytes))
    else if begins (codes "&#") bytes then character is_ascii_digit 10 (before_semicolon (drop 2 bytes))
    else None

-- the character that the bytes refer to, if they do
unfoldable pub reference : List ℕ → Option ℕ
reference bytes =
    if bytes_eq bytes (codes "&amp;") then Some ampersand_sign
    else if bytes_eq bytes (codes "&lt;") then Some less_than
    else if bytes_eq bytes (codes "&gt;") then Some greater_than
    else if bytes_eq bytes (codes "&apos;") then Some single_quote
    else if bytes_eq bytes (codes "&quot;") then Some double_quote else numbered bytes

-- the front of the bytes, where they end in the word
abbrev pub without : List ℕ → List ℕ → Option (List ℕ)
without word [] = if is_nil word then Some [] else None
without word (b ∷ bytes) = if bytes_eq word (b ∷ bytes) then Some [] else
    elim (without word bytes) [ None ↦ None | Some front ↦ Some (b ∷ front) ]
