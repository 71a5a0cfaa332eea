-- Attribute values: XML 1.0, section 2.3 (AttValue), and section 3.3.3 (how the value of an attribute without a type is
-- normalised).
use Rattle.std.specs.Prelude.{ℕ, List, [], ◌∷◌, ◌++◌, ◌||◌, ◌==◌, if◌then◌else◌, map, codes, encode_utf8}
use Rattle.soap_lex.specs.Characters.{IsChars, Holds}
use Rattle.soap_lex.specs.References.{IsReference}
use Rattle.soap_lex.specs.Text.{with_line_ends}
use Rattle.soap_lex.specs.Bytes.{double_quote, single_quote, tab, line_feed, space_byte}

-- a tab and an LF become a space
abbrev pub space_of : ℕ → ℕ
space_of byte = if (byte == tab) || (byte == line_feed) then space_byte else byte

-- each tab, LF, CR LF, and CR that no LF follows, becomes one space
abbrev pub with_spaces : List ℕ → List ℕ
with_spaces bytes = map space_of (with_line_ends bytes)

-- characters that may stand between these quotes
pub record IsPlainValue (quote : ℕ) (bytes : List ℕ) : Type 0 where
  pub chars : IsChars bytes
  pub no_less : ¬ (Holds bytes (codes "<"))
  pub no_ampersand : ¬ (Holds bytes (codes "&"))
  pub no_quote : ¬ (Holds bytes (quote ∷ []))

-- what stands between these quotes, and what it means
pub data IsInner (quote : ℕ) : List ℕ → List ℕ → Type 0 where
  run : (bytes : List ℕ) → IsPlainValue quote bytes → IsInner quote bytes (with_spaces bytes)
  more : (bytes reference : List ℕ) (c : ℕ) (rest value : List ℕ) → IsPlainValue quote bytes → IsReference reference c
      → IsInner quote rest value
      → IsInner quote (bytes ++ (reference ++ rest)) (with_spaces bytes ++ (encode_utf8 c ++ value))

-- a value in either kind of quotes
pub data IsValue : List ℕ → List ℕ → Type 0 where
  double : (inner value : List ℕ) → IsInner double_quote inner value
      → IsValue (double_quote ∷ (inner ++ double_quote ∷ [])) value
  single : (inner value : List ℕ) → IsInner single_quote inner value
      → IsValue (single_quote ∷ (inner ++ single_quote ∷ [])) value
