-- Text between tags: XML 1.0, section 2.4 (CharData), 2.5 (Comment), 2.7 (CDSect), 2.11 (line ends), 4.1 (references).
use Rattle.std.specs.Prelude.{ℕ, List, [], ◌∷◌, ◌++◌, Bool, false, ◌&&◌, ◌==◌, if◌then◌else◌, codes, encode_utf8}
use Rattle.soap_lex.specs.Characters.{IsChars, Holds}
use Rattle.soap_lex.specs.References.{IsReference}
use Rattle.soap_lex.specs.Bytes.{line_feed, carriage_return}

-- what a byte becomes, where after_return says that a CR stands just before it
abbrev pub line_end : Bool → ℕ → List ℕ
line_end after_return byte =
    if byte == carriage_return then line_feed ∷ []
    else if after_return && (byte == line_feed) then []
    else byte ∷ []

-- the same, where the byte before was a carriage return or was none
abbrev pub line_ends_after : Bool → List ℕ → List ℕ
line_ends_after after_return [] = []
line_ends_after after_return (byte ∷ bytes) =
    line_end after_return byte ++ line_ends_after (byte == carriage_return) bytes

-- each CR LF, and each CR that no LF follows, becomes LF
abbrev pub with_line_ends : List ℕ → List ℕ
with_line_ends bytes = line_ends_after false bytes

-- CharData: characters without markup and without "]]>"
pub record IsCharData (bytes : List ℕ) : Type 0 where
  pub chars : IsChars bytes
  pub no_less : ¬ (Holds bytes (codes "<"))
  pub no_ampersand : ¬ (Holds bytes (codes "&"))
  pub no_close : ¬ (Holds bytes (codes "]]>"))

-- CData: what may stand in a CDATA section
pub record IsCdata (bytes : List ℕ) : Type 0 where
  pub chars : IsChars bytes
  pub no_close : ¬ (Holds bytes (codes "]]>"))

-- what may stand in a comment: no "--" in it, and no "-" at its end
pub record IsComment (bytes : List ℕ) : Type 0 where
  pub chars : IsChars bytes
  pub no_dashes : ¬ (Holds (bytes ++ codes "-") (codes "--"))

-- markup that stands within text, and what it means
pub data IsMarkup : List ℕ → List ℕ → Type 0 where
  reference : (bytes : List ℕ) (c : ℕ) → IsReference bytes c → IsMarkup bytes (encode_utf8 c)
  cdata : (bytes : List ℕ) → IsCdata bytes
      → IsMarkup (codes "<![CDATA[" ++ (bytes ++ codes "]]>")) (with_line_ends bytes)
  comment : (bytes : List ℕ) → IsComment bytes → IsMarkup (codes "<!--" ++ (bytes ++ codes "-->")) []

-- text, and what it means: character data, with markup between
pub data IsText : List ℕ → List ℕ → Type 0 where
  run : (bytes : List ℕ) → IsCharData bytes → IsText bytes (with_line_ends bytes)
  more : (bytes markup meaning rest text : List ℕ) → IsCharData bytes → IsMarkup markup meaning → IsText rest text
      → IsText (bytes ++ (markup ++ rest)) (with_line_ends bytes ++ (meaning ++ text))
