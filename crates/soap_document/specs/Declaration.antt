-- The test of an XML declaration, as the reader makes it.
use Rattle.std.specs.Prelude.{ℕ, List, [], ◌∷◌, Bool, false, ◌&&◌, ◌||◌, ◌==◌, if◌then◌else◌, Option, Some, None}
use Rattle.std.specs.Prelude.{codes, drop, length}
use Rattle.std.specs.Str.{bytes_eq, str_to_ascii_lowercase}
use Rattle.xml_chars.specs.Classes.{is_space}
use Rattle.soap_document.specs.Tokens.{cut}
use Rattle.soap_lex.specs.Tests.{begins}
use Rattle.soap_lex.specs.Bytes.{double_quote, single_quote}

-- the bytes from the first that is no white space
abbrev pub skip : List ℕ → List ℕ
skip [] = []
skip (b ∷ bytes) = if is_space b then skip bytes else b ∷ bytes

-- what follows the word
abbrev pub after : List ℕ → List ℕ → Option (List ℕ)
after word bytes = if begins word bytes then Some (drop (length word) bytes) else None

-- the word between quotes, and what follows
abbrev pub quoted : List ℕ → Option (List ℕ × List ℕ)
quoted [] = None
quoted (b ∷ bytes) = if (b == double_quote) || (b == single_quote) then cut b bytes else None

-- the value of a setting of this name, and what follows
abbrev pub valued : Option (List ℕ) → Option (List ℕ × List ℕ)
valued None = None
valued (Some bytes) = elim (after (codes "=") (skip bytes)) [ None ↦ None | Some rest ↦ quoted (skip rest) ]

-- a setting of this name with white space before it: its value, and what follows (2.8, production 24)
abbrev pub setting : List ℕ → List ℕ → Option (List ℕ × List ℕ)
setting name [] = None
setting name (b ∷ bytes) = if is_space b then valued (after name (skip bytes)) else None

-- the end of a declaration: white space and the question mark
abbrev pub ends : List ℕ → Bool
ends bytes = bytes_eq (skip bytes) (codes "?")

-- what may follow the encoding (2.9, production 32)
abbrev pub stands_alone : List ℕ → Bool
stands_alone bytes = elim (setting (codes "standalone") bytes) [
  | None ↦ ends bytes
  | Some p ↦ (bytes_eq p.0 (codes "yes") || bytes_eq p.0 (codes "no")) && ends p.1
]

-- what may follow the version (4.3.3, production 80)
abbrev pub is_encoded : List ℕ → Bool
is_encoded bytes = elim (setting (codes "encoding") bytes) [
  | None ↦ stands_alone bytes
  | Some p ↦ bytes_eq (str_to_ascii_lowercase p.0) (codes "utf-8") && stands_alone p.1
]

-- a version of 1.0, and what may follow it
abbrev pub is_versioned : Option (List ℕ × List ℕ) → Bool
is_versioned None = false
is_versioned (Some p) = bytes_eq p.0 (codes "1.0") && is_encoded p.1

-- what may follow the word xml
abbrev pub names_xml : Option (List ℕ) → Bool
names_xml None = false
names_xml (Some bytes) = is_versioned (setting (codes "version") bytes)

-- the bytes between <? and > are an XML declaration
unfoldable pub is_declaration : List ℕ → Bool
is_declaration bytes = names_xml (after (codes "xml") bytes)
