-- The reader of text, a byte at a time. It says how text is read, and nothing of what text is: that stands in Text. A
-- byte that ends a token has its meaning, and all others only lengthen the token.
use Rattle.std.specs.Prelude.{◌≡◌, ℕ, List, [], ◌∷◌, ◌++◌, Bool, true, false, not, ◌||◌, ◌==◌, if◌then◌else◌, Option}
use Rattle.std.specs.Prelude.{Some, None, codes, encode_utf8, length}
use Rattle.std.specs.Str.{bytes_eq}
use Rattle.soap_lex.specs.Text.{with_line_ends}
use Rattle.soap_lex.specs.Tests.{begins, is_char_data, is_cdata, is_comment, reference, without}
use Rattle.soap_lex.specs.Bytes.{less_than, greater_than, ampersand_sign, semicolon}

-- where the reader stands
pub data TextMode : Type 0 where
  -- in a run of characters; in a reference; behind a <, where a comment or a CDATA section may begin; in a comment; in
  -- a CDATA section; the bytes are no text
  chars referring opening commenting quoting refused : TextMode

-- the bytes of the token that is not ended, and the meaning so far
pub record TextState : Type 0 where
  pub mode : TextMode
  pub token : List ℕ
  pub text : List ℕ

-- nothing was read of this text, which goes on from another
abbrev pub begun : List ℕ → TextState
begun text = record { mode = chars; token = []; text = text }

-- whether a byte ends the token
abbrev pub stops : TextMode → ℕ → Bool
stops chars c = (c == less_than) || (c == ampersand_sign)
stops referring c = c == semicolon
stops opening c = true
stops commenting c = c == greater_than
stops quoting c = c == greater_than
stops refused c = true

-- the first bytes of a comment or of a CDATA section
abbrev pub opens : List ℕ → Bool
opens token = begins token (codes "<!--") || begins token (codes "<![CDATA[")

-- whether nothing more is read before this byte: text ends, or it was refused
abbrev pub halts_in : TextMode → List ℕ → Bool
halts_in chars token = false
halts_in referring token = false
halts_in opening token = not (opens token)
halts_in commenting token = false
halts_in quoting token = false
halts_in refused token = true

-- whether nothing more is read before this byte
abbrev pub halts : TextState → ℕ → Bool
halts s c = halts_in s.mode (s.token ++ c ∷ [])

-- whether a < was read last, which begins what is no text, or may yet begin a comment or a CDATA section
abbrev pub is_less_in : TextMode → List ℕ → Bool
is_less_in chars token = false
is_less_in referring token = false
is_less_in opening token = bytes_eq token (codes "<")
is_less_in commenting token = false
is_less_in quoting token = false
is_less_in refused token = false

-- whether a < was read last
abbrev pub is_less : TextState → Bool
is_less s = is_less_in s.mode s.token

-- whether the bytes are no text, whatever follows
abbrev pub is_refused : TextMode → Bool
is_refused chars = false
is_refused referring = false
is_refused opening = false
is_refused commenting = false
is_refused quoting = false
is_refused refused = true

-- the bytes are no text
abbrev pub refuse : TextState → TextState
refuse s = record s { mode = refused; token = [] }

-- the bytes only lengthen the token
abbrev pub longer : TextState → List ℕ → TextState
longer s bytes = record s { token = s.token ++ bytes }

-- a < or a & ends a run of characters
abbrev pub at_chars : TextState → ℕ → TextState
at_chars s c =
    if is_char_data s.token then
    (if c == less_than then record { mode = opening; token = less_than ∷ []; text = s.text ++ with_line_ends s.token }
    else record { mode = referring; token = ampersand_sign ∷ []; text = s.text ++ with_line_ends s.token })
    else refuse s

-- a reference ends
abbrev pub at_referring : TextState → Option ℕ → TextState
at_referring s None = refuse s
at_referring s (Some c) = begun (s.text ++ encode_utf8 c)

-- a byte behind a <
abbrev pub at_opening : TextState → List ℕ → TextState
at_opening s token =
    if bytes_eq token (codes "<!--") then record s { mode = commenting; token = [] }
    else if bytes_eq token (codes "<![CDATA[") then record s { mode = quoting; token = [] }
    else record s { token = token }

-- a comment ends, or holds a >
abbrev pub at_commenting : TextState → Option (List ℕ) → TextState
at_commenting s None = longer s (greater_than ∷ [])
at_commenting s (Some comment) = if is_comment comment then begun s.text else refuse s

-- what a CDATA section means, where it ended and is one
abbrev pub cdata_meaning : Option (List ℕ) → List ℕ
cdata_meaning None = []
cdata_meaning (Some bytes) = if is_cdata bytes then with_line_ends bytes else []

-- a CDATA section ends, or holds a >
abbrev pub at_quoting : TextState → Option (List ℕ) → TextState
at_quoting s None = longer s (greater_than ∷ [])
at_quoting s (Some bytes) = if is_cdata bytes then begun (s.text ++ with_line_ends bytes) else refuse s

-- what a byte that ends the token does
abbrev pub after_token : TextMode → TextState → ℕ → TextState
after_token chars s c = at_chars s c
after_token referring s c = at_referring s (reference (s.token ++ semicolon ∷ []))
after_token opening s c = at_opening s (s.token ++ c ∷ [])
after_token commenting s c = at_commenting s (without (codes "--") s.token)
after_token quoting s c = at_quoting s (without (codes "]]") s.token)
after_token refused s c = refuse s

-- what a byte does
abbrev pub step : TextState → ℕ → TextState
step s c = if stops s.mode c then after_token s.mode s c else longer s (c ∷ [])

-- the state, and the bytes that are left, where a token was ended or nothing more is read
abbrev pub to_stop : TextState → List ℕ → TextState × List ℕ
to_stop s [] = (s, [])
to_stop s (c ∷ bytes) =
    if halts s c then (s, c ∷ bytes) else if stops s.mode c then (step s c, bytes) else to_stop (step s c) bytes

-- the same where nothing more is read
abbrev pub run : TextState → List ℕ → TextState × List ℕ
run s [] = (s, [])
run s (c ∷ bytes) = if halts s c then (s, c ∷ bytes) else run (step s c) bytes

-- what the text means that ends here, and the bytes behind it that were taken
abbrev pub ended_in : TextMode → TextState → Option (List ℕ × List ℕ)
ended_in chars s = if is_char_data s.token then Some (s.text ++ with_line_ends s.token, []) else None
ended_in referring s = None
ended_in opening s = Some (s.text, s.token)
ended_in commenting s = None
ended_in quoting s = None
ended_in refused s = None

-- what the text means that ends here, and the bytes behind it that were taken
abbrev pub ended : TextState → Option (List ℕ × List ℕ)
ended s = ended_in s.mode s

-- with the number of those bytes
abbrev pub counted : Option (List ℕ × List ℕ) → Option (List ℕ × ℕ)
counted None = None
counted (Some p) = Some (p.0, length p.1)

-- with what follows those bytes
abbrev pub with_rest : Option (List ℕ × List ℕ) → List ℕ → Option (List ℕ × List ℕ)
with_rest None rest = None
with_rest (Some p) rest = Some (p.0, p.1 ++ rest)

-- what the text at the front means, and what follows it
abbrev pub reads : TextState → List ℕ → Option (List ℕ × List ℕ)
reads s bytes = with_rest (ended (run s bytes).0) (run s bytes).1

-- over the bytes it goes from one state to the other, and halts before none
pub data Takes : TextState → List ℕ → TextState → Type 0 where
  stay : (s : TextState) → Takes s [] s
  on : (s : TextState) (c : ℕ) (bytes : List ℕ) (t : TextState) → halts s c ≡ false → Takes (step s c) bytes t
      → Takes s (c ∷ bytes) t

-- in this mode, with this token and this meaning so far
abbrev pub text_in : List ℕ → TextMode → List ℕ → TextState
text_in text mode token = record { mode = mode; token = token; text = text }

-- where text ends: a token that is character data, which is not yet made text
pub record TextEnds (text bytes meaning : List ℕ) : Type 0 where
  pub before : List ℕ
  pub token : List ℕ
  pub passes : is_char_data token ≡ true
  pub sum : before ++ with_line_ends token ≡ text ++ meaning
  pub takes : Takes (begun text) bytes (text_in before chars token)
