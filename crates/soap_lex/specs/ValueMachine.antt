-- The reader of an attribute value behind its opening quote, a byte at a time, as TextMachine is that of text.
use Rattle.std.specs.Prelude.{◌≡◌, ℕ, List, [], ◌∷◌, ◌++◌, Bool, true, false, ◌||◌, ◌==◌, if◌then◌else◌, Option, Some}
use Rattle.std.specs.Prelude.{None, encode_utf8}
use Rattle.soap_lex.specs.Value.{with_spaces}
use Rattle.soap_lex.specs.Tests.{is_plain, reference}
use Rattle.soap_lex.specs.Bytes.{ampersand_sign, semicolon}

-- where the reader stands
pub data ValueMode : Type 0 where
  -- in a run of characters; in a reference; behind the closing quote; the bytes are no value
  plain referring closed refused : ValueMode

-- the bytes of the token that is not ended, and the meaning so far
pub record ValueState : Type 0 where
  pub mode : ValueMode
  pub quote : ℕ
  pub token : List ℕ
  pub value : List ℕ

-- nothing was read of this value, which goes on from another
abbrev pub begun : ℕ → List ℕ → ValueState
begun quote value = record { mode = plain; quote = quote; token = []; value = value }

-- whether a byte ends the token
abbrev pub stops : ValueMode → ℕ → ℕ → Bool
stops plain quote c = (c == quote) || (c == ampersand_sign)
stops referring quote c = c == semicolon
stops closed quote c = true
stops refused quote c = true

-- whether nothing more is read
abbrev pub halts : ValueMode → Bool
halts plain = false
halts referring = false
halts closed = true
halts refused = true

-- the bytes are no value
abbrev pub refuse : ValueState → ValueState
refuse s = record s { mode = refused; token = [] }

-- the bytes only lengthen the token
abbrev pub longer : ValueState → List ℕ → ValueState
longer s bytes = record s { token = s.token ++ bytes }

-- the quote or a & ends a run of characters
abbrev pub at_plain : ValueState → ℕ → ValueState
at_plain s c =
    if is_plain s.quote s.token then
    (if c == ampersand_sign
    then record s { mode = referring; token = ampersand_sign ∷ []; value = s.value ++ with_spaces s.token }
    else record s { mode = closed; token = []; value = s.value ++ with_spaces s.token })
    else refuse s

-- a reference ends
abbrev pub at_referring : ValueState → Option ℕ → ValueState
at_referring s None = refuse s
at_referring s (Some c) = begun s.quote (s.value ++ encode_utf8 c)

-- what a byte that ends the token does
abbrev pub after_token : ValueMode → ValueState → ℕ → ValueState
after_token plain s c = at_plain s c
after_token referring s c = at_referring s (reference (s.token ++ semicolon ∷ []))
after_token closed s c = refuse s
after_token refused s c = refuse s

-- what a byte does
abbrev pub step : ValueState → ℕ → ValueState
step s c = if stops s.mode s.quote c then after_token s.mode s c else longer s (c ∷ [])

-- the state, and the bytes that are left, where a token was ended or nothing more is read
abbrev pub to_stop : ValueState → List ℕ → ValueState × List ℕ
to_stop s [] = (s, [])
to_stop s (c ∷ bytes) =
    if halts s.mode then (s, c ∷ bytes) else if stops s.mode s.quote c then (step s c, bytes)
    else to_stop (step s c) bytes

-- the same where nothing more is read
abbrev pub run : ValueState → List ℕ → ValueState × List ℕ
run s [] = (s, [])
run s (c ∷ bytes) = if halts s.mode then (s, c ∷ bytes) else run (step s c) bytes

-- whether the closing quote was read
abbrev pub is_closed : ValueMode → Bool
is_closed plain = false
is_closed referring = false
is_closed closed = true
is_closed refused = false

-- whether the bytes are no value, whatever follows
abbrev pub is_refused : ValueMode → Bool
is_refused plain = false
is_refused referring = false
is_refused closed = false
is_refused refused = true

-- what the value at the front means, and what follows it
abbrev pub reads : ValueState → List ℕ → Option (List ℕ × List ℕ)
reads s bytes = if is_closed (run s bytes).0.mode then Some ((run s bytes).0.value, (run s bytes).1) else None

-- over the bytes it goes from one state to the other, and halts before none
pub data Takes : ValueState → List ℕ → ValueState → Type 0 where
  stay : (s : ValueState) → Takes s [] s
  on : (s : ValueState) (c : ℕ) (bytes : List ℕ) (t : ValueState) → halts s.mode ≡ false → Takes (step s c) bytes t
      → Takes s (c ∷ bytes) t

-- closed, with this meaning
abbrev pub closed_with : ℕ → List ℕ → ValueState
closed_with quote value = record { mode = closed; quote = quote; token = []; value = value }
