-- Where text, an attribute value and a name end in the bytes.
use Rattle.std.specs.Prelude.{◌≡◌, ◌⊎◌, ℕ, ◌-◌, ◌≤◌, Bool, true, List, [], ◌∷◌, ◌++◌, length, take, drop, codes}
use Rattle.std.specs.Prelude.{encode_utf8, encode_utf8_all, IsTrue, ⊤}
use Rattle.std.specs.Prelude.{Result, Ok, Err}
use Rattle.std.specs.List.{AllByRecursion}
use Rattle.xml_chars.specs.Classes.{is_name_char}
use Rattle.soap_lex.specs.declared.error.LexError.{LexError}
use Rattle.soap_lex.specs.declared.error.LexError.TheVariants.{Memory, NotProfile}
use Rattle.soap_lex.specs.Text.{IsText}
use Rattle.soap_lex.specs.Value.{IsValue}
use Rattle.soap_lex.specs.Bytes.{less_than}

-- text ends before these bytes: there are none, or they begin with a < that begins no CDATA section and no comment
pub record EndsText (rest : List ℕ) : Type 0 where
  pub less_or_none : (rest ≡ []) ⊎ ((after : List ℕ) × (rest ≡ less_than ∷ after))
  pub no_cdata : (after : List ℕ) → rest ≡ codes "<![CDATA[" ++ after → ⊥
  pub no_comment : (after : List ℕ) → rest ≡ codes "<!--" ++ after → ⊥

-- the bytes are text with this meaning, and a rest before which text ends
pub record IsTextFirst (bytes text rest meaning : List ℕ) : Type 0 where
  pub there : bytes ≡ text ++ rest
  pub is : IsText text meaning
  pub ends : EndsText rest

-- the bytes are an attribute value with this meaning, and a rest
pub record IsValueFirst (bytes value rest meaning : List ℕ) : Type 0 where
  pub there : bytes ≡ value ++ rest
  pub is : IsValue value meaning

-- the text at a place ends there, and its meaning was appended
pub record ReadsText (bytes : List ℕ) (at end : ℕ) (old new : List ℕ) : Type 0 where
  pub meaning : List ℕ
  pub low : at ≤ end
  pub high : end ≤ length bytes
  pub first : IsTextFirst (drop at bytes) (take (end - at) (drop at bytes)) (drop end bytes) meaning
  pub appended : new ≡ old ++ meaning

-- the attribute value at a place ends there, and its meaning was appended
pub record ReadsValue (bytes : List ℕ) (at end : ℕ) (old new : List ℕ) : Type 0 where
  pub meaning : List ℕ
  pub low : at ≤ end
  pub high : end ≤ length bytes
  pub first : IsValueFirst (drop at bytes) (take (end - at) (drop at bytes)) (drop end bytes) meaning
  pub appended : new ≡ old ++ meaning

-- a reading that ends there, or wants memory
abbrev pub EndsOrWants : Result ℕ LexError → ℕ → Type 0
EndsOrWants (Ok end) n = end ≡ n
EndsOrWants (Err error) n = error ≡ Memory

-- P holds where the error says that the bytes are refused
abbrev pub OnRefusal : LexError → Type 0 → Type 0
OnRefusal Memory P = ⊤
OnRefusal NotProfile P = P

-- there is no byte, or the first passes the test
abbrev pub Stops : (ℕ → Bool) → List ℕ → Type 0
Stops test [] = ⊤
Stops test (x ∷ bytes) = test x ≡ true

-- the first n bytes are characters that may stand in a name, and no such character follows
pub record IsNameRun (text : List ℕ) (n : ℕ) : Type 0 where
  pub characters : List ℕ
  pub each : AllByRecursion (λ c. IsTrue (is_name_char c)) characters
  pub there : text ≡ encode_utf8_all characters ++ drop n text
  pub size : length (encode_utf8_all characters) ≡ n
  pub ends : (c : ℕ) (more : List ℕ) → drop n text ≡ encode_utf8 c ++ more → IsTrue (is_name_char c) → ⊥
