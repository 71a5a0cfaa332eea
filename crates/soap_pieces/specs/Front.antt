-- How much of some bytes is UTF-8.
use Rattle.std.specs.Prelude.{◌≡◌, ◌+◌, ◌≤◌, ℕ, List, [], ◌++◌, Option, Some, None, length}
use Rattle.std.specs.Str.{IsUtf8}
use Rattle.soap_pieces.specs.declared.front.Front.{Front}

-- no front of these bytes is UTF-8, but the empty one
abbrev pub IsStuck : List ℕ → Type 0
IsStuck rest = (front more : List ℕ) → rest ≡ front ++ more → IsUtf8 front → front ≡ []

-- these bytes, or bytes that are too long to begin a character
abbrev pub IsTail : Option (List ℕ) → List ℕ → Type 0
IsTail (Some tail) rest = tail ≡ rest
IsTail None rest = 4 ≤ length rest

-- how many bytes are kept
abbrev pub tail_len : Option (List ℕ) → ℕ
tail_len (Some tail) = length tail
tail_len None = 0

-- the bytes are as many bytes of UTF-8, and behind these the tail, of which no front is UTF-8
pub record IsFront (f : Front) (bytes : List ℕ) : Type 0 where
  pub text : List ℕ
  pub rest : List ℕ
  pub is : bytes ≡ text ++ rest
  pub valid : IsUtf8 text
  pub count : f.valid ≡ length text
  pub stuck : IsStuck rest
  pub tail : IsTail f.tail rest

-- how many of the bytes are told or kept
abbrev pub front_len : Front → ℕ
front_len f = f.valid + tail_len f.tail
