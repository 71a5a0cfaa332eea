-- One character of a document, as UTF-8.
use Rattle.std.specs.Prelude.{◌≡◌, ℕ, List, ◌++◌, IsTrue, encode_utf8}
use Rattle.xml_chars.specs.Classes.{is_char}

-- the bytes begin with a character of a document
pub record BeginsWithChar (bytes rest : List ℕ) : Type 0 where
  pub character : ℕ
  pub is : IsTrue (is_char character)
  pub there : bytes ≡ encode_utf8 character ++ rest
