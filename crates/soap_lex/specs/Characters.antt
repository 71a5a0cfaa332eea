-- Runs of characters and names, as UTF-8. XML 1.0, sections 2.2 and 2.3; Namespaces in XML 1.0, section 3.
use Rattle.std.specs.Prelude.{◌≡◌, ◌≢◌, ℕ, List, [], ◌∷◌, ◌++◌, IsTrue, encode_utf8_all}
use Rattle.std.specs.List.{AllByRecursion}
use Rattle.xml_chars.specs.Classes.{is_char, is_name_start, is_name_char}

-- the bytes are Char*
pub record IsChars (bytes : List ℕ) : Type 0 where
  pub characters : List ℕ
  pub each : AllByRecursion (λ c. IsTrue (is_char c)) characters
  pub coded : bytes ≡ encode_utf8_all characters

-- the word stands somewhere in the bytes
pub record Holds (bytes word : List ℕ) : Type 0 where
  pub before : List ℕ
  pub after : List ℕ
  pub there : bytes ≡ before ++ (word ++ after)

-- an NCName
pub record IsName (bytes : List ℕ) : Type 0 where
  pub first : ℕ
  pub others : List ℕ
  pub starts : IsTrue (is_name_start first)
  pub each : AllByRecursion (λ c. IsTrue (is_name_char c)) others
  pub coded : bytes ≡ encode_utf8_all (first ∷ others)

-- the bytes begin with a name of n bytes, and with no longer one
pub record IsLongestName (bytes : List ℕ) (name rest : List ℕ) : Type 0 where
  pub is : IsName name
  pub there : bytes ≡ name ++ rest
  pub longest : (more later : List ℕ) → more ≢ [] → rest ≡ more ++ later → IsName (name ++ more) → ⊥
