-- Names and characters of ASCII, which a test tells by computing: XML 1.0, sections 2.2 and 2.3.
use Rattle.std.specs.Prelude.{◌≡◌, ℕ, suc, ◌<◌, List, [], ◌∷◌, Bool, true, false, ◌&&◌, nat_lt, IsTrue}
use Rattle.std.specs.List.{AllByRecursion, list_all}
use Rattle.std.specs.Str.{IsAscii}
use Rattle.std.proofs.Common.{sym, arith, get_or}
use Rattle.std.proofs.lemmas.Bool.{and_parts, ltb-true}
use Rattle.std.proofs.lemmas.Str.{encodes-IsAscii}
use Prim.Native.Nat.{zero}
use Rattle.xml_chars.specs.Classes.{is_name_start, is_name_char, is_char}
use Rattle.soap_lex.specs.Characters.{IsChars, IsName}

-- below 128
abbrev pub is_ascii : List ℕ → Bool
is_ascii bytes = list_all (λ byte. nat_lt byte 128) bytes

-- an NCName of ASCII
abbrev pub is_plain_name : List ℕ → Bool
is_plain_name [] = false
is_plain_name (first ∷ others) = (is_name_start first && list_all is_name_char others) && is_ascii (first ∷ others)

-- characters of ASCII
abbrev pub is_plain_text : List ℕ → Bool
is_plain_text bytes = list_all is_char bytes && is_ascii bytes

low_at : (bytes : List ℕ) (i : ℕ) → is_ascii bytes ≡ true → get_or bytes i 0 < 128
low_at [] i e = omega arith
low_at (b ∷ bytes) zero e = ltb-true b 128 (and_parts (nat_lt b 128) _ e).0
low_at (b ∷ bytes) (suc i) e = low_at bytes i (and_parts (nat_lt b 128) _ e).1

ascii_from : (bytes : List ℕ) → is_ascii bytes ≡ true → IsAscii bytes
ascii_from bytes e i = low_at bytes i e

each_from : (p : ℕ → Bool) (xs : List ℕ) → list_all p xs ≡ true → AllByRecursion (λ c. IsTrue (p c)) xs
each_from p [] all = tt
each_from p (x ∷ xs) all = let (here, more) = and_parts (p x) (list_all p xs) all in (here, each_from p xs more)

-- it is a name
pub name_from : (bytes : List ℕ) → is_plain_name bytes ≡ true → IsName bytes
name_from [] e = cc
name_from (first ∷ others) e =
    let (names, low) = and_parts _ _ e in
    let (starts, each) = and_parts (is_name_start first) _ names in
    record {
      first = first;
      others = others;
      starts = starts;
      each = each_from is_name_char others each;
      coded = sym (encodes-IsAscii (first ∷ others) (ascii_from (first ∷ others) low));
    }

-- they are characters
pub chars_from : (bytes : List ℕ) → is_plain_text bytes ≡ true → IsChars bytes
chars_from bytes e =
    let (each, low) = and_parts (list_all is_char bytes) _ e in
    record {
      characters = bytes;
      each = each_from is_char bytes each;
      coded = sym (encodes-IsAscii bytes (ascii_from bytes low));
    }
