-- Laws: characters of a document, put together, and the bytes of those that are not of ASCII.
use Rattle.std.proofs.Common.{◌≡◌, ℕ, ◌<◌, ◌≤◌, true, List, [], ◌∷◌, ◌++◌, get_or, inl, inr, refl, sym, ap}
use Rattle.std.proofs.Common.{subst, ◌∙◌, arith}
use Rattle.std.specs.Prelude.{IsTrue, encode_utf8, encode_utf8_all}
use Rattle.std.specs.List.{AllByRecursion}
use Rattle.std.proofs.lemmas.Bool.{cases_lt}
use Rattle.std.proofs.lemmas.List.{append-nil, get_or_default}
use Rattle.std.proofs.lemmas.List.Elements.{recursion_from_All}
use Rattle.std.proofs.lemmas.Str.{encodes-append, encode_ascii, inside_one}
use Rattle.xml_chars.specs.Classes.{is_char}
use Rattle.soap_lex.specs.Characters.{IsChars}

-- each is a character of a document
abbrev pub AreChars : List ℕ → Type 0
AreChars cs = AllByRecursion (λ c. IsTrue (is_char c)) cs

each_append : (xs ys : List ℕ) → AreChars xs → AreChars ys → AreChars (xs ++ ys)
each_append [] ys a b = b
each_append (x ∷ xs) ys a b = (a.0, each_append xs ys a.1 b)

-- ---- characters, put together

pub chars_nil : IsChars []
chars_nil = record { characters = []; each = tt; coded = refl }

-- one after the other
pub chars_append : (xs ys : List ℕ) → IsChars xs → IsChars ys → IsChars (xs ++ ys)
chars_append xs ys a b = record {
  characters = a.characters ++ b.characters;
  each = each_append a.characters b.characters a.each b.each;
  coded = ap (λ l. l ++ ys) a.coded ∙ ap (λ l. encode_utf8_all a.characters ++ l) b.coded
      ∙ sym (encodes-append a.characters b.characters);
}

-- a character as its bytes
pub one_char : (c : ℕ) → is_char c ≡ true → IsChars (encode_utf8 c)
one_char c h = record { characters = c ∷ []; each = (h, tt); coded = sym (append-nil (encode_utf8 c)) }

pub ascii_char : (c : ℕ) → c < 128 → is_char c ≡ true → IsChars (c ∷ [])
ascii_char c low h = subst IsChars (encode_ascii c low) (one_char c h)

-- ---- the bytes of a character that is not of ASCII

-- none of ASCII
abbrev pub AreHigh : List ℕ → Type 0
AreHigh bytes = AllByRecursion (λ b. 128 ≤ b) bytes

high_byte : (c b : ℕ) → 128 ≤ c → (b < 128 → c ≡ b) → 128 ≤ b
high_byte c b high same = elim (cases_lt b 128) [
  | inl low ↦ absurd (omega (arith, same low))
  | inr far ↦ far
]

pub high_bytes : (c : ℕ) → 128 ≤ c → AreHigh (encode_utf8 c)
high_bytes c high = recursion_from_All (λ b. 128 ≤ b) (encode_utf8 c) (λ k d h.
    rw (get_or_default (encode_utf8 c) k d 0 h) (high_byte c (get_or (encode_utf8 c) k 0) high (inside_one c []
    (encode_utf8 c) k (sym (append-nil (encode_utf8 c))) h)))
