-- One character of a document, as UTF-8.
use Rattle.std.proofs.Common.{◌≡◌, ℕ, ◌+◌, ◌-◌, ◌*◌, ◌/◌, ◌%◌, ◌≤◌, ◌<◌, true, ◌&&◌, ◌||◌, cond, List, [], ◌∷◌, ◌++◌}
use Rattle.std.proofs.Common.{drop, sym, ap, subst, ◌∙◌, arith}
use Rattle.std.specs.Prelude.{◌↔◌, nat_le, IsTrue, encode_utf8}
use Rattle.std.specs.List.{AllByRecursion}
use Rattle.std.proofs.Math.Bool.{or-true}
use Rattle.std.proofs.Math.Dec.{ltb}
use Rattle.std.proofs.Math.Utf8.{encode}
use Rattle.std.proofs.lemmas.Bool.{le-leb, le-ltb, lt-ltb}
use Rattle.std.proofs.lemmas.Str.{cons_from_encodes}
use Rattle.xml_chars.specs.Classes.{is_within, is_char, char_ranges}
use Rattle.soap_lex.specs.Characters.{IsChars}
use Rattle.soap_lex.specs.Coded.{BeginsWithChar}

-- ---- a character before others

IsChars-behind : (bytes rest : List ℕ) → BeginsWithChar bytes rest → IsChars rest → IsChars bytes
IsChars-behind bytes rest h is = record {
  characters = h.character ∷ is.characters;
  each = (h.is, is.each);
  coded = h.there ∙ ap (λ l. encode_utf8 h.character ++ l) is.coded;
}

IsChars-rest : (bytes rest : List ℕ) → BeginsWithChar bytes rest → IsChars bytes → IsChars rest
IsChars-rest bytes rest h is =
    let parts = cons_from_encodes is.characters rest h.character (sym is.coded ∙ h.there) in
    record {
      characters = parts.0;
      each = (subst (λ cs. AllByRecursion (λ c. IsTrue (is_char c)) cs) parts.1 is.each).1;
      coded = sym parts.2;
    }

pub IsChars-past : (bytes rest : List ℕ) → BeginsWithChar bytes rest → IsChars rest ↔ IsChars bytes
IsChars-past bytes rest h = (IsChars-behind bytes rest h, IsChars-rest bytes rest h)

-- ---- the classes

-- what lies between the ends of a range lies in the ranges that hold it
within_range : (before : List (ℕ × ℕ)) (low high : ℕ) (after : List (ℕ × ℕ)) (c : ℕ) → low ≤ c → c ≤ high
    → is_within (before ++ (low, high) ∷ after) c ≡ true
within_range [] low high after c h k =
    ap (λ t. (t && nat_le c high) || is_within after c) (le-leb low c h)
    ∙ ap (λ t. (true && t) || is_within after c) (le-leb c high k)
within_range (range ∷ before) low high after c h k =
    ap (λ t. (nat_le range.0 c && nat_le c range.1) || t) (within_range before low high after c h k)
    ∙ or-true (nat_le range.0 c && nat_le c range.1)

pub low_char : (c : ℕ) → 0x20 ≤ c → c ≤ 0xD7FF → is_char c ≡ true
low_char c h k = within_range ((0x9, 0xA) ∷ (0xD, 0xD) ∷ []) 0x20 0xD7FF (drop 3 char_ranges) c h k

pub high_char : (c : ℕ) → 0xE000 ≤ c → c ≤ 0xFFFD → is_char c ≡ true
high_char c h k = within_range ((0x9, 0xA) ∷ (0xD, 0xD) ∷ (0x20, 0xD7FF) ∷ []) 0xE000 0xFFFD (drop 4 char_ranges) c h k

-- ---- the bytes of a character

encode_two : (c : ℕ) → 128 ≤ c → c < 2048 → encode c ≡ (192 + c / 64) ∷ (128 + c % 64) ∷ []
unfolding encode
encode_two c low high =
    ap (λ t. cond t (c ∷ []) (cond (ltb c 2048) ((192 + c / 64) ∷ (128 + c % 64) ∷ []) (cond (ltb c 65536) ((224 + c /
    4096) ∷ (128 + c / 64 % 64) ∷ (128 + c % 64) ∷ []) ((240 + c / 262144) ∷ (128 + c / 4096 % 64) ∷ (128 + c / 64 %
    64) ∷ (128 + c % 64) ∷ [])))) (le-ltb c 128 low)
    ∙ ap (λ t. cond t ((192 + c / 64) ∷ (128 + c % 64) ∷ []) (cond (ltb c 65536) ((224 + c / 4096) ∷ (128 + c / 64 %
    64) ∷ (128 + c % 64) ∷ []) ((240 + c / 262144) ∷ (128 + c / 4096 % 64) ∷ (128 + c / 64 % 64) ∷ (128 + c % 64) ∷
    []))) (lt-ltb c 2048 high)

encode_three : (c : ℕ) → 2048 ≤ c → c < 65536 → encode c
    ≡ (224 + c / 4096) ∷ (128 + c / 64 % 64) ∷ (128 + c % 64) ∷ []
unfolding encode
encode_three c low high =
    ap (λ t. cond t (c ∷ []) (cond (ltb c 2048) ((192 + c / 64) ∷ (128 + c % 64) ∷ []) (cond (ltb c 65536) ((224 + c /
    4096) ∷ (128 + c / 64 % 64) ∷ (128 + c % 64) ∷ []) ((240 + c / 262144) ∷ (128 + c / 4096 % 64) ∷ (128 + c / 64 %
    64) ∷ (128 + c % 64) ∷ [])))) (le-ltb c 128 (omega arith))
    ∙ ap (λ t. cond t ((192 + c / 64) ∷ (128 + c % 64) ∷ []) (cond (ltb c 65536) ((224 + c / 4096) ∷ (128 + c / 64 %
    64) ∷ (128 + c % 64) ∷ []) ((240 + c / 262144) ∷ (128 + c / 4096 % 64) ∷ (128 + c / 64 % 64) ∷ (128 + c % 64) ∷
    []))) (le-ltb c 2048 low)
    ∙ ap (λ t. cond t ((224 + c / 4096) ∷ (128 + c / 64 % 64) ∷ (128 + c % 64) ∷ []) ((240 + c / 262144) ∷ (128 + c /
    4096 % 64) ∷ (128 + c / 64 % 64) ∷ (128 + c % 64) ∷ [])) (lt-ltb c 65536 high)

-- what two bytes code
abbrev pub pair_number : ℕ → ℕ → ℕ
pair_number a b = (a - 192) * 64 + (b - 128)

pub two_coded : (a b : ℕ) (rest : List ℕ) → 194 ≤ a → a < 224 → 128 ≤ b → b < 192 → BeginsWithChar (a ∷ b ∷ rest) rest
two_coded a b rest ha ka hb kb =
    let c : ℕ = pair_number a b in
    let p : a ≡ 192 + c / 64 = omega arith in
    let q : b ≡ 128 + c % 64 = omega arith in
    record {
      character = c;
      is = low_char c (omega arith) (omega arith);
      there = (λ i. p i ∷ q i ∷ rest) ∙ ap (λ l. l ++ rest) (sym (encode_two c (omega arith) (omega arith)));
    }

-- what three bytes code
abbrev pub triple_number : ℕ → ℕ → ℕ → ℕ
triple_number a b c = (a - 224) * 4096 + (b - 128) * 64 + (c - 128)

pub three_coded : (a b c : ℕ) (rest : List ℕ) → 224 ≤ a → a < 240 → 128 ≤ b → b < 192 → 128 ≤ c → c < 192
    → 2048 ≤ triple_number a b c → is_char (triple_number a b c) ≡ true → BeginsWithChar (a ∷ b ∷ c ∷ rest) rest
three_coded a b c rest ha ka hb kb hc kc low is =
    let n : ℕ = triple_number a b c in
    let p : a ≡ 224 + n / 4096 = omega arith in
    let q : b ≡ 128 + n / 64 % 64 = omega arith in
    let r : c ≡ 128 + n % 64 = omega arith in
    record {
      character = n;
      is = is;
      there = (λ i. p i ∷ q i ∷ r i ∷ rest) ∙ ap (λ l. l ++ rest) (sym (encode_three n low (omega arith)));
    }
