-- Characters of XML and of names are scalar values, so what has them alone is UTF-8: lemmas that the layers above
-- need too.
use Rattle.std.proofs.Common.{◌≡◌, ℕ, inl, inr, Bool, true, ◌&&◌, ◌||◌, nat_lt, nat_le, List, [], ◌∷◌, refl}
use Rattle.std.proofs.Common.{sym, arith}
use Rattle.std.specs.List.{AllByRecursion, list_all}
use Rattle.std.specs.Str.{IsUtf8}
use Rattle.std.proofs.Math.Utf8.{scalar, scalars}
use Rattle.std.proofs.lemmas.Bool.{and_parts, or_cases}
use Rattle.std.proofs.lemmas.Bool.Decides.{nat_tests}
use Rattle.xml_chars.specs.Classes.{is_within, is_char, is_name_start, is_name_char, char_ranges, name_start_ranges}
use Rattle.xml_chars.specs.Classes.{name_more_ranges}
use Rattle.soap_lex.specs.Characters.{IsChars, IsName}

-- no surrogate, and none above the greatest
abbrev has_scalars : (ℕ × ℕ) → Bool
has_scalars range = nat_lt range.1 55296 || (nat_le 57344 range.0 && nat_lt range.1 1114112)

scalar_in : (low high c : ℕ) → (nat_lt high 55296 || (nat_le 57344 low && nat_lt high 1114112)) ≡ true
    → (nat_le low c && nat_le c high) ≡ true → scalar c ≡ true
scalar_in low high c fits within = grind (arith, nat_tests)

pub scalar_within : (ranges : List (ℕ × ℕ)) (c : ℕ) → list_all has_scalars ranges ≡ true → is_within ranges c ≡ true
    → scalar c ≡ true
scalar_within [] c fits within = cc
scalar_within (range ∷ ranges) c fits within =
    let (here, later) = and_parts (has_scalars range) (list_all has_scalars ranges) fits in
    elim (or_cases (nat_le range.0 c && nat_le c range.1) (is_within ranges c) within) [
      | inl now ↦ scalar_in range.0 range.1 c here now
      | inr then ↦ scalar_within ranges c later then
    ]

pub all_scalar : (p : ℕ → Bool) → ((c : ℕ) → p c ≡ true → scalar c ≡ true) → (cs : List ℕ) → AllByRecursion (λ c. p c
    ≡ true) cs → scalars cs ≡ true
all_scalar p fits [] each = refl
all_scalar p fits (c ∷ cs) each = rw (fits c each.0, all_scalar p fits cs each.1)

pub is_char-scalar : (c : ℕ) → is_char c ≡ true → scalar c ≡ true
is_char-scalar c h = scalar_within char_ranges c refl h

pub name_start-scalar : (c : ℕ) → is_name_start c ≡ true → scalar c ≡ true
name_start-scalar c h = scalar_within name_start_ranges c refl h

pub name_char-scalar : (c : ℕ) → is_name_char c ≡ true → scalar c ≡ true
name_char-scalar c h =
    elim (or_cases (is_name_start c) (is_within name_more_ranges c) h) [
      | inl starts ↦ name_start-scalar c starts
      | inr others ↦ scalar_within name_more_ranges c refl others
    ]

pub name_each : (bytes : List ℕ) (h : IsName bytes) → AllByRecursion (λ c. is_name_char c ≡ true) (h.first ∷ h.others)
name_each bytes h = (rw h.starts, h.each)

-- characters of XML are UTF-8
pub IsUtf8-IsChars : (bytes : List ℕ) → IsChars bytes → IsUtf8 bytes
IsUtf8-IsChars bytes is = (is.characters, (all_scalar is_char is_char-scalar is.characters is.each, sym is.coded))

-- and so are names
pub IsUtf8-IsName : (bytes : List ℕ) → IsName bytes → IsUtf8 bytes
IsUtf8-IsName bytes is = (
  is.first ∷ is.others,
  (all_scalar is_name_char name_char-scalar (is.first ∷ is.others) (name_each bytes is), sym is.coded),
)
