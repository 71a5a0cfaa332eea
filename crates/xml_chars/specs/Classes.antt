-- The classes of characters of XML 1.0 (fifth edition), sections 2.2 and 2.3, each as the ranges that the standard
-- prints.
use Rattle.std.specs.Prelude.{ℕ, Bool, false, ◌&&◌, ◌||◌, nat_le, List, [], ◌∷◌}

-- c lies in one of the ranges, whose ends belong to them
abbrev pub is_within : List (ℕ × ℕ) → ℕ → Bool
is_within [] c = false
is_within (range ∷ ranges) c = (nat_le range.0 c && nat_le c range.1) || is_within ranges c

-- [2] Char
abbrev pub char_ranges : List (ℕ × ℕ)
char_ranges = (0x9, 0xA) ∷ (0xD, 0xD) ∷ (0x20, 0xD7FF) ∷ (0xE000, 0xFFFD) ∷ (0x10000, 0x10FFFF) ∷ []

-- [3] S, one character of it
abbrev pub space_ranges : List (ℕ × ℕ)
space_ranges = (0x9, 0xA) ∷ (0xD, 0xD) ∷ (0x20, 0x20) ∷ []

-- [4] NameStartChar without the colon: Namespaces in XML 1.0, [4] NCName
abbrev pub name_start_ranges : List (ℕ × ℕ)
name_start_ranges =
    (0x41, 0x5A) ∷ (0x5F, 0x5F) ∷ (0x61, 0x7A) ∷ (0xC0, 0xD6) ∷ (0xD8, 0xF6) ∷ (0xF8, 0x2FF) ∷ (0x370, 0x37D)
    ∷ (0x37F, 0x1FFF) ∷ (0x200C, 0x200D) ∷ (0x2070, 0x218F) ∷ (0x2C00, 0x2FEF) ∷ (0x3001, 0xD7FF) ∷ (0xF900, 0xFDCF)
    ∷ (0xFDF0, 0xFFFD) ∷ (0x10000, 0xEFFFF) ∷ []

-- [4a] NameChar has these besides
abbrev pub name_more_ranges : List (ℕ × ℕ)
name_more_ranges = (0x2D, 0x2E) ∷ (0x30, 0x39) ∷ (0xB7, 0xB7) ∷ (0x300, 0x36F) ∷ (0x203F, 0x2040) ∷ []

-- a character of XML (2.2, production 2)
abbrev pub is_char : ℕ → Bool
is_char c = is_within char_ranges c

-- a character of white space (2.3, production 3)
abbrev pub is_space : ℕ → Bool
is_space c = is_within space_ranges c

-- the first character of a name without a colon (2.3, production 4)
abbrev pub is_name_start : ℕ → Bool
is_name_start c = is_within name_start_ranges c

-- a further character of a name without a colon (2.3, production 4a)
abbrev pub is_name_char : ℕ → Bool
is_name_char c = is_name_start c || is_within name_more_ranges c
