-- The tests of whole tokens, as the reader makes them: each says whether the bytes are what its name says. Those of
-- text and of values are soap_lex's.
use Rattle.std.specs.Prelude.{ℕ, List, [], ◌∷◌, Bool, false, ◌&&◌, ◌==◌, if◌then◌else◌, Option, Some, None}
use Rattle.std.specs.List.{list_all}
use Rattle.std.specs.Str.{is_utf8, chars}
use Rattle.xml_chars.specs.Classes.{is_space, is_name_start, is_name_char}

-- white space, or nothing (2.3, production 3)
abbrev pub is_white : List ℕ → Bool
is_white bytes = list_all is_space bytes

-- characters of a name (Namespaces 2.1)
abbrev pub starts_name : List ℕ → Bool
starts_name [] = false
starts_name (c ∷ cs) = is_name_start c && list_all is_name_char cs

-- a name without a colon (Namespaces 2.1, production 4)
unfoldable pub is_name : List ℕ → Bool
is_name bytes = is_utf8 bytes && starts_name (chars bytes)

-- what stands before the first such byte, and what after it
abbrev pub cut : ℕ → List ℕ → Option (List ℕ × List ℕ)
cut k [] = None
cut k (b ∷ bytes) = if b == k then Some ([], bytes) else
    elim (cut k bytes) [ None ↦ None | Some p ↦ Some (b ∷ p.0, p.1) ]

-- a name, or a prefix and a local name (Namespaces 4, productions 7 to 11)
unfoldable pub is_qname : List ℕ → Bool
is_qname bytes = elim (cut 58 bytes) [ None ↦ is_name bytes | Some p ↦ is_name p.0 && is_name p.1 ]
