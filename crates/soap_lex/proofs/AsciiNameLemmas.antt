-- Names of ASCII characters.
use Rattle.std.proofs.Common.{ℕ, suc, ◌-◌, ◌≤◌, ◌<◌, List, [], ◌∷◌, length, get_or}
use Rattle.std.proofs.Common.{take, drop, sym, arith, inl, inr}
use Prim.Native.Nat.{zero}
use Rattle.std.specs.Prelude.{IsTrue}
use Rattle.std.specs.List.{All}
use Rattle.std.specs.Str.{IsAscii}
use Rattle.std.proofs.lemmas.Bool.{cases_lt}
use Rattle.std.proofs.lemmas.List.{get_or_past, take_all}
use Rattle.std.proofs.lemmas.List.Elements.{All-same}
use Rattle.std.proofs.lemmas.Str.{encodes-IsAscii}
use Rattle.xml_chars.specs.Classes.{is_name_start, is_name_char}
use Rattle.soap_lex.specs.Characters.{IsName}
use Rattle.soap_lex.proofs.CharsLemmas.{each-places}

-- an ASCII character that may stand in a name
abbrev pub IsNameByte : ℕ → Type 0
IsNameByte byte = (byte < 128) × IsTrue (is_name_char byte)

IsAscii-cons : (first : ℕ) (others : List ℕ) → first < 128 → IsAscii others → IsAscii (first ∷ others)
IsAscii-cons first others low later zero = low
IsAscii-cons first others low later (suc i) = later i

IsAscii-bytes : (bytes : List ℕ) → All IsNameByte bytes → IsAscii bytes
IsAscii-bytes bytes each i = elim (cases_lt i (length bytes)) [
  | inl within ↦ (each i 0 within).0
  | inr past ↦ rw (get_or_past bytes i 0 past) (omega arith)
]

pub IsName-ascii : (first : ℕ) (others : List ℕ) → first < 128 → IsTrue (is_name_start first) → All IsNameByte others
    → IsName (first ∷ others)
IsName-ascii first others low starts each = record {
  first = first;
  others = others;
  starts = starts;
  each = each-places is_name_char others (λ k h. (each k 0 h).1);
  coded = sym (encodes-IsAscii (first ∷ others) (IsAscii-cons first others low (IsAscii-bytes others each)));
}

-- of the bytes behind the first each may stand in a name
pub IsName-bytes : (bytes : List ℕ) → 1 ≤ length bytes → get_or bytes 0 0 < 128
    → IsTrue (is_name_start (get_or bytes 0 0)) → All IsNameByte (take (length bytes - 1) (drop 1 bytes))
    → IsName bytes
IsName-bytes [] some low starts each = absurd (omega arith)
IsName-bytes (first ∷ others) some low starts each =
    let whole = take_all (length (first ∷ others) - 1) others (omega arith) in
    IsName-ascii first others low starts (All-same IsNameByte others (take (length (first ∷ others) - 1) others) (sym
    whole) each)
