-- Runs of visible ASCII characters and spaces.
use Rattle.std.proofs.Common.{◌≡◌, ℕ, ◌<◌, true, List, ◌∷◌, [], length, get_or, take, sym, ap, ◌∙◌, arith}
use Rattle.std.specs.Prelude.{◌≤◌, ◌≢◌, IsTrue, map}
use Rattle.std.specs.List.{All}
use Rattle.std.specs.Str.{NonePass}
use Rattle.std.proofs.lemmas.List.{take_all}
use Rattle.std.proofs.lemmas.List.Elements.{All-weaker, All-same}
use Rattle.memchr.specs.Find.{is_byte}
use Rattle.xml_chars.specs.Classes.{is_char}
use Rattle.soap_lex.specs.Tests.{is_char_data, is_plain}
use Rattle.soap_lex.specs.Text.{with_line_ends}
use Rattle.soap_lex.specs.Value.{with_spaces, space_of, IsPlainValue}
use Rattle.soap_lex.proofs.CharsLemmas.{IsPlain, IsChars-ascii}
use Rattle.soap_lex.proofs.HoldsLemmas.{NonePass-from_places, lacks_each, lacks_first, ne_test}
use Rattle.soap_lex.proofs.LineLemmas.{line_ends-none, no_blanks}
use Rattle.soap_lex.proofs.TestLemmas.{data_passes, plain_passes}

-- an ASCII character of a document that is no control character, none of those that begin markup, and not that other
abbrev pub IsVisible : ℕ → ℕ → Type 0
IsVisible other byte =
    (byte < 128) × IsTrue (is_char byte) × (byte ≢ 60) × (byte ≢ 38) × (byte ≢ other) × (32 ≤ byte)

pub visible_all : (other n : ℕ) (bytes : List ℕ) → length bytes ≤ n → All (IsVisible other) (take n bytes)
    → All (IsVisible other) bytes
visible_all other n bytes h each = All-same (IsVisible other) bytes (take n bytes) (sym (take_all n bytes h)) each

visible_value : (other : ℕ) (bytes : List ℕ) → All (IsVisible other) bytes → IsPlainValue other bytes
visible_value other bytes each = record {
  chars = IsChars-ascii bytes (All-weaker (IsVisible other) IsPlain (λ x h. (h.0, h.1)) bytes each);
  no_less = lacks_each 60 bytes (λ k h. (each k 0 h).2);
  no_ampersand = lacks_each 38 bytes (λ k h. (each k 0 h).3);
  no_quote = lacks_each other bytes (λ k h. (each k 0 h).4);
}

pub visible_plain : (other : ℕ) (bytes : List ℕ) → All (IsVisible other) bytes → is_plain other bytes ≡ true
visible_plain other bytes each = plain_passes other bytes (visible_value other bytes each)

pub visible_data : (bytes : List ℕ) → All (IsVisible 93) bytes → is_char_data bytes ≡ true
visible_data bytes each =
    let value = visible_value 93 bytes each in
    data_passes bytes (record {
      chars = value.chars;
      no_less = value.no_less;
      no_ampersand = value.no_ampersand;
      no_close = lacks_first 93 (93 ∷ 62 ∷ []) bytes value.no_quote;
    })

-- none is a control character
visible_not : (control other : ℕ) (bytes : List ℕ) → control < 32 → All (IsVisible other) bytes
    → NonePass (is_byte control) bytes
visible_not control other bytes low each =
    NonePass-from_places (is_byte control) bytes (λ k h. ne_test (get_or bytes k 0) control (λ same.
    omega (arith, (each k 0 h).5, same)))

pub visible_lines : (other : ℕ) (bytes : List ℕ) → All (IsVisible other) bytes → with_line_ends bytes ≡ bytes
visible_lines other bytes each = line_ends-none bytes (visible_not 13 other bytes (omega arith) each)

pub visible_spaces : (other : ℕ) (bytes : List ℕ) → All (IsVisible other) bytes → with_spaces bytes ≡ bytes
visible_spaces other bytes each =
    ap (λ l. map space_of l) (visible_lines other bytes each)
    ∙ no_blanks bytes (visible_not 9 other bytes (omega arith) each) (visible_not 10 other bytes (omega arith) each)
