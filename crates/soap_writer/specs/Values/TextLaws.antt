-- Laws: the test of a text tells what a text is, and a text is trimmed.
use Rattle.std.proofs.Common.{◌≡◌, ℕ, ◌-◌, ◌<◌, Bool, true, false, if◌then◌else◌, List, [], ◌∷◌}
use Rattle.std.proofs.Common.{length, get_or, suc, ap, ◌∙◌, refl, arith, subst, Some, None, nat_lt, nat_le}
use Rattle.std.specs.Prelude.{slice_index}
use Rattle.std.specs.List.{list_all}
use Prim.Native.Nat.{zero}
use Rattle.std.specs.Str.{IsAscii}
use Rattle.std.proofs.lemmas.Bool.{and_parts, ltb-true, leb-true}
use Rattle.std.proofs.lemmas.Str.{IsUtf8-from_ascii, chars-IsAscii}
use Rattle.xml_chars.specs.Classes.{is_space, is_char}
use Rattle.rm_base.specs.Text.{IsText, is_text, IsTextError}
use Rattle.rm_base.specs.TextLemmas.{is_text-IsText, IsText-is_text}
use Rattle.rm_base.specs.declared.text.TextError.{TextError}
use Rattle.rm_base.specs.declared.text.TextError.TheVariants as texts
use Rattle.soap_writer.specs.Values.Outcome.{Fails}
use Rattle.soap_writer.specs.Values.Steps.{flaw_from}
use Rattle.soap_writer.specs.Values.Values.{trimmed, text_within}
use Rattle.soap_writer.specs.Values.TrimLaws.{trimmed_same}

pub text_trimmed : (limit : ℕ) (bs : List ℕ) → IsText limit bs → trimmed bs ≡ bs
text_trimmed limit bs is = trimmed_same bs is.some is.trimmed.begins is.trimmed.ends

-- a text has the value that it is
pub text_is : (limit : ℕ) (bs : List ℕ) → IsText limit bs → text_within limit bs ≡ Some bs
unfolding text_within
text_is limit bs is = rw (IsText-is_text limit bs is) refl

none_from : (limit : ℕ) (bs : List ℕ) (b : Bool) → is_text limit bs ≡ b → (IsText limit bs → ⊥)
    → (if b then Some bs else None) ≡ None
none_from limit bs true e h = absurd (h (is_text-IsText limit bs e))
none_from limit bs false e h = refl

-- why there is no text is a flaw
pub no_text : (limit : ℕ) (bs : List ℕ) (e : TextError) → IsTextError limit bs e
    → Fails (flaw_from e) (text_within limit bs)
unfolding text_within
no_text limit bs texts.Memory h = tt
no_text limit bs texts.Empty h = none_from limit bs (is_text limit bs) refl
    (λ is. absurd (omega (arith, subst (λ (l : List ℕ). 0 < length l) h is.some)))
no_text limit bs (texts.TooLong len) h = none_from limit bs (is_text limit bs) refl
    (λ is. absurd (omega (arith, h.0, is.within)))
no_text limit bs texts.NotText h = none_from limit bs (is_text limit bs) refl h.2

-- a text is read back, also trimmed
pub text_back : (limit : ℕ) (bs : List ℕ) → IsText limit bs → text_within limit (trimmed bs) ≡ Some bs
text_back limit bs is = ap (text_within limit) (text_trimmed limit bs is) ∙ text_is limit bs is

low_at : (bytes : List ℕ) (i : ℕ) → list_all (λ c. nat_lt c 128) bytes ≡ true → get_or bytes i 0 < 128
low_at [] i e = omega arith
low_at (b ∷ bytes) zero e = ltb-true b 128 (and_parts (nat_lt b 128) _ e).0
low_at (b ∷ bytes) (suc i) e = low_at bytes i (and_parts (nat_lt b 128) _ e).1

-- a literal of ASCII, whose tests compute, is a text
pub literal_is_text : (limit : ℕ) (bytes : List ℕ) → list_all (λ c. nat_lt c 128) bytes ≡ true
    → list_all is_char bytes ≡ true → nat_lt 0 (length bytes) ≡ true → nat_le (length bytes) limit ≡ true
    → is_space (slice_index bytes 0) ≡ false → is_space (slice_index bytes (length bytes - 1)) ≡ false
    → IsText limit bytes
literal_is_text limit bytes low each some short first last =
    let ascii : IsAscii bytes = λ i. low_at bytes i low in
    record {
      some = ltb-true 0 (length bytes) some;
      within = leb-true (length bytes) limit short;
      characters = record {
        utf8 = IsUtf8-from_ascii bytes ascii;
        each = ap (list_all is_char) (chars-IsAscii bytes ascii) ∙ each;
      };
      trimmed = record { begins = first; ends = last };
    }
