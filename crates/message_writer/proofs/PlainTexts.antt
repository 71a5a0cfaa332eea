-- Plain characters without white space at their ends are a text.
use Rattle.std.proofs.Common.{◌≡◌, ℕ, ◌-◌, ◌<◌, ◌≤◌, true, false, ◌&&◌, List, [], ◌∷◌, length, refl, ap, ◌∙◌}
use Rattle.std.specs.Prelude.{IsTrue, slice_index}
use Rattle.std.specs.List.{AllByRecursion, list_all}
use Rattle.std.specs.Str.{chars}
use Rattle.std.proofs.lemmas.Str.{chars-encodes}
use Rattle.xml_chars.specs.Classes.{is_char, is_space}
use Rattle.rm_base.specs.Text.{IsText}
use Rattle.soap_lex.specs.Characters.{IsChars}
use Rattle.soap_lex.specs.Scalars.{all_scalar, is_char-scalar, IsUtf8-IsChars}
use Rattle.soap_writer.specs.Plain.{is_plain_text, chars_from}

all_each : (cs : List ℕ) → AllByRecursion (λ c. IsTrue (is_char c)) cs → list_all is_char cs ≡ true
all_each [] each = refl
all_each (c ∷ cs) each = ap (λ b. b && list_all is_char cs) each.0 ∙ all_each cs each.1

each_char : (bytes : List ℕ) → IsChars bytes → list_all is_char (chars bytes) ≡ true
each_char bytes is =
    ap (λ cs. list_all is_char cs) (ap chars is.coded
    ∙ chars-encodes is.characters (all_scalar is_char is_char-scalar is.characters is.each))
    ∙ all_each is.characters is.each

pub plain_text : (limit : ℕ) (bytes : List ℕ) → is_plain_text bytes ≡ true → 0 < length bytes → length bytes ≤ limit
    → is_space (slice_index bytes 0) ≡ false → is_space (slice_index bytes (length bytes - 1)) ≡ false
    → IsText limit bytes
plain_text limit bytes plain some within begins ends = record {
  some = some;
  within = within;
  characters = record {
    utf8 = IsUtf8-IsChars bytes (chars_from bytes plain);
    each = each_char bytes (chars_from bytes plain);
  };
  trimmed = record { begins = begins; ends = ends };
}
