-- The prefixes that are written, and names with prefixes, cut at the colon.
use Rattle.std.proofs.Common.{◌≡◌, ℕ, ◌<◌, ◌≤◌, ◌^◌, List, [], ◌∷◌, ◌++◌, true, false, ◌||◌, codes, decimal, nat_eq}
use Rattle.std.proofs.Common.{drop, refl, sym, ap, ◌∙◌, arith}
use Rattle.std.specs.List.{AllByRecursion}
use Rattle.std.specs.Char.{digit_value}
use Rattle.std.specs.Str.Parse.{AllDigits}
use Rattle.std.proofs.Math.Bool.{or-true}
use Rattle.std.proofs.Math.Utf8.{encode}
use Rattle.std.proofs.lemmas.Bool.Decides.{nat_tests}
use Rattle.std.proofs.lemmas.Fmt.{decimal_is_IsNumeral, decimal_injective, IsAscii-from_digits}
use Rattle.std.proofs.lemmas.Str.{encodes-IsAscii}
use Rattle.std.proofs.lemmas.Str.Parse.{digit_from_value}
use Rattle.xml_chars.specs.Classes.{is_within, is_name_char, is_name_start, name_more_ranges}
use Rattle.soap_lex.specs.Characters.{IsName, IsChars}
use Rattle.soap_lex.specs.Facts.{all_weaker}
use Rattle.soap_document.specs.Cuts.{cut_none, cut-append}
use Rattle.soap_lex.specs.NameBytes.{IsNameByte, name_bytes}
use Rattle.soap_document.specs.Profile.Namespaces.{split}
use Rattle.soap_writer.specs.ElementText.{attribute_prefix}
use Rattle.soap_writer.specs.Plain.{name_from, chars_from}

-- ---- numbered prefixes

digit_within : (c : ℕ) → 48 ≤ c → c ≤ 57 → is_within name_more_ranges c ≡ true
digit_within c low high = grind (arith, nat_tests)

digit_names : (c : ℕ) → digit_value c < 10 → is_name_char c ≡ true
digit_names c small =
    let (low, high) = digit_from_value c small in
    ap (λ b. is_name_start c || b) (digit_within c low high) ∙ or-true (is_name_start c)

digits_name : (ds : List ℕ) → AllDigits 10 ds → AllByRecursion (λ c. is_name_char c ≡ true) ds
digits_name [] h = tt
digits_name (c ∷ ds) h = (digit_names c h.0, digits_name ds h.1)

pub attribute_prefix-IsName : (i : ℕ) → i < 2 ^ 64 → IsName (attribute_prefix i)
unfolding encode
attribute_prefix-IsName i h =
    let digits : AllDigits 10 (decimal i) = (decimal_is_IsNumeral i h).0.1 in
    record {
      first = 113;
      others = decimal i;
      starts = refl;
      each = digits_name (decimal i) digits;
      coded = ap (λ l. 113 ∷ l) (sym (encodes-IsAscii (decimal i) (IsAscii-from_digits (decimal i) digits)));
    }

pub attribute_prefix-injective : (i j : ℕ) → i < 2 ^ 64 → j < 2 ^ 64 → attribute_prefix i ≡ attribute_prefix j → i ≡ j
attribute_prefix-injective i j g h e = decimal_injective i j g h (ap (drop 1) e)

pub xml-IsName : IsName (codes "xml")
xml-IsName = name_from (codes "xml") refl

pub xmlns-IsName : IsName (codes "xmlns")
xmlns-IsName = name_from (codes "xmlns") refl

pub n-IsName : IsName (codes "n")
n-IsName = name_from (codes "n") refl

pub a-IsName : IsName (codes "a")
a-IsName = name_from (codes "a") refl

pub mark-IsName : IsName (codes "IsReferenceParameter")
mark-IsName = name_from (codes "IsReferenceParameter") refl

pub true-IsChars : IsChars (codes "true")
true-IsChars = chars_from (codes "true") refl

-- ---- names at their colon

no_colon : (name : List ℕ) → IsName name → AllByRecursion (λ c. nat_eq c 58 ≡ false) name
no_colon name is = all_weaker IsNameByte (λ c. nat_eq c 58 ≡ false) (λ c b. b 58 (omega arith) refl) name (name_bytes
    name is)

pub split_name : (name : List ℕ) → IsName name → split name ≡ ([], name)
split_name name is = rw (split, cut_none 58 name (no_colon name is)) refl

pub split_prefixed : (prefix local : List ℕ) → IsName prefix → split (prefix ++ (codes ":" ++ local)) ≡ (prefix, local)
split_prefixed prefix local is = rw (split, cut-append 58 prefix local (no_colon prefix is)) refl
