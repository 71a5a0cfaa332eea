-- Laws: a number that is written in decimal is read back.
use Rattle.std.proofs.Common.{◌≡◌, ℕ, ◌-◌, ◌^◌, ◌<◌, Bool, true, false, not, ◌&&◌, if◌then◌else◌, List, [], ◌∷◌}
use Rattle.std.proofs.Common.{length, get_or, drop, refl, ap, ap₂, ◌∙◌, arith, Option, Some, None, decimal, nat_eq}
use Rattle.std.proofs.Common.{cond}
use Rattle.std.specs.Prelude.{slice_index}
use Rattle.std.specs.Str.{all_ascii_digits}
use Rattle.std.specs.Str.Parse.{digits_value, without_leading_plus, AllDigits}
use Rattle.std.proofs.lemmas.Bool.Decides.{nat_tests}
use Rattle.std.proofs.lemmas.Fmt.{decimal_is_IsNumeral, digits_decimal, decimal_nonempty}
use Rattle.std.proofs.lemmas.Str.Parse.{digit_at, numerals_by_value, tells_all_ascii_digits}
use Rattle.xml_chars.specs.Classes.{is_space}
use Rattle.soap_lex.specs.Tests.{is_nil}
use Rattle.soap_writer.specs.Values.Values.{trimmed, digits_number, whole_number}
use Rattle.soap_writer.specs.Values.TrimLaws.{trimmed_same}

all_at : (ds : List ℕ) (i : ℕ) → AllDigits 10 ds → i < length ds → is_space (get_or ds i 0) ≡ false
all_at ds i h within = let place = digit_at ds i h within in grind (arith, nat_tests)

pub decimal_trimmed : (n : ℕ) → n < 2 ^ 64 → trimmed (decimal n) ≡ decimal n
decimal_trimmed n h =
    let digits : AllDigits 10 (decimal n) = (decimal_is_IsNumeral n h).0.1 in
    let some = decimal_nonempty n h in
    trimmed_same (decimal n) some (all_at (decimal n) 0 digits some)
    (all_at (decimal n) (length (decimal n) - 1) digits (omega (arith, some)))

some_is : (bs : List ℕ) → 0 < length bs → is_nil bs ≡ false
some_is [] some = absurd (omega (arith, some))
some_is (b ∷ bs) some = refl

pub decimal_number : (n : ℕ) → n < 2 ^ 64 → whole_number (decimal n) ≡ Some n
decimal_number n h =
    let numeral = decimal_is_IsNumeral n h in
    let digits : AllDigits 10 (decimal n) = numeral.0.1 in
    let value : digits_value 10 (decimal n) ≡ n = numeral.1 in
    let place = digit_at (decimal n) 0 digits (decimal_nonempty n h) in
    let first : nat_eq (slice_index (decimal n) 0) 43 ≡ false = grind (arith, nat_tests) in
    let plain : without_leading_plus (decimal n) ≡ decimal n = ap (λ b. drop (cond b 1 0) (decimal n)) first in
    let all : all_ascii_digits (decimal n) ≡ true = digits_decimal (numerals_by_value _ tells_all_ascii_digits) n h in
    let some : is_nil (decimal n) ≡ false = some_is (decimal n) (decimal_nonempty n h) in
    ap digits_number plain ∙ ap₂ (λ (a b : Bool). if not a && b then Some (digits_value 10 (decimal n)) else None)
    some all
    ∙ ap (λ v. Some v) value

-- trimmed or not
pub number_back : (n : ℕ) → n < 2 ^ 64 → whole_number (trimmed (decimal n)) ≡ Some n
number_back n h = ap whole_number (decimal_trimmed n h) ∙ decimal_number n h
