-- Numbers and durations as they are written are texts of ASCII.
use Rattle.std.proofs.Common.{◌≡◌, ℕ, ◌+◌, ◌/◌, ◌%◌, ◌^◌, ◌≤◌, ◌<◌, Bool, true, false, List, [], ◌∷◌, ◌++◌, length}
use Rattle.std.proofs.Common.{refl, arith, subst, codes, decimal, nat_eq, nat_lt}
use Rattle.std.specs.List.{list_all}
use Rattle.std.specs.Str.Parse.{AllDigits}
use Rattle.std.proofs.lemmas.Bool.{and_parts}
use Rattle.std.proofs.lemmas.Bool.Decides.{nat_tests}
use Rattle.std.proofs.lemmas.Fmt.{decimal_is_IsNumeral, decimal_nonempty}
use Rattle.std.proofs.lemmas.List.Folds.{list_all-append}
use Rattle.std.proofs.lemmas.Str.Parse.{digit_from_value}
use Rattle.xml_chars.specs.Classes.{is_char}
use Rattle.soap_writer.specs.Plain.{is_ascii, is_plain_text, chars_from}
use Rattle.soap_writer.specs.Writable.{IsTextWritable}
use Rattle.rm_message.specs.Elements.Texts.{months_text, three_digits, seconds_text, time_text, lapse_text}
use Rattle.rm_message.specs.Elements.Writable.{IsNumber, IsLapseWritable}
use Rattle.rm_base.specs.declared.lapse.Lapse.{Lapse}

plain_both : (xs ys : List ℕ) → is_plain_text xs ≡ true → is_plain_text ys ≡ true → is_plain_text (xs ++ ys) ≡ true
plain_both xs ys e f =
    let (a, b) = and_parts (list_all is_char xs) (is_ascii xs) e in
    let (c, d) = and_parts (list_all is_char ys) (is_ascii ys) f in
    let chars = list_all-append is_char xs ys in
    let low = list_all-append (λ byte. nat_lt byte 128) xs ys in
    rw (chars, low, a, b, c, d) refl

plain_first : (c : ℕ) (cs : List ℕ) → is_char c ≡ true → nat_lt c 128 ≡ true → is_plain_text cs ≡ true
    → is_plain_text (c ∷ cs) ≡ true
plain_first c cs char low more =
    let (a, b) = and_parts (list_all is_char cs) (is_ascii cs) more in
    rw (char, low, a, b) refl

digit_char : (c : ℕ) → 48 ≤ c → c ≤ 57 → is_char c ≡ true
digit_char c low high = grind (arith, nat_tests)

digit_low : (c : ℕ) → c ≤ 57 → nat_lt c 128 ≡ true
digit_low c high = grind (arith, nat_tests)

digits_plain : (ds : List ℕ) → AllDigits 10 ds → is_plain_text ds ≡ true
digits_plain [] h = refl
digits_plain (c ∷ ds) h =
    let (low, high) = digit_from_value c h.0 in
    plain_first c ds (digit_char c low high) (digit_low c high) (digits_plain ds h.1)

decimal_plain : (n : ℕ) → n < 2 ^ 64 → is_plain_text (decimal n) ≡ true
decimal_plain n h = digits_plain (decimal n) (decimal_is_IsNumeral n h).0.1

some_there : (bs : List ℕ) → 0 < length bs → bs ≡ [] → ⊥
some_there bs some e = absurd (omega (arith, subst (λ (l : List ℕ). 0 < length l) e some))

pub number_writable : (n : ℕ) → IsNumber n → IsTextWritable (decimal n)
number_writable n is =
    let fits : n < 2 ^ 64 = omega (arith, is.high) in
    let some = some_there (decimal n) (decimal_nonempty n fits) in
    record { some = some; chars = chars_from (decimal n) (decimal_plain n fits) }

-- ---- durations

digit_first : (d : ℕ) (cs : List ℕ) → d ≤ 9 → is_plain_text cs ≡ true → is_plain_text ((48 + d) ∷ cs) ≡ true
digit_first d cs small more =
    plain_first (48 + d) cs (digit_char (48 + d) (omega arith) (omega (arith, small)))
    (digit_low (48 + d) (omega (arith, small))) more

three_plain : (n : ℕ) → n < 1000 → is_plain_text (three_digits n) ≡ true
three_plain n small =
    let tens = (n / 10) % 10 in
    digit_first (n / 100) ((48 + tens) ∷ (48 + n % 10) ∷ []) (omega (arith, small))
    (digit_first tens ((48 + n % 10) ∷ []) (omega arith) (digit_first (n % 10) [] (omega arith) refl))

seconds_plain : (ms : ℕ) → ms ≤ 1000000000000000 → is_plain_text (seconds_text ms) ≡ true
seconds_plain ms within = by_test (nat_eq (ms % 1000) 0) refl
  where
    fits : ms / 1000 < 2 ^ 64
    fits = omega (arith, within)

    by_test : (test : Bool) → nat_eq (ms % 1000) 0 ≡ test → is_plain_text (seconds_text ms) ≡ true
    by_test true e = rw e (decimal_plain (ms / 1000) fits)
    by_test false e =
        rw e (plain_both (decimal (ms / 1000)) (codes "." ++ three_digits (ms % 1000)) (decimal_plain (ms / 1000) fits)
        (plain_first 46 (three_digits (ms % 1000)) refl refl (three_plain (ms % 1000) (omega arith))))

time_plain : (ms : ℕ) → ms ≤ 1000000000000000 → is_plain_text (time_text ms) ≡ true
time_plain ms within = by_test (nat_eq ms 0) refl
  where
    by_test : (test : Bool) → nat_eq ms 0 ≡ test → is_plain_text (time_text ms) ≡ true
    by_test true e = rw e refl
    by_test false e =
        rw e (plain_first 84 (seconds_text ms ++ codes "S") refl refl
        (plain_both (seconds_text ms) (codes "S") (seconds_plain ms within) refl))

months_plain : (months : ℕ) → months < 2 ^ 64 → is_plain_text (months_text months) ≡ true
months_plain months fits = by_test (nat_eq months 0) refl
  where
    by_test : (test : Bool) → nat_eq months 0 ≡ test → is_plain_text (months_text months) ≡ true
    by_test true e = rw e refl
    by_test false e = rw e (plain_both (decimal months) (codes "M") (decimal_plain months fits) refl)

pub lapse_writable : (lapse : Lapse) → IsLapseWritable lapse → IsTextWritable (lapse_text lapse)
lapse_writable lapse is = record {
  some = λ e. cc;
  chars = chars_from (lapse_text lapse) (plain_first 80 (months_text lapse.months ++ time_text lapse.ms) refl refl
      (plain_both (months_text lapse.months) (time_text lapse.ms)
      (months_plain lapse.months (omega (arith, is.months))) (time_plain lapse.ms is.ms)));
}
