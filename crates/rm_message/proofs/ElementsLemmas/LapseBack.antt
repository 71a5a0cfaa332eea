-- Durations are read back as they were written.
use Rattle.std.proofs.Common.{◌≡◌, ℕ, ◌+◌, ◌*◌, ◌/◌, ◌%◌, ◌^◌, ◌≤◌, ◌<◌, Bool, true, false, ◌&&◌, List, [], ◌∷◌}
use Rattle.std.proofs.Common.{◌++◌, length, refl, ap, ap₂, ◌∙◌, append_assoc, arith, Option, Some, option_map}
use Rattle.std.proofs.Common.{decimal, nat_eq}
use Rattle.std.specs.Char.{is_ascii_digit, digit_value}
use Rattle.std.specs.Str.{all_ascii_digits}
use Rattle.std.specs.Str.Parse.{digits_value}
use Rattle.std.proofs.lemmas.Bool.{and_parts, le-leb, eqb-true}
use Rattle.std.proofs.lemmas.Bool.Decides.{nat_tests}
use Rattle.std.proofs.lemmas.Fmt.{decimal_is_IsNumeral, digits_decimal, decimal_nonempty}
use Rattle.std.proofs.lemmas.List.{append-nil}
use Rattle.std.proofs.lemmas.Str.Parse.{numerals_by_value, tells_all_ascii_digits}
use Rattle.rm_message.specs.Elements.Deadline.{IsZero}
use Rattle.rm_message.specs.Elements.Duration.{digits_of, behind_digits, behind_letter, is_empty, Field, absent}
use Rattle.rm_message.specs.Elements.Duration.{field_before, field, thousandths, is_some_part, Seconds, with_fraction}
use Rattle.rm_message.specs.Elements.Duration.{seconds_before, seconds, time_of, time_in, with_date, dated, date_in}
use Rattle.rm_message.specs.Elements.Duration.{lapse_of, lapse_from, duration_in}
use Rattle.rm_message.specs.Elements.Texts.{months_text, three_digits, seconds_text, time_text, lapse_text}
use Rattle.rm_message.specs.Elements.Writable.{IsLapseWritable}
use Rattle.rm_message.specs.declared.elements.duration.Span.{Span}
use Rattle.rm_base.specs.declared.lapse.Lapse.{Lapse}

-- ---- digits before another byte

front_digits : (ds rest : List ℕ) (b : ℕ) → all_ascii_digits ds ≡ true → is_ascii_digit b ≡ false
    → digits_of (ds ++ b ∷ rest) ≡ ds
front_digits [] rest b all other = rw other refl
front_digits (d ∷ ds) rest b all other =
    let (here, more) = and_parts (is_ascii_digit d) (all_ascii_digits ds) all in
    rw here (ap (λ l. d ∷ l) (front_digits ds rest b more other))

past_digits : (ds rest : List ℕ) (b : ℕ) → all_ascii_digits ds ≡ true → is_ascii_digit b ≡ false
    → behind_digits (ds ++ b ∷ rest) ≡ b ∷ rest
past_digits [] rest b all other = rw other refl
past_digits (d ∷ ds) rest b all other =
    let (here, more) = and_parts (is_ascii_digit d) (all_ascii_digits ds) all in
    rw here (past_digits ds rest b more other)

some_there : (bs : List ℕ) → 0 < length bs → is_empty bs ≡ false
some_there [] some = absurd (omega (arith, some))
some_there (b ∷ bs) some = refl

decimal_digits : (n : ℕ) → n < 2 ^ 64 → all_ascii_digits (decimal n) ≡ true
decimal_digits n h = digits_decimal (numerals_by_value _ tells_all_ascii_digits) n h

-- ---- fields

-- a number and another byte, as they are told apart
number_first : (letter n b : ℕ) (rest : List ℕ) → n < 2 ^ 64 → is_ascii_digit b ≡ false
    → field letter (decimal n ++ b ∷ rest)
    ≡ field_before (decimal n) (decimal n ++ b ∷ rest) (behind_letter letter (b ∷ rest))
number_first letter n b rest h other =
    ap₂ (λ (x y : List ℕ). field_before x (decimal n ++ b ∷ rest) (behind_letter letter y))
    (front_digits (decimal n) rest b (decimal_digits n h) other)
    (past_digits (decimal n) rest b (decimal_digits n h) other)

field_there : (letter n : ℕ) (rest : List ℕ) → n < 2 ^ 64 → is_ascii_digit letter ≡ false
    → nat_eq letter letter ≡ true
    → field letter (decimal n ++ letter ∷ rest) ≡ record { number = n; is_there = true; rest = rest }
field_there letter n rest h other same =
    let some = some_there (decimal n) (decimal_nonempty n h) in
    let value : digits_value 10 (decimal n) ≡ n = (decimal_is_IsNumeral n h).1 in
    number_first letter n letter rest h other ∙ rw (same, some, value) refl

field_absent : (letter n b : ℕ) (rest : List ℕ) → n < 2 ^ 64 → is_ascii_digit b ≡ false → nat_eq b letter ≡ false
    → field letter (decimal n ++ b ∷ rest) ≡ absent (decimal n ++ b ∷ rest)
field_absent letter n b rest h other differs = number_first letter n b rest h other ∙ rw differs refl

-- ---- seconds

seconds_first : (n b : ℕ) (rest : List ℕ) → n < 2 ^ 64 → is_ascii_digit b ≡ false
    → seconds (decimal n ++ b ∷ rest)
    ≡ seconds_before (decimal n) (decimal n ++ b ∷ rest) (behind_letter 83 (b ∷ rest)) (behind_letter 46 (b ∷ rest))
seconds_first n b rest h other =
    let front = front_digits (decimal n) rest b (decimal_digits n h) other in
    let past = past_digits (decimal n) rest b (decimal_digits n h) other in
    let some = some_there (decimal n) (decimal_nonempty n h) in
    rw (front, some, past) refl

whole_back : (n : ℕ) → n < 2 ^ 64
    → seconds (decimal n ++ 83 ∷ []) ≡ record { ms = n * 1000; is_part = false; is_there = true; rest = [] }
whole_back n h =
    let value : digits_value 10 (decimal n) ≡ n = (decimal_is_IsNumeral n h).1 in
    seconds_first n 83 [] h refl ∙ rw value refl

digit_is : (d : ℕ) → d < 10 → is_ascii_digit (48 + d) ≡ true
digit_is d small = grind (arith, nat_tests)

digit_worth : (d : ℕ) → d < 10 → digit_value (48 + d) ≡ d
digit_worth d small = grind (arith, nat_tests)

three_are : (n : ℕ) → n < 1000 → all_ascii_digits (three_digits n) ≡ true
three_are n small =
    let a = digit_is (n / 100) (omega (arith, small)) in
    let b = digit_is ((n / 10) % 10) (omega arith) in
    let c = digit_is (n % 10) (omega arith) in
    rw (a, b, c) refl

three_worth : (n : ℕ) → n < 1000 → thousandths (three_digits n) ≡ n
three_worth n small =
    let a = digit_worth (n / 100) (omega (arith, small)) in
    let b = digit_worth ((n / 10) % 10) (omega arith) in
    let c = digit_worth (n % 10) (omega arith) in
    rw (a, b, c) (omega (arith, small))

part_back : (n part : ℕ) → n < 2 ^ 64 → part < 1000
    → seconds (decimal n ++ 46 ∷ (three_digits part ++ 83 ∷ []))
    ≡ record { ms = n * 1000 + part; is_part = is_some_part (three_digits part); is_there = true; rest = [] }
part_back n part h small =
    let three = three_digits part in
    let rest = three ++ 83 ∷ [] in
    let front = front_digits three [] 83 (three_are part small) refl in
    let past = past_digits three [] 83 (three_are part small) refl in
    let value : digits_value 10 (decimal n) ≡ n = (decimal_is_IsNumeral n h).1 in
    seconds_first n 46 rest h refl
    ∙ ap₂ (λ (x y : List ℕ). with_fraction (decimal n) (decimal n ++ 46 ∷ rest) x (behind_letter 83 y)) front past
    ∙ ap₂ (λ (v w : ℕ). record { ms = v * 1000 + w; is_part = is_some_part three; is_there = true; rest = [] }) value
    (three_worth part small)

-- ---- time

time_back : (n b : ℕ) (rest : List ℕ) (s : Seconds) → n < 2 ^ 64 → is_ascii_digit b ≡ false → nat_eq b 72 ≡ false
    → nat_eq b 77 ≡ false → seconds (decimal n ++ b ∷ rest) ≡ s
    → time_in (decimal n ++ b ∷ rest)
    ≡ time_of (absent (decimal n ++ b ∷ rest)) (absent (decimal n ++ b ∷ rest)) s
time_back n b rest s h other no_hours no_minutes is =
    let bytes = decimal n ++ b ∷ rest in
    ap (λ (x : Field). time_of x (field 77 x.rest) (seconds (field 77 x.rest).rest))
    (field_absent 72 n b rest h other no_hours)
    ∙ ap (λ (x : Field). time_of (absent bytes) x (seconds x.rest)) (field_absent 77 n b rest h other no_minutes)
    ∙ ap (time_of (absent bytes) (absent bytes)) is

-- milliseconds, read as a time
abbrev ReadsTime : ℕ → List ℕ → Type 0
ReadsTime ms bytes = (s : Span) × (time_in bytes ≡ Some s) × (s.ms ≡ ms)

seconds_again : (ms : ℕ) → ms ≤ 1000000000000000 → ReadsTime ms (seconds_text ms ++ 83 ∷ [])
seconds_again ms within = by_test (nat_eq (ms % 1000) 0) refl
  where
    fits : ms / 1000 < 2 ^ 64
    fits = omega (arith, within)

    by_test : (test : Bool) → nat_eq (ms % 1000) 0 ≡ test → ReadsTime ms (seconds_text ms ++ 83 ∷ [])
    by_test true e =
        let text : seconds_text ms ≡ decimal (ms / 1000) = rw e refl in
        let none_left = eqb-true (ms % 1000) 0 e in (
          record { months = 0; ms = 0 * 3600000 + 0 * 60000 + (ms / 1000) * 1000; is_part = false },
          ap (λ t. time_in (t ++ 83 ∷ [])) text
              ∙ time_back (ms / 1000) 83 []
              (record { ms = (ms / 1000) * 1000; is_part = false; is_there = true; rest = [] })
              fits refl refl refl (whole_back (ms / 1000) fits),
          omega (arith, none_left),
        )
    by_test false e =
        let part = ms % 1000 in
        let three = three_digits (ms % 1000) in
        let small : ms % 1000 < 1000 = omega arith in
        let text : seconds_text ms ≡ decimal (ms / 1000) ++ (46 ∷ three) = rw e refl in (
          record {
            months = 0;
            ms = 0 * 3600000 + 0 * 60000 + ((ms / 1000) * 1000 + ms % 1000);
            is_part = is_some_part three;
          },
          ap (λ t. time_in (t ++ 83 ∷ [])) text
              ∙ ap time_in (append_assoc (decimal (ms / 1000)) (46 ∷ three) (83 ∷ []))
              ∙ time_back (ms / 1000) 46 (three ++ 83 ∷ []) (record {
                ms = (ms / 1000) * 1000 + ms % 1000;
                is_part = is_some_part three;
                is_there = true;
                rest = [];
              }) fits refl refl refl (part_back (ms / 1000) (ms % 1000) fits small),
          omega arith,
        )

-- ---- the whole

not_zero : (lapse : Lapse) → ¬ (IsZero lapse) → (nat_eq lapse.months 0 && nat_eq lapse.ms 0) ≡ false
not_zero lapse some = by_tests (nat_eq lapse.months 0) (nat_eq lapse.ms 0) refl refl
  where
    by_tests : (p q : Bool) → nat_eq lapse.months 0 ≡ p → nat_eq lapse.ms 0 ≡ q → (p && q) ≡ false
    by_tests true true e f = absurd (some (eqb-true lapse.months 0 e, eqb-true lapse.ms 0 f))
    by_tests true false e f = refl
    by_tests false q e f = refl

-- a span of these numbers is the duration
span_is : (s : Span) (lapse : Lapse) → IsLapseWritable lapse → ¬ (IsZero lapse) → s.months ≡ lapse.months
    → s.ms ≡ lapse.ms → lapse_of s ≡ Some lapse
span_is s lapse is some months ms =
    let few = le-leb lapse.months 100000 is.months in
    let short = le-leb lapse.ms 1000000000000000 is.ms in
    let test = not_zero lapse some in
    rw (months, ms, few, short, test) refl

-- digits and M, where there are months, and what stands behind them
months_first : (months : ℕ) (rest : List ℕ) → months < 2 ^ 64
    → date_in (decimal months ++ 77 ∷ rest)
    ≡ dated (absent (decimal months ++ 77 ∷ rest)) (record { number = months; is_there = true; rest = rest })
    (field 68 rest)
months_first months rest h =
    let bytes = decimal months ++ 77 ∷ rest in
    ap (λ (x : Field). dated x (field 77 x.rest) (field 68 (field 77 x.rest).rest))
    (field_absent 89 months 77 rest h refl refl)
    ∙ ap (λ (x : Field). dated (absent bytes) x (field 68 x.rest)) (field_there 77 months rest h refl refl)

pub lapse_again : (lapse : Lapse) → IsLapseWritable lapse → ¬ (IsZero lapse)
    → duration_in (lapse_text lapse) ≡ Some lapse
unfolding duration_in
lapse_again lapse is some = by_tests (nat_eq lapse.months 0) (nat_eq lapse.ms 0) refl refl
  where
    fits : lapse.months < 2 ^ 64
    fits = omega (arith, is.months)

    by_tests : (p q : Bool) → nat_eq lapse.months 0 ≡ p → nat_eq lapse.ms 0 ≡ q
        → duration_in (lapse_text lapse) ≡ Some lapse
    by_tests true true e f = absurd (some (eqb-true lapse.months 0 e, eqb-true lapse.ms 0 f))
    by_tests true false e f =
        let (s, reads, same) = seconds_again lapse.ms is.ms in
        let bare : months_text lapse.months ≡ [] = rw e refl in
        let timed : time_text lapse.ms ≡ 84 ∷ (seconds_text lapse.ms ++ 83 ∷ []) = rw f refl in
        let none_there = eqb-true lapse.months 0 e in
        ap₂ (λ (x y : List ℕ). lapse_from (date_in (x ++ y))) bare timed
        ∙ ap (λ (o : Option Span). lapse_from (option_map (with_date (absent []) (absent []) (absent [])) o)) reads
        ∙ span_is (with_date (absent []) (absent []) (absent []) s) lapse is some (omega (arith, none_there))
        (omega (arith, same))
    by_tests false true e f =
        let monthly : months_text lapse.months ≡ decimal lapse.months ++ 77 ∷ [] = rw e refl in
        let bare : time_text lapse.ms ≡ [] = rw f refl in
        let none_there = eqb-true lapse.ms 0 f in
        ap₂ (λ (x y : List ℕ). lapse_from (date_in (x ++ y))) monthly bare
        ∙ ap (λ l. lapse_from (date_in l)) (append-nil (decimal lapse.months ++ 77 ∷ []))
        ∙ ap lapse_from (months_first lapse.months [] fits)
        ∙ span_is (record { months = 0 * 12 + lapse.months; ms = 0 * 86400000 + 0; is_part = false }) lapse is some
        (omega arith) (omega (arith, none_there))
    by_tests false false e f =
        let (s, reads, same) = seconds_again lapse.ms is.ms in
        let rest = 84 ∷ (seconds_text lapse.ms ++ 83 ∷ []) in
        let monthly : months_text lapse.months ≡ decimal lapse.months ++ 77 ∷ [] = rw e refl in
        let timed : time_text lapse.ms ≡ 84 ∷ (seconds_text lapse.ms ++ 83 ∷ []) = rw f refl in
        ap₂ (λ (x y : List ℕ). lapse_from (date_in (x ++ y))) monthly timed
        ∙ ap (λ l. lapse_from (date_in l)) (append_assoc (decimal lapse.months) (77 ∷ []) rest)
        ∙ ap lapse_from (months_first lapse.months rest fits)
        ∙ ap (λ (o : Option Span). lapse_from (option_map (with_date (absent (decimal lapse.months ++ 77 ∷ rest))
        (record { number = lapse.months; is_there = true; rest = rest }) (absent rest)) o)) reads
        ∙ span_is (record { months = 0 * 12 + lapse.months; ms = 0 * 86400000 + s.ms; is_part = s.is_part }) lapse is
        some (omega arith) (omega (arith, same))
