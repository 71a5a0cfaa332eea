-- Durations as they are written: XML Schema Part 2, section 3.2.6, without a sign.
use Rattle.std.specs.Prelude.{ℕ, ◌+◌, ◌*◌, List, [], ◌∷◌, ◌++◌, Bool, true, false, not, ◌&&◌, ◌||◌, ◌==◌, nat_le}
use Rattle.std.specs.Prelude.{if◌then◌else◌, Option, Some, None, option_map, codes, take}
use Rattle.std.specs.Char.{is_ascii_digit}
use Rattle.std.specs.List.{list_any}
use Rattle.std.specs.Str.Parse.{digits_value}
use Rattle.rm_message.specs.declared.elements.duration.Span.{Span}
use Rattle.rm_base.specs.declared.lapse.Lapse.{Lapse}
use Rattle.rm_message.specs.Elements.Letters.{letter_p, letter_y, letter_m, letter_d, letter_t, letter_h, letter_s}
use Rattle.rm_message.specs.Elements.Letters.{full_stop}
use Rattle.rm_message.specs.Elements.Letters.{digit_zero}

-- the digits at the front of bytes
abbrev pub digits_of : List ℕ → List ℕ
digits_of [] = []
digits_of (b ∷ bytes) = if is_ascii_digit b then b ∷ digits_of bytes else []

-- what stands behind them
abbrev pub behind_digits : List ℕ → List ℕ
behind_digits [] = []
behind_digits (b ∷ bytes) = if is_ascii_digit b then behind_digits bytes else b ∷ bytes

-- whether there is nothing
abbrev pub is_empty : List ℕ → Bool
is_empty [] = true
is_empty (b ∷ bytes) = false

-- what stands behind a letter at the front of bytes
abbrev pub behind_letter : ℕ → List ℕ → Option (List ℕ)
behind_letter letter [] = None
behind_letter letter (b ∷ bytes) = if b == letter then Some bytes else None

-- ---- one field: digits and a letter

-- its number, which is 0 where the field is absent, and what stands behind it
pub record Field : Type 0 where
  pub number : ℕ
  pub is_there : Bool
  pub rest : List ℕ

-- no field
abbrev pub absent : List ℕ → Field
absent bytes = record { number = 0; is_there = false; rest = bytes }

-- digits and what stands behind their letter, where both are there
abbrev pub field_before : List ℕ → List ℕ → Option (List ℕ) → Field
field_before digits bytes None = absent bytes
field_before digits bytes (Some rest) =
    if is_empty digits then absent bytes else record { number = digits_value 10 digits; is_there = true; rest = rest }

-- the field of a letter at the front of bytes
abbrev pub field : ℕ → List ℕ → Field
field letter bytes = field_before (digits_of bytes) bytes (behind_letter letter (behind_digits bytes))

-- ---- seconds: digits, and where a point stands behind them, digits behind that; then S

-- the first three digits behind the point; those past them are dropped
abbrev pub thousandths : List ℕ → ℕ
thousandths fraction = digits_value 10 (take 3 (fraction ++ codes "000"))

-- whether a digit is not zero
abbrev pub is_some_part : List ℕ → Bool
is_some_part fraction = list_any (λ digit. not (digit == digit_zero)) fraction

-- in milliseconds, and whether a digit behind the point is not zero
pub record Seconds : Type 0 where
  pub ms : ℕ
  pub is_part : Bool
  pub is_there : Bool
  pub rest : List ℕ

-- none
abbrev pub no_seconds : List ℕ → Seconds
no_seconds bytes = record { ms = 0; is_part = false; is_there = false; rest = bytes }

-- whole seconds and digits behind the point, where there are some and S behind them
abbrev pub with_fraction : List ℕ → List ℕ → List ℕ → Option (List ℕ) → Seconds
with_fraction whole bytes fraction None = no_seconds bytes
with_fraction whole bytes fraction (Some rest) =
    if is_empty fraction then no_seconds bytes
    else record {
      ms = digits_value 10 whole * 1000 + thousandths fraction;
      is_part = is_some_part fraction;
      is_there = true;
      rest = rest;
    }

-- whole seconds, or with a point and digits, before S
abbrev pub seconds_before : List ℕ → List ℕ → Option (List ℕ) → Option (List ℕ) → Seconds
seconds_before whole bytes (Some rest) point =
    record { ms = digits_value 10 whole * 1000; is_part = false; is_there = true; rest = rest }
seconds_before whole bytes None None = no_seconds bytes
seconds_before whole bytes None (Some behind) =
    with_fraction whole bytes (digits_of behind) (behind_letter letter_s (behind_digits behind))

-- the seconds at the front of bytes
abbrev pub seconds : List ℕ → Seconds
seconds bytes =
    if is_empty (digits_of bytes) then no_seconds bytes
    else seconds_before (digits_of bytes) bytes (behind_letter letter_s (behind_digits bytes))
    (behind_letter full_stop (behind_digits bytes))

-- ---- time: hours, minutes and seconds, one of them at least, and nothing behind them

-- a span has no months then
abbrev pub time_of : Field → Field → Seconds → Option Span
time_of h m s =
    if not (is_empty s.rest) then None
    else if h.is_there || m.is_there || s.is_there
    then Some (record { months = 0; ms = h.number * 3600000 + m.number * 60000 + s.ms; is_part = s.is_part }) else None

-- the hours, minutes and seconds that bytes are
abbrev pub time_in : List ℕ → Option Span
time_in bytes =
    time_of (field letter_h bytes) (field letter_m (field letter_h bytes).rest)
    (seconds (field letter_m (field letter_h bytes).rest).rest)

-- ---- the date: years, months and days, and the time behind them

-- a duration without fields
abbrev pub no_time : Span
no_time = record { months = 0; ms = 0; is_part = false }

-- what stands behind the date: nothing, where one of its fields stands there, or T and a time
abbrev pub time_behind : Bool → List ℕ → Option Span
time_behind is_dated [] = if is_dated then Some no_time else None
time_behind is_dated (b ∷ bytes) = if b == letter_t then time_in bytes else None

-- twelve months are a year
abbrev pub with_date : Field → Field → Field → Span → Span
with_date y m d t =
    record { months = y.number * 12 + m.number; ms = d.number * 86400000 + t.ms; is_part = t.is_part }

-- the date's fields, and the time where it is one
abbrev pub dated : Field → Field → Field → Option Span
dated y m d = option_map (with_date y m d) (time_behind (y.is_there || m.is_there || d.is_there) d.rest)

-- the years, months and days that bytes begin with, and the time behind them
abbrev pub date_in : List ℕ → Option Span
date_in bytes =
    dated (field letter_y bytes) (field letter_m (field letter_y bytes).rest)
    (field letter_d (field letter_m (field letter_y bytes).rest).rest)

-- P and the date
abbrev pub span_in : List ℕ → Option Span
span_in [] = None
span_in (b ∷ bytes) = if b == letter_p then date_in bytes else None

-- ---- values

-- at least a millisecond, where the duration is not zero
abbrev pub at_least_one : Span → ℕ
at_least_one s = if (s.months == 0 && s.ms == 0) && s.is_part then 1 else s.ms

-- the most months of a duration
abbrev pub most_months : ℕ
most_months = 100000

-- the most milliseconds of a duration beside its months
abbrev pub most_ms : ℕ
most_ms = 1000000000000000

-- at most so many months and milliseconds
abbrev pub lapse_of : Span → Option Lapse
lapse_of s =
    if nat_le s.months most_months && nat_le s.ms most_ms
    then Some (record { months = s.months; ms = at_least_one s }) else None

-- a lapse, where there is a span
abbrev pub lapse_from : Option Span → Option Lapse
lapse_from None = None
lapse_from (Some s) = lapse_of s

-- the duration that bytes are
unfoldable pub duration_in : List ℕ → Option Lapse
duration_in bytes = lapse_from (span_in bytes)
