-- The moment at which a duration ends: a date that many months later, with the time of day and the milliseconds added.
use Rattle.std.specs.Prelude.{◌≡◌, ℕ, ◌+◌, ◌/◌, ◌%◌, ◌≤◌, ◌⊎◌, Option, Some, None, ℤ, pos, ◌+ℤ◌, ◌*ℤ◌, ◌<ℤ◌}
use Rattle.rm_base.specs.Limits as limits
use Rattle.jiff_core.specs.declared.civil.date.Date.{Date}
use Rattle.jiff_core.specs.Date.{epoch_day}
use Rattle.jiff_span.specs.Months.{add_months, IsShiftable}
use Rattle.rm_base.specs.declared.lapse.Lapse.{Lapse}

-- a duration that is zero never ends
abbrev pub IsZero : Lapse → Type 0
IsZero lapse = (lapse.months ≡ 0) × (lapse.ms ≡ 0)

-- the UTC date of a moment in milliseconds since 1970
abbrev pub IsDateOf : ℕ → Date → Type 0
IsDateOf now date = epoch_day date ≡ pos (now / 86400000)

-- the sum: the day so many months after the date, which is the same day of that month, or its last where it is shorter;
-- the time of day; and the milliseconds
abbrev pub sum_of : Date → ℕ → Lapse → ℤ
sum_of date now lapse =
    (add_months date (pos lapse.months) *ℤ pos 86400000) +ℤ pos (now % 86400000 + lapse.ms)

-- when a duration ends that begins at a moment of this date: never where it is zero, where the calendar ends before
-- (with the year 9999), or where the sum is later than any moment
abbrev pub EndsAt : Date → ℕ → Lapse → Option ℕ → Type 0
EndsAt date now lapse (Some end) =
    ¬ (IsZero lapse) × IsShiftable date (pos lapse.months) × (pos end ≡ sum_of date now lapse) × (end ≤ limits.now_max)
EndsAt date now lapse None =
    IsZero lapse ⊎ ¬ (IsShiftable date (pos lapse.months)) ⊎ (pos limits.now_max <ℤ sum_of date now lapse)

-- the same for the date of the moment
abbrev pub IsDeadline : ℕ → Lapse → Option ℕ → Type 0
IsDeadline now lapse end = (date : Date) × IsDateOf now date × EndsAt date now lapse end
