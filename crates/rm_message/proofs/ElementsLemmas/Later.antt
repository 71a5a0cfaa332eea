-- Months after a date.
use Rattle.std.proofs.Common.{ℕ, suc, ◌<◌, pos, ◌≤ℤ◌, arith}
use Prim.Native.Nat.{zero}
use Rattle.jiff_core.specs.declared.civil.date.Date.{Date}
use Rattle.jiff_core.specs.Date.{epoch_day}
use Rattle.jiff_core.proofs.SignedLemmas.{signed_arith}
use Rattle.jiff_span.specs.Months.{add_months, IsShiftable}
use Rattle.jiff_span.proofs.MonthLemmas.{shifted_number, shifted_month_in, add_months-zero, add_months-forward}

-- the calendar ends before so many months are over, whatever the date
pub too_late : (date : Date) (months : ℕ) → 500000 < months → ¬ (IsShiftable date (pos months))
too_late date months many is =
    let number = shifted_number date (pos months) in
    let month = shifted_month_in date (pos months) in
    omega (arith, signed_arith, number, month, is, date.year_in)

-- and no day is before the date
pub no_earlier : (date : Date) (months : ℕ) → IsShiftable date (pos months)
    → epoch_day date ≤ℤ add_months date (pos months)
no_earlier date zero is = omega (arith, signed_arith, add_months-zero date)
no_earlier date (suc k) is =
    omega (arith, signed_arith, add_months-forward date (pos (suc k)) is (omega (arith, signed_arith)))
