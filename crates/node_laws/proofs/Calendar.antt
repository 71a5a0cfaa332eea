-- Each day from 1970 to 9999 has a date, and each duration that begins on it an end, or none.
use Rattle.std.proofs.Common.{◌≡◌, ℕ, suc, ◌+◌, ◌/◌, ◌<◌, ◌≤◌, ◌==◌, ◌⊎◌, Bool, true, false, refl, sym, ap}
use Rattle.std.proofs.Common.{◌∙◌, arith, inl, inr, Option, Some, None}
use Prim.Native.Nat.{zero}
use Rattle.std.specs.Prelude.{◌&&◌, ℤ, pos, negsuc, neg_ℤ, ◌+ℤ◌, ◌<ℤ◌, ◌≤ℤ◌, nat_le, nat_lt}
use Rattle.std.proofs.lemmas.Bool.{and_parts, eqb-true, leb-true, ltb-true}
use Rattle.std.proofs.lemmas.Bool.Decides.{nat_tests}
use Rattle.std.proofs.lemmas.Int.{by_lt_z}
use Rattle.jiff_core.specs.declared.civil.date.Date.{Date}
use Rattle.jiff_core.specs.Calendar.{IsYear, days_from_civil, days_in_month}
use Rattle.jiff_core.specs.Date.{epoch_day}
use Rattle.jiff_core.proofs.CalendarLemmas.{day_count-epoch, days_from_civil-day_count, days_in_month_bounds}
use Rattle.jiff_core.proofs.DateLemmas.{days_from_civil-day, days_from_civil-max, days_from_civil-next_month}
use Rattle.jiff_core.proofs.DateLemmas.{days_from_civil-next_year}
use Rattle.jiff_core.proofs.SignedLemmas.{signed_arith}
use Rattle.jiff_span.specs.Months.{add_months, shifted_year, IsShiftable}
use Rattle.jiff_span.proofs.MonthLemmas.{add_months-zero, add_months-forward}
use Rattle.rm_message.specs.Elements.Deadline.{IsZero, IsDateOf, sum_of, EndsAt}
use Rattle.rm_base.specs.declared.lapse.Lapse.{Lapse}
use Rattle.node_laws.specs.OwnTerms.{EndsAsTold}

-- ---- dates

-- the date after another one
record IsNext (date : Date) : Type 0 where
  next : Date
  day : epoch_day next ≡ epoch_day date +ℤ pos 1

within-month : (date : Date) → date.day < days_in_month date.year date.month → IsNext date
within-month date h = record {
  next = record {
    year = date.year;
    month = date.month;
    day = date.day + 1;
    year_in = date.year_in;
    month_in = date.month_in;
    day_in = (omega arith, omega (arith, h));
  };
  day = omega (
    arith,
    signed_arith,
    days_from_civil-day date.year date.month date.day (date.day + 1) date.day_in.0 (omega arith),
  );
}

within-year : (date : Date) → date.day ≡ days_in_month date.year date.month → date.month < 12 → IsNext date
within-year date last h =
    let long = days_in_month_bounds date.year (date.month + 1) in
    record {
      next = record {
        year = date.year;
        month = date.month + 1;
        day = 1;
        year_in = date.year_in;
        month_in = (omega arith, omega (arith, h));
        day_in = (omega arith, omega (arith, long));
      };
      day = days_from_civil-next_month date.year date.month date.day date.month_in.0 last;
    }

last-of-year : (date : Date) → date.day ≡ days_in_month date.year date.month → date.month ≡ 12
    → epoch_day date ≡ days_from_civil date.year 12 31
last-of-year date last h =
    let day : date.day ≡ 31 = last ∙ ap (days_in_month date.year) h in
    ap (λ m. days_from_civil date.year m date.day) h ∙ ap (days_from_civil date.year 12) day

next-year : (date : Date) → date.day ≡ days_in_month date.year date.month → date.month ≡ 12
    → epoch_day date <ℤ pos 2932896 → IsNext date
next-year date last h before =
    let here : epoch_day date ≡ days_from_civil date.year 12 31 = last-of-year date last h in
    let apart : ¬ (date.year ≡ pos 9999) = λ e.
    let end : epoch_day date ≡ pos 2932896 = here ∙ ap (λ y. days_from_civil y 12 31) e ∙ days_from_civil-max in
    omega (arith, signed_arith, before, end) in
    record {
      next = record {
        year = date.year +ℤ pos 1;
        month = 1;
        day = 1;
        year_in = (omega (arith, signed_arith, date.year_in), omega (arith, signed_arith, date.year_in, apart));
        month_in = (omega arith, omega arith);
        day_in = (omega arith, omega arith);
      };
      day = days_from_civil-next_year date.year (date.year +ℤ pos 1) (omega (arith, signed_arith, date.year_in)) refl
          ∙ ap (λ z. z +ℤ pos 1) (sym here);
    }

next-of : (date : Date) → epoch_day date <ℤ pos 2932896 → IsNext date
next-of date before =
    by_tests (nat_lt date.day (days_in_month date.year date.month)) (nat_lt date.month 12) refl refl
  where
    by_tests : (x y : Bool) → nat_lt date.day (days_in_month date.year date.month) ≡ x → nat_lt date.month 12 ≡ y
        → IsNext date
    by_tests true y e f = within-month date (ltb-true date.day (days_in_month date.year date.month) e)
    by_tests false true e f =
        let last : date.day ≡ days_in_month date.year date.month = grind (arith, nat_tests, date.day_in.1) in
        within-year date last (ltb-true date.month 12 f)
    by_tests false false e f =
        let last : date.day ≡ days_in_month date.year date.month = grind (arith, nat_tests, date.day_in.1) in
        let month : date.month ≡ 12 = grind (arith, nat_tests, date.month_in.1) in
        next-year date last month before

-- a day has a date
record HasDate (day : ℕ) : Type 0 where
  date : Date
  is : epoch_day date ≡ pos day

date-at : (day : ℕ) → day ≤ 2932896 → HasDate day
date-at zero le = record {
  date = record {
    year = pos 1970;
    month = 1;
    day = 1;
    year_in = (omega (arith, signed_arith), omega (arith, signed_arith));
    month_in = (omega arith, omega arith);
    day_in = (omega arith, omega arith);
  };
  is = omega (arith, signed_arith, days_from_civil-day_count (pos 1970) 1 1, day_count-epoch);
}
date-at (suc day) le =
    let before = date-at day (omega (arith, le)) in
    let known : epoch_day before.date ≡ pos day = before.is in
    let more = next-of before.date (omega (arith, signed_arith, known, le)) in
    record { date = more.next; is = omega (arith, signed_arith, more.day, known) }

-- ---- ends

-- a duration that begins at a moment of a date ends then, or never
record HasEnd (date : Date) (now : ℕ) (lapse : Lapse) : Type 0 where
  end : Option ℕ
  is : EndsAt date now lapse end

no-earlier : (date : Date) (now months : ℕ) → IsDateOf now date → IsShiftable date (pos months)
    → pos 0 ≤ℤ add_months date (pos months)
no-earlier date now zero is may = omega (arith, signed_arith, add_months-zero date, is)
no-earlier date now (suc k) is may =
    omega (arith, signed_arith, add_months-forward date (pos (suc k)) may (omega (arith, signed_arith)), is)

end-by : (date : Date) (now : ℕ) (lapse : Lapse) → (IsZero lapse → ⊥) → IsShiftable date (pos lapse.months)
    → pos 0 ≤ℤ add_months date (pos lapse.months) → (sum : ℤ) → sum_of date now lapse ≡ sum → HasEnd date now lapse
end-by date now lapse some may low (pos n) e = by_test (nat_le n 200000000000000) refl
  where
    by_test : (x : Bool) → nat_le n 200000000000000 ≡ x → HasEnd date now lapse
    by_test true f = record { end = Some n; is = (some, may, sym e, leb-true n 200000000000000 f) }
    by_test false f =
        let past : 200000000000000 < n = grind (arith, nat_tests) in
        record { end = None; is = inr (inr (omega (arith, signed_arith, past, e))) }
end-by date now lapse some may low (negsuc n) e = absurd (omega (arith, signed_arith, low, e))

year-in : (year : ℤ) → IsYear year ⊎ (IsYear year → ⊥)
year-in year =
    by_lt_z (pos 9999) year (λ gt. inr (λ h. omega (arith, signed_arith, gt, h)))
    (λ le. by_lt_z year (neg_ℤ (pos 9999)) (λ lt. inr (λ h. omega (arith, signed_arith, lt, h)))
    (λ ge. inl (omega (arith, signed_arith, ge), omega (arith, signed_arith, le))))

has-end : (date : Date) (now : ℕ) (lapse : Lapse) → IsDateOf now date → HasEnd date now lapse
has-end date now lapse is = by_zero ((lapse.months == 0) && (lapse.ms == 0)) refl
  where
    by_zero : (x : Bool) → ((lapse.months == 0) && (lapse.ms == 0)) ≡ x → HasEnd date now lapse
    by_zero true e =
        let parts = and_parts (lapse.months == 0) (lapse.ms == 0) e in
        record { end = None; is = inl (eqb-true lapse.months 0 parts.0, eqb-true lapse.ms 0 parts.1) }
    by_zero false e =
        let some : IsZero lapse → ⊥ = λ h.
        let both : ((lapse.months == 0) && (lapse.ms == 0)) ≡ true = rw (h.0, h.1) refl in cc in
        elim (year-in (shifted_year date (pos lapse.months))) [
          | inl may ↦ end-by date now lapse some may (no-earlier date now lapse.months is may)
              (sum_of date now lapse) refl
          | inr past ↦ record { end = None; is = inr (inl past) }
        ]

-- what a clock's moment and a duration come to
pub record HasDeadline (now : ℕ) (lapse : Lapse) : Type 0 where
  pub end : Option ℕ
  pub is : EndsAsTold now lapse end

pub has-deadline : (now : ℕ) (lapse : Lapse) → HasDeadline now lapse
has-deadline now lapse = by_test (nat_le now 200000000000000) refl
  where
    by_test : (x : Bool) → nat_le now 200000000000000 ≡ x → HasDeadline now lapse
    by_test true e =
        let early : now ≤ 200000000000000 = leb-true now 200000000000000 e in
        let day = date-at (now / 86400000) (omega (arith, early)) in
        let found = has-end day.date now lapse day.is in
        record {
          end = found.end;
          is = record { told = λ h. (day.date, day.is, found.is); later = λ h. absurd (omega (arith, h, early)) };
        }
    by_test false e =
        let late : 200000000000000 < now = grind (arith, nat_tests) in
        record { end = None; is = record { told = λ h. absurd (omega (arith, h, late)); later = λ h. refl } }
