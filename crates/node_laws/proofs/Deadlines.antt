-- When a duration ends: later than it begins, and at one moment alone.
use Rattle.std.proofs.Common.{◌≡◌, ℕ, suc, ◌+◌, ◌*◌, ◌/◌, ◌%◌, ◌<◌, ◌⊎◌, refl, sym, ap, subst, ◌∙◌, arith, inl, inr}
use Rattle.std.proofs.Common.{Option, Some, None}
use Prim.Native.Nat.{zero}
use Rattle.std.specs.Prelude.{ℤ, pos, negsuc, ◌+ℤ◌, ◌*ℤ◌, ◌<ℤ◌, ◌≤ℤ◌, unsigned_abs}
use Rattle.jiff_core.specs.declared.civil.date.Date.{Date}
use Rattle.jiff_core.specs.Date.{epoch_day}
use Rattle.jiff_core.proofs.DateLemmas.{epoch_day_injective}
use Rattle.jiff_core.proofs.SignedLemmas.{signed_arith}
use Rattle.jiff_core.specs.Calendar.{IsYear}
use Rattle.jiff_span.specs.Months.{add_months, shifted_year}
use Rattle.jiff_span.proofs.MonthLemmas.{add_months-zero, add_months-forward}
use Rattle.rm_message.specs.Elements.Deadline.{IsDateOf, sum_of, EndsAt, IsDeadline}
use Rattle.rm_base.specs.declared.lapse.Lapse.{Lapse}

-- ---- it ends later

-- a sum of days and milliseconds that begins no earlier than the day of a moment, and later by a day or by some of them
after : (now end ms : ℕ) (days : ℤ) → pos end ≡ (days *ℤ pos 86400000) +ℤ pos (now % 86400000 + ms)
    → pos (now / 86400000) ≤ℤ days → (pos (now / 86400000) <ℤ days) ⊎ (0 < ms) → now < end
after now end ms (pos days) e le h =
    let sum : end ≡ days * 86400000 + (now % 86400000 + ms) = ap unsigned_abs e in
    elim h [
      | inl lt ↦ omega (arith, signed_arith, sum, lt)
      | inr some ↦ omega (arith, signed_arith, sum, le, some)
    ]
after now end ms (negsuc days) e le h = absurd (omega (arith, signed_arith, le))

some-ms : (ms : ℕ) → ((ms ≡ 0) → ⊥) → 0 < ms
some-ms zero h = absurd (h refl)
some-ms (suc n) h = omega arith

pub ends-later : (date : Date) (now months ms end : ℕ) → IsDateOf now date
    → EndsAt date now (record { months = months; ms = ms }) (Some end) → now < end
ends-later date now zero ms end is h =
    let same : add_months date (pos 0) ≡ pos (now / 86400000) = add_months-zero date ∙ is in
    after now end ms (add_months date (pos 0)) h.2 (omega (arith, signed_arith, same))
    (inr (some-ms ms (λ e. h.0 (refl, e))))
ends-later date now (suc k) ms end is h =
    let later : epoch_day date <ℤ add_months date (pos (suc k)) =
    add_months-forward date (pos (suc k)) h.1 (omega (arith, signed_arith)) in
    after now end ms (add_months date (pos (suc k))) h.2 (omega (arith, signed_arith, later, is))
    (inl (omega (arith, signed_arith, later, is)))

-- ---- it ends once

-- the dates of a moment are one day of the calendar
same-sum : (date other : Date) (now : ℕ) (lapse : Lapse) → IsDateOf now date → IsDateOf now other
    → sum_of date now lapse ≡ sum_of other now lapse
same-sum date other now lapse is same =
    let day = epoch_day_injective date other (is ∙ sym same) in rw (day.0, day.1, day.2) refl

same-year : (date other : Date) (now months : ℕ) → IsDateOf now date → IsDateOf now other
    → shifted_year date (pos months) ≡ shifted_year other (pos months)
same-year date other now months is same =
    let day = epoch_day_injective date other (is ∙ sym same) in rw (day.0, day.1) refl

-- a moment rules out each reason for there being none
no-none : (date other : Date) (now end : ℕ) (lapse : Lapse) → IsDateOf now date → IsDateOf now other
    → EndsAt date now lapse (Some end) → EndsAt other now lapse None → ⊥
no-none date other now end lapse is same h (inl zero_) = h.0 zero_
no-none date other now end lapse is same h (inr (inl past)) =
    past (subst (λ y. IsYear y) (same-year date other now lapse.months is same) h.1)
no-none date other now end lapse is same h (inr (inr far)) =
    let sum : sum_of date now lapse ≡ sum_of other now lapse = same-sum date other now lapse is same in
    omega (arith, signed_arith, h.2, h.3, far, sum)

pub ends-once : (now : ℕ) (lapse : Lapse) (a b : Option ℕ) → IsDeadline now lapse a → IsDeadline now lapse b → a ≡ b
ends-once now lapse (Some a) (Some b) (date, is, h) (other, same, k) =
    let sum : pos a ≡ pos b = h.2 ∙ same-sum date other now lapse is same ∙ sym k.2 in
    ap Some (ap unsigned_abs sum)
ends-once now lapse (Some a) None (date, is, h) (other, same, k) =
    absurd (no-none date other now a lapse is same h k)
ends-once now lapse None (Some b) (date, is, h) (other, same, k) =
    absurd (no-none other date now b lapse same is k h)
ends-once now lapse None None h k = refl
