use Rattle.std.proofs.Common.{◌≡◌, pos, ◌≤ℤ◌, refl, w32, arith}
use Rattle.std.proofs.lemmas.Int.{to_z_pos}
use Rattle.jiff_core.specs.Date.{epoch_day}
use Rattle.jiff_core.proofs.SignedLemmas.{signed_arith}
use Rattle.jiff_span.specs.Months.{add_months, IsShiftable}
use Rattle.rm_message.proofs.ElementsLemmas.Later.{no_earlier}
use Rattle.rm_message.proofs.elements.expiry.day_after.Goals as goal

pub day_number-requires : goal.day_number-requires
day_number-requires c =
    let same = to_z_pos w32 c.args.months (omega (arith, c.if-months-gt-MANY_MONTHS.false)) in
    let is : IsShiftable c.args.date (pos c.args.months) = rw same at (c.in-Ok.ensures.succeeds.0 refl) in
    let e : epoch_day c.in-Ok.later ≡ add_months c.args.date (pos c.args.months) = rw same at c.in-Ok.ensures.value in
    let f : epoch_day c.args.date ≤ℤ add_months c.args.date (pos c.args.months) =
    no_earlier c.args.date c.args.months is in
    let g = c.requires.le in
    omega (arith, signed_arith, e, f, g)
