use Rattle.std.proofs.Common.{◌∙◌, ◌-◌, ◌^◌, min, arith}
use Rattle.std.specs.Str.Parse.{digits_value}
use Rattle.soap_writer.proofs.ValuesLemmas.NumberLemmas.{digits_go_on, digits_done}
use Rattle.soap_writer.proofs.values.number.number_of.Goals as goal

pub loop-digit-preserved : goal.loop-digit-preserved
loop-digit-preserved c =
    let (digits, number) = digits_go_on c.args.digits.now c.loop-digit.digit-index c.loop-digit.number
    c.with_digit-number.result
    c.loop-digit-test.true c.with_digit-number.ensures c.loop-digit.invariant.digits in
    record { fits = c.with_digit-number.type_inv; digits = digits; number = number ∙ c.loop-digit.invariant.number }

pub returns : goal.returns
returns c = digits_done c.args.digits.now c.loop-digit.digit-index c.loop-digit.number
    (min (digits_value 10 c.args.digits.now) (2 ^ 64 - 1))
    c.loop-digit-test.false c.loop-digit.invariant.fits c.loop-digit.invariant.number
