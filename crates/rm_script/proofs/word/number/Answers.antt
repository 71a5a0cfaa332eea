use Rattle.std.proofs.Common.{◌≡◌, None, Some, sym, ap, ◌∙◌}
use Rattle.rm_script.specs.Reading.{number_in}
use Rattle.rm_script.specs.WordLemmas.{number_in-none, number_in-outside, number_in-decimal}
use Rattle.rm_script.proofs.word.number.Goals as goal

pub returns-in_err-number-clause-number : goal.returns-in_err-number-clause-number
returns-in_err-number-clause-number c =
    c.from_residual.ensures
    ∙ sym (number_in-none c.args.low c.args.high c.args.digits.now c.ranges.high.fits (λ n small is.
    let found : None ≡ Some n = sym c.in_err-number.was ∙ c.number_of.ensures.only n small is in absurd (cc)))

pub returns-then-number-low-clause-number : goal.returns-then-number-low-clause-number
returns-then-number-low-clause-number c =
    let found = c.in_ok-number.ensures in
    sym (ap (λ l. number_in c.args.low c.args.high l) found.found
    ∙ number_in-outside c.args.low c.args.high c.in_ok-number.number found.small c.then-number-low.either)

pub returns-clause-number : goal.returns-clause-number
returns-clause-number c =
    let found = c.in_ok-number.ensures in
    sym (ap (λ l. number_in c.args.low c.args.high l) found.found
    ∙ number_in-decimal c.args.low c.args.high c.in_ok-number.number found.small c.if-number-low.false
    c.if-number-high.false)
