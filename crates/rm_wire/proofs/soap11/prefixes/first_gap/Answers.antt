use Rattle.std.proofs.Common.{get_or, arith}
use Rattle.std.proofs.lemmas.List.{get_or_default}
use Rattle.rm_wire.proofs.Soap11Lemmas.Numbers.{gap_more, all_seen}
use Rattle.rm_wire.proofs.soap11.prefixes.first_gap.Goals as goal

pub loop-number-preserved : goal.loop-number-preserved
loop-number-preserved c =
    let xs = c.args.numbers.now in
    let i = c.loop-number.number-index in
    let within = c.loop-number-test.true in
    gap_more xs i (get_or xs i 0) c.loop-number.gap c.gap_after-gap.result c.requires within
    (get_or_default xs i (get_or xs i 0) 0 within) c.gap_after-gap.ensures.same c.gap_after-gap.ensures.other
    c.loop-number.invariant

pub returns-clause-least : goal.returns-clause-least
returns-clause-least c =
    all_seen c.args.numbers.now c.loop-number.number-index c.loop-number.gap (omega (arith, c.loop-number-test.false))
    c.loop-number.invariant
