use Rattle.std.proofs.Common.{◌-◌, length, sym, arith}
use Rattle.std.proofs.lemmas.Bool.Decides.{nat_tests}
use Rattle.rm_sides.proofs.RangesLemmas.RangesLemmas.{greatest_of-last}
use Rattle.rm_sides.proofs.ranges.range.last_end.Goals as goal

pub returns : goal.returns
returns c =
    sym (greatest_of-last c.args.ranges.now (length c.args.ranges.now - 1)
    (grind (arith, nat_tests, c.if-is_empty.ensures)))
