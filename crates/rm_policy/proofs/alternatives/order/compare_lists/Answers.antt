use Rattle.std.proofs.Common.{◌<◌, sym, ◌∙◌, length, arith}
use Rattle.rm_policy.proofs.AlternativesLemmas.ListLemmas.{less_at_end}
use Rattle.rm_policy.proofs.alternatives.order.compare_lists.Goals as goal

pub returns-then-one-other : goal.returns-then-one-other
returns-then-one-other c =
    let short : c.loop-i.i < length c.args.other.now = omega arith in
    sym (less_at_end c.args.one.now c.args.other.now c.loop-i.i c.loop-i-test.false short) ∙ c.loop-i.invariant
