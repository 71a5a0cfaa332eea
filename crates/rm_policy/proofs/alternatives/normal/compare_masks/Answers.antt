use Rattle.std.proofs.Common.{◌-◌, arith}
use Rattle.rm_policy.proofs.AlternativesLemmas.ListLemmas.{masks_step}
use Rattle.rm_policy.proofs.alternatives.normal.compare_masks.Goals as goal

pub loop-i-preserved : goal.loop-i-preserved
loop-i-preserved c =
    let k = masks_step c.args.terms.now c.loop-i.i (c.loop-i.i - 1) c.args.one c.args.other
    (omega (arith, c.loop-i-test.true))
    c.requires.rises c.loop-i.invariant.0 c.loop-i.order c.loop-i.some c.loop-i.other_some c.loop-i.invariant.1
    c.loop-i.invariant.2 c.loop-i.invariant.3 in
    rw (
      c.step-order.ensures,
      c.any-some.ensures,
      c.any-other_some.ensures,
      c.has_term-has.ensures,
      c.has_term-other_has.ensures,
    ) k
