use Rattle.std.proofs.Common.{◌≡◌, ◌+◌, sym, ap, ◌∙◌, arith}
use Rattle.rm_sides.specs.Ranges.Places.{range_at}
use Rattle.rm_sides.proofs.RangesLemmas.RangesLemmas.{in_range_tells, in_ranges-at, RisesFrom-at, greatest-from}
use Rattle.rm_sides.proofs.RangesLemmas.MissingLemmas.{missing-push, missing-pass, missing-enough, missing-all}
use Rattle.rm_sides.proofs.RangesLemmas.MissingLemmas.{goes-on-before}
use Rattle.rm_sides.proofs.RangesLemmas.MissingLemmas.{goes-on-gap, goes-on-last}
use Rattle.rm_sides.proofs.ranges.missing.missing_of.Goals as goal

pub returns-then-len-most : goal.returns-then-len-most
returns-then-len-most c =
    missing-enough _ _ c.loop-n.n _ c.loop-n.invariant (sym c.len.ensures ∙ c.if-len-most.true)
    (omega (
      arith,
      greatest-from c.args.ranges.now c.loop-range.range-index c.requires c.loop-range-test.true,
      c.loop-n-test.true,
    ))

pub loop-n-preserved : goal.loop-n-preserved
loop-n-preserved c = rw c.in_ok-push.ensures.ok
    (missing-push _ _ _ _ c.loop-n.invariant (omega (arith, c.loop-n.invariant.at_most))
    (goes-on-gap _ _ _ _ c.requires c.loop-range.invariant.goes_on c.loop-range-test.true c.loop-n.auto.n
    c.loop-n-test.true))

pub overflow_add-next : goal.overflow_add-next
overflow_add-next c =
    omega (arith, (RisesFrom-at 1 c.args.ranges.now c.loop-range.range-index c.requires c.loop-range-test.true).2)

pub loop-range-preserved : goal.loop-range-preserved
loop-range-preserved c =
    let i = c.loop-range.range-index in
    let range = range_at c.args.ranges.now i in
    let before = goes-on-before _ _ _ c.requires c.loop-range.invariant.goes_on c.loop-range-test.true in
    let at = RisesFrom-at 1 c.args.ranges.now i c.requires c.loop-range-test.true in
    let here : c.loop-n.n ≡ range.lower = omega (arith, c.loop-n.auto.n-end before) in
    record {
      told = missing-pass _ _ c.loop-n.n _ _ c.loop-n.invariant (omega (arith, at.1))
          (λ n from to. in_ranges-at c.args.ranges.now i n c.loop-range-test.true
          (grind (arith, in_range_tells range n)));
      goes_on = record {
        starts = λ e. absurd (omega arith);
        after = λ some. ap
            (λ k. (range_at c.args.ranges.now k).upper + 1) (omega arith);
      };
    }

pub returns : goal.returns
returns c = missing-all _ _ c.loop-range.next _ c.requires c.loop-range.invariant.told
    (goes-on-last _ c.loop-range.range-index _ c.loop-range.invariant.goes_on (omega arith))
