use Rattle.std.proofs.Common.{◌∙◌, ap, arith, take}
use Rattle.rm_sides.specs.Ranges.Changes.{with_range}
use Rattle.rm_sides.specs.declared.ranges.range.Range.{Range}
use Rattle.rm_sides.proofs.RangesLemmas.RangesLemmas.{RisesFrom-at}
use Rattle.rm_sides.proofs.RangesLemmas.MergeLemmas.{read-at, read-as_before, merging-read, merging-next, merging-ended}
use Rattle.rm_sides.proofs.ranges.merge.merge_behind.Goals as goal

pub put_last-kept-requires-clause-a_range : goal.put_last-kept-requires-clause-a_range
put_last-kept-requires-clause-a_range c =
    let m = c.loop-read.invariant in
    let first = c.if-comes_first.ensures in
    rw (read-as_before _ _ _ m.rest) (read-at _ _ _ c.requires.ranges m.begun (omega (arith, first.within)))

pub loop-read-preserved-then-comes_first : goal.loop-read-preserved-then-comes_first
loop-read-preserved-then-comes_first c =
    let m = c.loop-read.invariant in
    let put = c.put_last-kept.ensures in
    let same = read-as_before c.args.all.now c.loop-read.all c.loop-read.read m.rest in
    merging-read _ _ _ _ _ _ c.loop-read.kept _ c.requires.ranges m c.if-comes_first.ensures c.loop-read.auto.all
    (record {
      few = put.count;
      sum = put.sum
          ∙ ap (λ (r : Range). with_range (take c.loop-read.kept c.loop-read.all) r.lower r.upper) same;
      rest = put.rest;
    })

pub put_last-kept-requires-else-comes_first-clause-a_range :
    goal.put_last-kept-requires-else-comes_first-clause-a_range
put_last-kept-requires-else-comes_first-clause-a_range c =
    let first = c.if-comes_first.ensures in
    let at = RisesFrom-at 1 c.args.others.now c.loop-read.next c.requires.others first.within in
    (at.0, at.1, at.2, tt)

pub loop-read-preserved : goal.loop-read-preserved
loop-read-preserved c =
    let put = c.put_last-kept-else-comes_first.ensures in
    merging-next _ _ _ _ _ _ c.loop-read.kept _ c.requires.others c.loop-read.invariant c.if-comes_first.ensures
    c.loop-read.auto.all
    (record { few = put.count; sum = put.sum; rest = put.rest })

pub returns-clause-united : goal.returns-clause-united
returns-clause-united c =
    merging-ended _ _ _ c.loop-read.read c.loop-read.next _ c.requires.ranges c.requires.others c.loop-read.invariant
    (omega (arith, c.loop-read.auto.all, c.if-read-all.false)) c.if-next-others.false
