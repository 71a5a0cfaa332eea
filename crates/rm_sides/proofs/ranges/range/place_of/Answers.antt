use Rattle.std.proofs.Common.{ℕ, ◌+◌, ◌-◌, ◌/◌, ◌<◌, length, arith}
use Rattle.rm_sides.proofs.RangesLemmas.RangesLemmas.{RisesFrom-ends}
use Rattle.rm_sides.proofs.ranges.range.place_of.Goals as goal

pub loop-low-preserved-then-ranges-mid : goal.loop-low-preserved-then-ranges-mid
loop-low-preserved-then-ranges-mid c =
    let mid : ℕ = c.loop-low.low + (c.loop-low.high - c.loop-low.low) / 2 in
    let inv = c.loop-low.invariant in
    let within : mid < length c.args.ranges.now = omega (arith, inv.within) in
    record {
      ordered = omega (arith, inv.ordered);
      within = inv.within;
      before = λ k h. omega (
        arith,
        c.if-ranges-mid.true,
        RisesFrom-ends 1 c.args.ranges.now k mid c.requires
            (omega arith) within,
      );
      after = inv.after;
    }

pub loop-low-preserved : goal.loop-low-preserved
loop-low-preserved c =
    let mid : ℕ = c.loop-low.low + (c.loop-low.high - c.loop-low.low) / 2 in
    let inv = c.loop-low.invariant in
    record {
      ordered = omega (arith, inv.ordered);
      within = omega (arith, inv.within);
      before = inv.before;
      after = λ k le h. omega (arith, c.if-ranges-mid.false, RisesFrom-ends 1 c.args.ranges.now mid k c.requires le h);
    }

pub returns : goal.returns
returns c =
    let inv = c.loop-low.invariant in
    record {
      within = omega (arith, inv.within);
      before = inv.before;
      after = λ k le h. inv.after k (omega arith) h;
    }
