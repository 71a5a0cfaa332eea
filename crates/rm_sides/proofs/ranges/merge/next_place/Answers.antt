use Rattle.std.proofs.Common.{arith}
use Rattle.rm_sides.proofs.RangesLemmas.RangesLemmas.{RisesFrom-ends}
use Rattle.rm_sides.proofs.ranges.merge.next_place.Goals as goal

pub returns-else-ranges-place-clause-place : goal.returns-else-ranges-place-clause-place
returns-else-ranges-place-clause-place c =
    let inv = c.loop-place.invariant in
    record {
      within = inv.within;
      before = inv.before;
      after = λ k le h. omega (
        arith,
        c.if-ranges-place.false,
        RisesFrom-ends 1 c.args.ranges.now c.loop-place.place k c.requires.canonical le h,
      );
    }
