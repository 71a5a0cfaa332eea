use Rattle.std.proofs.Common.{◌<◌, length, arith}
use Rattle.rm_sides.proofs.RangesLemmas.RangesLemmas.{RisesFrom-at, RisesFrom-gap, RisesFrom-starts}
use Rattle.rm_sides.proofs.ranges.range.end_of.Goals as goal

pub returns-then-place-ranges : goal.returns-then-place-ranges
returns-then-place-ranges c =
    let place = c.place_of-place.ensures in
    record {
      within = place.within;
      before = λ k h. omega (
        arith,
        place.before k h,
        (RisesFrom-at 1 c.args.ranges.now k c.requires (omega (arith, place.within))).1,
      );
      after = λ k le h. absurd (omega arith);
    }

pub returns-then-n-ranges : goal.returns-then-n-ranges
returns-then-n-ranges c =
    let place = c.place_of-place.ensures in
    record {
      within = place.within;
      before = λ k h. omega (
        arith,
        place.before k h,
        (RisesFrom-at 1 c.args.ranges.now k c.requires (omega (arith, place.within))).1,
      );
      after = λ k le h. omega (arith, RisesFrom-starts 1 c.args.ranges.now c.place_of-place.result k c.requires le h);
    }

pub returns : goal.returns
returns c =
    let place = c.place_of-place.ensures in
    let within : c.place_of-place.result < length c.args.ranges.now = omega (arith, place.within) in
    record {
      within = omega arith;
      before = λ k h. omega (
        arith,
        RisesFrom-starts 1 c.args.ranges.now k c.place_of-place.result c.requires
            (omega arith) within,
      );
      after = λ k le h. omega (
        arith,
        place.after c.place_of-place.result (omega arith) within,
        RisesFrom-gap 1 c.args.ranges.now c.place_of-place.result k c.requires (omega arith) h,
      );
    }
