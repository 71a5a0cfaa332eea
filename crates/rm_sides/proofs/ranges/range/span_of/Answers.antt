use Rattle.std.proofs.Common.{ℕ, ◌-◌, ◌<◌, length, arith, inl, inr}
use Rattle.std.proofs.lemmas.Bool.{cases_lt}
use Rattle.rm_sides.proofs.RangesLemmas.RangesLemmas.{RisesFrom-at, RisesFrom-gap, RisesFrom-starts, RisesFrom-ends}
use Rattle.rm_sides.proofs.ranges.range.span_of.Goals as goal

pub returns-then-last-lower : goal.returns-then-last-lower
returns-then-last-lower c =
    let last : ℕ = length c.args.ranges.now - 1 in
    record {
      rises = omega arith;
      within = omega arith;
      before = λ k h. omega (
        arith,
        RisesFrom-ends 1 c.args.ranges.now k last c.requires.canonical (omega arith)
            (omega arith),
      );
      touched = λ k le h. absurd (omega arith);
      after = λ k le h. absurd (omega arith);
    }

pub returns-then-last-lower-2 : goal.returns-then-last-lower-2
returns-then-last-lower-2 c =
    let last : ℕ = length c.args.ranges.now - 1 in
    record {
      rises = omega arith;
      within = omega arith;
      before = λ k h. omega (arith, RisesFrom-gap 1 c.args.ranges.now k last c.requires.canonical h (omega arith));
      touched = λ k le h. (
        omega (arith, RisesFrom-starts 1 c.args.ranges.now k last c.requires.canonical (omega arith) (omega arith)),
        omega (arith, RisesFrom-ends 1 c.args.ranges.now last k c.requires.canonical le h),
      );
      after = λ k le h. absurd (omega arith);
    }

pub returns : goal.returns
returns c =
    let place = c.place_of.ensures in
    let end = c.end_of.ensures in
    record {
      rises = elim (cases_lt c.end_of.result c.place_of.result) [
        | inl lt ↦
            let within : c.end_of.result < length c.args.ranges.now = omega (arith, place.within) in
            absurd (omega (
              arith,
              place.before c.end_of.result lt,
              end.after c.end_of.result (omega arith) within,
              (RisesFrom-at 1 c.args.ranges.now c.end_of.result c.requires.canonical within).1,
            ))
        | inr le ↦ le
      ];
      within = end.within;
      before = λ k h. omega (arith, place.before k h);
      touched = λ k le h. (end.before k h, omega (arith, place.after k le (omega (arith, end.within))));
      after = end.after;
    }
