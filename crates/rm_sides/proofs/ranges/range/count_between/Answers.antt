use Rattle.std.proofs.Common.{ℕ, arith, ◌+◌, ◌<◌, ◌≤◌}
use Rattle.rm_sides.proofs.RangesLemmas.CountLemmas.{count_of-few, count_of-take, count_of-take-more}
use Rattle.rm_sides.proofs.RangesLemmas.RangesLemmas.{RisesFrom-at}
use Rattle.rm_sides.proofs.ranges.range.count_between.Goals as goal

-- a place before the end is a place
within : {i to n : ℕ} → to ≤ n → i < to → i < n
within h lt = omega arith

pub size-count-requires-clause-ordered : goal.size-count-requires-clause-ordered
size-count-requires-clause-ordered c =
    (RisesFrom-at 1 c.args.ranges.now c.loop-place.place c.requires.canonical
    (within c.requires.within c.loop-place-test.true)).1

pub size-count-requires-clause-from_one : goal.size-count-requires-clause-from_one
size-count-requires-clause-from_one c =
    let at = RisesFrom-at 1 c.args.ranges.now c.loop-place.place c.requires.canonical
    (within c.requires.within c.loop-place-test.true) in
    omega (arith, at.0)

pub overflow_add-count : goal.overflow_add-count
overflow_add-count c =
    let rs = c.args.ranges.now in
    let i = c.loop-place.place in
    omega (
      arith,
      c.loop-place.invariant,
      c.size-count.ensures,
      count_of-few rs c.requires.canonical,
      count_of-take rs (i + 1),
      count_of-take-more rs i (within c.requires.within c.loop-place-test.true),
    )

pub loop-place-preserved : goal.loop-place-preserved
loop-place-preserved c =
    let rs = c.args.ranges.now in
    let i = c.loop-place.place in
    let more = count_of-take-more rs i (within c.requires.within c.loop-place-test.true) in
    omega (arith, c.loop-place.invariant, c.size-count.ensures, more)
