use Rattle.std.proofs.Common.{arith}
use Rattle.rm_sides.proofs.RangesLemmas.CountLemmas.{count_of-few, count_of-take, count_of-joined}
use Rattle.rm_sides.proofs.ranges.range.join.Goals as goal

pub overflow_sub-count : goal.overflow_sub-count
overflow_sub-count c =
    let between = rw c.deref.ensures.value at c.count_between.ensures in
    omega (arith, between, c.requires.counted, count_of-take c.args.ranges.now.items c.args.to)

pub overflow_add-count : goal.overflow_add-count
overflow_add-count c =
    let between = rw c.deref.ensures.value at c.count_between.ensures in
    omega (
      arith,
      between,
      c.requires.counted,
      c.size.ensures,
      count_of-few _ c.requires.canonical,
      count_of-joined c.args.ranges.now.items c.args.from c.args.to c.args.joined,
    )

pub returns-clause-counted : goal.returns-clause-counted
returns-clause-counted c =
    let between = rw c.deref.ensures.value at c.count_between.ensures in
    rw c.replace.ensures.items
    (omega (
      arith,
      between,
      c.requires.counted,
      c.size.ensures,
      count_of-take c.args.ranges.now.items c.args.to,
      count_of-joined c.args.ranges.now.items c.args.from c.args.to c.args.joined,
    ))
