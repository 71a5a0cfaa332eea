use Rattle.std.proofs.Common.{arith}
use Rattle.std.proofs.lemmas.List.Sums.{sum_by-insert}
use Rattle.rm_sides.specs.Ranges.Ranges.{size_of}
use Rattle.rm_sides.proofs.RangesLemmas.CountLemmas.{count_of-few}
use Rattle.rm_sides.proofs.ranges.range.put_in.Goals as goal

pub overflow_add-count : goal.overflow_add-count
overflow_add-count c =
    omega (
      arith,
      c.requires.counted,
      c.size.ensures,
      count_of-few _ c.requires.canonical,
      sum_by-insert size_of c.args.ranges.now.items c.args.at c.args.range,
    )

pub returns-clause-counted : goal.returns-clause-counted
returns-clause-counted c =
    rw c.in_ok-insert.ensures.items
    (omega (
      arith,
      c.requires.counted,
      c.size.ensures,
      sum_by-insert size_of c.args.ranges.now.items c.args.at c.args.range,
    ))
