use Rattle.std.proofs.Common.{◌≡◌, [], drop}
use Rattle.std.specs.List.{AllByRecursion}
use Rattle.rm_sides.specs.Ranges.Changes.{united}
use Rattle.rm_protocol.specs.Next.{IsNumberRange}
use Rattle.receive_answer.proofs.records.acks.numbers_of.Given as goal

abbrev pub invariant-loop-range : goal.invariant-loop-range
invariant-loop-range l = record {
  numbers : united l.numbers.ranges (drop l.range-index l.ranges) ≡ united [] l.ranges;
  ranges : AllByRecursion IsNumberRange (drop l.range-index l.ranges);
}
