use Rattle.std.proofs.Common.{◌≡◌, [], drop}
use Rattle.std.specs.List.{AllByRecursion}
use Rattle.rm_sides.specs.Ranges.Changes.{united}
use Rattle.node_tables.specs.Shorter.{IsRange}
use Rattle.node_tables.proofs.snapshot.set_of.Given as goal

abbrev pub invariant-loop-range : goal.invariant-loop-range
invariant-loop-range l = record {
  numbers : united l.set.ranges (drop l.range-index l.ranges) ≡ united [] l.ranges;
  ranges : AllByRecursion IsRange (drop l.range-index l.ranges);
}
