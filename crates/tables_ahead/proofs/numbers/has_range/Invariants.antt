use Rattle.std.proofs.Common.{◌≡◌, drop}
use Rattle.rm_sides.specs.Ranges.Changes.{covers}
use Rattle.tables_ahead.proofs.numbers.has_range.Given as goal

abbrev pub invariant-loop-range : goal.invariant-loop-range
invariant-loop-range l =
    covers (drop l.range-index l.ranges) l.other.lower l.other.upper ≡ covers l.ranges l.other.lower l.other.upper
