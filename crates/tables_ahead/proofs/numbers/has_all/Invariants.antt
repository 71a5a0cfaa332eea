use Rattle.std.proofs.Common.{◌≡◌, drop}
use Rattle.rm_sides.specs.Ranges.Changes.{covers_all}
use Rattle.tables_ahead.proofs.numbers.has_all.Given as goal

abbrev pub invariant-loop-other : goal.invariant-loop-other
invariant-loop-other l = covers_all l.ranges (drop l.other-index l.others) ≡ covers_all l.ranges l.others
