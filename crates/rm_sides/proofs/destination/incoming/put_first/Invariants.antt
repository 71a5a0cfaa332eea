use Rattle.std.proofs.Common.{◌≡◌, ◌+◌, ◌≤◌, take}
use Rattle.rm_sides.specs.Destination.Messages.{numbers_of, ranges_onto}
use Rattle.rm_sides.proofs.destination.incoming.put_first.Given as goal

abbrev pub invariant-loop-at : goal.invariant-loop-at
invariant-loop-at l = record {
  put : l.purged.ranges ≡ ranges_onto l.fn.purged.ranges (numbers_of (take l.at l.came));
  spare : l.fn.purged.spare ≤ l.purged.spare + l.at;
}
