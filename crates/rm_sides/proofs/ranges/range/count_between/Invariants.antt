use Rattle.std.proofs.Common.{◌≡◌, ◌+◌, take}
use Rattle.rm_sides.specs.Ranges.Ranges.{count_of}
use Rattle.rm_sides.proofs.ranges.range.count_between.Given as goal

abbrev pub invariant-loop-place : goal.invariant-loop-place
invariant-loop-place l = l.count + count_of (take l.from l.ranges) ≡ count_of (take l.place l.ranges)
