use Rattle.std.proofs.Common.{◌+◌, ◌-◌, length}
use Rattle.rm_sides.proofs.RangesLemmas.MergeLemmas.{Merging}
use Rattle.rm_sides.proofs.ranges.merge.merge_behind.Given as goal

abbrev pub invariant-loop-read : goal.invariant-loop-read
invariant-loop-read l = Merging l.initial.all l.all l.others l.read l.next l.kept

abbrev pub decreases-loop-read : goal.decreases-loop-read
decreases-loop-read l = (length l.all - l.read) + (length l.others - l.next)
