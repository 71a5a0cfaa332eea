use Rattle.std.proofs.Common.{◌≡◌, ◌++◌, take}
use Rattle.std.specs.List.{flat_map}
use Rattle.record_batch.specs.Parts.{range}
use Rattle.record_batch.proofs.writers.put_each_range.Given as goal

-- those so far were written
abbrev pub invariant-loop-range : goal.invariant-loop-range
invariant-loop-range l = l.out.items ≡ l.fn.out.items ++ flat_map range.written (take l.range-index l.ranges)
