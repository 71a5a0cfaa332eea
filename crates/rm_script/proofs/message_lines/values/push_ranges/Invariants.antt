use Rattle.std.proofs.Common.{◌≡◌, ◌++◌, drop}
use Rattle.rm_script.specs.MessageLines.Lines.{more_ranges}
use Rattle.rm_script.proofs.message_lines.values.push_ranges.Given as goal

abbrev pub invariant-loop-range : goal.invariant-loop-range
invariant-loop-range l = l.out ++ more_ranges (drop l.range-index l.rest) ≡ l.initial.out ++ more_ranges l.rest
