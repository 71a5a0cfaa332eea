use Rattle.std.proofs.Common.{◌≡◌, ◌++◌, drop}
use Rattle.rm_script.specs.MessageLines.Lines.{more_numbers}
use Rattle.rm_script.proofs.message_lines.values.push_numbers.Given as goal

abbrev pub invariant-loop-number : goal.invariant-loop-number
invariant-loop-number l = l.out ++ more_numbers (drop l.number-index l.rest) ≡ l.initial.out ++ more_numbers l.rest
