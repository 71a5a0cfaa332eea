use Rattle.std.proofs.Common.{◌≡◌, ◌++◌, drop}
use Rattle.rm_script.specs.MessageLines.Lines.{escaped}
use Rattle.rm_script.proofs.message_lines.values.push_escaped.Given as goal

abbrev pub invariant-loop-byte : goal.invariant-loop-byte
invariant-loop-byte l = l.out ++ escaped (drop l.byte-index l.bytes) ≡ l.initial.out ++ escaped l.bytes
