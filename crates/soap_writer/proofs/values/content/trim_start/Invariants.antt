use Rattle.std.proofs.Common.{◌≡◌, drop}
use Rattle.soap_writer.specs.Values.Values.{trimmed_start}
use Rattle.soap_writer.proofs.values.content.trim_start.Given as goal

-- what is left has the same start
abbrev pub invariant-loop-i : goal.invariant-loop-i
invariant-loop-i l = trimmed_start (drop l.i l.bytes) ≡ trimmed_start l.bytes
