use Rattle.std.proofs.Common.{◌≤◌, ◌+◌, length, vec_len, vec_capacity}
use Rattle.rm_script.specs.Script.{lines_of, Says}
use Rattle.rm_script.specs.SaidLemmas.{ReadSoFar}
use Rattle.rm_script.proofs.script.read_script.Given as goal

abbrev pub invariant-loop-rest : goal.invariant-loop-rest
invariant-loop-rest l = record {
  read : ReadSoFar Says (lines_of l.bytes) (lines_of l.rest) l.events.items;
  room : vec_len l.events + length (lines_of l.rest) ≤ vec_capacity l.events;
}

abbrev pub decreases-loop-rest : goal.decreases-loop-rest
decreases-loop-rest l = length l.rest
