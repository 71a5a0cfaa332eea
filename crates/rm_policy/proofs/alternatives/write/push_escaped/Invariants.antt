use Rattle.std.proofs.Common.{◌≡◌, ◌++◌, drop}
use Rattle.rm_policy.specs.Alternatives.Texts.{escaped}
use Rattle.rm_policy.proofs.alternatives.write.push_escaped.Given as goal

abbrev pub invariant-loop-byte : goal.invariant-loop-byte
invariant-loop-byte l = l.out ++ escaped (drop l.byte-index l.bytes) ≡ l.initial.out ++ escaped l.bytes
