use Rattle.std.proofs.Common.{◌≡◌, ◌++◌, take, drop}
use Rattle.std.specs.Prelude.{map}
use Rattle.soap_lex.specs.Value.{space_of}
use Rattle.soap_lex.proofs.lines.blank.Given as goal

-- the bytes before the index are done
abbrev pub invariant-loop-byte : goal.invariant-loop-byte
invariant-loop-byte l = l.bytes ≡ map space_of (take l.byte-index l.initial.bytes) ++ drop l.byte-index l.initial.bytes
