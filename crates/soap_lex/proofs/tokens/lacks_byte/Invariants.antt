use Rattle.std.proofs.Common.{◌≡◌, ◌≢◌, true, take}
use Rattle.std.specs.List.{All}
use Rattle.soap_lex.proofs.tokens.lacks_byte.Given as goal

-- where it was not met so far, no byte is it
abbrev pub invariant-loop-byte : goal.invariant-loop-byte
invariant-loop-byte l = l.lacks ≡ true → All (λ byte. byte ≢ l.other) (take l.byte-index l.bytes)
