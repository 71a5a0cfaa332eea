use Rattle.std.proofs.Common.{◌≡◌, true, take}
use Rattle.std.specs.List.{All}
use Rattle.soap_lex.proofs.CharsLemmas.{IsPlainBut}
use Rattle.soap_lex.proofs.tokens.is_plain_run.Given as goal

-- where all are plain so far, they are ASCII characters of a document, and none is one of those three
abbrev pub invariant-loop-byte : goal.invariant-loop-byte
invariant-loop-byte l = l.plain ≡ true → All (IsPlainBut l.other) (take l.byte-index l.bytes)
