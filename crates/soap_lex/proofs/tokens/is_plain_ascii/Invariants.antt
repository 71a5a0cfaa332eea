use Rattle.std.proofs.Common.{◌≡◌, ◌<◌, true, take}
use Rattle.std.specs.Prelude.{IsTrue}
use Rattle.std.specs.List.{All}
use Rattle.xml_chars.specs.Classes.{is_char}
use Rattle.soap_lex.proofs.tokens.is_plain_ascii.Given as goal

-- where all are plain so far, they are ASCII characters of a document
abbrev pub invariant-loop-byte : goal.invariant-loop-byte
invariant-loop-byte l = l.plain ≡ true → All (λ byte. (byte < 128) × IsTrue (is_char byte)) (take l.byte-index l.bytes)
