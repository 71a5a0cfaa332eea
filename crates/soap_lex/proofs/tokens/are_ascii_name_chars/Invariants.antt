use Rattle.std.proofs.Common.{◌<◌, take}
use Rattle.std.specs.Prelude.{IsTrue}
use Rattle.std.specs.List.{All}
use Rattle.xml_chars.specs.Classes.{is_name_char}
use Rattle.soap_lex.proofs.tokens.are_ascii_name_chars.Given as goal

-- the bytes so far are ASCII characters that may stand in a name
abbrev pub invariant-loop-byte : goal.invariant-loop-byte
invariant-loop-byte l = All (λ byte. (byte < 128) × IsTrue (is_name_char byte)) (take l.byte-index l.bytes)
