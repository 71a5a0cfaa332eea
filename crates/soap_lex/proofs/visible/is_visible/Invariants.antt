use Rattle.std.proofs.Common.{take}
use Rattle.std.specs.List.{All}
use Rattle.soap_lex.proofs.VisibleLemmas.{IsVisible}
use Rattle.soap_lex.proofs.visible.is_visible.Given as goal

-- the bytes so far are visible
abbrev pub invariant-loop-byte : goal.invariant-loop-byte
invariant-loop-byte l = All (IsVisible l.other) (take l.byte-index l.bytes)
