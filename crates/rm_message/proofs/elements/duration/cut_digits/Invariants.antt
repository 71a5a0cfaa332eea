use Rattle.std.proofs.Common.{◌≡◌, ◌++◌, take, drop}
use Rattle.rm_message.specs.Elements.Duration.{digits_of, behind_digits}
use Rattle.rm_message.proofs.elements.duration.cut_digits.Given as goal

-- all bytes so far are digits
abbrev pub invariant-loop-i : goal.invariant-loop-i
invariant-loop-i l = record {
  front : take l.i l.bytes ++ digits_of (drop l.i l.bytes) ≡ digits_of l.bytes;
  rest : behind_digits (drop l.i l.bytes) ≡ behind_digits l.bytes;
}
