use Rattle.std.proofs.Common.{◌≡◌, drop}
use Rattle.std.specs.Str.{all_ascii_digits}
use Rattle.soap_writer.proofs.values.number.are_digits.Given as goal

-- those that are left decide
abbrev pub invariant-loop-digit : goal.invariant-loop-digit
invariant-loop-digit l = all_ascii_digits (drop l.digit-index l.digits) ≡ all_ascii_digits l.digits
