use Rattle.std.proofs.Common.{◌≡◌, ◌-◌, ◌^◌, ◌<◌, drop, min, true}
use Rattle.std.specs.Str.{all_ascii_digits}
use Rattle.std.specs.Str.Parse.{digits_value, digits_value_after}
use Rattle.soap_writer.proofs.values.number.number_of.Given as goal

-- the number so far, with the digits that are left behind it
abbrev pub invariant-loop-digit : goal.invariant-loop-digit
invariant-loop-digit l = record {
  fits : l.number < 2 ^ 64;
  digits : all_ascii_digits (drop l.digit-index l.digits) ≡ true;
  number : min (digits_value_after 10 l.number (drop l.digit-index l.digits)) (2 ^ 64 - 1)
      ≡ min (digits_value 10 l.digits) (2 ^ 64 - 1);
}
