use Rattle.std.proofs.Common.{◌≡◌, drop}
use Rattle.xml_chars.specs.Classes.{is_within}
use Rattle.xml_chars.proofs.is_within.Given as goal

-- the ranges before the index don't have the character
abbrev pub invariant-loop-range : goal.invariant-loop-range
invariant-loop-range l = is_within l.ranges l.c ≡ is_within (drop l.range-index l.ranges) l.c
