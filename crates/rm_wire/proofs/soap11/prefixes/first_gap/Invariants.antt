use Rattle.std.proofs.Common.{take}
use Rattle.rm_wire.proofs.Soap11Lemmas.Numbers.{IsGap}
use Rattle.rm_wire.proofs.soap11.prefixes.first_gap.Given as goal

-- the gap among those so far
abbrev pub invariant-loop-number : goal.invariant-loop-number
invariant-loop-number l = IsGap (take l.number-index l.numbers) l.gap
