use Rattle.std.proofs.Common.{take}
use Rattle.rm_wire.specs.Soap11.Lift.{AreNumbers}
use Rattle.rm_wire.proofs.soap11.prefixes.numbers_in.Given as goal

-- the numbers of those so far
abbrev pub invariant-loop-binding : goal.invariant-loop-binding
invariant-loop-binding l = AreNumbers (take l.binding-index l.scope) l.numbers.items
