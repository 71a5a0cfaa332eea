use Rattle.std.proofs.Common.{◌≡◌, ◌++◌, ◌-◌, flat_map}
use Rattle.rm_script.specs.Lines.{ended}
use Rattle.rm_script.specs.Soak.Soak.{turns, soak_script}
use Rattle.rm_script.proofs.soak.turns.script.Given as goal

-- the lines of the turns from i on are still to come
abbrev pub invariant-loop-i : goal.invariant-loop-i
invariant-loop-i l = l.out ++ flat_map ended (turns (3001 - l.i) l.i l.words) ≡ soak_script l.number
