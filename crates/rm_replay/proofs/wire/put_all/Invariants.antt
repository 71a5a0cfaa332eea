use Rattle.std.proofs.Common.{◌≡◌, take}
use Rattle.rm_replay.specs.Happening.{with_all}
use Rattle.rm_replay.proofs.wire.put_all.Given as goal

-- the first packets were put
abbrev pub invariant-loop-out : goal.invariant-loop-out
invariant-loop-out g l =
    g.W.Wire.packets l.wire ≡ with_all (g.W.Wire.packets l.fn.wire) l.to (take l.out-index l.outs)
