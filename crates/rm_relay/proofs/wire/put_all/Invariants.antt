use Rattle.std.proofs.Common.{◌≡◌, map, take}
use Rattle.rm_relay.specs.Putting.{going_of, net_of, with_all}
use Rattle.rm_relay.proofs.wire.put_all.Given as goal

-- the first packets were put
abbrev pub invariant-loop-out : goal.invariant-loop-out
invariant-loop-out g l =
    net_of g.W.Wire.packets l.wire l.senders.items
    ≡ with_all (net_of g.W.Wire.packets l.fn.wire l.fn.senders.items) l.from
    (map (going_of l.back) (take l.out-index l.outs))
