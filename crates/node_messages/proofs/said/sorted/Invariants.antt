use Rattle.std.specs.Vec.Iter.{into_iter_items}
use Rattle.node_messages.proofs.SaidLemmas.{IsSplit}
use Rattle.node_messages.proofs.said.sorted.Given as goal

-- the parts so far, and those of what is left
abbrev pub invariant-loop-endpoint : goal.invariant-loop-endpoint
invariant-loop-endpoint l = IsSplit l.to l.back l.own.items (into_iter_items l.endpoint-iterator) l.fn.acks.items
