use Rattle.std.proofs.Common.{◌≡◌, ◌++◌}
use Rattle.std.specs.Vec.Iter.{into_iter_items}
use Rattle.node_messages.proofs.said.append.Given as goal

-- those so far, and those that are left
abbrev pub invariant-loop-message : goal.invariant-loop-message
invariant-loop-message l =
    l.said.items ++ into_iter_items l.message-iterator ≡ l.fn.said.items ++ l.fn.more.items
