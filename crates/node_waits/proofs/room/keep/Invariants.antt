use Rattle.std.proofs.Common.{◌≡◌}
use Rattle.std.specs.Vec.Iter.{into_iter_items}
use Rattle.rm_protocol.specs.Polls.{puts_all}
use Rattle.node_waits.specs.Held.{AreHeld, addresses_of, messages_of}
use Rattle.node_waits.proofs.room.keep.Given as goal

-- there is room for those that are left, and with them what waits is what is to wait in the end
abbrev pub invariant-loop-one : goal.invariant-loop-one
invariant-loop-one l = record {
  ready : l.waits.ready ≡ addresses_of (into_iter_items l.one-iterator);
  held : AreHeld (into_iter_items l.one-iterator);
  waits : puts_all l.waits.waits (messages_of (into_iter_items l.one-iterator))
      ≡ puts_all l.fn.waits.waits (messages_of l.fn.held.items);
}
