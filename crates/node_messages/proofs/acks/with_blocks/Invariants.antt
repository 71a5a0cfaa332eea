use Rattle.std.proofs.Common.{◌≡◌}
use Rattle.std.specs.Vec.Iter.{into_iter_items}
use Rattle.rm_protocol.specs.Said.{with_blocks}
use Rattle.node_messages.proofs.acks.with_blocks.Given as goal

-- the message with the blocks that are left is that with all of them
abbrev pub invariant-loop-block : goal.invariant-loop-block
invariant-loop-block l = with_blocks l.message (into_iter_items l.block-iterator) ≡ with_blocks l.fn.message l.fn.blocks
