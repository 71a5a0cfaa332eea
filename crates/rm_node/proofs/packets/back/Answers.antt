use Rattle.rm_node.proofs.PacketLemmas.{back-now}
use Rattle.rm_node.proofs.packets.back.Goals as goal

pub returns-then-is_anonymous : goal.returns-then-is_anonymous
returns-then-is_anonymous c =
    back-now c.args.said.now _ _ _ _ _ c.message-item.is c.loop-message-test.true c.loop-message.invariant
    c.as_slice.ensures.bytes c.is_anonymous.ensures c.if-is_anonymous.true c.in_ok-encode.ensures
