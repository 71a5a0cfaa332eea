use Rattle.std.proofs.Common.{◌≡◌, ◌++◌, drop, map}
use Rattle.rm_message.specs.Elements.Texts.{ack_node}
use Rattle.message_writer.specs.Text.{blocks_text}
use Rattle.message_writer.proofs.write.push_acks.Given as goal

-- those so far, and those of what is left
abbrev pub invariant-loop-ack : goal.invariant-loop-ack
invariant-loop-ack l =
    l.out.items ++ blocks_text (map ack_node (drop l.ack-index l.acks))
    ≡ l.initial.out.items ++ blocks_text (map ack_node l.acks)
