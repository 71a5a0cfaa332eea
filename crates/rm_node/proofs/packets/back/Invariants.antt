use Rattle.std.proofs.Common.{◌≡◌, drop}
use Rattle.rm_node.specs.Packets.{back_text}
use Rattle.rm_node.proofs.packets.back.Given as goal

-- it is among the messages that are left
abbrev pub invariant-loop-message : goal.invariant-loop-message
invariant-loop-message l = back_text (drop l.message-index l.said) ≡ back_text l.said
