use Rattle.std.proofs.Common.{◌≡◌, ◌++◌, drop}
use Rattle.rm_protocol.specs.Polls.{waiting_of}
use Rattle.node_waits.specs.Held.{AreHeld, messages_of}
use Rattle.node_waits.proofs.room.to_wait.Given as goal

-- those so far, and those of the messages that are left
abbrev pub invariant-loop-message : goal.invariant-loop-message
invariant-loop-message l = record {
  messages : messages_of l.held.items ++ waiting_of (drop l.message-index l.said) ≡ waiting_of l.said;
  held : AreHeld l.held.items;
}
