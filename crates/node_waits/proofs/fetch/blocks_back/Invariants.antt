use Rattle.std.proofs.Common.{◌≡◌, ◌++◌, drop}
use Rattle.rm_protocol.specs.Polls.{blocks_back}
use Rattle.node_waits.proofs.fetch.blocks_back.Given as goal

-- those so far, and those of the messages that are left
abbrev pub invariant-loop-message : goal.invariant-loop-message
invariant-loop-message l = l.blocks ++ blocks_back (drop l.message-index l.said) ≡ blocks_back l.said
