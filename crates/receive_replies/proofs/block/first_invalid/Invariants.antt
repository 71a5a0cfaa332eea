use Rattle.std.proofs.Common.{◌≡◌, ◌++◌, drop}
use Rattle.rm_protocol.specs.Calls.{first_invalid}
use Rattle.receive_replies.proofs.block.first_invalid.Given as goal
use Rattle.tables_ahead.specs.Known.{all_records}

abbrev pub invariant-loop-block : goal.invariant-loop-block
invariant-loop-block l =
    let r = all_records l.ahead in first_invalid r (drop l.block-index l.blocks) ≡ first_invalid r l.blocks
