use Rattle.std.proofs.Common.{◌≡◌, ◌++◌, drop}
use Rattle.rm_protocol.specs.Waiting.{nacked}
use Rattle.receive_answer.proofs.nacked.nacked.Given as goal

abbrev pub invariant-loop-block : goal.invariant-loop-block
invariant-loop-block l =
    let r = l.tables.records in l.keys.items ++ nacked r (drop l.block-index l.blocks) ≡ nacked r l.blocks
