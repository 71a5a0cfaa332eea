use Rattle.std.proofs.Common.{◌≡◌, ◌++◌, drop}
use Rattle.std.specs.List.{flat_map}
use Rattle.rm_script.specs.MessageLines.Lines.{ack_line}
use Rattle.rm_script.proofs.message_lines.lines.push_acks.Given as goal

abbrev pub invariant-loop-block : goal.invariant-loop-block
invariant-loop-block l =
    l.out ++ flat_map ack_line (drop l.block-index l.blocks) ≡ l.initial.out ++ flat_map ack_line l.blocks
