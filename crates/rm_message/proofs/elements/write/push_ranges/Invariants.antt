use Rattle.std.proofs.Common.{◌≡◌, ◌++◌, drop}
use Rattle.soap_writer.specs.Nodes.Node.{nodes_text, nothing, each_node}
use Rattle.rm_message.specs.Elements.Texts.{range_node}
use Rattle.rm_message.proofs.elements.write.push_ranges.Given as goal

-- those so far, and those of what is left
abbrev pub invariant-loop-range : goal.invariant-loop-range
invariant-loop-range l =
    l.out.items ++ nodes_text (each_node range_node (drop l.range-index l.ranges) nothing)
    ≡ l.initial.out.items ++ nodes_text (each_node range_node l.ranges nothing)
