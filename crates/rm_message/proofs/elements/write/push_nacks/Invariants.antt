use Rattle.std.proofs.Common.{◌≡◌, ◌++◌, drop}
use Rattle.soap_writer.specs.Nodes.Node.{nodes_text, nothing, each_node}
use Rattle.rm_message.specs.Elements.Texts.{nack_node}
use Rattle.rm_message.proofs.elements.write.push_nacks.Given as goal

-- those so far, and those of what is left
abbrev pub invariant-loop-number : goal.invariant-loop-number
invariant-loop-number l =
    l.out.items ++ nodes_text (each_node nack_node (drop l.number-index l.numbers) nothing)
    ≡ l.initial.out.items ++ nodes_text (each_node nack_node l.numbers nothing)
