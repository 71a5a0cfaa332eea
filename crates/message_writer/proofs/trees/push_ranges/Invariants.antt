use Rattle.std.proofs.Common.{◌≡◌, ◌++◌, drop}
use Rattle.soap_document.specs.Profile.Items.{listed}
use Rattle.soap_envelope.specs.Soap.{soap_space}
use Rattle.soap_document.specs.Profile.View.{items_view}
use Rattle.soap_writer.specs.Nodes.Node.{nothing, each_node, nodes_tree}
use Rattle.rm_message.specs.Elements.Texts.{range_node}
use Rattle.message_writer.proofs.trees.push_ranges.Given as goal

-- those so far, and those of what is left
abbrev pub invariant-loop-range : goal.invariant-loop-range
invariant-loop-range l =
    items_view l.items.items
    ++ listed (nodes_tree soap_space (each_node range_node (drop l.range-index l.ranges) nothing))
    ≡ items_view l.initial.items.items
    ++ listed (nodes_tree soap_space (each_node range_node l.ranges nothing))
