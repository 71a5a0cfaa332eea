use Rattle.std.proofs.Common.{◌∙◌, codes}
use Rattle.soap_envelope.specs.Soap.{soap_space}
use Rattle.soap_document.specs.Profile.Tree.{child}
use Rattle.soap_document.specs.Profile.View.{items_view}
use Rattle.soap_writer.specs.Nodes.Node.{nodes_tree}
use Rattle.rm_message.specs.Elements.Outcome.{rm}
use Rattle.rm_message.specs.Elements.Texts.{kind_nodes, final_nodes}
use Rattle.message_writer.specs.Faults.{ident_element}
use Rattle.message_writer.proofs.TreeLemmas.{only_parts}
use Rattle.message_writer.proofs.trees.ack_tree.Goals as goal

pub returns : goal.returns
returns c =
    let block = c.args.block.now in
    let rest = nodes_tree soap_space (kind_nodes block.kind (final_nodes block.last)) in
    c.in_ok-tree.ensures
    ∙ only_parts (rm (codes "SequenceAcknowledgement")) (items_view c.in_ok-items.items.items)
    (child (ident_element block.ident) rest) c.in_ok-items.ensures
