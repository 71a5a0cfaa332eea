use Rattle.std.proofs.Common.{◌≡◌, ◌++◌, drop, map, false}
use Rattle.soap_document.specs.Profile.View.{element_view}
use Rattle.soap_writer.specs.Nodes.Node.{nodes_text}
use Rattle.wsa_headers.specs.Texts.{params_nodes}
use Rattle.message_writer.proofs.fault_text.push_elements.Given as goal

-- those so far, and those of what is left
abbrev pub invariant-loop-element : goal.invariant-loop-element
invariant-loop-element l =
    l.out.items ++ nodes_text (params_nodes false (map element_view (drop l.element-index l.elements)))
    ≡ l.initial.out.items ++ nodes_text (params_nodes false (map element_view l.elements))
