use Rattle.std.proofs.Common.{◌≡◌, ◌++◌, drop, map}
use Rattle.soap_document.specs.Profile.View.{element_view}
use Rattle.soap_writer.specs.Nodes.Node.{nodes_text}
use Rattle.wsa_headers.specs.Texts.{params_nodes}
use Rattle.wsa_headers.proofs.write.push_params.Given as goal

-- those so far, and those of what is left
abbrev pub invariant-loop-param : goal.invariant-loop-param
invariant-loop-param l =
    l.out.items ++ nodes_text (params_nodes l.marked (map element_view (drop l.param-index l.params)))
    ≡ l.initial.out.items ++ nodes_text (params_nodes l.marked (map element_view l.params))
