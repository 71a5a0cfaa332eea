use Rattle.std.proofs.Common.{◌∙◌, ◌++◌, sym, ap, append_assoc}
use Rattle.soap_writer.specs.Nodes.Node.{nodes_text, nothing}
use Rattle.rm_message.specs.Elements.Texts.{kind_nodes, final_nodes}
use Rattle.rm_message.proofs.ElementsLemmas.NodeLemmas.{kind_first}
use Rattle.rm_message.proofs.elements.write.push_rest.Goals as goal

pub returns : goal.returns
returns c =
    let kind = nodes_text (kind_nodes c.args.kind.now nothing) in
    let last = nodes_text (final_nodes c.args.last) in
    c.in_ok-push_final.ensures ∙ ap (λ l. l ++ last) c.in_ok-push_kind.ensures
    ∙ append_assoc c.args.out.now.items kind last
    ∙ ap (λ l. c.args.out.now.items ++ l) (sym (kind_first c.args.kind.now (final_nodes c.args.last)))
