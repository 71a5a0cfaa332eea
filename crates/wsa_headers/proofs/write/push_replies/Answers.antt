use Rattle.std.proofs.Common.{◌∙◌, ◌++◌, ap, true}
use Rattle.soap_writer.specs.Nodes.Node.{nodes_text, nothing}
use Rattle.wsa_headers.specs.Texts.{params_nodes, epr_before}
use Rattle.wsa_headers.specs.declared.tag.Tag.TheVariants as tags
use Rattle.wsa_headers.proofs.Texts.{replies_text}
use Rattle.wsa_headers.proofs.write.push_replies.Goals as goal

pub returns : goal.returns
returns c =
    let p = c.args.properties.now in
    let last = nodes_text (params_nodes true p.params) in
    let second = nodes_text (epr_before tags.FaultTo p.fault_to nothing) in
    rw (c.as_slice.ensures) at c.in_ok-push_params.ensures
    ∙ ap (λ l. l ++ last) (c.in_ok-push_reference-2.ensures ∙ ap (λ l. l ++ second) c.in_ok-push_reference.ensures)
    ∙ replies_text c.args.out.now.items tags.ReplyTo tags.FaultTo p.reply_to p.fault_to (params_nodes true p.params)
