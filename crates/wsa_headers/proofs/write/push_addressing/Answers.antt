use Rattle.std.proofs.Common.{◌∙◌, ◌++◌, ap, true}
use Rattle.soap_writer.specs.Nodes.Node.{node_text, nodes_text, nothing, leaf}
use Rattle.wsa_headers.specs.Texts.{tag_of, params_nodes, uri_before, epr_before}
use Rattle.wsa_headers.specs.declared.tag.Tag.TheVariants as tags
use Rattle.wsa_headers.proofs.Texts.{addresses_text}
use Rattle.wsa_headers.proofs.write.push_addressing.Goals as goal

pub returns : goal.returns
returns c =
    let p = c.args.properties.now in
    let to = leaf (tag_of tags.To) p.to in
    let action = leaf (tag_of tags.Action) p.action in
    let replies =
    epr_before tags.ReplyTo p.reply_to (epr_before tags.FaultTo p.fault_to (params_nodes true p.params)) in
    let id = nodes_text (uri_before tags.MessageID p.message_id nothing) in
    let relates = nodes_text (uri_before tags.RelatesTo p.relates nothing) in
    c.in_ok-push_replies.ensures
    ∙ ap (λ l. l ++ nodes_text replies) (c.in_ok-push_uri-2.ensures ∙ ap (λ l. l ++ relates) (c.in_ok-push_uri.ensures
    ∙ ap (λ l. l ++ id)
    (c.in_ok-push_text_of-2.ensures ∙ ap (λ l. l ++ node_text action) c.in_ok-push_text_of.ensures)))
    ∙ addresses_text c.args.out.now.items to action tags.MessageID tags.RelatesTo p.message_id p.relates replies
