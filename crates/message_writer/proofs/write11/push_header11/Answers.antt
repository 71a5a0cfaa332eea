use Rattle.std.proofs.Common.{◌++◌, ◌∙◌, sym, ap, append_assoc}
use Rattle.soap_writer.specs.Nodes.Node.{nodes_text}
use Rattle.wsa_headers.specs.Texts.{addressing_nodes}
use Rattle.message_writer.specs.Steps.{other11_text}
use Rattle.message_writer.proofs.TextLemmas.{header11_text}
use Rattle.message_writer.proofs.write11.push_header11.Goals as goal

pub returns : goal.returns
returns c =
    let m = c.args.message.now in
    c.in_ok-write_blocks11.ensures
    ∙ ap (λ l. l ++ other11_text m) c.in_ok-write_addressing.ensures.ok
    ∙ append_assoc c.args.out.now (nodes_text (addressing_nodes m.addressing)) (other11_text m)
    ∙ ap (λ l. c.args.out.now ++ l) (sym (header11_text m))
