use Rattle.std.proofs.Common.{◌++◌, ◌∙◌, sym, ap, append_assoc}
use Rattle.soap_writer.specs.Nodes.Node.{nodes_text}
use Rattle.wsa_headers.specs.Texts.{addressing_nodes}
use Rattle.message_writer.specs.Steps.{other_text}
use Rattle.message_writer.proofs.TextLemmas.{header_text}
use Rattle.message_writer.proofs.write.push_header.Goals as goal

pub returns : goal.returns
returns c =
    let m = c.args.message.now in
    c.in_ok-write_blocks.ensures
    ∙ ap (λ l. l ++ other_text m) c.in_ok-write_addressing.ensures.ok
    ∙ append_assoc c.args.out.now (nodes_text (addressing_nodes m.addressing)) (other_text m)
    ∙ ap (λ l. c.args.out.now ++ l) (sym (header_text m))
