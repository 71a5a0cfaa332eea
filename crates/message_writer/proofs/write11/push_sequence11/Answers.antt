use Rattle.soap_writer.specs.Nodes.Node.{tag_name}
use Rattle.message_writer.proofs.TextLemmas.{noted_two}
use Rattle.message_writer.proofs.write11.push_sequence11.Goals as goal

pub returns : goal.returns
unfolding tag_name
returns c =
    noted_two c.args.out.now.items _ _ _ _ _ c.push_close.new.out.items _ _ _ _ _ c.in_ok-push_begin.ensures.ok
    c.in_ok-push_mark.ensures c.in_ok-push_bytes.ensures.ok c.in_ok-push_ident.ensures
    c.in_ok-push_message_number.ensures c.in_ok-push_close.ensures.ok
