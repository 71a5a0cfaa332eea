use Rattle.soap_writer.specs.Nodes.Node.{tag_name}
use Rattle.message_writer.proofs.TextLemmas.{around_three}
use Rattle.message_writer.proofs.fault11_text.push_fault11.Goals as goal

pub returns : goal.returns
unfolding tag_name
returns c =
    around_three c.args.out.now.items _ _ _ _ c.push_close.new.out.items _ _ _ _ _ c.in_ok-push_start.ensures.ok
    c.in_ok-push_faultcode.ensures c.in_ok-push_faultstring.ensures c.in_ok-push_own_detail.ensures
    c.in_ok-push_close.ensures.ok
