use Rattle.std.proofs.Common.{codes}
use Rattle.soap_writer.specs.Nodes.Node.{tag_name}
use Rattle.message_writer.proofs.TextLemmas.{around_two}
use Rattle.message_writer.proofs.fault11_text.push_fault_code.Goals as goal

pub returns : goal.returns
unfolding tag_name
returns c =
    around_two c.args.out.now.items _ _ _ c.push_close.new.out.items _ (codes "r:") _ _ c.in_ok-push_start.ensures.ok
    c.in_ok-push_bytes.ensures.ok c.in_ok-push_text.ensures.ok c.in_ok-push_close.ensures.ok
