use Rattle.message_writer.proofs.TextLemmas.{framed_by}
use Rattle.message_writer.proofs.write11.write_message11.Goals as goal

pub returns : goal.returns
returns c =
    framed_by _ _ _ _ _ c.end_envelope.new.out _ _ _ _ _ c.new-out.ensures c.in_ok-begin_envelope11.ensures.ok
    c.in_ok-push_header11.ensures c.in_ok-begin_body.ensures.ok c.in_ok-push_body11.ensures
    c.in_ok-end_envelope.ensures.ok
