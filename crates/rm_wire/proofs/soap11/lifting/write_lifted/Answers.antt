use Rattle.rm_wire.proofs.Soap11Lemmas.Tags.{lifted_by}
use Rattle.rm_wire.proofs.soap11.lifting.write_lifted.Goals as goal

pub returns : goal.returns
returns c =
    lifted_by _ _ _ _ _ _ _ _ _ _ _ _ _ _ _ c.new-out.ensures c.in_ok-begin_envelope.ensures.ok
    c.in_ok-push_header.ensures c.in_ok-push_all.ensures.ok c.in_ok-write_body_start.ensures
    c.in_ok-write_payload.ensures c.in_ok-write_body_end.ensures c.in_ok-push_all-2.ensures.ok
