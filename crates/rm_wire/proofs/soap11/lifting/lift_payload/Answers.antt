use Rattle.rm_wire.proofs.soap11.lifting.lift_payload.Goals as goal

pub returns : goal.returns
returns c =
    record { number = c.in_ok-number.number; first = c.in_ok-number.ensures; is = c.in_ok-text.ensures }
