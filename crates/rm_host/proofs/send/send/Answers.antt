use Rattle.std.proofs.Common.{inl, inr, refl}
use Rattle.rm_base.specs.Limits as limits
use Rattle.rm_host.specs.SendSteps.{read, unread}
use Rattle.rm_host.specs.declared.end.End.TheVariants.{Memory, ReadFault, TooLong}
use Rattle.rm_host.proofs.RunLemmas.{took-inner, whole}
use Rattle.rm_host.proofs.send.send.Goals as goal

pub returns-in-Ok-clause-took : goal.returns-in-Ok-clause-took
returns-in-Ok-clause-took g c =
    let old = g.S.Source.told c.args.input.now in
    took-inner limits.payload_bytes old (g.S.Source.told c.read_up_to.new.input) c.send_payload.result
    (whole limits.payload_bytes old.left c.in-Ok.payload c.in-Ok.ensures.within c.in-Ok.ensures.whole)
    c.send_payload.ensures.inner

pub returns-in-Ok-clause-does : goal.returns-in-Ok-clause-does
returns-in-Ok-clause-does g c =
    read c.in-Ok.payload c.send_payload.result c.in-Ok.ensures.whole c.send_payload.ensures.does

pub returns-in-Err-Failed-clause-does : goal.returns-in-Err-Failed-clause-does
returns-in-Err-Failed-clause-does g c = unread ReadFault (inl refl) refl refl

pub returns-in-Err-TooLong-clause-does : goal.returns-in-Err-TooLong-clause-does
returns-in-Err-TooLong-clause-does g c = unread TooLong (inr (inl refl)) refl refl

pub returns-clause-does : goal.returns-clause-does
returns-clause-does g c = unread Memory (inr (inr refl)) refl refl
