use Rattle.rm_answer.proofs.ReplyLemmas.{text11-of}
use Rattle.rm_answer.proofs.reply.fault11_text.Goals as goal

pub unreachable-requires : goal.unreachable-requires
unreachable-requires c =
    let e = text11-of c.in_ok-message.message c.args.refusal.now c.in_ok-text.field-0 c.in_ok-message.ensures
    c.in_ok-text.ensures in
    absurd (cc (e, c.in-None.is))

pub returns : goal.returns
returns c =
    let e = text11-of c.in_ok-message.message c.args.refusal.now c.in_ok-text.field-0 c.in_ok-message.ensures
    c.in_ok-text.ensures in
    cc (e, c.in-Some.is)
