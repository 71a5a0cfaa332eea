use Rattle.receive_answer.proofs.records.create.deadline_of.Goals as goal

pub returns : goal.returns
returns c = λ terms own.
    c.a_duration_ends_once.ensures c.args.now c.args.lapse c.in-Ok.end (terms.deadline c.args.now c.args.lapse)
    c.in-Ok.ensures.end ((own.deadline c.args.now c.args.lapse).told c.if-now-gt-NOW_MAX.false)
