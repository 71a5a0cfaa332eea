use Rattle.std.proofs.Common.{◌∙◌, Err, ap}
use Rattle.std.proofs.lemmas.Result.{err_from_is_err_and}
use Rattle.rm_station.proofs.SaidLemmas.{sent-lacks, sent-told}
use Rattle.rm_station.proofs.said.said_sent.Goals as goal

pub returns-in_ok-accepted_text-in-Ok-clause-ok : goal.returns-in_ok-accepted_text-in-Ok-clause-ok
returns-in_ok-accepted_text-in-Ok-clause-ok c =
    sent-told c.args.seq c.args.sent c.in-Ok.sent c.in_ok-accepted_text-in-Ok.field-0 c.in-Ok.is
    c.in_ok-accepted_text-in-Ok.ensures

pub returns-in_err-accepted_text-in-Ok-clause-ok : goal.returns-in_err-accepted_text-in-Ok-clause-ok
returns-in_err-accepted_text-in-Ok-clause-ok c =
    let p = err_from_is_err_and c.from_residual.result c.from_residual.ensures.1 in
    sent-lacks c.args.seq c.args.sent c.in-Ok.sent c.from_residual.result c.in-Ok.is (p.1 ∙ ap Err p.2)
