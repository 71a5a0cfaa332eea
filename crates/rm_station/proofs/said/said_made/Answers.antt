use Rattle.std.proofs.Common.{◌∙◌, Err, ap}
use Rattle.std.proofs.lemmas.Result.{err_from_is_err_and}
use Rattle.rm_station.proofs.SaidLemmas.{made-lacks, made-told}
use Rattle.rm_station.proofs.said.said_made.Goals as goal

pub returns-in_ok-opening_text-in-Ok-clause-ok : goal.returns-in_ok-opening_text-in-Ok-clause-ok
returns-in_ok-opening_text-in-Ok-clause-ok c =
    made-told c.args.made c.in-Ok.made c.in_ok-opening_text-in-Ok.field-0 c.in-Ok.is
    c.in_ok-opening_text-in-Ok.ensures

pub returns-in_err-opening_text-in-Ok-clause-ok : goal.returns-in_err-opening_text-in-Ok-clause-ok
returns-in_err-opening_text-in-Ok-clause-ok c =
    let p = err_from_is_err_and c.from_residual.result c.from_residual.ensures.1 in
    made-lacks c.args.made c.in-Ok.made c.from_residual.result c.in-Ok.is (p.1 ∙ ap Err p.2)
