use Rattle.std.proofs.Common.{◌∙◌, Err, Ok, ap, inl, inr}
use Rattle.std.proofs.lemmas.Result.{err_from_is_err_and}
use Rattle.rm_station.proofs.said.stop.Goals as goal

pub returns : goal.returns
returns c = inl (ap Ok c.in_ok-stopping.ensures)

pub returns-in_err-stopping : goal.returns-in_err-stopping
returns-in_err-stopping c =
    let p = err_from_is_err_and c.from_residual.result c.from_residual.ensures.1 in
    inr (p.1 ∙ ap Err p.2)
