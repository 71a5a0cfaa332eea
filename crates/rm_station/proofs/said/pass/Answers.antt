use Rattle.std.proofs.Common.{◌∙◌, Err, Ok, ap, inl, inr}
use Rattle.std.proofs.lemmas.Result.{err_from_is_err_and}
use Rattle.rm_station.specs.Works.{only}
use Rattle.rm_station.proofs.said.pass.Goals as goal

pub returns : goal.returns
returns c = inl (ap Ok (c.text_said.ensures ∙ ap only c.in_ok-text.ensures))

pub returns-in_err-text : goal.returns-in_err-text
returns-in_err-text c =
    let p = err_from_is_err_and c.from_residual.result c.from_residual.ensures.1 in
    inr (p.1 ∙ ap Err p.2)
