use Rattle.std.proofs.Common.{◌∙◌, Err, Ok, ap, inl, inr, sym}
use Rattle.std.proofs.lemmas.Result.{err_from_is_err_and}
use Rattle.rm_station.specs.Works.{only}
use Rattle.rm_station.proofs.SaidLemmas.{failed-else, failed-refused}
use Rattle.rm_station.proofs.said.failed.Goals as goal

pub returns-then-is_refusal-clause-is : goal.returns-then-is_refusal-clause-is
returns-then-is_refusal-clause-is c =
    inl (ap Ok (c.in_ok-text_only.ensures ∙ ap only c.line.ensures)
    ∙ failed-refused c.args.end (sym c.is_refusal.ensures ∙ c.if-is_refusal.true))

pub returns-in_err-text_only-clause-is : goal.returns-in_err-text_only-clause-is
returns-in_err-text_only-clause-is c =
    let p = err_from_is_err_and c.from_residual.result c.from_residual.ensures.1 in
    inr (p.1 ∙ ap Err p.2)

pub returns-clause-is : goal.returns-clause-is
returns-clause-is c = inl (failed-else c.args.end (sym c.is_refusal.ensures ∙ c.if-is_refusal.false))
