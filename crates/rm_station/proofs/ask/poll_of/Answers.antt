use Rattle.std.proofs.Common.{◌∙◌, List, ℕ, ap, subst, sym}
use Rattle.std.specs.Prelude.{Err, Result}
use Rattle.std.proofs.lemmas.Result.{err_from_is_err_and}
use Rattle.rm_host.specs.declared.end.End.{End}
use Rattle.rm_station.specs.Asks.{Polled}
use Rattle.rm_station.specs.declared.ask.Ask.{Ask}
use Rattle.rm_station.proofs.SaidLemmas.{polled-not}
use Rattle.rm_station.proofs.ask.poll_of.Goals as goal

pub returns-in_err-to : goal.returns-in_err-to
returns-in_err-to c =
    let p = err_from_is_err_and c.from_residual-in_err-to.result c.from_residual-in_err-to.ensures.1 in
    let e = c.in_err-to.field-0.0 in
    subst (λ (r : Result Ask End). Polled c.args.word.now r) (sym (p.1 ∙ ap Err p.2))
    (subst (λ (w : List ℕ). Polled w (Err e)) c.in_ok-word.ensures (polled-not _ e c.in_err-to.ensures))
