use Rattle.std.proofs.Common.{List, ℕ, ap, subst, sym, true}
use Rattle.std.specs.Prelude.{Result, is_ok}
use Rattle.rm_host.specs.Doings.{Writes}
use Rattle.rm_host.specs.declared.end.End.{End}
use Rattle.rm_station.specs.Works.{Answers}
use Rattle.rm_station.specs.declared.said.Said.{Said}
use Rattle.rm_station.proofs.OutLemmas.{on-ok}
use Rattle.rm_station.proofs.station.answer.Goals as goal

pub returns-in-Ok-clause-answers : goal.returns-in-Ok-clause-answers
returns-in-Ok-clause-answers g c =
    let told = g.K.Source.told in
    let old = told c.args.conn.now in
    let new = told c.put-written.new.conn in
    subst (λ (s : Result Said End). Answers old new s c.outs_after.result) (sym c.in-Ok.is) (
      c.put-written.result,
      subst (λ (t : List ℕ). Writes true old new t c.put-written.result) c.as_slice.ensures c.put-written.ensures,
      c.outs_after.ensures,
    )

pub returns-in-Ok-clause-lasts : goal.returns-in-Ok-clause-lasts
returns-in-Ok-clause-lasts g c = on-ok _ c.outs_after.result (ap is_ok c.in-Ok.is)
