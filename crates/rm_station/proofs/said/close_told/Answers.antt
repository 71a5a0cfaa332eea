use Rattle.std.proofs.Common.{◌∙◌, Err, Ok, [], ap, refl}
use Rattle.std.proofs.lemmas.Result.{err_from_is_err_and}
use Rattle.rm_serve.specs.Steps.{place_of}
use Rattle.rm_station.specs.Works.{called, closes}
use Rattle.rm_station.specs.declared.ask.Ask.TheVariants.{Closes}
use Rattle.rm_station.proofs.CallLemmas.{no-step}
use Rattle.rm_station.proofs.SaidLemmas.{line-said, tells-none, tells-so, up-outlived}
use Rattle.rm_station.proofs.said.close_told.Goals as goal

pub returns-in_err-text-clause-tells : goal.returns-in_err-text-clause-tells
returns-in_err-text-clause-tells g c =
    let p = err_from_is_err_and c.from_residual.result c.from_residual.ensures.1 in
    let x = place_of (g.D.Disk.told c.args.disk.now) c.args.node.now in (
      [],
      no-step g.D.Disk.tells x x (record { node = refl; told = λ t. refl }),
      tells-none c.args.now x.node.stored (Ok (Closes c.args.seq)) c.from_residual.result (p.1 ∙ ap Err p.2),
    )

pub returns-clause-tells : goal.returns-clause-tells
returns-clause-tells g c =
    let done = c.close-outs in (
      _,
      done.ensures.makes,
      tells-so c.args.now c.args.node.now.stored (Ok (Closes c.args.seq)) _ _ c.told.result
          (called (Closes c.args.seq) _ _ done.result (closes c.args.seq) done.ensures.of_call)
          (line-said c.in_ok-text.text _ done.result c.told.result c.in_ok-text.ensures c.told.ensures.is),
    )

pub returns-clause-up : goal.returns-clause-up
returns-clause-up g c =
    up-outlived _ c.close-outs.result c.told.result c.close-outs.ensures.up c.told.ensures.lasts
