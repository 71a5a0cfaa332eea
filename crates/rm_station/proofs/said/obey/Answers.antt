use Rattle.std.proofs.Common.{[], refl, subst, sym}
use Rattle.std.specs.Prelude.{Result}
use Rattle.rm_serve.specs.Steps.{place_of}
use Rattle.rm_host.specs.declared.end.End.{End}
use Rattle.rm_station.specs.Works.{Tells}
use Rattle.rm_station.specs.declared.ask.Ask.{Ask}
use Rattle.rm_station.proofs.CallLemmas.{no-step}
use Rattle.rm_station.proofs.SaidLemmas.{tells-unread}
use Rattle.rm_station.proofs.said.obey.Goals as goal

pub returns-in-Ok-clause-tells : goal.returns-in-Ok-clause-tells
returns-in-Ok-clause-tells g c =
    let t = c.heed.ensures.tells in (
      t.0,
      t.1,
      subst (λ (a : Result Ask End). Tells c.args.now c.args.node.now.stored a t.0 c.heed.result) (sym c.in-Ok.is) t.2,
    )

pub returns-in-Err-clause-tells : goal.returns-in-Err-clause-tells
returns-in-Err-clause-tells g c =
    let x = place_of (g.D.Disk.told c.args.disk.now) c.args.node.now in
    let s = x.node.stored in (
      [],
      no-step g.D.Disk.tells x x (record { node = refl; told = λ t. refl }),
      subst (λ (a : Result Ask End). Tells c.args.now s a [] c.unread.result) (sym c.in-Err.is)
          (tells-unread c.args.now s c.in-Err.end c.unread.result c.unread.ensures.ok c.unread.ensures.err),
    )
