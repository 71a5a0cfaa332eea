use Rattle.std.proofs.Common.{ℕ, List, [], Ok, Option, refl, subst, sym}
use Rattle.rm_node.specs.declared.packets.Out.{Out}
use Rattle.rm_serve.specs.Reacts.{Reacts}
use Rattle.rm_serve.specs.Steps.{place_of}
use Rattle.rm_station.specs.Works.{TakesOf, heard_in}
use Rattle.rm_station.proofs.CallLemmas.{no-step}
use Rattle.rm_station.proofs.OutLemmas.{up-heard}
use Rattle.rm_station.proofs.calls.take.Goals as goal

pub returns-in-Some-clause-takes : goal.returns-in-Some-clause-takes
returns-in-Some-clause-takes g c =
    let t = c.hear.ensures.reacts in (
      t.0,
      t.1,
      subst (λ (h : Option (List ℕ)). TakesOf c.args.now h t.0 c.outs_of.result) c.in-Some.ensures (
        c.hear.result,
        subst (λ (b : List ℕ). Reacts c.args.now b t.0 c.hear.result) c.as_slice.ensures t.2,
        c.outs_of.ensures,
      ),
    )

pub returns-in-None-clause-takes : goal.returns-in-None-clause-takes
returns-in-None-clause-takes g c =
    let x = place_of (g.D.Disk.told c.args.disk.now) c.args.node.now in (
      [],
      no-step g.D.Disk.tells x x (record { node = refl; told = λ t. refl }),
      subst (λ (o : List Out). TakesOf c.args.now (heard_in c.args.body) [] (Ok o)) (sym c.new.ensures)
          (subst (λ (h : Option (List ℕ)). TakesOf c.args.now h [] (Ok [])) c.in-None.ensures (refl, refl)),
    )

pub returns-in-Some-clause-up : goal.returns-in-Some-clause-up
returns-in-Some-clause-up g c =
    let told = g.D.Disk.told in
    up-heard g.D.Disk.tells (place_of (told c.args.disk.now) c.args.node.now)
    (place_of (told c.hear.new.disk) c.hear.new.node) c.hear.result c.outs_of.result c.requires.up
    c.hear.ensures.ready c.hear.ensures.up c.outs_of.ensures
