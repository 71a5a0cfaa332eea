use Rattle.std.proofs.Common.{sym, subst}
use Rattle.rm_protocol.specs.World.{made}
use Rattle.rm_replay.specs.Actor.Actored.{Actored}
use Rattle.rm_replay.specs.Actor.Stands.{Stands}
use Rattle.rm_replay.proofs.ActorLemmas.CrashLemmas.{made-stands}
use Rattle.rm_replay.proofs.actor.actor.Actor.make.Goals as goal

pub returns-in-Ok-clause-made : goal.returns-in-Ok-clause-made
returns-in-Ok-clause-made g c =
    let now = g.D.Disk.told c.make.new.disk in
    let always = g.met.D.CrashDisk.always_tells in
    subst (λ (a : Actored). Stands (made c.args.number c.args.address) now a) (sym c.new.ensures)
    (made-stands c.args.number c.args.address now c.in-Ok.node c.in-Ok.ensures.made c.in-Ok.ensures.kept
    (c.in-Ok.ensures.has always) ((c.in-Ok.ensures.unarmed always).keeps c.requires.unarmed))
