use Rattle.std.proofs.Common.{◌≡◌, ◌∙◌, sym, ap, subst, inl, inr}
use Rattle.rm_disk.specs.Call.{crashes_of, left_by, state}
use Rattle.std.proofs.lemmas.Result.{err_from_is_err_and}
use Rattle.rm_base.specs.declared.message.Behaviour.{Behaviour}
use Rattle.rm_node.specs.Noded.{Noded, granting}
use Rattle.rm_replay.specs.Actor.Actored.{Actored}
use Rattle.rm_replay.specs.Actor.Stands.{Crashed, Stands}
use Rattle.rm_replay.proofs.ActorLemmas.ActLemmas.{actored}
use Rattle.rm_replay.proofs.ActorLemmas.CrashLemmas.{crashed, leaves_crashed, leaves_still, node_there}
use Rattle.rm_replay.proofs.actor.actor.Actor.crash.Goals as goal

pub returns-in_err-crash-clause-err : goal.returns-in_err-crash-clause-err
returns-in_err-crash-clause-err g c x s =
    let p = err_from_is_err_and c.from_residual.result c.from_residual.ensures.1 in
    rw p.1 (leaves_still x (g.D.Disk.told c.args.disk.now) c.args.self.now
    (g.D.Disk.told c.crash.new.self).past s c.in_err-crash.ensures.past)

pub mount-requires-clause-node : goal.mount-requires-clause-node
mount-requires-clause-node g c =
    let there = c.requires.there in
    node_there there.0 (g.D.Disk.told c.args.disk.now) c.args.self.now
    c.args.choice (g.D.Disk.told c.crash.new.self).past there.1 c.in_ok-crash.ensures.past

pub returns-in_err-node-clause-err : goal.returns-in_err-node-clause-err
returns-in_err-node-clause-err g c x s =
    let p = err_from_is_err_and c.from_residual-in_err-node.result c.from_residual-in_err-node.ensures.1 in
    rw p.1 (leaves_crashed x (g.D.Disk.told c.args.disk.now) c.args.self.now
    c.args.choice (g.D.Disk.told c.crash.new.self).past (g.D.Disk.told c.mount.new.disk).past s
    c.in_ok-crash.ensures.past c.in_err-node.ensures.moments)

pub returns-clause-ok : goal.returns-clause-ok
returns-clause-ok g c x s =
    let first = g.D.Disk.told c.args.disk.now in
    let now = g.D.Disk.told c.mount.new.disk in
    let node = c.in_ok-node.node in
    let granted : c.set_grant.new.self ≡ granting node c.self.inside.node.kept.granted =
    c.set_grant.ensures ∙ ap (λ (b : Behaviour). granting node b) c.granted-granted.ensures.kept in
    subst (λ (n : Noded). Crashed x c.args.choice first now (actored n c.self.inside.clock)) (sym granted)
    (crashed c.bytes_stand_for_one_list_of_batches.ensures x first now
    (actored c.self.inside.node c.self.inside.clock) c.args.choice (g.D.Disk.told c.crash.new.self).past node
    (subst (λ (a : Actored). Stands x first a) (sym c.self.view_is) s) c.in_ok-crash.ensures.past
    c.in_ok-node.ensures.found c.in_ok-node.ensures.up c.in_ok-node.ensures.kept c.in_ok-node.ensures.crashes
    c.in_ok-node.ensures.fuse)

pub returns-in_err-crash-clause-more : goal.returns-in_err-crash-clause-more
returns-in_err-crash-clause-more g c =
    let p = err_from_is_err_and c.from_residual.result c.from_residual.ensures.1 in
    rw p.1 (inl (ap crashes_of c.in_err-crash.ensures.past))

pub returns-in_err-node-clause-more : goal.returns-in_err-node-clause-more
returns-in_err-node-clause-more g c =
    let p = err_from_is_err_and c.from_residual-in_err-node.result c.from_residual-in_err-node.ensures.1 in
    rw p.1 (inr (
      left_by c.args.choice (state (g.D.Disk.told c.args.disk.now).past),
      c.in_err-node.ensures.crashes ∙ ap crashes_of c.in_ok-crash.ensures.past,
    ))
