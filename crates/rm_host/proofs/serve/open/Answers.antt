use Rattle.std.proofs.Common.{◌≡◌, ◌∙◌, Bool, Err, ap, false, refl, sym, subst, true}
use Rattle.std.specs.Prelude.{IfErr}
use Rattle.std.proofs.lemmas.Result.{err_from_is_err_and}
use Rattle.rm_base.specs.declared.message.Behaviour.{Behaviour}
use Rattle.rm_disk.specs.Told.{Told}
use Rattle.http_endpoint.specs.Link.Lines.{Listens, Net}
use Rattle.rm_node.specs.Noded.{Noded, granting}
use Rattle.rm_serve.specs.Steps.{IsUp, Place, place_of}
use Rattle.rm_host.specs.Ends.{faults_of}
use Rattle.rm_host.specs.Finding.{Found}
use Rattle.rm_host.specs.ServeSteps.{StaysDeaf, unheard, unmounted}
use Rattle.rm_host.specs.Words.{behaviour_of}
use Rattle.rm_host.specs.declared.words.Grant.{Grant}
use Rattle.rm_host.proofs.EndLemmas.{links, then, unlinked}
use Rattle.rm_host.proofs.serve.open.Goals as goal

pub returns-in-Ok-clause-up : goal.returns-in-Ok-clause-up
returns-in-Ok-clause-up g c =
    let is = c.in_ok-node.ensures.up in
    subst (λ (n : Noded). IsUp g.D.Disk.tells (place_of (g.D.Disk.told c.mount.new.host.disk) n))
    (sym c.set_grant.ensures) (record { up = is.up; ready = is.ready })

pub returns-in-Ok-clause-reason : goal.returns-in-Ok-clause-reason
returns-in-Ok-clause-reason g c =
    let seen = faults_of g.D.Disk.told g.L.Link.told in
    let found = seen c.mount.new.host in
    let count = (g.L.Link.told c.listen.new.self).faults in
    then (seen c.args.host.now) found (record { disk = found.disk; link = count }) _ _ _ c.in_ok-node.ensures.reason
    (links found.disk found.link count c.listen.ensures.never_falls)

pub returns-in-Err-clause-reason : goal.returns-in-Err-clause-reason
returns-in-Err-clause-reason g c =
    let seen = faults_of g.D.Disk.told g.L.Link.told in
    let found = seen c.mount.new.host in
    let count = (g.L.Link.told c.listen.new.self).faults in
    then (seen c.args.host.now) found (record { disk = found.disk; link = count }) _ _ _ c.in_ok-node.ensures.reason
    (unlinked found.disk found.link count (c.in-Err.ensures.fault refl))

-- the node that was found announces what was asked for
announces : (tells : Bool) (first : Told) (x : Place) (node : Noded) (before asked : Behaviour) (grant : Grant)
    → Found tells first before x → node ≡ granting x.node asked → asked ≡ behaviour_of grant
    → Found tells first (behaviour_of grant) (place_of x.told node)
announces tells first x node before asked grant found is same =
    subst (λ (n : Noded). Found tells first (behaviour_of grant) (place_of x.told n))
    (sym (is ∙ ap (granting x.node) same))
    (record {
      up = record { up = found.up.up; ready = found.up.ready };
      finds = found.finds;
      looks = found.looks;
      kept = record {
        granted = refl;
        waits = found.kept.waits;
        time = found.kept.time;
        polled = found.kept.polled;
      };
    })

pub returns-in-Ok-clause-found : goal.returns-in-Ok-clause-found
returns-in-Ok-clause-found g c =
    let told = g.D.Disk.told in
    let x = place_of (told c.mount.new.host.disk) c.in_ok-node.node in
    announces g.D.Disk.tells (told c.args.host.now.disk) x c.set_grant.new.self _ c.behaviour.result
    c.args.service.grant
    c.in_ok-node.ensures.mounted c.set_grant.ensures c.behaviour.ensures.is

pub returns-in-Ok-clause-listens : goal.returns-in-Ok-clause-listens
returns-in-Ok-clause-listens g c =
    subst (λ (n : Net). Listens n (g.L.Link.told c.listen.new.self) c.args.service.port false) c.in_ok-node.ensures.link
    c.in-Ok.ensures

pub returns-in-Err-clause-deaf : goal.returns-in-Err-clause-deaf
returns-in-Err-clause-deaf g c =
    let told = g.D.Disk.told in
    let x = place_of (told c.mount.new.host.disk) c.in_ok-node.node in
    unheard (place_of x.told c.set_grant.new.self)
    (announces g.D.Disk.tells (told c.args.host.now.disk) x c.set_grant.new.self _ c.behaviour.result
    c.args.service.grant
    c.in_ok-node.ensures.mounted c.set_grant.ensures c.behaviour.ensures.is)
    refl
    (subst (λ (n : Net). Listens n (g.L.Link.told c.listen.new.self) c.args.service.port true) c.in_ok-node.ensures.link
    c.in-Err.ensures)

pub returns-in_err-node-clause-deaf : goal.returns-in_err-node-clause-deaf
returns-in_err-node-clause-deaf g c =
    let p = err_from_is_err_and c.from_residual.result c.from_residual.ensures.1 in
    let told = g.D.Disk.told in
    let net = g.L.Link.told in
    let why = c.in_err-node.ensures.unfound in
    subst (λ r. IfErr r (StaysDeaf g.D.Disk.tells (told c.args.host.now.disk) (told c.mount.new.host.disk)
    (net c.args.host.now.link) (net c.mount.new.host.link) c.args.service.port (behaviour_of c.args.service.grant)))
    (sym ((p.1 ∙ ap Err p.2) ∙ ap Err why.1))
    (unmounted why.0 why.2 c.in_err-node.ensures.link)
