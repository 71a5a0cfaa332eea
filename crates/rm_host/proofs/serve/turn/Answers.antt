use Rattle.std.proofs.Common.{[], refl}
use Rattle.rm_host.specs.Ends.{faults_of}
use Rattle.rm_host.specs.ServeSteps.{connected, unconnected}
use Rattle.rm_serve.specs.Steps.{place_of}
use Rattle.rm_host.proofs.RowLemmas.{no-step}
use Rattle.rm_host.proofs.EndLemmas.{links, then, unlinked}
use Rattle.rm_host.proofs.serve.turn.Goals as goal

pub returns-in-Ok-clause-reason : goal.returns-in-Ok-clause-reason
returns-in-Ok-clause-reason g c =
    let seen = faults_of g.D.Disk.told g.L.Link.told in
    let first = seen c.args.host.now in
    let count = (g.L.Link.told c.accept.new.self).faults in
    then first (record { disk = first.disk; link = count }) (seen c.take.new.host) _ _ _
    (links first.disk first.link count c.accept.ensures.connects.never_falls) c.take.ensures.reason

pub returns-in-Err-clause-reason : goal.returns-in-Err-clause-reason
returns-in-Err-clause-reason g c =
    let first = faults_of g.D.Disk.told g.L.Link.told c.args.host.now in
    unlinked first.disk first.link (g.L.Link.told c.accept.new.self).faults (c.in-Err.ensures.connects.failed refl)

pub returns-in-Ok-clause-turn : goal.returns-in-Ok-clause-turn
returns-in-Ok-clause-turn g c =
    let did = c.take.ensures.serves in
    let mid = g.L.Link.told c.accept.new.self in (
      did.0,
      did.1,
      connected mid _ did.0 _
          (record { connects = c.in-Ok.ensures.connects; past = c.accept.ensures.past }) did.2,
    )

pub returns-in-Err-clause-turn : goal.returns-in-Err-clause-turn
returns-in-Err-clause-turn g c =
    let x = place_of (g.D.Disk.told c.args.host.now.disk) c.args.node.now in (
      [],
      no-step g.D.Disk.tells x x (record { node = refl; told = λ t. refl }),
      unconnected (record { connects = c.in-Err.ensures.connects; past = c.accept.ensures.past }),
    )
