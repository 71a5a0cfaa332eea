use Rattle.rm_serve.specs.Steps.{place_of}
use Rattle.rm_serve.proofs.HearLemmas.{down-after, reacts, ready-after, up-after}
use Rattle.rm_serve.proofs.taking.hear.Goals as goal

pub returns-clause-reacts : goal.returns-clause-reacts
returns-clause-reacts g c =
    reacts g.D.Disk.tells (place_of (g.D.Disk.told c.args.disk.now) c.args.node.now)
    (place_of (g.D.Disk.told c.receive.new.disk) c.receive.new.self) c.args.now _ c.receive.result
    c.receive.ensures.steps c.receive.ensures.kinds

pub returns-clause-ready : goal.returns-clause-ready
returns-clause-ready g c =
    ready-after c.there_are_own_terms.ensures g.D.Disk.tells
    (place_of (g.D.Disk.told c.args.disk.now) c.args.node.now)
    (place_of (g.D.Disk.told c.receive.new.disk) c.receive.new.self) c.args.now _ c.receive.result
    c.receive.ensures.steps c.requires.ready

pub returns-clause-up : goal.returns-clause-up
returns-clause-up g c =
    up-after c.there_are_own_terms.ensures g.D.Disk.tells (place_of (g.D.Disk.told c.args.disk.now) c.args.node.now)
    (place_of (g.D.Disk.told c.receive.new.disk) c.receive.new.self) c.args.now _ c.receive.result
    c.receive.ensures.steps

pub returns-clause-down : goal.returns-clause-down
returns-clause-down g c =
    down-after g.D.Disk.tells (place_of (g.D.Disk.told c.args.disk.now) c.args.node.now)
    (place_of (g.D.Disk.told c.receive.new.disk) c.receive.new.self) c.args.now _ c.receive.result
    c.receive.ensures.steps
