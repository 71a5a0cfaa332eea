use Rattle.std.proofs.Common.{refl}
use Rattle.rm_replay.specs.Actor.Outcomes.{ends_by_disk}
use Rattle.rm_relay.specs.declared.word.station.Station.TheVariants.{One, Two, Three}
use Rattle.rm_relay.specs.Shows.{Drives, drives_of}
use Rattle.rm_relay.specs.declared.stage.Nodes3.{Nodes3}
use Rattle.rm_relay.proofs.AskLemmas.{asked_by, asked_one, asked_three, asked_two, compacts_at, compacts_one}
use Rattle.rm_relay.proofs.AskLemmas.{compacts_three, compacts_two, was_compacted}
use Rattle.rm_relay.proofs.happen.compact.Goals as goal

pub compact-requires : goal.compact-requires
compact-requires g c = (c.requires.0.one, c.requires.1.one)

pub compact-requires-in-Two : goal.compact-requires-in-Two
compact-requires-in-Two g c = (c.requires.0.two, c.requires.1.two)

pub compact-requires-in-Three : goal.compact-requires-in-Three
compact-requires-in-Three g c = (c.requires.0.three, c.requires.1.three)

pub returns-in-One-clause-compacts : goal.returns-in-One-clause-compacts
returns-in-One-clause-compacts g c terms own w stand =
    let now : Drives = (drives_of g.M.Disk.told c.compact.new.disk c.args.two.now c.args.three.now) in
    let nodes : Nodes3 = (record {
      one = c.compact.new.self;
      two = c.args.nodes.now.two;
      three = c.args.nodes.now.three;
    }) in
    compacts_at terms w now nodes c.compact.result c.args.station One c.in-One.is
    (compacts_one terms w now nodes c.compact.result
    (c.compact.ensures.plays terms own w.one stand.one) stand.two stand.three)

pub returns-in-One-clause-asked : goal.returns-in-One-clause-asked
returns-in-One-clause-asked g c =
    let before : Drives = (drives_of g.M.Disk.told c.args.one.now c.args.two.now c.args.three.now) in
    let now : Drives = (drives_of g.M.Disk.told c.compact.new.disk c.args.two.now c.args.three.now) in
    asked_by c.args.station c.compact.result before now (asked_one c.args.station (ends_by_disk
    c.compact.result) before now
    c.in-One.is (was_compacted _ _ _ _ _ c.compact.ensures) refl refl)

pub returns-in-Two-clause-compacts : goal.returns-in-Two-clause-compacts
returns-in-Two-clause-compacts g c terms own w stand =
    let now : Drives = (drives_of g.M.Disk.told c.args.one.now c.compact-in-Two.new.disk c.args.three.now) in
    let nodes : Nodes3 = (record {
      one = c.args.nodes.now.one;
      two = c.compact-in-Two.new.self;
      three =
          c.args.nodes.now.three;
    }) in
    compacts_at terms w now nodes c.compact-in-Two.result c.args.station Two c.in-Two.is
    (compacts_two terms w now nodes c.compact-in-Two.result
    (c.compact-in-Two.ensures.plays terms own w.two stand.two) stand.one stand.three)

pub returns-in-Two-clause-asked : goal.returns-in-Two-clause-asked
returns-in-Two-clause-asked g c =
    let before : Drives = (drives_of g.M.Disk.told c.args.one.now c.args.two.now c.args.three.now) in
    let now : Drives = (drives_of g.M.Disk.told c.args.one.now c.compact-in-Two.new.disk c.args.three.now) in
    asked_by c.args.station c.compact-in-Two.result before now (asked_two c.args.station (ends_by_disk
    c.compact-in-Two.result) before now
    c.in-Two.is (was_compacted _ _ _ _ _ c.compact-in-Two.ensures) refl refl)

pub returns-in-Three-clause-compacts : goal.returns-in-Three-clause-compacts
returns-in-Three-clause-compacts g c terms own w stand =
    let now : Drives = (drives_of g.M.Disk.told c.args.one.now c.args.two.now c.compact-in-Three.new.disk) in
    let nodes : Nodes3 = (record {
      one = c.args.nodes.now.one;
      two = c.args.nodes.now.two;
      three =
          c.compact-in-Three.new.self;
    }) in
    compacts_at terms w now nodes c.compact-in-Three.result c.args.station Three c.in-Three.is
    (compacts_three terms w now nodes c.compact-in-Three.result
    (c.compact-in-Three.ensures.plays terms own w.three stand.three) stand.one stand.two)

pub returns-in-Three-clause-asked : goal.returns-in-Three-clause-asked
returns-in-Three-clause-asked g c =
    let before : Drives = (drives_of g.M.Disk.told c.args.one.now c.args.two.now c.args.three.now) in
    let now : Drives = (drives_of g.M.Disk.told c.args.one.now c.args.two.now c.compact-in-Three.new.disk) in
    asked_by c.args.station c.compact-in-Three.result before now (asked_three c.args.station (ends_by_disk
    c.compact-in-Three.result) before now
    c.in-Three.is (was_compacted _ _ _ _ _ c.compact-in-Three.ensures) refl refl)
