use Rattle.std.proofs.Common.{refl}
use Rattle.rm_replay.specs.Actor.Outcomes.{is_disk}
use Rattle.rm_relay.specs.declared.word.station.Station.TheVariants.{One, Two, Three}
use Rattle.rm_relay.specs.Shows.{Drives, drives_of}
use Rattle.rm_relay.specs.declared.stage.Nodes3.{Nodes3}
use Rattle.rm_relay.proofs.AskLemmas.{asked_one, asked_three, asked_two, steps_at, steps_one, steps_three, steps_two}
use Rattle.rm_relay.proofs.AskLemmas.{was_asked}
use Rattle.rm_relay.proofs.happen.ask_at.Goals as goal

pub ask-requires-clause-there : goal.ask-requires-clause-there
ask-requires-clause-there g c = (c.requires.there.0.one, c.requires.there.1.one)

pub ask-requires-in-Two-clause-there : goal.ask-requires-in-Two-clause-there
ask-requires-in-Two-clause-there g c = (c.requires.there.0.two, c.requires.there.1.two)

pub ask-requires-in-Three-clause-there : goal.ask-requires-in-Three-clause-there
ask-requires-in-Three-clause-there g c = (c.requires.there.0.three, c.requires.there.1.three)

pub returns-in-One-clause-steps : goal.returns-in-One-clause-steps
returns-in-One-clause-steps g c terms own asked by w stand =
    let now : Drives = (drives_of g.M.Disk.told c.ask.new.disk c.args.two.now c.args.three.now) in
    let nodes : Nodes3 = (record {
      one = c.ask.new.self;
      two = c.args.nodes.now.two;
      three = c.args.nodes.now.three;
    }) in
    steps_at terms w asked c.args.call now nodes c.ask.result c.args.station One c.in-One.is
    (steps_one terms w asked c.args.call now nodes c.ask.result
    (c.ask.ensures.plays terms own asked by w.one stand.one)
    stand.two stand.three)

pub returns-in-One-clause-asked : goal.returns-in-One-clause-asked
returns-in-One-clause-asked g c =
    asked_one c.args.station (is_disk c.ask.result) (drives_of g.M.Disk.told c.args.one.now c.args.two.now
    c.args.three.now)
    (drives_of g.M.Disk.told c.ask.new.disk c.args.two.now c.args.three.now) c.in-One.is (was_asked _ _ _ _ _ _
    c.ask.ensures) refl refl

pub returns-in-Two-clause-steps : goal.returns-in-Two-clause-steps
returns-in-Two-clause-steps g c terms own asked by w stand =
    let now : Drives = (drives_of g.M.Disk.told c.args.one.now c.ask-in-Two.new.disk c.args.three.now) in
    let nodes : Nodes3 = (record {
      one = c.args.nodes.now.one;
      two = c.ask-in-Two.new.self;
      three =
          c.args.nodes.now.three;
    }) in
    steps_at terms w asked c.args.call now nodes c.ask-in-Two.result c.args.station Two c.in-Two.is
    (steps_two terms w asked c.args.call now nodes c.ask-in-Two.result
    (c.ask-in-Two.ensures.plays terms own asked by w.two stand.two)
    stand.one stand.three)

pub returns-in-Two-clause-asked : goal.returns-in-Two-clause-asked
returns-in-Two-clause-asked g c =
    asked_two c.args.station (is_disk c.ask-in-Two.result) (drives_of g.M.Disk.told c.args.one.now c.args.two.now
    c.args.three.now)
    (drives_of g.M.Disk.told c.args.one.now c.ask-in-Two.new.disk c.args.three.now) c.in-Two.is
    (was_asked _ _ _ _ _ _ c.ask-in-Two.ensures) refl refl

pub returns-in-Three-clause-steps : goal.returns-in-Three-clause-steps
returns-in-Three-clause-steps g c terms own asked by w stand =
    let now : Drives = (drives_of g.M.Disk.told c.args.one.now c.args.two.now c.ask-in-Three.new.disk) in
    let nodes : Nodes3 = (record {
      one = c.args.nodes.now.one;
      two = c.args.nodes.now.two;
      three =
          c.ask-in-Three.new.self;
    }) in
    steps_at terms w asked c.args.call now nodes c.ask-in-Three.result c.args.station Three c.in-Three.is
    (steps_three terms w asked c.args.call now nodes c.ask-in-Three.result
    (c.ask-in-Three.ensures.plays terms own asked by w.three stand.three)
    stand.one stand.two)

pub returns-in-Three-clause-asked : goal.returns-in-Three-clause-asked
returns-in-Three-clause-asked g c =
    asked_three c.args.station (is_disk c.ask-in-Three.result) (drives_of g.M.Disk.told c.args.one.now
    c.args.two.now c.args.three.now)
    (drives_of g.M.Disk.told c.args.one.now c.args.two.now c.ask-in-Three.new.disk) c.in-Three.is
    (was_asked _ _ _ _ _ _ c.ask-in-Three.ensures) refl refl
