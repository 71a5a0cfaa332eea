use Rattle.std.proofs.Common.{refl}
use Rattle.rm_relay.specs.declared.word.station.Station.TheVariants.{One, Two, Three}
use Rattle.rm_relay.specs.Shows.{Drives, drives_of}
use Rattle.rm_relay.specs.declared.stage.Nodes3.{Nodes3}
use Rattle.rm_relay.proofs.AskLemmas.{crash_one, crash_three, crash_two, crashes_at}
use Rattle.rm_relay.proofs.happen.crash.Goals as goal

pub returns-in-One : goal.returns-in-One
returns-in-One g c w stand =
    let before : Drives = (drives_of g.M.Disk.told c.args.one.now c.args.two.now c.args.three.now) in
    let now : Drives = (drives_of g.M.Disk.told c.crash.new.disk c.args.two.now c.args.three.now) in
    let nodes : Nodes3 = (record {
      one = c.crash.new.self;
      two = c.args.nodes.now.two;
      three = c.args.nodes.now.three;
    }) in
    crashes_at w c.args.choice before now nodes c.crash.result c.args.station One c.in-One.is
    (crash_one w c.args.choice before now nodes c.crash.result (c.crash.ensures.ok w.one stand.one)
    (c.crash.ensures.err w.one stand.one) c.crash.ensures.more c.crash.ensures.faults
    stand.two (c.each_image_is_left.ensures w.two _ _ stand.two) refl
    stand.three (c.each_image_is_left.ensures w.three _ _ stand.three) refl)

pub returns-in-Two : goal.returns-in-Two
returns-in-Two g c w stand =
    let before : Drives = (drives_of g.M.Disk.told c.args.one.now c.args.two.now c.args.three.now) in
    let now : Drives = (drives_of g.M.Disk.told c.args.one.now c.crash-in-Two.new.disk c.args.three.now) in
    let nodes : Nodes3 = (record {
      one = c.args.nodes.now.one;
      two = c.crash-in-Two.new.self;
      three =
          c.args.nodes.now.three;
    }) in
    crashes_at w c.args.choice before now nodes c.crash-in-Two.result c.args.station Two c.in-Two.is
    (crash_two w c.args.choice before now nodes c.crash-in-Two.result (c.crash-in-Two.ensures.ok w.two stand.two)
    (c.crash-in-Two.ensures.err w.two stand.two) c.crash-in-Two.ensures.more c.crash-in-Two.ensures.faults
    stand.one (c.each_image_is_left.ensures w.one _ _ stand.one) refl
    stand.three (c.each_image_is_left.ensures w.three _ _ stand.three) refl)

pub returns-in-Three : goal.returns-in-Three
returns-in-Three g c w stand =
    let before : Drives = (drives_of g.M.Disk.told c.args.one.now c.args.two.now c.args.three.now) in
    let now : Drives = (drives_of g.M.Disk.told c.args.one.now c.args.two.now c.crash-in-Three.new.disk) in
    let nodes : Nodes3 = (record {
      one = c.args.nodes.now.one;
      two = c.args.nodes.now.two;
      three =
          c.crash-in-Three.new.self;
    }) in
    crashes_at w c.args.choice before now nodes c.crash-in-Three.result c.args.station Three c.in-Three.is
    (crash_three w c.args.choice before now nodes c.crash-in-Three.result
    (c.crash-in-Three.ensures.ok w.three stand.three)
    (c.crash-in-Three.ensures.err w.three stand.three) c.crash-in-Three.ensures.more c.crash-in-Three.ensures.faults
    stand.one (c.each_image_is_left.ensures w.one _ _ stand.one) refl
    stand.two (c.each_image_is_left.ensures w.two _ _ stand.two) refl)
