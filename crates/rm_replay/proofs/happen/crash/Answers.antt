use Rattle.std.proofs.Common.{refl}
use Rattle.rm_replay.specs.Shows.{drives_of}
use Rattle.rm_replay.proofs.CrashLemmas.{crash_at_one, crash_at_two}
use Rattle.rm_replay.proofs.happen.crash.Goals as goal

pub returns-in-One : goal.returns-in-One
returns-in-One g c w stand =
    crash_at_one w c.args.side c.args.choice
    (drives_of g.M.Disk.told c.args.one.now c.args.two.now)
    (drives_of g.M.Disk.told c.crash.new.disk c.args.two.now)
    (record { one = c.crash.new.self; two = c.args.nodes.now.two }) c.crash.result c.in-One.is
    (c.crash.ensures.ok w.one stand.one) (c.crash.ensures.err w.one stand.one)
    c.crash.ensures.more c.crash.ensures.faults
    stand.two (c.each_image_is_left.ensures w.two _ _ stand.two) refl

pub returns-in-Two : goal.returns-in-Two
returns-in-Two g c w stand =
    crash_at_two w c.args.side c.args.choice
    (drives_of g.M.Disk.told c.args.one.now c.args.two.now)
    (drives_of g.M.Disk.told c.args.one.now c.crash-in-Two.new.disk)
    (record { one = c.args.nodes.now.one; two = c.crash-in-Two.new.self }) c.crash-in-Two.result c.in-Two.is
    (c.crash-in-Two.ensures.ok w.two stand.two) (c.crash-in-Two.ensures.err w.two stand.two)
    c.crash-in-Two.ensures.more c.crash-in-Two.ensures.faults
    stand.one (c.each_image_is_left.ensures w.one _ _ stand.one) refl
