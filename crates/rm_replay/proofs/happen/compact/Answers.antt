use Rattle.std.proofs.Common.{refl}
use Rattle.rm_replay.specs.Actor.Outcomes.{ends_by_disk}
use Rattle.rm_replay.specs.Shows.{drives_of}
use Rattle.rm_replay.proofs.CompactLemmas.{compacts_at_one, compacts_at_two, was_compacted}
use Rattle.rm_replay.proofs.StepLemmas.{asked_at_one, asked_at_two}
use Rattle.rm_replay.proofs.happen.compact.Goals as goal

pub compact-requires : goal.compact-requires
compact-requires g c = (c.requires.0.one, c.requires.1.one)

pub compact-requires-in-Two : goal.compact-requires-in-Two
compact-requires-in-Two g c = (c.requires.0.two, c.requires.1.two)

pub returns-in-One-clause-compacts : goal.returns-in-One-clause-compacts
returns-in-One-clause-compacts g c terms own w stand =
    compacts_at_one terms w (drives_of g.M.Disk.told c.compact.new.disk c.args.two.now)
    (record { one = c.compact.new.self; two = c.args.nodes.now.two }) c.args.side c.compact.result c.in-One.is
    (c.compact.ensures.plays terms own w.one stand.one) stand.two

pub returns-in-Two-clause-compacts : goal.returns-in-Two-clause-compacts
returns-in-Two-clause-compacts g c terms own w stand =
    compacts_at_two terms w (drives_of g.M.Disk.told c.args.one.now c.compact-in-Two.new.disk)
    (record { one = c.args.nodes.now.one; two = c.compact-in-Two.new.self }) c.args.side c.compact-in-Two.result
    c.in-Two.is (c.compact-in-Two.ensures.plays terms own w.two stand.two) stand.one

pub returns-in-One-clause-asked : goal.returns-in-One-clause-asked
returns-in-One-clause-asked g c =
    asked_at_one c.args.side (ends_by_disk c.compact.result)
    (drives_of g.M.Disk.told c.args.one.now c.args.two.now)
    (drives_of g.M.Disk.told c.compact.new.disk c.args.two.now) c.in-One.is
    (was_compacted _ _ _ _ _ c.compact.ensures) refl

pub returns-in-Two-clause-asked : goal.returns-in-Two-clause-asked
returns-in-Two-clause-asked g c =
    asked_at_two c.args.side (ends_by_disk c.compact-in-Two.result)
    (drives_of g.M.Disk.told c.args.one.now c.args.two.now)
    (drives_of g.M.Disk.told c.args.one.now c.compact-in-Two.new.disk) c.in-Two.is
    (was_compacted _ _ _ _ _ c.compact-in-Two.ensures) refl
