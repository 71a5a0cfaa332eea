use Rattle.std.proofs.Common.{refl}
use Rattle.rm_protocol.specs.World.{Side, node}
use Rattle.rm_replay.specs.Actor.Outcomes.{is_disk}
use Rattle.rm_replay.specs.Asked.{step_of}
use Rattle.rm_replay.specs.Shows.{drives_of}
use Rattle.rm_replay.proofs.AskLemmas.{plays_step, was_asked}
use Rattle.rm_replay.proofs.StepLemmas.{asked_at_one, asked_at_two, steps_at_one, steps_at_two}
use Rattle.rm_replay.proofs.ask.ask_at.Goals as goal

pub ask-requires-clause-there : goal.ask-requires-clause-there
ask-requires-clause-there g c = (c.requires.there.0.one, c.requires.there.1.one)

pub ask-requires-in-Two-clause-there : goal.ask-requires-in-Two-clause-there
ask-requires-in-Two-clause-there g c = (c.requires.there.0.two, c.requires.there.1.two)

pub returns-in-One-clause-steps : goal.returns-in-One-clause-steps
returns-in-One-clause-steps g c terms own asked by w stand =
    steps_at_one w (λ (side : Side). step_of terms (node w side) asked c.args.call)
    (drives_of g.M.Disk.told c.ask.new.disk c.args.two.now)
    (record { one = c.ask.new.self; two = c.args.nodes.now.two }) c.args.side c.ask.result c.in-One.is
    (plays_step terms c.args.call w.one asked _ _ c.ask.result
    (c.ask.ensures.plays terms own asked by w.one stand.one)) stand.two

pub returns-in-Two-clause-steps : goal.returns-in-Two-clause-steps
returns-in-Two-clause-steps g c terms own asked by w stand =
    steps_at_two w (λ (side : Side). step_of terms (node w side) asked c.args.call)
    (drives_of g.M.Disk.told c.args.one.now c.ask-in-Two.new.disk)
    (record { one = c.args.nodes.now.one; two = c.ask-in-Two.new.self }) c.args.side c.ask-in-Two.result c.in-Two.is
    (plays_step terms c.args.call w.two asked _ _ c.ask-in-Two.result
    (c.ask-in-Two.ensures.plays terms own asked by w.two stand.two)) stand.one

pub returns-in-One-clause-asked : goal.returns-in-One-clause-asked
returns-in-One-clause-asked g c =
    asked_at_one c.args.side (is_disk c.ask.result)
    (drives_of g.M.Disk.told c.args.one.now c.args.two.now)
    (drives_of g.M.Disk.told c.ask.new.disk c.args.two.now) c.in-One.is
    (was_asked _ _ _ _ _ _ c.ask.ensures) refl

pub returns-in-Two-clause-asked : goal.returns-in-Two-clause-asked
returns-in-Two-clause-asked g c =
    asked_at_two c.args.side (is_disk c.ask-in-Two.result)
    (drives_of g.M.Disk.told c.args.one.now c.args.two.now)
    (drives_of g.M.Disk.told c.args.one.now c.ask-in-Two.new.disk) c.in-Two.is
    (was_asked _ _ _ _ _ _ c.ask-in-Two.ensures) refl
