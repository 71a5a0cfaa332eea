use Rattle.std.proofs.Common.{◌≡◌, inr}
use Rattle.std.specs.Prelude.{IfOk, OnErr, OnOk}
use Rattle.rm_relay.specs.Shows.{scene_of}
use Rattle.rm_relay.proofs.RunLemmas.{err_keeps, err_ran, ok_keeps, ok_ran}
use Rattle.rm_relay.proofs.run.run_relay.Goals as goal

pub returns-clause-ok : goal.returns-clause-ok
returns-clause-ok g c terms net =
    ok_ran terms c.args.script.items (scene_of g.M.Disk.told g.W.Wire.packets c.args.stage.now)
    (scene_of g.M.Disk.told g.W.Wire.packets c.make.new.stage)
    (scene_of g.M.Disk.told g.W.Wire.packets c.play_whole.new.stage) c.play_whole.result c.make.ensures.spared
    (c.play_whole.ensures.ok terms net)

pub returns-clause-err : goal.returns-clause-err
returns-clause-err g c terms net =
    err_ran terms c.args.script.items (scene_of g.M.Disk.told g.W.Wire.packets c.args.stage.now)
    (scene_of g.M.Disk.told g.W.Wire.packets c.make.new.stage)
    (scene_of g.M.Disk.told g.W.Wire.packets c.play_whole.new.stage) c.play_whole.result c.make.ensures.spared
    (c.play_whole.ensures.err terms net)

pub returns-clause-promise : goal.returns-clause-promise
returns-clause-promise g c =
    let n = c.there_are_nets.ensures in
    ok_keeps c.a_played_relay_keeps_its_promise.ensures.whole n.0 c.args.script.items
    (scene_of g.M.Disk.told g.W.Wire.packets c.make.new.stage)
    (scene_of g.M.Disk.told g.W.Wire.packets c.play_whole.new.stage) c.play_whole.result n.1
    (c.play_whole.ensures.ok n.0 n.1)

pub returns-clause-short : goal.returns-clause-short
returns-clause-short g c =
    let n = c.there_are_nets.ensures in
    let keeps = c.a_played_relay_keeps_its_promise.ensures in
    err_keeps keeps.whole keeps.short n.0 c.args.script.items
    (scene_of g.M.Disk.told g.W.Wire.packets c.args.stage.now)
    (scene_of g.M.Disk.told g.W.Wire.packets c.make.new.stage)
    (scene_of g.M.Disk.told g.W.Wire.packets c.play_whole.new.stage) c.play_whole.result n.1
    (c.play_whole.ensures.err n.0 n.1)
