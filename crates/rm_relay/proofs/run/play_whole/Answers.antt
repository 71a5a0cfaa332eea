use Rattle.std.proofs.lemmas.Result.{err_from_is_err_and}
use Rattle.rm_relay.specs.Shows.{scene_of}
use Rattle.rm_relay.proofs.RunLemmas.{ran_of}
use Rattle.rm_relay.proofs.StoryLemmas.{short_end}
use Rattle.rm_relay.proofs.run.play_whole.Goals as goal

pub returns-in_err-push_end-clause-err : goal.returns-in_err-push_end-clause-err
returns-in_err-push_end-clause-err g c terms net =
    let r = c.from_residual-in_err-push_end in
    let p = err_from_is_err_and r.result r.ensures.1 in
    let first = scene_of g.M.Disk.told g.W.Wire.packets c.args.stage.now in
    let now = scene_of g.M.Disk.told g.W.Wire.packets c.play.new.stage in
    let all = c.in_ok-play.ensures terms net in
    rw p.1 (short_end c.each_image_is_left.ensures terms c.args.script.items first now c.play.new.nodes all.0
    c.play.new.report all.1)

pub returns-in_err-play-clause-err : goal.returns-in_err-play-clause-err
returns-in_err-play-clause-err g c terms net =
    let p = err_from_is_err_and c.from_residual.result c.from_residual.ensures.1 in
    rw p.1 (c.in_err-play.ensures terms net)

pub returns-clause-ok : goal.returns-clause-ok
returns-clause-ok g c terms net =
    let first = scene_of g.M.Disk.told g.W.Wire.packets c.args.stage.now in
    let now = scene_of g.M.Disk.told g.W.Wire.packets c.play.new.stage in
    let all = c.in_ok-play.ensures terms net in
    ran_of c.each_image_is_left.ensures terms c.args.script.items first now c.play.new.nodes all.0
    c.play.new.report c.push_end.new.report all.1
    (c.in_ok-push_end.ensures all.1.story.world now.drives all.1.shows.stand)
