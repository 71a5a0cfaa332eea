use Rattle.std.proofs.lemmas.Result.{err_from_is_err_and}
use Rattle.rm_replay.specs.Shows.{scene_of}
use Rattle.rm_replay.proofs.RunLemmas.{cut_of, ran_of, short_from, short_told}
use Rattle.rm_replay.proofs.run.run_script.Goals as goal

pub returns-in_err-push_known-clause-err : goal.returns-in_err-push_known-clause-err
returns-in_err-push_known-clause-err g c terms net =
    let r = c.from_residual-in_err-push_known in
    let p = err_from_is_err_and r.result r.ensures.1 in
    let old = scene_of g.M.Disk.told g.W.Wire.packets c.args.stage.now in
    let mid = scene_of g.M.Disk.told g.W.Wire.packets c.make.new.stage in
    let now = scene_of g.M.Disk.told g.W.Wire.packets c.play.new.stage in
    let keeps = c.a_played_script_keeps_the_headline.ensures in
    let made = c.make.ensures.spared in
    rw p.1 (cut_of keeps.whole keeps.short terms c.args.script.items old now net
    (short_told c.each_image_is_left.ensures terms c.args.script.items old mid now c.play.new.nodes
    c.play.new.report made (c.in_ok-play.ensures terms net)))

pub returns-in_err-push_known-2-clause-err : goal.returns-in_err-push_known-2-clause-err
returns-in_err-push_known-2-clause-err g c terms net =
    let r = c.from_residual-in_err-push_known-2 in
    let p = err_from_is_err_and r.result r.ensures.1 in
    let old = scene_of g.M.Disk.told g.W.Wire.packets c.args.stage.now in
    let mid = scene_of g.M.Disk.told g.W.Wire.packets c.make.new.stage in
    let now = scene_of g.M.Disk.told g.W.Wire.packets c.play.new.stage in
    let keeps = c.a_played_script_keeps_the_headline.ensures in
    let made = c.make.ensures.spared in
    rw p.1 (cut_of keeps.whole keeps.short terms c.args.script.items old now net
    (short_told c.each_image_is_left.ensures terms c.args.script.items old mid now c.play.new.nodes
    c.play.new.report made (c.in_ok-play.ensures terms net)))

pub returns-in_err-play-clause-err : goal.returns-in_err-play-clause-err
returns-in_err-play-clause-err g c terms net =
    let r = c.from_residual-in_err-play in
    let p = err_from_is_err_and r.result r.ensures.1 in
    let old = scene_of g.M.Disk.told g.W.Wire.packets c.args.stage.now in
    let mid = scene_of g.M.Disk.told g.W.Wire.packets c.make.new.stage in
    let now = scene_of g.M.Disk.told g.W.Wire.packets c.play.new.stage in
    let keeps = c.a_played_script_keeps_the_headline.ensures in
    rw p.1 (cut_of keeps.whole keeps.short terms c.args.script.items old now net
    (short_from terms c.args.script.items old mid now c.make.ensures.spared (c.in_err-play.ensures terms net)))

pub returns-clause-ok : goal.returns-clause-ok
returns-clause-ok g c terms net =
    let old = scene_of g.M.Disk.told g.W.Wire.packets c.args.stage.now in
    let mid = scene_of g.M.Disk.told g.W.Wire.packets c.make.new.stage in
    let now = scene_of g.M.Disk.told g.W.Wire.packets c.play.new.stage in
    let made = c.make.ensures.spared in
    let all = c.in_ok-play.ensures terms net in
    ran_of c.each_image_is_left.ensures c.what_was_accepted_was_sent.ensures terms c.args.script.items old
    mid now c.play.new.nodes c.play.new.report c.push_known.new.report c.push_known-2.new.report net made all
    (c.in_ok-push_known.ensures all.story.world.one now.drives.one.disk all.shows.stand.one)
    (c.in_ok-push_known-2.ensures all.story.world.two now.drives.two.disk all.shows.stand.two)
