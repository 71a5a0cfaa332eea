use Rattle.rm_replay.specs.Shows.{scene_of}
use Rattle.rm_replay.proofs.StoryLemmas.{plays_line}
use Rattle.rm_replay.proofs.play.play_line.Goals as goal

pub returns : goal.returns
returns g c terms net w shows =
    plays_line c.each_image_is_left.ensures terms w c.args.number c.args.event
    (scene_of g.M.Disk.told g.W.Wire.packets c.args.stage.now)
    (scene_of g.M.Disk.told g.W.Wire.packets c.happen.new.stage) c.happen.new.nodes
    c.in_ok-outcome.field-0 c.in-Some.outcome c.entries.result c.entries-2.result c.count.result c.args.report.now
    c.push_lines.new.out c.push_lines.result (c.in_ok-outcome.ensures terms net w shows) c.in-Some.is c.entries.ensures
    c.entries-2.ensures c.count.ensures c.push_lines.ensures
