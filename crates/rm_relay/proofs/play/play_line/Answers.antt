use Rattle.rm_relay.specs.Shows.{scene_of}
use Rattle.rm_relay.proofs.StoryLemmas.{plays_line}
use Rattle.rm_relay.proofs.play.play_line.Goals as goal

pub returns : goal.returns
returns g c terms net w shows =
    plays_line c.each_image_is_left.ensures terms w c.args.number c.args.event
    (scene_of g.M.Disk.told g.W.Wire.packets c.args.stage.now)
    (scene_of g.M.Disk.told g.W.Wire.packets c.happen.new.stage) c.happen.new.nodes c.happen.new.senders.items
    c.in_ok-ending.field-0 c.in-Some.ending c.entries.result c.entries-2.result c.entries-3.result c.count.result
    c.args.report.now c.push_line.new.out c.push_line.result (c.in_ok-ending.ensures terms net w shows) c.in-Some.is
    c.entries.ensures c.entries-2.ensures c.entries-3.ensures c.count.ensures c.push_line.ensures
