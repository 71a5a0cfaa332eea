use Rattle.std.proofs.Common.{◌∙◌, ap, refl}
use Rattle.std.proofs.lemmas.Result.{err_from_is_err_and}
use Rattle.rm_protocol.specs.World.{Poll, node}
use Rattle.rm_script.specs.declared.event.Event.TheVariants as said
use Rattle.rm_replay.specs.Asked.{step_of}
use Rattle.rm_replay.specs.Meaning.{side_of}
use Rattle.rm_replay.specs.Shows.{address_of, scene_of}
use Rattle.rm_node.specs.Asked as asks
use Rattle.rm_node.specs.declared.call.Call.TheVariants as call
use Rattle.rm_replay.proofs.CallLemmas.{poll_call}
use Rattle.rm_replay.proofs.EventLemmas.{cut_none, happens_call}
use Rattle.rm_replay.proofs.happen.poll.Goals as goal

pub returns-in_err-to : goal.returns-in_err-to
returns-in_err-to g c terms net w shows =
    let p = err_from_is_err_and c.from_residual.result c.from_residual.ensures.1 in
    rw p.1 (cut_none c.each_image_is_left.ensures terms w (said.Poll c.args.side)
    (scene_of g.M.Disk.told g.W.Wire.packets c.args.stage.now) c.args.nodes.now shows)

pub returns : goal.returns
returns g c terms net w shows =
    let side = side_of c.args.side in
    let old = scene_of g.M.Disk.told g.W.Wire.packets c.args.stage.now in
    let new = scene_of g.M.Disk.told g.W.Wire.packets c.call.new.stage in
    let to = c.in_ok-to.to in
    happens_call c.each_image_is_left.ensures terms w (said.Poll c.args.side) (Poll side) side
    (step_of terms (node w side) (asks.Poll to) (call.Poll to)) old new c.call.new.nodes c.call.result
    (poll_call terms w old c.args.nodes.now c.args.side to shows
    (c.in_ok-to.ensures.address ∙ ap address_of c.other.ensures))
    (c.call.ensures.moves terms net (asks.Poll to) refl w shows) c.call.ensures.asked
