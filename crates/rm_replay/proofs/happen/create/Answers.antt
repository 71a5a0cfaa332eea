use Rattle.std.proofs.Common.{◌∙◌, ap, refl, subst}
use Rattle.std.proofs.lemmas.Result.{err_from_is_err_and}
use Rattle.record_batch.specs.declared.record.Via.{Via}
use Rattle.rm_protocol.specs.World.{Create, node}
use Rattle.rm_script.specs.declared.event.Event.TheVariants as said
use Rattle.rm_replay.specs.Asked.{step_of}
use Rattle.rm_replay.specs.Happening.{Moves}
use Rattle.rm_replay.specs.Meaning.{side_of, via_of}
use Rattle.rm_replay.specs.Shows.{address_of, scene_of}
use Rattle.rm_node.specs.Asked as asks
use Rattle.rm_node.specs.declared.call.Call.TheVariants as call
use Rattle.rm_replay.proofs.CallLemmas.{create_call, wish, wished}
use Rattle.rm_replay.proofs.EventLemmas.{cut_none, happens_call}
use Rattle.rm_replay.proofs.happen.create.Goals as goal

pub returns-in_err-to : goal.returns-in_err-to
returns-in_err-to g c terms net w shows =
    let p = err_from_is_err_and c.from_residual.result c.from_residual.ensures.1 in
    rw p.1 (cut_none c.each_image_is_left.ensures terms w
    (said.Create c.args.side c.args.expires c.args.polled c.args.offer)
    (scene_of g.M.Disk.told g.W.Wire.packets c.args.stage.now) c.args.nodes.now shows)

pub returns : goal.returns
returns g c terms net w shows =
    let side = side_of c.args.side in
    let old = scene_of g.M.Disk.told g.W.Wire.packets c.args.stage.now in
    let new = scene_of g.M.Disk.told g.W.Wire.packets c.call.new.stage in
    let to = c.in_ok-to.to in
    let via = via_of c.args.polled in
    let asked = asks.Create (wished to via c.args.expires c.args.offer) in
    happens_call c.each_image_is_left.ensures terms w
    (said.Create c.args.side c.args.expires c.args.polled c.args.offer)
    (Create side via c.args.expires c.args.offer) side
    (step_of terms (node w side) asked (call.Create (wish to via c.args.expires c.args.offer))) old new
    c.call.new.nodes c.call.result
    (create_call terms w old c.args.nodes.now c.args.side to c.args.expires c.args.polled c.args.offer shows
    (c.in_ok-to.ensures.address ∙ ap address_of c.other.ensures))
    (subst (λ (v : Via). Moves terms w side
    (step_of terms (node w side) (asks.Create (wished to v c.args.expires c.args.offer))
    (call.Create (wish to v c.args.expires c.args.offer))) new c.call.new.nodes c.call.result) c.via.ensures
    (c.call.ensures.moves terms net (asks.Create (wished to c.via.result c.args.expires c.args.offer)) refl w shows))
    c.call.ensures.asked
