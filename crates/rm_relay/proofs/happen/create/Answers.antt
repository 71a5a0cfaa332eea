use Rattle.std.proofs.Common.{◌∙◌, None, ap, refl}
use Rattle.std.proofs.lemmas.Result.{err_from_is_err_and}
use Rattle.rm_node.specs.Asked as asks
use Rattle.rm_node.specs.declared.call.Call.TheVariants as call
use Rattle.rm_relay.specs.Word.World.{Create, address_of, node, wish_of}
use Rattle.rm_relay.specs.Happening.{step_of}
use Rattle.rm_relay.specs.Shows.{scene_of}
use Rattle.rm_relay.specs.declared.event.Event.TheVariants as said
use Rattle.rm_relay.proofs.CallLemmas.{create_call, wish}
use Rattle.rm_relay.proofs.EventLemmas.{cut_none, happens_call}
use Rattle.rm_relay.proofs.happen.create.Goals as goal

pub returns-in_err-to : goal.returns-in_err-to
returns-in_err-to g c terms net w shows =
    let p = err_from_is_err_and c.from_residual.result c.from_residual.ensures.1 in
    rw p.1 (cut_none c.each_image_is_left.ensures terms w (said.Create c.args.node)
    (scene_of g.M.Disk.told g.W.Wire.packets c.args.stage.now) c.args.nodes.now c.args.senders.now.items shows)

pub returns : goal.returns
returns g c terms net w shows =
    let at = c.asker.result in
    let to = c.in_ok-to.to in
    let this = asks.Create (record (wish_of c.args.node) { to = to }) in
    happens_call c.each_image_is_left.ensures terms w (said.Create c.args.node) (Create c.args.node) at None
    (step_of terms (node w at) this (call.Create (wish to)))
    (scene_of g.M.Disk.told g.W.Wire.packets c.args.stage.now)
    (scene_of g.M.Disk.told g.W.Wire.packets c.call.new.stage) c.call.new.nodes c.call.new.senders.items c.call.result
    (create_call terms w c.args.node at to c.asker.ensures
    (c.in_ok-to.ensures.address ∙ ap address_of c.next_station.ensures))
    (c.call.ensures.moves terms net this refl w shows) c.call.ensures.asked
