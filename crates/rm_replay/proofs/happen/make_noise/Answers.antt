use Rattle.std.proofs.Common.{Err, refl}
use Rattle.soap_envelope.specs.Soap.{soap_space}
use Rattle.message_reader.specs.Refusals.{Refuses}
use Rattle.rm_protocol.specs.World.{Noise, node}
use Rattle.rm_script.specs.declared.event.Event.TheVariants as said
use Rattle.rm_replay.specs.Asked.{step_of}
use Rattle.rm_replay.specs.Meaning.{side_of}
use Rattle.rm_replay.specs.Shows.{scene_of}
use Rattle.rm_node.specs.Asked as asks
use Rattle.rm_node.specs.declared.call.Call.TheVariants as call
use Rattle.rm_replay.proofs.CallLemmas.{noise_call}
use Rattle.rm_replay.proofs.EventLemmas.{cut_none, happens_call}
use Rattle.rm_replay.proofs.happen.make_noise.Goals as goal

pub returns-in-Err-Memory : goal.returns-in-Err-Memory
returns-in-Err-Memory g c terms net w shows =
    cut_none c.each_image_is_left.ensures terms w (said.Noise c.args.side c.args.bytes.now)
    (scene_of g.M.Disk.told g.W.Wire.packets c.args.stage.now) c.args.nodes.now shows

pub returns : goal.returns
returns g c terms net w shows =
    let side = side_of c.args.side in
    let refusal = c.in-Err-Refused.field-0-0 in
    let refuses : Refuses soap_space c.args.bytes.now refusal =
    rw c.in-Err-Refused.field-0-is at c.in-Err-Refused.ensures.err in
    let old = scene_of g.M.Disk.told g.W.Wire.packets c.args.stage.now in
    let new = scene_of g.M.Disk.told g.W.Wire.packets c.call.new.stage in
    happens_call c.each_image_is_left.ensures terms w (said.Noise c.args.side c.args.bytes.now) (Noise side refusal)
    side
    (step_of terms (node w side) (asks.Receive (Err refusal)) (call.Receive c.args.bytes)) old new c.call.new.nodes
    c.call.result
    (noise_call terms w c.args.side c.args.bytes refusal refuses)
    (c.call.ensures.moves terms net (asks.Receive (Err refusal))
    (record { content = Err refusal; read = refuses; is = refl }) w shows) c.call.ensures.asked
