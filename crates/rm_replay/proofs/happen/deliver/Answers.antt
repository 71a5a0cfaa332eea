use Rattle.std.proofs.Common.{◌∙◌, false, Err, inl, refl, ap}
use Rattle.std.proofs.lemmas.Result.{err_from_is_err_and}
use Rattle.rm_protocol.specs.World.{Deliver, node, other}
use Rattle.rm_script.specs.declared.event.Event.TheVariants as said
use Rattle.rm_replay.specs.Asked.{step_of}
use Rattle.rm_replay.specs.Meaning.{side_of}
use Rattle.rm_replay.specs.Net.{number_of}
use Rattle.rm_replay.specs.Shows.{drives_of, scene_of}
use Rattle.rm_node.specs.Asked as asks
use Rattle.rm_node.specs.Asked.{IsReceived}
use Rattle.rm_node.specs.declared.call.Call.TheVariants as call
use Rattle.rm_replay.proofs.CallLemmas.{deliver_at, happens_lost, lost, packet_read, there_of}
use Rattle.rm_replay.proofs.EventLemmas.{happens_call}
use Rattle.rm_replay.specs.ReadLemmas.{kept_at, rules_at, said_is_read}
use Rattle.rm_replay.proofs.StepLemmas.{asked_for, call_moves, scene_by, shows_still}
use Rattle.rm_replay.proofs.happen.deliver.Goals as goal

pub returns-in_default : goal.returns-in_default
returns-in_default g c terms net w shows =
    let old = scene_of g.M.Disk.told g.W.Wire.packets c.args.stage.now in
    happens_lost terms w c.args.packet old c.args.nodes.now shows
    (lost w old c.args.nodes.now c.args.packet shows c.in_default.ensures)

pub returns-in_err-came : goal.returns-in_err-came
returns-in_err-came g c terms net w shows =
    let p = err_from_is_err_and c.from_residual.result c.from_residual.ensures.1 in
    let old = scene_of g.M.Disk.told g.W.Wire.packets c.args.stage.now in
    let new = scene_by (drives_of g.M.Disk.told c.ask_at.new.one c.ask_at.new.two)
    (g.W.Wire.packets c.args.stage.now.wire) in
    let packet = c.in-Some.packet in
    let is = there_of w old c.args.nodes.now c.args.packet packet.to packet.bytes.now shows c.in-Some.ensures in
    let side = side_of c.side_with-side.result in
    let content = terms.read is.packet.message in
    let asked = asks.Receive content in
    rw p.1 (happens_call c.each_image_is_left.ensures terms w (said.Deliver c.args.packet) (Deliver c.args.packet) side
    (step_of terms (node w side) asked (call.Receive packet.bytes)) old new c.ask_at.new.nodes (Err p.0)
    (deliver_at terms w c.args.packet is.packet side packet.bytes is.there
    (c.side_with-side.ensures (other is.packet.from) is.to_))
    (inl (shows_still w old new c.args.nodes.now c.ask_at.new.nodes shows
    (c.in_err-came.ensures.steps terms net.own asked
    (record {
      content = content;
      read = packet_read terms net w c.args.packet packet.to packet.bytes.now is;
      is = refl;
    })
    w shows.stand) refl))
    (false, c.in_err-came.ensures.asked))

pub returns : goal.returns
returns g c terms net w shows =
    let old = scene_of g.M.Disk.told g.W.Wire.packets c.args.stage.now in
    let new = scene_by (drives_of g.M.Disk.told c.ask_at.new.one c.ask_at.new.two)
    (g.W.Wire.packets c.put_came.new.wire) in
    let packet = c.in-Some.packet in
    let is = there_of w old c.args.nodes.now c.args.packet packet.to packet.bytes.now shows c.in-Some.ensures in
    let side = side_of c.side_with-side.result in
    let content = terms.read is.packet.message in
    let asked = asks.Receive content in
    let by : IsReceived packet.bytes.now asked = record {
      content = content;
      read = packet_read terms net w c.args.packet packet.to packet.bytes.now is;
      is = refl;
    } in
    let step = step_of terms (node w side) asked (call.Receive packet.bytes) in
    happens_call c.each_image_is_left.ensures terms w (said.Deliver c.args.packet) (Deliver c.args.packet) side step old
    new c.ask_at.new.nodes c.put_came.result
    (deliver_at terms w c.args.packet is.packet side packet.bytes is.there
    (c.side_with-side.ensures (other is.packet.from) is.to_))
    (call_moves terms net w side step old new c.args.nodes.now c.ask_at.new.nodes c.number.result c.in_ok-came.came
    c.put_came.result shows (c.in_ok-came.ensures.steps terms net.own asked by w shows.stand)
    (c.number.ensures ∙ ap number_of c.other.ensures) c.put_came.ensures.ok c.put_came.ensures.outcome
    c.put_came.ensures.err
    (said_is_read (record {
      reads = c.what_is_read_may_be_written.ensures;
      refuses = c.a_refusal_may_be_answered.ensures.refusal;
      says = c.each_message_keeps_the_rules.ensures;
      polls = c.what_waits_keeps_the_rules.ensures;
      written = c.what_is_written_is_read.ensures.twelve;
    }) terms net.own (node w side)
    (kept_at w old.drives c.args.nodes.now side shows.stand)
    (rules_at w old.drives c.args.nodes.now side shows.stand) asked (call.Receive packet.bytes) tt by))
    (asked_for side c.in_ok-came.came c.put_came.result old.drives new.drives c.in_ok-came.ensures.asked
    c.put_came.ensures.outcome)
