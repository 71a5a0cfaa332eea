use Rattle.std.proofs.Common.{Some, refl, sym, subst}
use Rattle.rm_protocol.specs.World.{Ask, Close, Consume, End, Nack, Send, Tick, node}
use Rattle.rm_script.specs.declared.report.line.Outcome.TheVariants as told
use Rattle.rm_script.specs.Within.{IsWithin}
use Rattle.rm_script.specs.declared.event.Event.{Event as Said}
use Rattle.rm_script.specs.declared.event.Event.TheVariants as said
use Rattle.rm_replay.specs.Asked.{step_of}
use Rattle.rm_replay.specs.Happening.{Happened}
use Rattle.rm_replay.specs.Meaning.{side_of}
use Rattle.rm_replay.specs.Shows.{drives_of, scene_of}
use Rattle.rm_node.specs.Asked as asks
use Rattle.rm_node.specs.declared.call.Call.TheVariants as call
use Rattle.rm_replay.proofs.CallLemmas.{ask_call, close_call, consume_call, end_call, nack_call, send_call}
use Rattle.rm_replay.proofs.CallLemmas.{tick_call}
use Rattle.rm_replay.proofs.CompactLemmas.{happens_compact}
use Rattle.rm_replay.proofs.EventLemmas.{happens_arm, happens_call, happens_crash, happens_grant, happens_line}
use Rattle.rm_replay.proofs.StepLemmas.{scene_by}
use Rattle.rm_replay.proofs.happen.happen.Goals as goal

pub call-requires-in-Tick-clause-may : goal.call-requires-in-Tick-clause-may
call-requires-in-Tick-clause-may g c = subst IsWithin c.in-Tick.is c.requires.within

pub returns-in-Send : goal.returns-in-Send
returns-in-Send g c terms net w shows =
    let at = c.in-Send.node in
    let asked = asks.Send c.in-Send.seq c.in-Send.text in
    let old = scene_of g.M.Disk.told g.W.Wire.packets c.args.stage.now in
    let new = scene_of g.M.Disk.told g.W.Wire.packets c.call.new.stage in
    happens_line terms w old new c.call.new.nodes c.args.event (said.Send at c.in-Send.seq c.in-Send.text)
    c.call.result c.some-in-Send.result c.in-Send.is c.some-in-Send.ensures
    (happens_call c.each_image_is_left.ensures terms w (said.Send at c.in-Send.seq c.in-Send.text)
    (Send (side_of at) c.in-Send.seq c.in-Send.text) (side_of at)
    (step_of terms (node w (side_of at)) asked (call.Send c.in-Send.seq c.in-Send.text)) old new
    c.call.new.nodes c.call.result (send_call terms w at c.in-Send.seq c.in-Send.text)
    (c.call.ensures.moves terms net asked refl w shows) c.call.ensures.asked)

pub returns-in-Tick : goal.returns-in-Tick
returns-in-Tick g c terms net w shows =
    let at = c.in-Tick.node in
    let asked = asks.Tick c.in-Tick.now in
    let old = scene_of g.M.Disk.told g.W.Wire.packets c.args.stage.now in
    let new = scene_of g.M.Disk.told g.W.Wire.packets c.call-in-Tick.new.stage in
    happens_line terms w old new c.call-in-Tick.new.nodes c.args.event (said.Tick at c.in-Tick.now)
    c.call-in-Tick.result c.some-in-Tick.result c.in-Tick.is c.some-in-Tick.ensures
    (happens_call c.each_image_is_left.ensures terms w (said.Tick at c.in-Tick.now)
    (Tick (side_of at) c.in-Tick.now) (side_of at)
    (step_of terms (node w (side_of at)) asked (call.Tick c.in-Tick.now)) old new
    c.call-in-Tick.new.nodes c.call-in-Tick.result (tick_call terms w at c.in-Tick.now)
    (c.call-in-Tick.ensures.moves terms net asked refl w shows) c.call-in-Tick.ensures.asked)

pub returns-in-Close : goal.returns-in-Close
returns-in-Close g c terms net w shows =
    let at = c.in-Close.node in
    let asked = asks.Close c.in-Close.seq in
    let old = scene_of g.M.Disk.told g.W.Wire.packets c.args.stage.now in
    let new = scene_of g.M.Disk.told g.W.Wire.packets c.call-in-Close.new.stage in
    happens_line terms w old new c.call-in-Close.new.nodes c.args.event (said.Close at c.in-Close.seq)
    c.call-in-Close.result c.some-in-Close.result c.in-Close.is c.some-in-Close.ensures
    (happens_call c.each_image_is_left.ensures terms w (said.Close at c.in-Close.seq)
    (Close (side_of at) c.in-Close.seq) (side_of at)
    (step_of terms (node w (side_of at)) asked (call.Close c.in-Close.seq)) old new
    c.call-in-Close.new.nodes c.call-in-Close.result (close_call terms w at c.in-Close.seq)
    (c.call-in-Close.ensures.moves terms net asked refl w shows) c.call-in-Close.ensures.asked)

pub returns-in-End : goal.returns-in-End
returns-in-End g c terms net w shows =
    let at = c.in-End.node in
    let asked = asks.End c.in-End.seq in
    let old = scene_of g.M.Disk.told g.W.Wire.packets c.args.stage.now in
    let new = scene_of g.M.Disk.told g.W.Wire.packets c.call-in-End.new.stage in
    happens_line terms w old new c.call-in-End.new.nodes c.args.event (said.End at c.in-End.seq)
    c.call-in-End.result c.some-in-End.result c.in-End.is c.some-in-End.ensures
    (happens_call c.each_image_is_left.ensures terms w (said.End at c.in-End.seq)
    (End (side_of at) c.in-End.seq) (side_of at)
    (step_of terms (node w (side_of at)) asked (call.End c.in-End.seq)) old new
    c.call-in-End.new.nodes c.call-in-End.result (end_call terms w at c.in-End.seq)
    (c.call-in-End.ensures.moves terms net asked refl w shows) c.call-in-End.ensures.asked)

pub returns-in-Ask : goal.returns-in-Ask
returns-in-Ask g c terms net w shows =
    let at = c.in-Ask.node in
    let asked = asks.AskAck c.in-Ask.seq in
    let old = scene_of g.M.Disk.told g.W.Wire.packets c.args.stage.now in
    let new = scene_of g.M.Disk.told g.W.Wire.packets c.call-in-Ask.new.stage in
    happens_line terms w old new c.call-in-Ask.new.nodes c.args.event (said.Ask at c.in-Ask.seq)
    c.call-in-Ask.result c.some-in-Ask.result c.in-Ask.is c.some-in-Ask.ensures
    (happens_call c.each_image_is_left.ensures terms w (said.Ask at c.in-Ask.seq)
    (Ask (side_of at) c.in-Ask.seq) (side_of at)
    (step_of terms (node w (side_of at)) asked (call.AskAck c.in-Ask.seq)) old new
    c.call-in-Ask.new.nodes c.call-in-Ask.result (ask_call terms w at c.in-Ask.seq)
    (c.call-in-Ask.ensures.moves terms net asked refl w shows) c.call-in-Ask.ensures.asked)

pub returns-in-Nack : goal.returns-in-Nack
returns-in-Nack g c terms net w shows =
    let at = c.in-Nack.node in
    let asked = asks.NackMissing c.in-Nack.seq in
    let old = scene_of g.M.Disk.told g.W.Wire.packets c.args.stage.now in
    let new = scene_of g.M.Disk.told g.W.Wire.packets c.call-in-Nack.new.stage in
    happens_line terms w old new c.call-in-Nack.new.nodes c.args.event (said.Nack at c.in-Nack.seq)
    c.call-in-Nack.result c.some-in-Nack.result c.in-Nack.is c.some-in-Nack.ensures
    (happens_call c.each_image_is_left.ensures terms w (said.Nack at c.in-Nack.seq)
    (Nack (side_of at) c.in-Nack.seq) (side_of at)
    (step_of terms (node w (side_of at)) asked (call.NackMissing c.in-Nack.seq)) old new
    c.call-in-Nack.new.nodes c.call-in-Nack.result (nack_call terms w at c.in-Nack.seq)
    (c.call-in-Nack.ensures.moves terms net asked refl w shows) c.call-in-Nack.ensures.asked)

pub returns-in-Consume : goal.returns-in-Consume
returns-in-Consume g c terms net w shows =
    let at = c.in-Consume.node in
    let seq = c.in-Consume.seq in
    let upto = c.in-Consume.upto in
    let old = scene_of g.M.Disk.told g.W.Wire.packets c.args.stage.now in
    let new = scene_of g.M.Disk.told g.W.Wire.packets c.call-in-Consume.new.stage in
    happens_line terms w old new c.call-in-Consume.new.nodes c.args.event (said.Consume at seq upto)
    c.call-in-Consume.result c.some-in-Consume.result c.in-Consume.is c.some-in-Consume.ensures
    (happens_call c.each_image_is_left.ensures terms w (said.Consume at seq upto) (Consume (side_of at) seq upto)
    (side_of at) (step_of terms (node w (side_of at)) (asks.Consume seq upto) (call.Consume seq upto)) old new
    c.call-in-Consume.new.nodes c.call-in-Consume.result (consume_call terms w at seq upto)
    (c.call-in-Consume.ensures.moves terms net (asks.Consume seq upto) refl w shows)
    c.call-in-Consume.ensures.asked)

pub returns-in-Compact : goal.returns-in-Compact
returns-in-Compact g c terms net w shows =
    let at = c.in-Compact.node in
    let old = scene_of g.M.Disk.told g.W.Wire.packets c.args.stage.now in
    let new = scene_by (drives_of g.M.Disk.told c.compact-came.new.one c.compact-came.new.two)
    (g.W.Wire.packets c.args.stage.now.wire) in
    happens_line terms w old new c.compact-came.new.nodes c.args.event (said.Compact at) c.compact-came.result
    c.some-in-Compact.result c.in-Compact.is c.some-in-Compact.ensures
    (happens_compact c.each_image_is_left.ensures terms w at old new c.args.nodes.now c.compact-came.new.nodes
    c.compact-came.result shows refl (c.compact-came.ensures.compacts terms net.own w shows.stand)
    c.compact-came.ensures.asked)

pub returns-in-Grant : goal.returns-in-Grant
returns-in-Grant g c terms net w shows =
    let scene = scene_of g.M.Disk.told g.W.Wire.packets c.args.stage.now in
    subst (λ (line : Said). Happened terms w line scene scene c.grant.new.nodes (Some told.Done)) (sym c.in-Grant.is)
    (happens_grant terms w c.in-Grant.node c.in-Grant.behaviour scene c.args.nodes.now c.grant.new.nodes shows
    (c.grant.ensures w scene.drives shows.stand))

pub returns-in-Arm : goal.returns-in-Arm
returns-in-Arm g c terms net w shows =
    let old = scene_of g.M.Disk.told g.W.Wire.packets c.args.stage.now in
    let new = scene_by (drives_of g.M.Disk.told c.arm.new.one c.arm.new.two)
    (g.W.Wire.packets c.args.stage.now.wire) in
    subst (λ (line : Said). Happened terms w line old new c.args.nodes.now (Some told.Done)) (sym c.in-Arm.is)
    (happens_arm terms w c.in-Arm.node c.in-Arm.calls old new c.args.nodes.now c.args.nodes.now shows
    (c.arm.ensures.stand w shows.stand) refl c.arm.ensures.asked)

pub returns-in_ok-crash-in-Crash : goal.returns-in_ok-crash-in-Crash
returns-in_ok-crash-in-Crash g c terms net w shows =
    let old = scene_of g.M.Disk.told g.W.Wire.packets c.args.stage.now in
    let new = scene_by (drives_of g.M.Disk.told c.crash.new.one c.crash.new.two)
    (g.W.Wire.packets c.args.stage.now.wire) in
    subst (λ (line : Said). Happened terms w line old new c.crash.new.nodes (Some told.Done)) (sym c.in-Crash.is)
    (happens_crash terms w c.in-Crash.node c.in-Crash.choice old new c.args.nodes.now c.crash.new.nodes shows refl
    (c.in_ok-crash-in-Crash.ensures w shows.stand))
