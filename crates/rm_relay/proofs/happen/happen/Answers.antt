use Rattle.std.proofs.Common.{None, Some, refl, sym, subst}
use Rattle.std.proofs.lemmas.Result.{err_from_is_err_and}
use Rattle.rm_script.specs.declared.report.line.Outcome.TheVariants as told
use Rattle.rm_node.specs.Asked as asks
use Rattle.rm_node.specs.declared.call.Call.TheVariants as call
use Rattle.rm_relay.specs.Word.World.{Close, End, Send, Tick, node}
use Rattle.rm_relay.specs.declared.word.station.Station.TheVariants.{One}
use Rattle.rm_relay.specs.Happening.{Happened, step_of}
use Rattle.rm_relay.specs.Played.{IsCut}
use Rattle.rm_relay.specs.Shows.{drives_of, scene_of}
use Rattle.rm_relay.specs.Within.{IsWithin}
use Rattle.rm_relay.specs.declared.event.Event.{Event as Said}
use Rattle.rm_relay.specs.declared.event.Event.TheVariants as said
use Rattle.rm_relay.specs.declared.report.Ending.TheVariants.{Came as came_out}
use Rattle.rm_relay.proofs.CallLemmas.{close_call, end_call, send_call, tick_call}
use Rattle.rm_relay.proofs.EventLemmas.{cut_compact, cut_crash, happens_arm, happens_call, happens_compact}
use Rattle.rm_relay.proofs.EventLemmas.{happens_crash}
use Rattle.rm_relay.proofs.EventLemmas.{happens_line, happens_nothing}
use Rattle.rm_relay.proofs.MoveLemmas.{scene_by}
use Rattle.rm_relay.proofs.happen.happen.Goals as goal

pub returns-in-Nothing : goal.returns-in-Nothing
returns-in-Nothing g c terms net w shows =
    let scene = scene_of g.M.Disk.told g.W.Wire.packets c.args.stage.now in
    subst (λ (line : Said). Happened terms w line scene scene c.args.nodes.now c.args.senders.now.items None)
    (sym c.in-Nothing.is) (happens_nothing terms w scene c.args.nodes.now c.args.senders.now.items shows)

pub returns-in-Send : goal.returns-in-Send
returns-in-Send g c terms net w shows =
    let seq = c.in-Send.seq in
    let text = c.in-Send.text in
    let asked = asks.Send seq text in
    let old = scene_of g.M.Disk.told g.W.Wire.packets c.args.stage.now in
    let new = scene_of g.M.Disk.told g.W.Wire.packets c.call.new.stage in
    happens_line terms w old new c.call.new.nodes c.call.new.senders.items c.args.event (said.Send seq text)
    c.call.result c.some-in-Send.result c.in-Send.is c.some-in-Send.ensures
    (happens_call c.each_image_is_left.ensures terms w (said.Send seq text) (Send seq text) One _
    (step_of terms w.one asked (call.Send seq text)) old new c.call.new.nodes c.call.new.senders.items c.call.result
    (send_call terms w seq text) (c.call.ensures.moves terms net asked refl w shows) c.call.ensures.asked)

pub call-requires-in-Tick-clause-may : goal.call-requires-in-Tick-clause-may
call-requires-in-Tick-clause-may g c = subst IsWithin c.in-Tick.is c.requires.within

pub returns-in-Tick : goal.returns-in-Tick
returns-in-Tick g c terms net w shows =
    let at = c.in-Tick.node in
    let now = c.in-Tick.now in
    let asked = asks.Tick now in
    let old = scene_of g.M.Disk.told g.W.Wire.packets c.args.stage.now in
    let new = scene_of g.M.Disk.told g.W.Wire.packets c.call-in-Tick.new.stage in
    happens_line terms w old new c.call-in-Tick.new.nodes c.call-in-Tick.new.senders.items c.args.event
    (said.Tick at now) c.call-in-Tick.result c.some-in-Tick.result c.in-Tick.is c.some-in-Tick.ensures
    (happens_call c.each_image_is_left.ensures terms w (said.Tick at now) (Tick at now) at _
    (step_of terms (node w at) asked (call.Tick now)) old new c.call-in-Tick.new.nodes
    c.call-in-Tick.new.senders.items c.call-in-Tick.result (tick_call terms w at now)
    (c.call-in-Tick.ensures.moves terms net asked refl w shows) c.call-in-Tick.ensures.asked)

pub returns-in-Close : goal.returns-in-Close
returns-in-Close g c terms net w shows =
    let at = c.in-Close.node in
    let seq = c.in-Close.seq in
    let asked = asks.Close seq in
    let old = scene_of g.M.Disk.told g.W.Wire.packets c.args.stage.now in
    let new = scene_of g.M.Disk.told g.W.Wire.packets c.call-in-Close.new.stage in
    happens_line terms w old new c.call-in-Close.new.nodes c.call-in-Close.new.senders.items c.args.event
    (said.Close at seq) c.call-in-Close.result c.some-in-Close.result c.in-Close.is c.some-in-Close.ensures
    (happens_call c.each_image_is_left.ensures terms w (said.Close at seq) (Close at seq) at _
    (step_of terms (node w at) asked (call.Close seq)) old new c.call-in-Close.new.nodes
    c.call-in-Close.new.senders.items c.call-in-Close.result (close_call terms w at seq)
    (c.call-in-Close.ensures.moves terms net asked refl w shows) c.call-in-Close.ensures.asked)

pub returns-in-End : goal.returns-in-End
returns-in-End g c terms net w shows =
    let at = c.in-End.node in
    let seq = c.in-End.seq in
    let asked = asks.End seq in
    let old = scene_of g.M.Disk.told g.W.Wire.packets c.args.stage.now in
    let new = scene_of g.M.Disk.told g.W.Wire.packets c.call-in-End.new.stage in
    happens_line terms w old new c.call-in-End.new.nodes c.call-in-End.new.senders.items c.args.event
    (said.End at seq) c.call-in-End.result c.some-in-End.result c.in-End.is c.some-in-End.ensures
    (happens_call c.each_image_is_left.ensures terms w (said.End at seq) (End at seq) at _
    (step_of terms (node w at) asked (call.End seq)) old new c.call-in-End.new.nodes
    c.call-in-End.new.senders.items c.call-in-End.result (end_call terms w at seq)
    (c.call-in-End.ensures.moves terms net asked refl w shows) c.call-in-End.ensures.asked)

pub returns-in_err-outcome-in-Compact : goal.returns-in_err-outcome-in-Compact
returns-in_err-outcome-in-Compact g c terms net w shows =
    let p = err_from_is_err_and c.from_residual.result c.from_residual.ensures.1 in
    let old = scene_of g.M.Disk.told g.W.Wire.packets c.args.stage.now in
    let new = scene_by (drives_of g.M.Disk.told c.compact.new.one c.compact.new.two c.compact.new.three)
    (g.W.Wire.packets c.args.stage.now.wire) in
    rw p.1 (subst (λ (line : Said). IsCut terms w line old new) (sym c.in-Compact.is)
    (cut_compact c.each_image_is_left.ensures terms w c.in-Compact.node old new c.args.nodes.now c.compact.new.nodes
    c.args.senders.now.items p.0 shows refl (c.in_err-outcome-in-Compact.ensures.compacts terms net.own w shows.stand)
    c.in_err-outcome-in-Compact.ensures.asked))

pub returns-in_ok-outcome-in-Compact : goal.returns-in_ok-outcome-in-Compact
returns-in_ok-outcome-in-Compact g c terms net w shows =
    let outcome = c.in_ok-outcome-in-Compact.outcome in
    let old = scene_of g.M.Disk.told g.W.Wire.packets c.args.stage.now in
    let new = scene_by (drives_of g.M.Disk.told c.compact.new.one c.compact.new.two c.compact.new.three)
    (g.W.Wire.packets c.args.stage.now.wire) in
    subst (λ (line : Said). Happened terms w line old new c.compact.new.nodes c.args.senders.now.items
    (Some (came_out outcome))) (sym c.in-Compact.is)
    (happens_compact terms w c.in-Compact.node old new c.args.nodes.now c.compact.new.nodes c.args.senders.now.items
    outcome shows refl (c.in_ok-outcome-in-Compact.ensures.compacts terms net.own w shows.stand)
    c.in_ok-outcome-in-Compact.ensures.asked)

pub returns-in-Arm : goal.returns-in-Arm
returns-in-Arm g c terms net w shows =
    let old = scene_of g.M.Disk.told g.W.Wire.packets c.args.stage.now in
    let new = scene_by (drives_of g.M.Disk.told c.arm.new.one c.arm.new.two c.arm.new.three)
    (g.W.Wire.packets c.args.stage.now.wire) in
    subst (λ (line : Said). Happened terms w line old new c.args.nodes.now c.args.senders.now.items
    (Some (came_out told.Done))) (sym c.in-Arm.is)
    (happens_arm terms w c.in-Arm.node c.in-Arm.calls old new c.args.nodes.now c.args.nodes.now
    c.args.senders.now.items shows (c.arm.ensures.stand w shows.stand) refl c.arm.ensures.asked)

pub returns-in_err-crash-in-Crash : goal.returns-in_err-crash-in-Crash
returns-in_err-crash-in-Crash g c terms net w shows =
    let r = c.from_residual-in_err-crash-in-Crash in
    let p = err_from_is_err_and r.result r.ensures.1 in
    let old = scene_of g.M.Disk.told g.W.Wire.packets c.args.stage.now in
    let new = scene_by (drives_of g.M.Disk.told c.crash.new.one c.crash.new.two c.crash.new.three)
    (g.W.Wire.packets c.args.stage.now.wire) in
    rw p.1 (subst (λ (line : Said). IsCut terms w line old new) (sym c.in-Crash.is)
    (cut_crash terms w c.in-Crash.node c.in-Crash.choice old new c.args.nodes.now c.args.senders.now.items shows refl
    (c.in_err-crash-in-Crash.ensures w shows.stand)))

pub returns-in_ok-crash-in-Crash : goal.returns-in_ok-crash-in-Crash
returns-in_ok-crash-in-Crash g c terms net w shows =
    let old = scene_of g.M.Disk.told g.W.Wire.packets c.args.stage.now in
    let new = scene_by (drives_of g.M.Disk.told c.crash.new.one c.crash.new.two c.crash.new.three)
    (g.W.Wire.packets c.args.stage.now.wire) in
    subst (λ (line : Said). Happened terms w line old new c.crash.new.nodes c.args.senders.now.items
    (Some (came_out told.Done))) (sym c.in-Crash.is)
    (happens_crash terms w c.in-Crash.node c.in-Crash.choice old new c.args.nodes.now c.crash.new.nodes
    c.args.senders.now.items shows refl (c.in_ok-crash-in-Crash.ensures w shows.stand))
