use Rattle.std.proofs.Common.{◌≡◌, ◌∙◌, List, ap, false, inl, None, Some, refl, subst, sym}
use Rattle.std.proofs.lemmas.Option.{same_Some}
use Rattle.std.proofs.lemmas.Result.{err_from_is_err_and}
use Rattle.std.specs.Prelude.{Ok, Err}
use Rattle.rm_base.specs.Numbered.{numbered}
use Rattle.rm_replay.specs.Actor.Outcomes.{is_disk_outcome}
use Rattle.rm_script.specs.declared.report.line.Outcome.{Outcome}
use Rattle.rm_script.specs.declared.report.line.Outcome.TheVariants as told
use Rattle.rm_node.specs.Asked as asks
use Rattle.rm_node.specs.Asked.{IsReceived}
use Rattle.rm_node.specs.declared.call.Call.TheVariants as call
use Rattle.rm_relay.specs.Word.World.{Deliver, node}
use Rattle.rm_relay.specs.declared.word.station.Station.{Station}
use Rattle.rm_relay.specs.Happening.{WereAsked, step_of}
use Rattle.rm_relay.specs.Shows.{drives_of, scene_of}
use Rattle.rm_relay.specs.declared.event.Event.TheVariants as said
use Rattle.rm_relay.specs.declared.report.Ending.TheVariants.{Came as came_out}
use Rattle.rm_relay.proofs.CallLemmas.{deliver_call, lost, lost_still, packet_read, sent_there, there_of}
use Rattle.rm_relay.proofs.EventLemmas.{happens_call, happens_still}
use Rattle.rm_relay.proofs.MoveLemmas.{moves_part, moves_whole, scene_by, shows_still}
use Rattle.rm_relay.proofs.ReadLemmas.{reads_all}
use Rattle.rm_relay.proofs.happen.deliver.Goals as goal

pub returns-in_default : goal.returns-in_default
returns-in_default g c terms net w shows =
    let old = scene_of g.M.Disk.told g.W.Wire.packets c.args.stage.now in
    let senders = c.args.senders.now.items in
    happens_still terms w (said.Deliver c.args.packet) (Deliver c.args.packet) (came_out told.NoPacket) old
    c.args.nodes.now senders (lost_still terms w c.args.packet
    (lost w old c.args.nodes.now senders c.args.packet shows c.in_default.ensures)) shows

pub unreachable-requires : goal.unreachable-requires
unreachable-requires g c =
    let w = c.requires.there.0 in
    let shows = c.requires.there.1 in
    let old = scene_of g.M.Disk.told g.W.Wire.packets c.args.stage.now in
    let found = c.in-Some.found in
    let is = there_of w old c.args.nodes.now c.args.senders.now.items c.args.packet found.to found.bytes.now shows
    c.in-Some.ensures in
    let there = sent_there w old c.args.nodes.now c.args.senders.now.items c.args.packet is.packet shows is.there in
    let none : None ≡ Some is.packet.from = sym c.in_default-sender.is ∙ c.sender.ensures
    ∙ ap (λ (these : List Station). numbered these c.args.packet) c.as_slice.ensures.value ∙ there in absurd cc

pub ask_at-requires-clause-there : goal.ask_at-requires-clause-there
ask_at-requires-clause-there g c = (c.requires.there.0, c.requires.there.1.stand)

pub returns-in_err-came : goal.returns-in_err-came
returns-in_err-came g c terms net w shows =
    let p = err_from_is_err_and c.from_residual.result c.from_residual.ensures.1 in
    let senders = c.args.senders.now.items in
    let old = scene_of g.M.Disk.told g.W.Wire.packets c.args.stage.now in
    let new = scene_by (drives_of g.M.Disk.told c.ask_at.new.one c.ask_at.new.two c.ask_at.new.three)
    (g.W.Wire.packets c.args.stage.now.wire) in
    let found = c.in-Some.found in
    let is = there_of w old c.args.nodes.now senders c.args.packet found.to found.bytes.now shows c.in-Some.ensures in
    let at = c.station_with-station.result in
    let back = c.in-Some-sender.back in
    let from = same_Some back is.packet.from (sym c.in-Some-sender.is ∙ c.sender.ensures
    ∙ ap (λ (these : List Station). numbered these c.args.packet) c.as_slice.ensures.value
    ∙ sent_there w old c.args.nodes.now senders c.args.packet is.packet shows is.there) in
    let content = terms.read is.packet.message in
    let asked = asks.Receive content in
    let by : IsReceived found.bytes.now asked = record {
      content = content;
      read = packet_read terms net w c.args.packet found.to found.bytes.now is;
      is = refl;
    } in
    let step = step_of terms (node w at) asked (call.Receive found.bytes) in
    let calls = deliver_call terms w c.args.packet is.packet at back found.bytes is.there
    (c.station_with-station.ensures is.packet.to is.to_) from in
    rw p.1 (happens_call c.each_image_is_left.ensures terms w (said.Deliver c.args.packet) (Deliver c.args.packet) at
    (Some back) step old new c.ask_at.new.nodes senders (Err p.0) calls
    (inl (shows_still w old new c.args.nodes.now c.ask_at.new.nodes senders shows
    (c.in_err-came.ensures.steps terms net.own asked by w shows.stand) refl)) (false, c.in_err-came.ensures.asked))

pub returns-in_err-outcome : goal.returns-in_err-outcome
returns-in_err-outcome g c terms net w shows =
    let r = c.from_residual-in_err-outcome in
    let p = err_from_is_err_and r.result r.ensures.1 in
    let senders = c.args.senders.now.items in
    let old = scene_of g.M.Disk.told g.W.Wire.packets c.args.stage.now in
    let new = scene_by (drives_of g.M.Disk.told c.ask_at.new.one c.ask_at.new.two c.ask_at.new.three)
    (g.W.Wire.packets c.put_came.new.wire) in
    let found = c.in-Some.found in
    let is = there_of w old c.args.nodes.now senders c.args.packet found.to found.bytes.now shows c.in-Some.ensures in
    let at = c.station_with-station.result in
    let back = c.in-Some-sender.back in
    let from = same_Some back is.packet.from (sym c.in-Some-sender.is ∙ c.sender.ensures
    ∙ ap (λ (these : List Station). numbered these c.args.packet) c.as_slice.ensures.value
    ∙ sent_there w old c.args.nodes.now senders c.args.packet is.packet shows is.there) in
    let content = terms.read is.packet.message in
    let asked = asks.Receive content in
    let by : IsReceived found.bytes.now asked = record {
      content = content;
      read = packet_read terms net w c.args.packet found.to found.bytes.now is;
      is = refl;
    } in
    let step = step_of terms (node w at) asked (call.Receive found.bytes) in
    let calls = deliver_call terms w c.args.packet is.packet at back found.bytes is.there
    (c.station_with-station.ensures is.packet.to is.to_) from in
    rw p.1 (happens_call c.each_image_is_left.ensures terms w (said.Deliver c.args.packet) (Deliver c.args.packet) at
    (Some back) step old new c.ask_at.new.nodes c.put_came.new.senders.items (Err p.0) calls
    (moves_part terms net w at (Some back) step old new c.args.nodes.now c.ask_at.new.nodes senders
    c.put_came.new.senders.items c.in_ok-came.came p.0 shows
    (c.in_ok-came.ensures.steps terms net.own asked by w shows.stand)
    (reads_all (record {
      reads = c.what_is_read_may_be_written.ensures;
      refuses = c.a_refusal_may_be_answered.ensures.refusal;
      says = c.each_message_keeps_the_rules.ensures;
      polls = c.what_waits_keeps_the_rules.ensures;
      written = c.what_is_written_is_read.ensures.twelve;
    }) terms net.own w old.drives c.args.nodes.now at shows.stand asked (call.Receive found.bytes) tt by)
    c.in_err-outcome.ensures.err) (is_disk_outcome c.in_ok-came.came.outcome, c.in_ok-came.ensures.asked))

pub returns : goal.returns
returns g c terms net w shows =
    let senders = c.args.senders.now.items in
    let old = scene_of g.M.Disk.told g.W.Wire.packets c.args.stage.now in
    let new = scene_by (drives_of g.M.Disk.told c.ask_at.new.one c.ask_at.new.two c.ask_at.new.three)
    (g.W.Wire.packets c.put_came.new.wire) in
    let found = c.in-Some.found in
    let is = there_of w old c.args.nodes.now senders c.args.packet found.to found.bytes.now shows c.in-Some.ensures in
    let at = c.station_with-station.result in
    let back = c.in-Some-sender.back in
    let from = same_Some back is.packet.from (sym c.in-Some-sender.is ∙ c.sender.ensures
    ∙ ap (λ (these : List Station). numbered these c.args.packet) c.as_slice.ensures.value
    ∙ sent_there w old c.args.nodes.now senders c.args.packet is.packet shows is.there) in
    let content = terms.read is.packet.message in
    let asked = asks.Receive content in
    let by : IsReceived found.bytes.now asked = record {
      content = content;
      read = packet_read terms net w c.args.packet found.to found.bytes.now is;
      is = refl;
    } in
    let step = step_of terms (node w at) asked (call.Receive found.bytes) in
    let calls = deliver_call terms w c.args.packet is.packet at back found.bytes is.there
    (c.station_with-station.ensures is.packet.to is.to_) from in
    let outcome = c.in_ok-outcome.outcome in
    happens_call c.each_image_is_left.ensures terms w (said.Deliver c.args.packet) (Deliver c.args.packet) at
    (Some back) step old new c.ask_at.new.nodes c.put_came.new.senders.items (Ok (came_out outcome)) calls
    (moves_whole terms net w at (Some back) step old new c.args.nodes.now c.ask_at.new.nodes senders
    c.put_came.new.senders.items c.in_ok-came.came outcome shows
    (c.in_ok-came.ensures.steps terms net.own asked by w shows.stand)
    (reads_all (record {
      reads = c.what_is_read_may_be_written.ensures;
      refuses = c.a_refusal_may_be_answered.ensures.refusal;
      says = c.each_message_keeps_the_rules.ensures;
      polls = c.what_waits_keeps_the_rules.ensures;
      written = c.what_is_written_is_read.ensures.twelve;
    }) terms net.own w old.drives c.args.nodes.now at shows.stand asked (call.Receive found.bytes) tt by)
    c.in_ok-outcome.ensures.outcome c.in_ok-outcome.ensures.ok)
    (subst (λ (o : Outcome). WereAsked at (is_disk_outcome o) old.drives new.drives)
    (sym c.in_ok-outcome.ensures.outcome) c.in_ok-came.ensures.asked)
