use Rattle.std.proofs.Common.{false, inl, None, refl, subst, sym}
use Rattle.std.proofs.lemmas.Result.{err_from_is_err_and}
use Rattle.rm_replay.specs.Actor.Outcomes.{is_disk_outcome}
use Rattle.rm_script.specs.declared.report.line.Outcome.{Outcome}
use Rattle.rm_relay.specs.Word.World.{node}
use Rattle.rm_relay.specs.Happening.{WereAsked, step_of}
use Rattle.rm_relay.specs.Shows.{drives_of, scene_of}
use Rattle.rm_relay.proofs.MoveLemmas.{moves_part, moves_whole, scene_by, shows_still}
use Rattle.rm_relay.proofs.ReadLemmas.{reads_all}
use Rattle.rm_relay.proofs.happen.call.Goals as goal

pub ask_at-requires-clause-there : goal.ask_at-requires-clause-there
ask_at-requires-clause-there g c = (c.requires.there.0, c.requires.there.1.stand)

pub returns-in_err-came-clause-moves : goal.returns-in_err-came-clause-moves
returns-in_err-came-clause-moves g c terms net asked by w shows =
    let p = err_from_is_err_and c.from_residual.result c.from_residual.ensures.1 in
    rw p.1 (inl (shows_still w (scene_of g.M.Disk.told g.W.Wire.packets c.args.stage.now)
    (scene_by (drives_of g.M.Disk.told c.ask_at.new.one c.ask_at.new.two c.ask_at.new.three)
    (g.W.Wire.packets c.args.stage.now.wire)) c.args.nodes.now c.ask_at.new.nodes c.args.senders.now.items shows
    (c.in_err-came.ensures.steps terms net.own asked by w shows.stand) refl))

pub returns-in_err-came-clause-asked : goal.returns-in_err-came-clause-asked
returns-in_err-came-clause-asked g c =
    let p = err_from_is_err_and c.from_residual.result c.from_residual.ensures.1 in
    rw p.1 (false, c.in_err-came.ensures.asked)

pub returns-in_err-outcome-clause-moves : goal.returns-in_err-outcome-clause-moves
returns-in_err-outcome-clause-moves g c terms net asked by w shows =
    let r = c.from_residual-in_err-outcome in
    let p = err_from_is_err_and r.result r.ensures.1 in
    let at = c.args.station in
    rw p.1 (moves_part terms net w at None (step_of terms (node w at) asked c.args.call)
    (scene_of g.M.Disk.told g.W.Wire.packets c.args.stage.now)
    (scene_by (drives_of g.M.Disk.told c.ask_at.new.one c.ask_at.new.two c.ask_at.new.three)
    (g.W.Wire.packets c.put_came.new.wire)) c.args.nodes.now c.ask_at.new.nodes c.args.senders.now.items
    c.put_came.new.senders.items c.in_ok-came.came p.0 shows
    (c.in_ok-came.ensures.steps terms net.own asked by w shows.stand)
    (reads_all (record {
      reads = c.what_is_read_may_be_written.ensures;
      refuses = c.a_refusal_may_be_answered.ensures.refusal;
      says = c.each_message_keeps_the_rules.ensures;
      polls = c.what_waits_keeps_the_rules.ensures;
      written = c.what_is_written_is_read.ensures.twelve;
    }) terms net.own w
    (drives_of g.M.Disk.told c.args.stage.now.one c.args.stage.now.two c.args.stage.now.three) c.args.nodes.now at
    shows.stand asked c.args.call c.requires.may by) c.in_err-outcome.ensures.err)

pub returns-in_err-outcome-clause-asked : goal.returns-in_err-outcome-clause-asked
returns-in_err-outcome-clause-asked g c =
    let r = c.from_residual-in_err-outcome in
    let p = err_from_is_err_and r.result r.ensures.1 in
    rw p.1 (is_disk_outcome c.in_ok-came.came.outcome, c.in_ok-came.ensures.asked)

pub returns-clause-moves : goal.returns-clause-moves
returns-clause-moves g c terms net asked by w shows =
    let at = c.args.station in
    moves_whole terms net w at None (step_of terms (node w at) asked c.args.call)
    (scene_of g.M.Disk.told g.W.Wire.packets c.args.stage.now)
    (scene_by (drives_of g.M.Disk.told c.ask_at.new.one c.ask_at.new.two c.ask_at.new.three)
    (g.W.Wire.packets c.put_came.new.wire)) c.args.nodes.now c.ask_at.new.nodes c.args.senders.now.items
    c.put_came.new.senders.items c.in_ok-came.came c.in_ok-outcome.outcome shows
    (c.in_ok-came.ensures.steps terms net.own asked by w shows.stand)
    (reads_all (record {
      reads = c.what_is_read_may_be_written.ensures;
      refuses = c.a_refusal_may_be_answered.ensures.refusal;
      says = c.each_message_keeps_the_rules.ensures;
      polls = c.what_waits_keeps_the_rules.ensures;
      written = c.what_is_written_is_read.ensures.twelve;
    }) terms net.own w
    (drives_of g.M.Disk.told c.args.stage.now.one c.args.stage.now.two c.args.stage.now.three) c.args.nodes.now at
    shows.stand asked c.args.call c.requires.may by) c.in_ok-outcome.ensures.outcome c.in_ok-outcome.ensures.ok

pub returns-clause-asked : goal.returns-clause-asked
returns-clause-asked g c =
    let old = drives_of g.M.Disk.told c.args.stage.now.one c.args.stage.now.two c.args.stage.now.three in
    let new = drives_of g.M.Disk.told c.ask_at.new.one c.ask_at.new.two c.ask_at.new.three in
    subst (λ (o : Outcome). WereAsked c.args.station (is_disk_outcome o) old new)
    (sym c.in_ok-outcome.ensures.outcome) c.in_ok-came.ensures.asked
