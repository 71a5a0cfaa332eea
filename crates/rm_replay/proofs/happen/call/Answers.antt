use Rattle.std.proofs.Common.{◌∙◌, false, inl, refl, ap}
use Rattle.std.proofs.lemmas.Result.{err_from_is_err_and}
use Rattle.rm_protocol.specs.World.{node}
use Rattle.rm_replay.specs.Asked.{step_of}
use Rattle.rm_replay.specs.Meaning.{side_of}
use Rattle.rm_replay.specs.Net.{number_of}
use Rattle.rm_replay.specs.Shows.{drives_of, scene_of}
use Rattle.rm_replay.specs.ReadLemmas.{kept_at, rules_at, said_is_read}
use Rattle.rm_replay.proofs.StepLemmas.{asked_for, call_moves, scene_by, shows_still}
use Rattle.rm_replay.proofs.happen.call.Goals as goal

pub ask_at-requires-clause-there : goal.ask_at-requires-clause-there
ask_at-requires-clause-there g c = (c.requires.there.0, c.requires.there.1.stand)

pub returns-in_err-came-clause-moves : goal.returns-in_err-came-clause-moves
returns-in_err-came-clause-moves g c terms net asked by w shows =
    let p = err_from_is_err_and c.from_residual.result c.from_residual.ensures.1 in
    rw p.1 (inl (shows_still w (scene_of g.M.Disk.told g.W.Wire.packets c.args.stage.now)
    (scene_by (drives_of g.M.Disk.told c.ask_at.new.one c.ask_at.new.two)
    (g.W.Wire.packets c.args.stage.now.wire)) c.args.nodes.now c.ask_at.new.nodes shows
    (c.in_err-came.ensures.steps terms net.own asked by w shows.stand) refl))

pub returns-in_err-came-clause-asked : goal.returns-in_err-came-clause-asked
returns-in_err-came-clause-asked g c =
    let p = err_from_is_err_and c.from_residual.result c.from_residual.ensures.1 in
    rw p.1 (false, c.in_err-came.ensures.asked)

pub returns-clause-moves : goal.returns-clause-moves
returns-clause-moves g c terms net asked by w shows =
    let side = side_of c.args.side in
    let d = drives_of g.M.Disk.told c.args.stage.now.one c.args.stage.now.two in
    call_moves terms net w side (step_of terms (node w side) asked c.args.call)
    (scene_of g.M.Disk.told g.W.Wire.packets c.args.stage.now)
    (scene_by (drives_of g.M.Disk.told c.ask_at.new.one c.ask_at.new.two)
    (g.W.Wire.packets c.put_came.new.wire)) c.args.nodes.now c.ask_at.new.nodes c.number.result c.in_ok-came.came
    c.put_came.result shows (c.in_ok-came.ensures.steps terms net.own asked by w shows.stand)
    (c.number.ensures ∙ ap number_of c.other.ensures) c.put_came.ensures.ok c.put_came.ensures.outcome
    c.put_came.ensures.err
    (said_is_read (record {
      reads = c.what_is_read_may_be_written.ensures;
      refuses = c.a_refusal_may_be_answered.ensures.refusal;
      says = c.each_message_keeps_the_rules.ensures;
      polls = c.what_waits_keeps_the_rules.ensures;
      written = c.what_is_written_is_read.ensures.twelve;
    }) terms net.own (node w side)
    (kept_at w d c.args.nodes.now side shows.stand)
    (rules_at w d c.args.nodes.now side shows.stand) asked
    c.args.call c.requires.may by)

pub returns-clause-asked : goal.returns-clause-asked
returns-clause-asked g c =
    asked_for (side_of c.args.side) c.in_ok-came.came c.put_came.result
    (drives_of g.M.Disk.told c.args.stage.now.one c.args.stage.now.two)
    (drives_of g.M.Disk.told c.ask_at.new.one c.ask_at.new.two) c.in_ok-came.ensures.asked
    c.put_came.ensures.outcome
