use Rattle.rm_command.specs.Edge.{edge_of}
use Rattle.rm_relay.specs.Shows.{scene_of}
use Rattle.rm_relay.proofs.StatusLemmas.{relay_status}
use Rattle.rm_relay.proofs.relay.relay_run.Goals as goal

pub returns-clause-promise : goal.returns-clause-promise
returns-clause-promise g c = rw c.status.ensures c.relay.ensures.promise

pub returns-clause-ends : goal.returns-clause-ends
returns-clause-ends g c = (c.relay.result, c.status.ensures, c.relay.ensures.ends, c.relay.ensures.kept)

pub returns-clause-status : goal.returns-clause-status
returns-clause-status g c =
    rw c.status.ensures (relay_status c.no_bad_line.ensures
    (edge_of g.S.Source.told g.K.Sink.told g.K.Sink.wants_memory c.args.input.now c.relay.new.input c.args.out.now
    c.relay.new.out) c.relay.result c.args.stage.now c.relay.new.stage
    (scene_of g.M.Disk.told g.W.Wire.packets c.args.stage.now)
    (scene_of g.M.Disk.told g.W.Wire.packets c.relay.new.stage) c.relay.ensures.ends)
