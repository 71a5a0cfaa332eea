use Rattle.std.proofs.Common.{None, List, ◌++◌, ap, ◌∙◌}
use Rattle.rm_message.specs.declared.message.Message.{Message}
use Rattle.record_batch.specs.Fact.{Fact}
use Rattle.rm_protocol.specs.Calls.{Answer, Done}
use Rattle.rm_protocol.specs.Said.{said}
use Rattle.rm_protocol.specs.Waiting.{Moves}
use Rattle.node_laws.specs.Answers.Answers.{moves_seen}
use Rattle.receive_answer.specs.Untold.{done_of, urging}
use Rattle.receive_answer.proofs.answers.done.Goals as goal

pub returns-clause-is : goal.returns-clause-is
unfolding done_of
returns-clause-is c =
    let r = c.args.ahead.records in
    let d = c.args.ahead.delta in
    let answer : List Fact → List Message → Moves → Answer =
    λ ds ms moves. record { outcome = Done; delta = ds; fetched = None; outs = ms; moves = moves } in
    let moves = c.in_ok-moves.ensures ∙ ap (λ (rs : List Fact). urging rs c.args.message.now) c.tables.ensures in
    ap (λ (ds : List Fact). answer ds c.in_ok-outs.outs.items (moves_seen c.in_ok-moves.moves)) c.into_batch.ensures
    ∙ ap (λ (ms : List Message). answer d ms (moves_seen c.in_ok-moves.moves)) c.in_ok-outs.ensures
    ∙ ap (answer d (said (r ++ d) c.args.now c.args.message.now)) moves

pub returns-clause-batch : goal.returns-clause-batch
returns-clause-batch c = c.into_batch.ensures
