use Rattle.http_endpoint.specs.Ahead.{ahead}
use Rattle.http_endpoint.proofs.ChunkFacts.{came}
use Rattle.http_endpoint.proofs.body.read_to_end.Goals as goal

pub returns-clause-answer : goal.returns-clause-answer
returns-clause-answer g c = λ all is.
    let new = c.move_bytes.new in
    came all c.new-body.result new.body c.in-Err.error (ahead (g.S.Source.told new.from).left new.input)
    c.came_before.result c.new-body.ensures (c.in-Err.ensures.answer all is) c.came_before.ensures
