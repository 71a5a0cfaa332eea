use Rattle.http_endpoint.specs.Ahead.{ahead}
use Rattle.http_endpoint.specs.Part.{IfTold}
use Rattle.http_endpoint.specs.Body.{IsCounted}
use Rattle.http_endpoint.proofs.ChunkFacts.{handed-on, counted-stops}
use Rattle.http_endpoint.proofs.body.read_counted.Goals as goal

pub returns-in_err-move_bytes-clause-answer : goal.returns-in_err-move_bytes-clause-answer
returns-in_err-move_bytes-clause-answer g c = λ all is.
    let e = c.in_err-move_bytes.field-0.0 in
    let new = c.move_bytes.new in
    handed-on c.from_residual.result e (λ r. IfTold r (IsCounted c.args.size all r)) c.from_residual.ensures.1
    (counted-stops c.args.size all c.new-body.result new.body e (ahead (g.S.Source.told new.from).left new.input)
    c.new-body.ensures
    (c.in_err-move_bytes.ensures.answer all is))
