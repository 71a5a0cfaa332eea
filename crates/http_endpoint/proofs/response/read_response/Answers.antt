use Rattle.std.proofs.Common.{Err, sym, refl}
use Rattle.httparse.specs.Grammar.{MayBecomeResponse}
use Rattle.http_endpoint.specs.Limits.{part_bytes}
use Rattle.http_endpoint.specs.declared.response.Response.{Response}
use Rattle.http_endpoint.specs.Ahead.{ahead}
use Rattle.http_endpoint.specs.Part.{IfTold, Stage, part}
use Rattle.http_endpoint.specs.Heads.{ReadsResponseFacts}
use Rattle.http_endpoint.specs.Messages.{IsFinal, IsAnswered, IsResponse, passed, unsound, final}
use Rattle.http_endpoint.proofs.ChunkFacts.{handed-on, stage-stops, IfTold-map}
use Rattle.http_endpoint.proofs.MessageFacts.{ahead-start, told}
use Rattle.http_endpoint.proofs.response.read_response.Goals as goal

pub returns-in_err-facts-clause-answer : goal.returns-in_err-facts-clause-answer
returns-in_err-facts-clause-answer g c = λ all is.
    let e = c.in_err-facts.field-0.0 in
    let start = ahead-start (g.S.Source.told c.args.from.now).left c.new-input.result all is c.new-input.ensures in
    handed-on c.from_residual.result e (λ r. IfTold r (IsResponse r all)) c.from_residual.ensures.1
    (stage-stops Response part_bytes ReadsResponseFacts MayBecomeResponse all e
    (ahead (g.S.Source.told c.read_part.new.from).left c.read_part.new.input)
    (λ facts rest. IsAnswered (Err e) facts rest)
    (c.in_err-facts.ensures.answer all start))

pub returns-in_err-response_framing-clause-answer : goal.returns-in_err-response_framing-clause-answer
returns-in_err-response_framing-clause-answer g c = λ all is.
    let e = c.in_err-response_framing.field-0.0 in
    let start = ahead-start (g.S.Source.told c.args.from.now).left c.new-input.result all is c.new-input.ensures in
    let head = c.in_ok-facts.ensures.answer all start in
    handed-on c.from_residual-in_err-response_framing.result e (λ r. IfTold r (IsResponse r all))
    c.from_residual-in_err-response_framing.ensures.1
    (told {A = Response} (Err e) (IsResponse (Err e) all) (part c.in_ok-facts.facts head.0 head.2
    (unsound e c.if-facts-eq100.true (sym c.in_err-response_framing.ensures) refl)))

pub returns-in_err-last-clause-answer : goal.returns-in_err-last-clause-answer
returns-in_err-last-clause-answer g c = λ all is.
    let e = c.in_err-last.field-0.0 in
    let start = ahead-start (g.S.Source.told c.args.from.now).left c.new-input.result all is c.new-input.ensures in
    let head = c.in_ok-facts.ensures.answer all start in
    let read = c.read_part-then-facts-eq100.new in
    let stops = stage-stops Response part_bytes ReadsResponseFacts MayBecomeResponse head.0 e
    (ahead (g.S.Source.told read.from).left read.input)
    (λ facts rest. IsFinal (Err e) facts rest) (c.in_err-last.ensures.answer head.0 head.1) in
    handed-on c.from_residual-in_err-last.result e (λ r. IfTold r (IsResponse r all))
    c.from_residual-in_err-last.ensures.1
    (IfTold-map {A = Response} (Err e)
    (Stage part_bytes ReadsResponseFacts MayBecomeResponse head.0 (Err e) (λ facts rest. IsFinal (Err e) facts rest))
    (IsResponse (Err e) all)
    (λ s. part c.in_ok-facts.facts head.0 head.2
    (passed c.in_ok-response_framing.field-0 c.if-facts-eq100.true (sym c.in_ok-response_framing.ensures) s)) stops)

pub returns-then-facts-eq100-clause-answer : goal.returns-then-facts-eq100-clause-answer
returns-then-facts-eq100-clause-answer g c = λ all is.
    let start = ahead-start (g.S.Source.told c.args.from.now).left c.new-input.result all is c.new-input.ensures in
    let head = c.in_ok-facts.ensures.answer all start in
    let next = c.in_ok-last.ensures.answer head.0 head.1 in
    IfTold-map c.read_final.result (IsFinal c.read_final.result c.in_ok-last.last next.0)
    (IsResponse c.read_final.result all)
    (λ f. part c.in_ok-facts.facts head.0 head.2
    (passed c.in_ok-response_framing.field-0 c.if-facts-eq100.true (sym c.in_ok-response_framing.ensures)
    (part c.in_ok-last.last next.0 next.2 f)))
    (c.read_final.ensures.answer next.0 next.1)

pub returns-clause-answer : goal.returns-clause-answer
returns-clause-answer g c = λ all is.
    let start = ahead-start (g.S.Source.told c.args.from.now).left c.new-input.result all is c.new-input.ensures in
    let head = c.in_ok-facts.ensures.answer all start in
    IfTold-map c.read_final-2.result (IsFinal c.read_final-2.result c.in_ok-facts.facts head.0)
    (IsResponse c.read_final-2.result all)
    (λ f. part c.in_ok-facts.facts head.0 head.2 (final c.if-facts-eq100.false f))
    (c.read_final-2.ensures.answer head.0 head.1)
