use Rattle.std.proofs.Common.{Err, Ok, List, ℕ, sym, refl}
use Rattle.http_endpoint.specs.declared.response.Response.{Response}
use Rattle.http_endpoint.specs.Part.{IfTold}
use Rattle.http_endpoint.specs.Body.{IsBody}
use Rattle.http_endpoint.specs.Messages.{IsFinal, unframed, framed}
use Rattle.http_endpoint.proofs.ChunkFacts.{handed-on}
use Rattle.http_endpoint.proofs.MessageFacts.{told, told-on}
use Rattle.http_endpoint.proofs.response.read_final.Goals as goal

pub returns-in_err-framing-clause-answer : goal.returns-in_err-framing-clause-answer
returns-in_err-framing-clause-answer g c = λ all is.
    let e = c.in_err-framing.field-0.0 in
    handed-on c.from_residual.result e (λ r. IfTold r (IsFinal r c.args.facts all)) c.from_residual.ensures.1
    (told {A = Response} (Err e) (IsFinal (Err e) c.args.facts all) (unframed e (sym c.in_err-framing.ensures) refl))

pub returns-in_err-body-clause-answer : goal.returns-in_err-body-clause-answer
returns-in_err-body-clause-answer g c = λ all is.
    let e = c.in_err-body.field-0.0 in
    let framing = c.in_ok-framing.framing in
    handed-on c.from_residual-in_err-body.result e (λ r. IfTold r (IsFinal r c.args.facts all))
    c.from_residual-in_err-body.ensures.1
    (told-on (List ℕ) Response e (IsBody framing all (Err e)) (IsFinal (Err e) c.args.facts all)
    (λ b. framed framing (Err e) (sym c.in_ok-framing.ensures) b refl) (c.in_err-body.ensures.answer all is))

pub returns-clause-answer : goal.returns-clause-answer
returns-clause-answer g c = λ all is.
    framed c.in_ok-framing.framing (Ok c.in_ok-body.body) (sym c.in_ok-framing.ensures)
    (c.in_ok-body.ensures.answer all is) refl
