use Rattle.std.proofs.Common.{◌≡◌, List, ℕ, sym, ◌∙◌}
use Rattle.std.specs.Io.KnownBytes.{Appends}
use Rattle.http_endpoint.specs.Ahead.{ahead}
use Rattle.http_endpoint.specs.Part.{IfTold}
use Rattle.http_endpoint.specs.Messages.{IsRequestAs, invitation}
use Rattle.http_endpoint.proofs.ChunkFacts.{handed-on}
use Rattle.http_endpoint.proofs.MessageFacts.{ahead-start, ahead-kept, appends-between, stops-request}
use Rattle.http_endpoint.proofs.MessageFacts.{refused-request, taken-request}
use Rattle.http_endpoint.proofs.request.read_request_as.Goals as goal

pub returns-in_err-facts-clause-answer : goal.returns-in_err-facts-clause-answer
returns-in_err-facts-clause-answer g c = λ all is.
    let e = c.in_err-facts.field-0.0 in
    let old = c.args.conn.now in
    let new = c.read_part.new.from in
    let told = g.C.Source.told in
    let same = c.read_part.ensures.keeps.held in
    let start = ahead-start (told old).left c.new-input.result all is c.new-input.ensures in
    handed-on c.from_residual.result e (λ r. IfTold r
    ((said : List ℕ) × Appends (told old).held (told new).held said × IsRequestAs c.args.media r said all))
    c.from_residual.ensures.1
    (stops-request c.args.media all e (ahead (told new).left c.read_part.new.input) (told old).held (told new).held same
    (c.in_err-facts.ensures.answer all start))

pub returns-in_err-framing-clause-answer : goal.returns-in_err-framing-clause-answer
returns-in_err-framing-clause-answer g c = λ all is.
    let e = c.in_err-framing.field-0.0 in
    let old = c.args.conn.now in
    let new = c.read_part.new.from in
    let told = g.C.Source.told in
    let same = c.read_part.ensures.keeps.held in
    let start = ahead-start (told old).left c.new-input.result all is c.new-input.ensures in
    let head = c.in_ok-facts.ensures.answer all start in
    handed-on c.from_residual-in_err-framing.result e
    (λ r. IfTold r ((said : List ℕ) × Appends (told old).held (told new).held said
    × IsRequestAs c.args.media r said all))
    c.from_residual-in_err-framing.ensures.1
    (refused-request c.args.media all e c.in_ok-facts.facts head.0 (told old).held (told new).held same head.2
    (sym c.in_err-framing.ensures.is))

pub returns-clause-answer : goal.returns-clause-answer
returns-clause-answer g c = λ all is.
    let facts = c.in_ok-facts.facts in
    let old = c.args.conn.now in
    let read = c.read_part.new.from in
    let invited = c.invite.new.conn in
    let new = c.read_body.new.from in
    let told = g.C.Source.told in
    let before = c.read_part.ensures.keeps.held in
    let after = c.read_body.ensures.keeps.held in
    let start = ahead-start (told old).left c.new-input.result all is c.new-input.ensures in
    let head = c.in_ok-facts.ensures.answer all start in
    let kept = ahead-kept (told read).left (told invited).left c.read_part.new.input head.0
    c.invite.ensures.keeps.left head.1 in
    let said = appends-between (told old).held (told read).held (told invited).held (told new).held
    (invitation facts) before after
    c.in_ok-invite.ensures.said in
    taken-request c.args.media c.read_body.result all facts head.0 c.in_ok-framing.framing (told old).held
    (told new).held said
    head.2
    (sym c.in_ok-framing.ensures.is) (c.read_body.ensures.answer head.0 kept)
