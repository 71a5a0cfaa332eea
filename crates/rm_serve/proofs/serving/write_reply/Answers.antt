use Rattle.std.proofs.Common.{◌≡◌, ℕ, List, Err, ap, ◌∙◌, refl, subst}
use Rattle.std.specs.Io.KnownBytes.{Appends}
use Rattle.rm_base.specs.Count.{Rose}
use Rattle.rm_base.specs.Outside.{AppendsFront, Lasts, Stream}
use Rattle.http_endpoint.specs.Texts.{response_text_as}
use Rattle.http_endpoint.specs.declared.error.HttpError.TheVariants as http
use Rattle.rm_serve.proofs.ServeLemmas.{both-sides}
use Rattle.rm_serve.proofs.serving.write_reply.Goals as goal

pub returns-in-Ok-clause-puts : goal.returns-in-Ok-clause-puts
returns-in-Ok-clause-puts g c =
    let old = c.args.conn.now in
    let new = c.write_response_as.new.out in
    let one = g.met.C.Connection.one in
    let whole = subst (λ (b : List ℕ). Appends (g.C.Sink.told old).held (g.C.Sink.told new).held
    (response_text_as c.args.media c.args.reply.now.status b)) c.as_slice.ensures c.in-Ok.ensures.ok in
    both-sides (λ (s t : Stream). Appends s.held t.held
    (response_text_as c.args.media c.args.reply.now.status c.args.reply.now.body)) _ _ _ _ (one old) (one new) whole

pub returns-in-Err-WriteFault-clause-puts : goal.returns-in-Err-WriteFault-clause-puts
returns-in-Err-WriteFault-clause-puts g c =
    let old = c.args.conn.now in
    let new = c.write_response_as.new.out in
    let one = g.met.C.Connection.one in
    let is : c.write_response_as.result ≡ Err http.WriteFault =
    c.in-Err-WriteFault.is ∙ ap Err c.in-Err-WriteFault.field-0-is in
    let rose = both-sides (λ (s t : Stream). Rose s.faults t.faults) _ _ _ _ (one old) (one new)
    (c.write_response_as.ensures.keeps.failed is) in
    let front = subst (λ (b : List ℕ). AppendsFront (g.C.Sink.told old).held (g.C.Sink.told new).held
    (response_text_as c.args.media c.args.reply.now.status b)) c.as_slice.ensures c.in-Err-WriteFault.ensures.err in (
      refl,
      rose,
      both-sides (λ (s t : Stream). AppendsFront s.held t.held
          (response_text_as c.args.media c.args.reply.now.status c.args.reply.now.body)) _ _ _ _ (one old)
          (one new) front,
    )

pub returns-in-Err-Memory-clause-puts : goal.returns-in-Err-Memory-clause-puts
returns-in-Err-Memory-clause-puts g c =
    let old = c.args.conn.now in
    let new = c.write_response_as.new.out in
    let one = g.met.C.Connection.one in
    let front = subst (λ (b : List ℕ). AppendsFront (g.C.Sink.told old).held (g.C.Sink.told new).held
    (response_text_as c.args.media c.args.reply.now.status b)) c.as_slice.ensures c.in-Err-Memory.ensures.err in
    both-sides (λ (s t : Stream). AppendsFront s.held t.held
    (response_text_as c.args.media c.args.reply.now.status c.args.reply.now.body)) _ _ _ _ (one old) (one new) front

pub returns-in-Ok-clause-lasts : goal.returns-in-Ok-clause-lasts
returns-in-Ok-clause-lasts g c =
    let one = g.met.C.Connection.one in
    both-sides Lasts _ _ _ _ (one c.args.conn.now) (one c.write_response_as.new.out)
    c.write_response_as.ensures.keeps.lasts

pub returns-in-Err-WriteFault-clause-lasts : goal.returns-in-Err-WriteFault-clause-lasts
returns-in-Err-WriteFault-clause-lasts g c =
    let one = g.met.C.Connection.one in
    both-sides Lasts _ _ _ _ (one c.args.conn.now) (one c.write_response_as.new.out)
    c.write_response_as.ensures.keeps.lasts

pub returns-in-Err-Memory-clause-lasts : goal.returns-in-Err-Memory-clause-lasts
returns-in-Err-Memory-clause-lasts g c =
    let one = g.met.C.Connection.one in
    both-sides Lasts _ _ _ _ (one c.args.conn.now) (one c.write_response_as.new.out)
    c.write_response_as.ensures.keeps.lasts
