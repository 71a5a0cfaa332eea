use Rattle.std.proofs.Common.{Ok, Err, [], refl, subst}
use Rattle.http_endpoint.specs.declared.error.HttpError.{HttpError}
use Rattle.std.specs.Prelude.{ℕ, List, Result}
use Rattle.rm_base.specs.StreamLemmas.{Lasts-more}
use Rattle.rm_serve.specs.Serves.{HasReason, taken, untaken}
use Rattle.rm_serve.specs.Steps.{place_of}
use Rattle.rm_serve.proofs.ServeLemmas.{asks, reason-of}
use Rattle.rm_serve.proofs.StepLemmas.{no-step}
use Rattle.rm_serve.proofs.serving.serve_as.Goals as goal

pub returns-in-Ok-clause-serves : goal.returns-in-Ok-clause-serves
returns-in-Ok-clause-serves g c =
    let talk = g.C.Source.told in
    let old = talk c.args.conn.now in
    let mid = talk c.read_request_as.new.conn in
    let a = c.admit.ensures.admits in (
      a.0,
      a.1,
      taken mid c.in-Ok.body a.0 c.admit.result
          (asks c.args.media old mid (Ok c.in-Ok.body) c.in-Ok.ensures.answer c.read_request_as.ensures.front tt
          c.read_request_as.ensures.lasts)
          c.admit.ensures.lasts
          a.2,
    )

pub returns-in-Err-clause-serves : goal.returns-in-Err-clause-serves
returns-in-Err-clause-serves g c =
    let talk = g.C.Source.told in
    let old = talk c.args.conn.now in
    let mid = talk c.read_request_as.new.conn in
    let e = c.in-Err.error in
    let r = c.read_request_as.ensures in
    let why = subst (λ (request : Result (List ℕ) HttpError). HasReason old mid request) c.in-Err.is
    (reason-of old mid c.read_request_as.result r.read_fault r.write_fault r.refusal) in
    let x = place_of (g.D.Disk.told c.args.disk.now) c.args.node.now in (
      [],
      no-step g.D.Disk.tells x x (record { node = refl; told = λ t. refl }),
      untaken mid e c.refuse.result
          (asks c.args.media old mid (Err e) c.in-Err.ensures.answer r.front why r.lasts)
          c.refuse.ensures.lasts
          c.refuse.ensures.refuses,
    )

pub returns-in-Ok-clause-lasts : goal.returns-in-Ok-clause-lasts
returns-in-Ok-clause-lasts g c = Lasts-more _ _ _ c.read_request_as.ensures.lasts c.admit.ensures.lasts

pub returns-in-Err-clause-lasts : goal.returns-in-Err-clause-lasts
returns-in-Err-clause-lasts g c = Lasts-more _ _ _ c.read_request_as.ensures.lasts c.refuse.ensures.lasts
