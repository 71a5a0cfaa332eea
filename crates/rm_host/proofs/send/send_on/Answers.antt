use Rattle.std.proofs.Common.{◌∙◌, Err, Ok, ap, inl, inr, subst}
use Rattle.std.proofs.lemmas.Result.{err_from_is_err_and}
use Rattle.rm_node.specs.Asked.{Send}
use Rattle.rm_serve.specs.Steps.{place_of}
use Rattle.rm_host.proofs.ClockLemmas.{shown-then, some-shown, stands-alike, stands-still}
use Rattle.rm_host.proofs.RowLemmas.{then-all}
use Rattle.rm_host.specs.Ends.{faults_of}
use Rattle.rm_host.specs.HostSteps.{IsTold, fails}
use Rattle.rm_host.specs.SendSteps.{line_at}
use Rattle.rm_host.proofs.EndLemmas.{hands, then, wants}
use Rattle.rm_host.proofs.SendLemmas.{then-posts, told-line}
use Rattle.rm_host.proofs.send.send_on.Goals as goal

pub returns-in_err-post_all-clause-reason : goal.returns-in_err-post_all-clause-reason
returns-in_err-post_all-clause-reason g c =
    let seen = faults_of g.D.Disk.told g.L.Link.told in
    let r = c.from_residual-in_err-post_all in
    let p = err_from_is_err_and r.result r.ensures.1 in
    hands (seen c.args.host.now) (seen c.accept_payload.new.host) (seen c.post_all.new.host)
    c.in_err-post_all.field-0.0 r.result (p.1 ∙ ap Err p.2) c.in_ok-sent.ensures.reason c.in_err-post_all.ensures.reason

pub returns-in_err-sent_text-clause-reason : goal.returns-in_err-sent_text-clause-reason
returns-in_err-sent_text-clause-reason g c =
    let seen = faults_of g.D.Disk.told g.L.Link.told in
    let r = c.from_residual-in_err-sent_text in
    let p = err_from_is_err_and r.result r.ensures.1 in
    let first = seen c.args.host.now in
    let last = seen c.post_all.new.host in
    wants first last r.result (p.1 ∙ ap Err p.2)
    (then first (seen c.accept_payload.new.host) last _ _ _
    c.in_ok-sent.ensures.reason c.in_ok-post_all.ensures.reason)

pub returns-clause-reason : goal.returns-clause-reason
returns-clause-reason g c =
    let seen = faults_of g.D.Disk.told g.L.Link.told in
    then (seen c.args.host.now) (seen c.accept_payload.new.host) (seen c.post_all.new.host) _ _ _
    c.in_ok-sent.ensures.reason c.in_ok-post_all.ensures.reason

pub returns-in_err-sent-clause-sends : goal.returns-in_err-sent-clause-sends
returns-in_err-sent-clause-sends g c =
    let r = c.from_residual in
    let p = err_from_is_err_and r.result r.ensures.1 in
    let calls = c.in_err-sent.ensures.calls in
    let e = c.in_err-sent.field-0.0 in
    let of_call = c.in_err-sent.ensures.of_call in
    let some = some-shown (g.C.Clock.next c.args.host.now.clock) in (
      _,
      calls.steps,
      record {
        later = some.0;
        clock = some.1;
        posted = Err e;
        calls = fails e of_call calls.link;
        told = p.1 ∙ ap Err p.2;
      },
    )

pub returns-in_err-post_all-clause-sends : goal.returns-in_err-post_all-clause-sends
returns-in_err-post_all-clause-sends g c =
    let r = c.from_residual-in_err-post_all in
    let p = err_from_is_err_and r.result r.ensures.1 in
    let told = g.D.Disk.told in
    let net = g.L.Link.told in
    let x = place_of (told c.args.host.now.disk) c.args.node.now in
    let z = place_of (told c.post_all.new.host.disk) c.post_all.new.node in
    let next = g.C.Clock.next in
    let shown = next c.args.host.now.clock in
    let calls = c.in_ok-sent.ensures.calls in
    let did = c.in_err-post_all.ensures.posts in (
      _,
      then-all g.D.Disk.tells _ _ _ _ did.0 calls.steps did.1,
      record {
        later = c.now-now.result;
        clock = shown-then shown (next c.accept_payload.new.host.clock) c.now-now.result
            (stands-alike shown shown (next c.accept_payload.new.host.clock) (stands-still shown)
            (ap next c.in_ok-sent.ensures.clock)) c.now-now.ensures.told;
        posted = did.2;
        calls = then-posts 0 c.now-now.result (Send c.args.seq c.args.payload) _ _ (net c.post_all.new.host.link)
            c.in_ok-sent.sent.outs did.0 did.2 calls.link did.3;
        told = subst (λ t. IsTold t (line_at x z c.args.seq) r.result) did.4 (p.1 ∙ ap Err p.2);
      },
    )

pub returns-in_err-sent_text-clause-sends : goal.returns-in_err-sent_text-clause-sends
returns-in_err-sent_text-clause-sends g c =
    let r = c.from_residual-in_err-sent_text in
    let p = err_from_is_err_and r.result r.ensures.1 in
    let told = g.D.Disk.told in
    let net = g.L.Link.told in
    let x = place_of (told c.args.host.now.disk) c.args.node.now in
    let z = place_of (told c.post_all.new.host.disk) c.post_all.new.node in
    let next = g.C.Clock.next in
    let shown = next c.args.host.now.clock in
    let calls = c.in_ok-sent.ensures.calls in
    let did = c.in_ok-post_all.ensures.posts in (
      _,
      then-all g.D.Disk.tells _ _ _ _ did.0 calls.steps did.1,
      record {
        later = c.now-now.result;
        clock = shown-then shown (next c.accept_payload.new.host.clock) c.now-now.result
            (stands-alike shown shown (next c.accept_payload.new.host.clock) (stands-still shown)
            (ap next c.in_ok-sent.ensures.clock)) c.now-now.ensures.told;
        posted = did.2;
        calls = then-posts 0 c.now-now.result (Send c.args.seq c.args.payload) _ _ (net c.post_all.new.host.link)
            c.in_ok-sent.sent.outs did.0 did.2 calls.link did.3;
        told = subst (λ t. IsTold t (line_at x z c.args.seq) r.result) did.4 (inr (p.1 ∙ ap Err p.2));
      },
    )

pub returns-clause-sends : goal.returns-clause-sends
returns-clause-sends g c =
    let told = g.D.Disk.told in
    let net = g.L.Link.told in
    let x = place_of (told c.args.host.now.disk) c.args.node.now in
    let z = place_of (told c.post_all.new.host.disk) c.post_all.new.node in
    let next = g.C.Clock.next in
    let shown = next c.args.host.now.clock in
    let calls = c.in_ok-sent.ensures.calls in
    let did = c.in_ok-post_all.ensures.posts in (
      _,
      then-all g.D.Disk.tells _ _ _ _ did.0 calls.steps did.1,
      record {
        later = c.now-now.result;
        clock = shown-then shown (next c.accept_payload.new.host.clock) c.now-now.result
            (stands-alike shown shown (next c.accept_payload.new.host.clock) (stands-still shown)
            (ap next c.in_ok-sent.ensures.clock)) c.now-now.ensures.told;
        posted = did.2;
        calls = then-posts 0 c.now-now.result (Send c.args.seq c.args.payload) _ _ (net c.post_all.new.host.link)
            c.in_ok-sent.sent.outs did.0 did.2 calls.link did.3;
        told = subst (λ t. IsTold t (line_at x z c.args.seq) (Ok c.in_ok-sent_text.field-0)) did.4
            (inl (ap Ok (told-line x z c.args.seq c.in_ok-sent.sent.number c.is_acked-acked.result
            c.tables.result.now.records c.in_ok-sent_text.field-0 c.in_ok-post_all.field-0 c.in_ok-sent_text.ensures
            c.is_acked-acked.ensures c.tables.ensures c.in_ok-sent.ensures.number)));
      },
    )
