use Rattle.std.proofs.Common.{◌∙◌, ◌++◌, List, [], ◌∷◌, Ok, Err, ap, sym, subst}
use Rattle.std.proofs.lemmas.Result.{err_from_is_err_and}
use Rattle.http_endpoint.specs.Link.Lines.{Net}
use Rattle.rm_node.specs.Asked.{Tick}
use Rattle.rm_node.specs.declared.packets.Out.{Out}
use Rattle.rm_host.proofs.RowLemmas.{then-all}
use Rattle.rm_host.specs.Ends.{faults_of}
use Rattle.rm_host.specs.HostSteps.{Posts, own_step}
use Rattle.rm_host.specs.ServeSteps.{ServesOne, row_fails, row_goes, row_wants, tick_fails}
use Rattle.rm_host.proofs.EndLemmas.{hands, then, wants}
use Rattle.rm_host.proofs.ClockLemmas.{stands-alike, stands-on}
use Rattle.rm_host.proofs.ServeLemmas.{at-moments, serves-on, stops-serving}
use Rattle.rm_host.proofs.serve.take.Goals as goal

pub returns-in_err-due-clause-reason : goal.returns-in_err-due-clause-reason
returns-in_err-due-clause-reason g c =
    let seen = faults_of g.D.Disk.told g.L.Link.told in
    let r = c.from_residual-in_err-due in
    let p = err_from_is_err_and r.result r.ensures.1 in
    hands (seen c.args.host.now) (seen c.serve_conn.new.host) (seen c.tick.new.host) c.in_err-due.field-0.0 r.result
    (p.1 ∙ ap Err p.2) c.in_ok-served.ensures.reason c.in_err-due.ensures.reason

pub returns-in_err-outs-clause-reason : goal.returns-in_err-outs-clause-reason
returns-in_err-outs-clause-reason g c =
    let seen = faults_of g.D.Disk.told g.L.Link.told in
    let r = c.from_residual-in_err-outs in
    let p = err_from_is_err_and r.result r.ensures.1 in
    let first = seen c.args.host.now in
    let served = seen c.serve_conn.new.host in
    let ticked = seen c.tick.new.host in
    wants first ticked r.result (p.1 ∙ ap Err p.2)
    (then first served ticked _ _ _ c.in_ok-served.ensures.reason c.in_ok-due.ensures.reason)

pub returns-in_err-post-clause-reason : goal.returns-in_err-post-clause-reason
returns-in_err-post-clause-reason g c =
    let seen = faults_of g.D.Disk.told g.L.Link.told in
    let r = c.from_residual-in_err-post in
    let p = err_from_is_err_and r.result r.ensures.1 in
    let first = seen c.args.host.now in
    let served = seen c.serve_conn.new.host in
    let ticked = seen c.tick.new.host in
    hands first ticked (seen c.post.new.host) c.in_err-post.field-0.0 r.result (p.1 ∙ ap Err p.2)
    (then first served ticked _ _ _ c.in_ok-served.ensures.reason c.in_ok-due.ensures.reason)
    c.in_err-post.ensures.reason

pub returns-clause-reason : goal.returns-clause-reason
returns-clause-reason g c =
    let seen = faults_of g.D.Disk.told g.L.Link.told in
    let first = seen c.args.host.now in
    let served = seen c.serve_conn.new.host in
    let ticked = seen c.tick.new.host in
    then first ticked (seen c.post.new.host) _ _ _
    (then first served ticked _ _ _ c.in_ok-served.ensures.reason c.in_ok-due.ensures.reason)
    c.in_ok-post.ensures.reason

pub returns-in_err-served-clause-serves : goal.returns-in_err-served-clause-serves
returns-in_err-served-clause-serves g c =
    let r = c.from_residual in
    let p = err_from_is_err_and r.result r.ensures.1 in
    let s = c.in_err-served.ensures.serves in
    let net = g.L.Link.told in
    let media = c.args.media in
    let shown = g.C.Clock.next c.args.host.now.clock in
    let first = g.L.Conn.Source.told c.args.conn in (
      s.0,
      s.1,
      subst (λ (n : Net). ServesOne media shown first n (net c.serve_conn.new.host.link) s.0 r.result)
          c.in_err-served.ensures.link
          (subst (λ x. ServesOne media shown first (net c.serve_conn.new.host.link) (net c.serve_conn.new.host.link) s.0
          x) (sym (p.1 ∙ ap Err p.2))
          (stops-serving media shown first s.2 (net c.serve_conn.new.host.link) c.now-now.result s.0 s.3
          c.in_err-served.field-0.0 c.now-now.ensures.told s.4 s.5)),
    )

pub returns-in_err-due-clause-serves : goal.returns-in_err-due-clause-serves
returns-in_err-due-clause-serves g c =
    let r = c.from_residual-in_err-due in
    let p = err_from_is_err_and r.result r.ensures.1 in
    let s = c.in_ok-served.ensures.serves in
    let calls = c.in_err-due.ensures.calls in
    let net = g.L.Link.told in
    let media = c.args.media in
    let next = g.C.Clock.next in
    let shown = next c.args.host.now.clock in
    let at = at-moments shown (next c.now-now.new.self) (next c.serve_conn.new.host.clock) c.now-now.result
    c.now-now-2.result c.now-now.ensures.told c.now-now.ensures.still (ap next c.in_ok-served.ensures.clock)
    c.now-now-2.ensures.told in
    let first = g.L.Conn.Source.told c.args.conn in (
      _,
      then-all g.D.Disk.tells _ _ _ s.0 _ s.1 calls.steps,
      subst (λ x. ServesOne media shown first (net c.args.host.now.link) (net c.tick.new.host.link)
          (s.0 ++ own_step c.now-now-2.result (Tick c.now-now-2.result) (Err c.in_err-due.field-0.0) ∷ []) x)
          (sym (p.1 ∙ ap Err p.2))
          (serves-on media shown first s.2 _ _ c.now-now.result c.now-now-2.result s.0 _ s.3 c.in_ok-served.served _ at
          s.4 s.5
          (tick_fails c.in_err-due.field-0.0 c.in_err-due.ensures.of_call (calls.link ∙ c.in_ok-served.ensures.link))),
    )

pub returns-in_err-outs-clause-serves : goal.returns-in_err-outs-clause-serves
returns-in_err-outs-clause-serves g c =
    let r = c.from_residual-in_err-outs in
    let p = err_from_is_err_and r.result r.ensures.1 in
    let s = c.in_ok-served.ensures.serves in
    let calls = c.in_ok-due.ensures.calls in
    let net = g.L.Link.told in
    let media = c.args.media in
    let next = g.C.Clock.next in
    let shown = next c.args.host.now.clock in
    let at = at-moments shown (next c.now-now.new.self) (next c.serve_conn.new.host.clock) c.now-now.result
    c.now-now-2.result c.now-now.ensures.told c.now-now.ensures.still (ap next c.in_ok-served.ensures.clock)
    c.now-now-2.ensures.told in
    let first = g.L.Conn.Source.told c.args.conn in (
      _,
      then-all g.D.Disk.tells _ _ _ s.0 _ s.1 calls.steps,
      subst (λ x. ServesOne media shown first (net c.args.host.now.link) (net c.tick.new.host.link)
          (s.0 ++ own_step c.now-now-2.result (Tick c.now-now-2.result) (Ok c.in_ok-due.due) ∷ []) x)
          (sym (p.1 ∙ ap Err p.2))
          (serves-on media shown first s.2 _ _ c.now-now.result c.now-now-2.result s.0 _ s.3 c.in_ok-served.served _ at
          s.4 s.5
          (row_wants c.in_ok-due.due (calls.link ∙ c.in_ok-served.ensures.link))),
    )

pub returns-in_err-post-clause-serves : goal.returns-in_err-post-clause-serves
returns-in_err-post-clause-serves g c =
    let r = c.from_residual-in_err-post in
    let p = err_from_is_err_and r.result r.ensures.1 in
    let s = c.in_ok-served.ensures.serves in
    let calls = c.in_ok-due.ensures.calls in
    let did = c.in_err-post.ensures.posts in
    let net = g.L.Link.told in
    let media = c.args.media in
    let next = g.C.Clock.next in
    let shown = next c.args.host.now.clock in
    let at = at-moments shown (next c.now-now.new.self) (next c.serve_conn.new.host.clock) c.now-now.result
    c.now-now-2.result c.now-now.ensures.told c.now-now.ensures.still (ap next c.in_ok-served.ensures.clock)
    c.now-now-2.ensures.told in
    let first = g.L.Conn.Source.told c.args.conn in
    let e = c.in_err-post.field-0.0 in
    let row : Posts media c.now-now-2.result (c.in_ok-served.served.outs ++ c.in_ok-due.due) (net c.args.host.now.link)
    (net c.post.new.host.link) did.0 (Err e) =
    subst (λ (n : Net). Posts media c.now-now-2.result (c.in_ok-served.served.outs ++ c.in_ok-due.due) n
    (net c.post.new.host.link) did.0 (Err e)) (calls.link ∙ c.in_ok-served.ensures.link)
    (subst (λ (o : List Out). Posts media c.now-now-2.result o (net c.tick.new.host.link)
    (net c.post.new.host.link) did.0
    (Err e)) c.in_ok-outs.ensures did.2) in (
      _,
      then-all g.D.Disk.tells _ _ _ s.0 _ s.1 (then-all g.D.Disk.tells _ _ _ _ did.0 calls.steps did.1),
      subst (λ x. ServesOne media shown first (net c.args.host.now.link) (net c.post.new.host.link)
          (s.0 ++ own_step c.now-now-2.result (Tick c.now-now-2.result) (Ok c.in_ok-due.due) ∷ did.0) x)
          (sym (p.1 ∙ ap Err p.2))
          (serves-on media shown first s.2 _ _ c.now-now.result c.now-now-2.result s.0 _ s.3 c.in_ok-served.served _ at
          s.4 s.5
          (row_fails c.in_ok-due.due did.0 e row)),
    )

pub returns-clause-serves : goal.returns-clause-serves
returns-clause-serves g c =
    let s = c.in_ok-served.ensures.serves in
    let calls = c.in_ok-due.ensures.calls in
    let did = c.in_ok-post.ensures.posts in
    let net = g.L.Link.told in
    let media = c.args.media in
    let next = g.C.Clock.next in
    let shown = next c.args.host.now.clock in
    let at = at-moments shown (next c.now-now.new.self) (next c.serve_conn.new.host.clock) c.now-now.result
    c.now-now-2.result c.now-now.ensures.told c.now-now.ensures.still (ap next c.in_ok-served.ensures.clock)
    c.now-now-2.ensures.told in
    let first = g.L.Conn.Source.told c.args.conn in
    let posted = c.in_ok-post.field-0 in
    let row : Posts media c.now-now-2.result (c.in_ok-served.served.outs ++ c.in_ok-due.due) (net c.args.host.now.link)
    (net c.post.new.host.link) did.0 (Ok posted) =
    subst (λ (n : Net). Posts media c.now-now-2.result (c.in_ok-served.served.outs ++ c.in_ok-due.due) n
    (net c.post.new.host.link) did.0 (Ok posted)) (calls.link ∙ c.in_ok-served.ensures.link)
    (subst (λ (o : List Out). Posts media c.now-now-2.result o (net c.tick.new.host.link)
    (net c.post.new.host.link) did.0
    (Ok posted)) c.in_ok-outs.ensures did.2) in (
      _,
      then-all g.D.Disk.tells _ _ _ s.0 _ s.1 (then-all g.D.Disk.tells _ _ _ _ did.0 calls.steps did.1),
      serves-on media shown first s.2 _ _ c.now-now.result c.now-now-2.result s.0 _ s.3 c.in_ok-served.served _ at
          s.4 s.5
          (row_goes c.in_ok-due.due did.0 posted row),
    )

pub returns-clause-stands : goal.returns-clause-stands
returns-clause-stands g c =
    let next = g.C.Clock.next in
    let shown = next c.args.host.now.clock in
    let served = next c.serve_conn.new.host.clock in
    let then_ = next c.now-now-2.new.self in
    let ticked = next c.tick.new.host.clock in
    stands-alike shown ticked (next c.post.new.host.clock)
    (stands-alike shown then_ ticked
    (stands-on shown served then_
    (stands-alike shown (next c.now-now.new.self) served c.now-now.ensures.still (ap next c.in_ok-served.ensures.clock))
    c.now-now-2.ensures.still)
    (ap next c.in_ok-due.ensures.clock)) (ap next c.in_ok-post.ensures.clock)
