use Rattle.std.proofs.Common.{◌∙◌, Err, Ok, ap, refl}
use Rattle.std.proofs.lemmas.Result.{err_from_is_err_and}
use Rattle.rm_host.proofs.ClockLemmas.{shown-then, some-shown, stands-alike, stands-on}
use Rattle.rm_host.proofs.RowLemmas.{then-all}
use Rattle.rm_host.specs.Ends.{faults_of}
use Rattle.rm_host.specs.HostSteps.{fails}
use Rattle.rm_host.proofs.EndLemmas.{hands, rose-before, then}
use Rattle.rm_host.proofs.SendLemmas.{then-posts}
use Rattle.rm_host.proofs.send.reach.Goals as goal

pub returns-in_err-posted-clause-reason : goal.returns-in_err-posted-clause-reason
returns-in_err-posted-clause-reason g c =
    let seen = faults_of g.D.Disk.told g.L.Link.told in
    let r = c.from_residual-in_err-posted in
    let p = err_from_is_err_and r.result r.ensures.1 in
    hands (seen c.args.host.now) (seen c.begin.new.host) (seen c.post.new.host) c.in_err-posted.field-0.0 r.result
    (p.1 ∙ ap Err p.2) c.in_ok-seq.ensures.reason c.in_err-posted.ensures.reason

pub returns-clause-reason : goal.returns-clause-reason
returns-clause-reason g c =
    let seen = faults_of g.D.Disk.told g.L.Link.told in
    then (seen c.args.host.now) (seen c.begin.new.host) (seen c.post.new.host) _ _ _ c.in_ok-seq.ensures.reason
    c.in_ok-posted.ensures.reason

pub returns-clause-undialled : goal.returns-clause-undialled
returns-clause-undialled g c =
    let seen = faults_of g.D.Disk.told g.L.Link.told in
    let first = seen c.args.host.now in
    let begun = seen c.begin.new.host in
    let last = seen c.post.new.host in
    λ some. rose-before first.link begun.link last.link (c.in_ok-seq.ensures.reason.later refl)
    (c.in_ok-posted.ensures.undialled some)

pub returns-in_err-seq-clause-reached : goal.returns-in_err-seq-clause-reached
returns-in_err-seq-clause-reached g c =
    let r = c.from_residual in
    let p = err_from_is_err_and r.result r.ensures.1 in
    let began = c.in_err-seq.ensures.begins in
    let some = some-shown (g.C.Clock.next c.args.host.now.clock) in
    let e = c.in_err-seq.field-0.0 in (
      _,
      began.calls.steps,
      record {
        moment = began.moment;
        later = some.0;
        clock = some.1;
        seq = began.seq;
        asked = began.asked;
        reaches = began.reaches;
        posted = Err e;
        calls = fails e c.in_err-seq.ensures.of_call began.calls.link;
        is = p.1 ∙ ap Err p.2;
      },
    )

pub returns-in_err-posted-clause-reached : goal.returns-in_err-posted-clause-reached
returns-in_err-posted-clause-reached g c =
    let r = c.from_residual-in_err-posted in
    let p = err_from_is_err_and r.result r.ensures.1 in
    let net = g.L.Link.told in
    let next = g.C.Clock.next in
    let began = c.in_ok-seq.ensures.begins in
    let did = c.in_err-posted.ensures.posts in
    let e = c.in_err-posted.field-0.0 in (
      _,
      then-all g.D.Disk.tells _ _ _ _ did.0 began.calls.steps did.1,
      record {
        moment = began.moment;
        later = c.now-now.result;
        clock = shown-then (next c.args.host.now.clock) (next c.begin.new.host.clock) c.now-now.result
            c.in_ok-seq.ensures.stands c.now-now.ensures.told;
        seq = began.seq;
        asked = began.asked;
        reaches = began.reaches;
        posted = Err e;
        calls = then-posts began.moment c.now-now.result began.asked _ _ (net c.post.new.host.link) c.in_ok-seq.outs
            did.0 (Err e) began.calls.link did.2;
        is = p.1 ∙ ap Err p.2;
      },
    )

pub returns-clause-reached : goal.returns-clause-reached
returns-clause-reached g c =
    let net = g.L.Link.told in
    let next = g.C.Clock.next in
    let began = c.in_ok-seq.ensures.begins in
    let did = c.in_ok-posted.ensures.posts in
    let posted = c.in_ok-posted.posted in (
      _,
      then-all g.D.Disk.tells _ _ _ _ did.0 began.calls.steps did.1,
      record {
        moment = began.moment;
        later = c.now-now.result;
        clock = shown-then (next c.args.host.now.clock) (next c.begin.new.host.clock) c.now-now.result
            c.in_ok-seq.ensures.stands c.now-now.ensures.told;
        seq = began.seq;
        asked = began.asked;
        reaches = began.reaches;
        posted = Ok posted;
        calls = then-posts began.moment c.now-now.result began.asked _ _ (net c.post.new.host.link) c.in_ok-seq.outs
            did.0 (Ok posted) began.calls.link did.2;
        is = ap (λ s. Ok (s, posted.undialled)) began.is;
      },
    )

pub returns-clause-stands : goal.returns-clause-stands
returns-clause-stands g c =
    let next = g.C.Clock.next in
    let shown = next c.args.host.now.clock in
    let then_ = next c.now-now.new.self in
    stands-alike shown then_ (next c.post.new.host.clock)
    (stands-on shown (next c.begin.new.host.clock) then_ c.in_ok-seq.ensures.stands c.now-now.ensures.still)
    (ap next c.in_ok-posted.ensures.clock)
