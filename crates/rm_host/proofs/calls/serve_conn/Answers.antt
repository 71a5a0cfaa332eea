use Rattle.std.proofs.Common.{◌≡◌, ◌∙◌, Err, ap, false, sym, subst}
use Rattle.std.proofs.lemmas.Result.{err_from_is_err_and}
use Rattle.rm_host.specs.Ends.{faults_of, is_outer}
use Rattle.rm_host.proofs.EndLemmas.{call-ends, call-inner}
use Rattle.rm_host.specs.HostSteps.{as_end}
use Rattle.rm_host.proofs.calls.serve_conn.Goals as goal

pub returns-in_err-serve_peer-clause-reason : goal.returns-in_err-serve_peer-clause-reason
returns-in_err-serve_peer-clause-reason g c =
    let p = err_from_is_err_and c.from_residual.result c.from_residual.ensures.1 in
    let told = faults_of g.D.Disk.told g.L.Link.told in
    call-ends (told c.args.host.now) _ c.in_err-serve_peer.field-0.0 c.from_residual.result (p.1 ∙ ap Err p.2)
    (λ e. let down = c.serve_peer.ensures.down (c.in_err-serve_peer.was ∙ ap Err e) in
    let up = c.requires.up.up in absurd (cc (down, up))) c.in_err-serve_peer.ensures.cause

pub returns-in_err-serve_peer-clause-inner : goal.returns-in_err-serve_peer-clause-inner
returns-in_err-serve_peer-clause-inner g c =
    let p = err_from_is_err_and c.from_residual.result c.from_residual.ensures.1 in
    subst (λ r. is_outer r ≡ false) (sym (p.1 ∙ ap Err p.2)) (call-inner c.in_err-serve_peer.field-0.0)

pub returns-clause-up : goal.returns-clause-up
returns-clause-up g c =
    record { up = c.in_ok-serve_peer.ensures.up ∙ c.requires.up.up; ready = c.serve_peer.ensures.ready }

pub returns-in_err-serve_peer-clause-serves : goal.returns-in_err-serve_peer-clause-serves
returns-in_err-serve_peer-clause-serves g c =
    let p = err_from_is_err_and c.from_residual.result c.from_residual.ensures.1 in
    let serves = c.serve_peer.ensures.serves in (
      serves.0,
      serves.1,
      _,
      c.serve_peer.result,
      serves.2,
      (p.1 ∙ ap Err p.2) ∙ sym (ap as_end c.in_err-serve_peer.was),
    )

pub returns-clause-serves : goal.returns-clause-serves
returns-clause-serves g c =
    let serves = c.serve_peer.ensures.serves in
    (serves.0, serves.1, _, c.serve_peer.result, serves.2, sym (ap as_end c.in_ok-serve_peer.was))
