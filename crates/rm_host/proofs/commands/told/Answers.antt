use Rattle.std.proofs.Common.{◌∙◌, Err, Ok, ap, inl, inr, subst}
use Rattle.std.proofs.lemmas.Result.{err_from_is_err_and}
use Rattle.rm_host.specs.Ends.{faults_of}
use Rattle.rm_host.specs.HostSteps.{IsTold}
use Rattle.rm_host.specs.Texts.{posted_line}
use Rattle.rm_host.proofs.EndLemmas.{wants}
use Rattle.rm_host.proofs.commands.told.Goals as goal

pub returns-in_err-posted_text-clause-reason : goal.returns-in_err-posted_text-clause-reason
returns-in_err-posted_text-clause-reason g c =
    let seen = faults_of g.D.Disk.told g.L.Link.told in
    let r = c.from_residual-in_err-posted_text in
    let p = err_from_is_err_and r.result r.ensures.1 in
    wants (seen c.args.host.now) (seen c.post_all.new.host) r.result (p.1 ∙ ap Err p.2) c.in_ok-posted.ensures.reason

pub returns-in_err-posted-clause-posts : goal.returns-in_err-posted-clause-posts
returns-in_err-posted-clause-posts g c =
    let r = c.from_residual in
    let p = err_from_is_err_and r.result r.ensures.1 in
    let posts = c.in_err-posted.ensures.posts in
    (posts.0, posts.1, posts.2, posts.3, subst (λ t. IsTold t posted_line r.result) posts.4 (p.1 ∙ ap Err p.2))

pub returns-in_err-posted_text-clause-posts : goal.returns-in_err-posted_text-clause-posts
returns-in_err-posted_text-clause-posts g c =
    let r = c.from_residual-in_err-posted_text in
    let p = err_from_is_err_and r.result r.ensures.1 in
    let posts = c.in_ok-posted.ensures.posts in
    (posts.0, posts.1, posts.2, posts.3, subst (λ t. IsTold t posted_line r.result) posts.4 (inr (p.1 ∙ ap Err p.2)))

pub returns-clause-posts : goal.returns-clause-posts
returns-clause-posts g c =
    let posts = c.in_ok-posted.ensures.posts in (
      posts.0,
      posts.1,
      posts.2,
      posts.3,
      subst (λ t. IsTold t posted_line (Ok c.in_ok-posted_text.field-0)) posts.4
          (inl (ap Ok c.in_ok-posted_text.ensures)),
    )
