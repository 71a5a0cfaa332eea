use Rattle.std.proofs.Common.{◌≡◌, ◌∙◌, Err, ap, false, refl, sym, subst}
use Rattle.std.proofs.lemmas.Result.{err_from_is_err_and}
use Rattle.rm_host.specs.Ends.{faults_of, is_outer}
use Rattle.rm_host.proofs.EndLemmas.{call-ends, call-inner}
use Rattle.rm_serve.specs.Limits as limits
use Rattle.rm_serve.specs.Posts.{none_posted}
use Rattle.rm_host.proofs.PostLemmas.{dials}
use Rattle.rm_host.specs.HostSteps.{as_end}
use Rattle.rm_host.proofs.calls.post.Goals as goal

pub returns-in_err-post_row-clause-reason : goal.returns-in_err-post_row-clause-reason
returns-in_err-post_row-clause-reason g c =
    let p = err_from_is_err_and c.from_residual.result c.from_residual.ensures.1 in
    let told = faults_of g.D.Disk.told g.L.Link.told in
    call-ends (told c.args.host.now) _ c.in_err-post_row.field-0.0 c.from_residual.result (p.1 ∙ ap Err p.2)
    (λ e. let down = c.post_row.ensures.down (c.in_err-post_row.was ∙ ap Err e) in
    let up = c.requires.up.up in absurd (cc (down, up))) c.in_err-post_row.ensures.cause

pub returns-in_err-post_row-clause-inner : goal.returns-in_err-post_row-clause-inner
returns-in_err-post_row-clause-inner g c =
    let p = err_from_is_err_and c.from_residual.result c.from_residual.ensures.1 in
    subst (λ r. is_outer r ≡ false) (sym (p.1 ∙ ap Err p.2)) (call-inner c.in_err-post_row.field-0.0)

pub returns-clause-up : goal.returns-clause-up
returns-clause-up g c =
    record { up = c.in_ok-post_row.ensures.up ∙ c.requires.up.up; ready = c.post_row.ensures.ready }

pub returns-clause-reason : goal.returns-clause-reason
returns-clause-reason g c =
    let net = g.L.Link.told in
    let d = dials c.args.media c.args.now limits.most_posts c.args.outs none_posted c.in_ok-post_row.field-0
    (net c.args.host.now.link) (net c.post_row.new.link) _ _ c.in_ok-post_row.ensures.posts.2 refl in
    record { disk = c.in_ok-post_row.ensures.cause; link = λ e. absurd cc; later = λ e. d.later }

pub returns-clause-undialled : goal.returns-clause-undialled
returns-clause-undialled g c =
    let net = g.L.Link.told in
    let d = dials c.args.media c.args.now limits.most_posts c.args.outs none_posted c.in_ok-post_row.field-0
    (net c.args.host.now.link) (net c.post_row.new.link) _ _ c.in_ok-post_row.ensures.posts.2 refl in
    d.rose

pub returns-in_err-post_row-clause-posts : goal.returns-in_err-post_row-clause-posts
returns-in_err-post_row-clause-posts g c =
    let p = err_from_is_err_and c.from_residual.result c.from_residual.ensures.1 in
    let posts = c.post_row.ensures.posts in
    (posts.0, posts.1, (c.post_row.result, posts.2, (p.1 ∙ ap Err p.2) ∙ sym (ap as_end c.in_err-post_row.was)))

pub returns-clause-posts : goal.returns-clause-posts
returns-clause-posts g c =
    let posts = c.post_row.ensures.posts in
    (posts.0, posts.1, (c.post_row.result, posts.2, sym (ap as_end c.in_ok-post_row.was)))
