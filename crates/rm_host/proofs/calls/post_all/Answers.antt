use Rattle.std.proofs.Common.{◌∙◌, Err, Ok, ap, arith}
use Rattle.std.proofs.lemmas.Result.{err_from_is_err_and}
use Rattle.rm_host.proofs.StepLemmas.{all-dialled, some-undialled}
use Rattle.rm_host.proofs.calls.post_all.Goals as goal

pub returns-in_err-posted-clause-posts : goal.returns-in_err-posted-clause-posts
returns-in_err-posted-clause-posts g c =
    let p = err_from_is_err_and c.from_residual.result c.from_residual.ensures.1 in
    let did = c.in_err-posted.ensures.posts in
    (did.0, did.1, Err c.in_err-posted.field-0.0, did.2, p.1 ∙ ap Err p.2)

pub returns-then-posted-gt0-clause-posts : goal.returns-then-posted-gt0-clause-posts
returns-then-posted-gt0-clause-posts g c =
    let did = c.in_ok-posted.ensures.posts in
    let posted = c.in_ok-posted.posted in
    (did.0, did.1, Ok posted, did.2, some-undialled posted.undialled posted (omega (arith, c.if-posted-gt0.true)))

pub returns-clause-posts : goal.returns-clause-posts
returns-clause-posts g c =
    let did = c.in_ok-posted.ensures.posts in
    let posted = c.in_ok-posted.posted in
    (did.0, did.1, Ok posted, did.2, all-dialled posted.undialled posted (omega (arith, c.if-posted-gt0.false)))
