use Rattle.std.proofs.Common.{refl}
use Rattle.rm_serve.specs.Limits.{most_posts}
use Rattle.rm_serve.specs.Posts.{none_posted}
use Rattle.rm_serve.proofs.DialLemmas.{dialled}
use Rattle.rm_serve.proofs.posting.post_due.Goals as goal

pub returns-clause-dialled : goal.returns-clause-dialled
returns-clause-dialled g c =
    let net = g.L.Link.told in
    let p = c.post_row.ensures.posts in
    dialled _ c.args.now most_posts c.args.outs none_posted (net c.args.link.now) (net c.post_row.new.link) p.0
    c.post_row.result refl p.2
