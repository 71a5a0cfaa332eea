use Rattle.std.proofs.Common.{ℕ, List, Option, subst}
use Rattle.rm_serve.specs.Versions.{IsTold}
use Rattle.rm_serve.proofs.PostLemmas.{begins-not, begins-told, sends-not, sends-told}
use Rattle.rm_serve.proofs.posting.send.Goals as goal

pub returns-in_err-text-clause-begins : goal.returns-in_err-text-clause-begins
returns-in_err-text-clause-begins g c =
    begins-not c.args.media (g.L.Link.told c.args.link.now) c.args.out c.from_residual.result

pub returns-in-Some-clause-sends : goal.returns-in-Some-clause-sends
returns-in-Some-clause-sends g c =
    let net = g.L.Link.told in
    sends-told c.args.media (net c.args.link.now) (net c.post_as.new.link) c.args.out c.in-Some.text _
    c.post_as.result
    (subst (λ (t : Option (List ℕ)). IsTold c.args.media c.args.out.bytes t) c.in-Some.is c.in_ok-text.ensures)
    c.as_slice.ensures c.post_as.ensures.posts

pub returns-in-Some-clause-begins : goal.returns-in-Some-clause-begins
returns-in-Some-clause-begins g c =
    let net = g.L.Link.told in
    begins-told c.args.media (net c.args.link.now) (net c.post_as.new.link) c.args.out c.in-Some.text _
    c.post_as.result
    (subst (λ (t : Option (List ℕ)). IsTold c.args.media c.args.out.bytes t) c.in-Some.is c.in_ok-text.ensures)
    c.as_slice.ensures c.post_as.ensures.begins

pub returns-clause-sends : goal.returns-clause-sends
returns-clause-sends g c =
    sends-not c.args.media (g.L.Link.told c.args.link.now) c.args.out
    (subst (λ (t : Option (List ℕ)). IsTold c.args.media c.args.out.bytes t) c.in-None.is c.in_ok-text.ensures)
