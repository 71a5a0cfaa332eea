use Rattle.std.proofs.Common.{◌∙◌, [], ap, refl, sym, subst, Err, Ok}
use Rattle.std.specs.Prelude.{Result}
use Rattle.std.proofs.lemmas.Result.{err_from_is_err_and}
use Rattle.rm_node.specs.declared.error.NodeError.{NodeError}
use Rattle.rm_serve.specs.Posts.{Goes}
use Rattle.rm_serve.specs.Steps.{place_of}
use Rattle.rm_serve.specs.declared.posting.Posted.{Posted}
use Rattle.rm_serve.proofs.PostLemmas.{goes-no-further, goes-on, goes-wanting}
use Rattle.rm_serve.proofs.StepLemmas.{no-step}
use Rattle.rm_serve.proofs.posting.post_one.Goals as goal

pub returns-in_err-fate-clause-goes : goal.returns-in_err-fate-clause-goes
returns-in_err-fate-clause-goes g c =
    let net = g.L.Link.told in
    let p = err_from_is_err_and c.from_residual.result c.from_residual.ensures.1 in
    let x = place_of (g.D.Disk.told c.args.disk.now) c.args.node.now in
    let old = net c.args.link.now in
    let mid = net c.send.new.link in
    let queue = c.args.queue.now.items in (
      [],
      no-step g.D.Disk.tells x x (record { node = refl; told = λ t. refl }),
      subst (λ (r : Result Posted NodeError). Goes c.args.media c.args.now c.args.out queue queue c.args.posted old mid
          [] r)
          (sym (p.1 ∙ ap Err p.2)) (goes-wanting c.args.media c.args.now c.args.out queue c.args.posted old mid
          c.in_err-fate.ensures.begins),
    )

pub returns-in_err-hear-clause-goes : goal.returns-in_err-hear-clause-goes
returns-in_err-hear-clause-goes g c =
    let net = g.L.Link.told in
    let r = c.from_residual-in_err-hear in
    let p = err_from_is_err_and r.result r.ensures.1 in
    let h = c.in_err-hear.ensures.hears in
    let queue = c.args.queue.now.items in
    let more = c.hear.new.queue.items in (
      h.0,
      h.1,
      subst (λ (r : Result Posted NodeError). Goes c.args.media c.args.now c.args.out queue more c.args.posted
          (net c.args.link.now) (net c.send.new.link) h.0 r) (sym (p.1 ∙ ap Err p.2))
          (goes-no-further c.args.media c.args.now c.args.out queue more c.args.posted (net c.args.link.now)
          (net c.send.new.link)
          c.in_ok-fate.fate h.0 c.in_err-hear.field-0.0 c.in_ok-fate.ensures.sends h.2),
    )

pub returns-clause-goes : goal.returns-clause-goes
returns-clause-goes g c =
    let net = g.L.Link.told in
    let h = c.in_ok-hear.ensures.hears in
    let queue = c.args.queue.now.items in
    let more = c.hear.new.queue.items in (
      h.0,
      h.1,
      subst (λ (next : Posted). Goes c.args.media c.args.now c.args.out queue more c.args.posted
          (net c.args.link.now) (net c.send.new.link) h.0 (Ok next)) (sym c.counted-next.ensures.is)
          (goes-on c.args.media c.args.now c.args.out queue more c.args.posted (net c.args.link.now)
          (net c.send.new.link) c.in_ok-fate.fate h.0 c.in_ok-fate.ensures.sends h.2),
    )
