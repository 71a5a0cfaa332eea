use Rattle.std.proofs.Common.{◌∙◌, ◌-◌, ◌++◌, List, [], Err, ap, arith, refl, sym, subst}
use Rattle.std.specs.Prelude.{Result}
use Rattle.std.proofs.lemmas.Result.{err_from_is_err_and}
use Rattle.rm_node.specs.declared.error.NodeError.{NodeError}
use Rattle.rm_node.specs.declared.packets.Out.{Out}
use Rattle.rm_serve.specs.Limits as limits
use Rattle.rm_serve.specs.Posts.{PostingAs, none_posted, wanting}
use Rattle.rm_serve.specs.Steps.{place_of}
use Rattle.rm_serve.specs.declared.posting.Posted.{Posted}
use Rattle.rm_serve.proofs.PostLemmas.{far-empty, far-first, far-on, far-over, far-stop, one-more}
use Rattle.rm_serve.proofs.StepLemmas.{no-step}
use Rattle.rm_serve.proofs.posting.post_row.Goals as goal

pub returns-in_err-push_all-clause-posts : goal.returns-in_err-push_all-clause-posts
returns-in_err-push_all-clause-posts g c =
    let p = err_from_is_err_and c.from_residual.result c.from_residual.ensures.1 in
    let x = place_of (g.D.Disk.told c.args.disk.now) c.args.node.now in
    let net = g.L.Link.told c.args.link.now in (
      [],
      no-step g.D.Disk.tells x x (record { node = refl; told = λ t. refl }),
      subst (λ (r : Result Posted NodeError). PostingAs c.args.media c.args.now limits.most_posts c.args.outs
          none_posted net net [] r)
          (sym (p.1 ∙ ap Err p.2)) (wanting limits.most_posts c.args.outs none_posted net),
    )

pub loop-left-init : goal.loop-left-init
loop-left-init g c =
    let x = place_of (g.D.Disk.told c.args.disk.now) c.args.node.now in
    record {
      far = far-first c.args.media g.D.Disk.tells c.args.now x x c.args.outs c.push_all.new.queue.items
          (g.L.Link.told c.args.link.now)
          (record { node = refl; told = λ t. refl })
          (c.in_ok-push_all.ensures ∙ ap (λ (q : List Out). q ++ c.args.outs) c.new-queue.ensures.items);
      count = refl;
      dials = omega arith;
      ready = c.requires.ready;
      up = refl;
      faults = refl;
    }

pub returns-in-None-clause-posts : goal.returns-in-None-clause-posts
returns-in-None-clause-posts g c =
    let l = c.loop-left in
    far-empty c.args.media g.D.Disk.tells c.args.now (place_of (g.D.Disk.told c.args.disk.now) c.args.node.now)
    (place_of (g.D.Disk.told l.disk) l.node) c.args.outs l.queue.items l.posted l.left (g.L.Link.told c.args.link.now)
    (g.L.Link.told l.link) l.invariant.far c.in-None.ensures

pub returns-in_err-posted-in-Some-clause-posts : goal.returns-in_err-posted-in-Some-clause-posts
returns-in_err-posted-in-Some-clause-posts g c =
    let l = c.loop-left in
    let new = c.post_one.new in
    let r = c.from_residual-in_err-posted-in-Some in
    let p = err_from_is_err_and r.result r.ensures.1 in
    let h = c.in_err-posted-in-Some.ensures.goes in
    far-stop c.args.media g.D.Disk.tells c.args.now (place_of (g.D.Disk.told c.args.disk.now) c.args.node.now)
    (place_of (g.D.Disk.told l.disk) l.node) (place_of (g.D.Disk.told new.disk) new.node) c.args.outs l.queue.items
    c.next_packet.new.queue.items new.queue.items c.in-Some.out l.posted l.left (l.left - 1)
    (g.L.Link.told c.args.link.now) (g.L.Link.told l.link) (g.L.Link.told new.link) h.0
    c.in_err-posted-in-Some.field-0.0 r.result l.invariant.far
    (one-more l.left (omega (arith, c.loop-left-test.true))) c.in-Some.ensures h.1 h.2 (p.1 ∙ ap Err p.2)

pub loop-left-preserved : goal.loop-left-preserved
loop-left-preserved g c =
    let l = c.loop-left in
    let new = c.post_one.new in
    let h = c.in_ok-posted-in-Some.ensures.goes in
    record {
      far = far-on c.args.media g.D.Disk.tells c.args.now (place_of (g.D.Disk.told c.args.disk.now) c.args.node.now)
          (place_of (g.D.Disk.told l.disk) l.node) (place_of (g.D.Disk.told new.disk) new.node) c.args.outs
          l.queue.items c.next_packet.new.queue.items new.queue.items c.in-Some.out l.posted
          c.in_ok-posted-in-Some.posted
          l.left (l.left - 1) (g.L.Link.told c.args.link.now) (g.L.Link.told l.link) (g.L.Link.told new.link) h.0
          l.invariant.far
          (one-more l.left (omega (arith, c.loop-left-test.true))) c.in-Some.ensures h.1 h.2;
      count = omega (arith, l.invariant.count, c.in_ok-posted-in-Some.ensures.count, c.loop-left-test.true);
      dials = c.in_ok-posted-in-Some.ensures.dials;
      ready = c.post_one.ensures.ready;
      up = c.in_ok-posted-in-Some.ensures.up ∙ l.invariant.up;
      faults = c.in_ok-posted-in-Some.ensures.cause.cause ∙ l.invariant.faults;
    }

pub returns-clause-posts : goal.returns-clause-posts
returns-clause-posts g c =
    let l = c.loop-left in
    far-over c.args.media g.D.Disk.tells c.args.now (place_of (g.D.Disk.told c.args.disk.now) c.args.node.now)
    (place_of (g.D.Disk.told l.disk) l.node) c.args.outs l.queue.items l.posted l.left (g.L.Link.told c.args.link.now)
    (g.L.Link.told l.link) l.invariant.far (omega (arith, c.loop-left-test.false))
