use Rattle.std.proofs.Common.{ℕ, List, [], Option, refl, subst, Ok}
use Rattle.rm_serve.specs.Posts.{HearsBy}
use Rattle.rm_serve.specs.Steps.{place_of}
use Rattle.rm_serve.proofs.StepLemmas.{no-step}
use Rattle.rm_serve.proofs.posting.hear.Goals as goal

pub returns-in-Some-clause-hears : goal.returns-in-Some-clause-hears
returns-in-Some-clause-hears g c =
    let t = c.admit.ensures.admits in (
      t.0,
      t.1,
      subst (λ (h : Option (List ℕ)). HearsBy c.args.media c.args.now h c.args.queue.now.items
          c.admit.new.queue.items t.0 c.admit.result) c.in-Some.ensures t.2,
    )

pub returns-in-None-clause-hears : goal.returns-in-None-clause-hears
returns-in-None-clause-hears g c =
    let x = place_of (g.D.Disk.told c.args.disk.now) c.args.node.now in (
      [],
      no-step g.D.Disk.tells x x (record { node = refl; told = λ t. refl }),
      subst (λ (h : Option (List ℕ)). HearsBy c.args.media c.args.now h c.args.queue.now.items
          c.args.queue.now.items [] (Ok tt)) c.in-None.ensures (refl, refl, refl),
    )
