use Rattle.std.proofs.Common.{◌≡◌, ◌∙◌, ℕ, List, [], Err, ap, refl, sym, subst}
use Rattle.std.specs.Prelude.{Result}
use Rattle.std.proofs.lemmas.Result.{err_from_is_err_and}
use Rattle.rm_node.specs.declared.error.NodeError.{NodeError}
use Rattle.rm_serve.specs.Posts.{Admits, Takes, given, kept_out, unread}
use Rattle.rm_serve.specs.Steps.{place_of}
use Rattle.rm_serve.specs.Versions.{Enters}
use Rattle.rm_serve.specs.declared.version.Entry.{Entry}
use Rattle.rm_serve.proofs.StepLemmas.{no-step}
use Rattle.rm_serve.proofs.posting.admit.Goals as goal

pub returns-in_err-bytes-clause-admits : goal.returns-in_err-bytes-clause-admits
returns-in_err-bytes-clause-admits g c =
    let p = err_from_is_err_and c.from_residual.result c.from_residual.ensures.1 in
    let x = place_of (g.D.Disk.told c.args.disk.now) c.args.node.now in
    let queue = c.args.queue.now.items in (
      [],
      no-step g.D.Disk.tells x x (record { node = refl; told = λ t. refl }),
      subst (λ (r : Result (Unit {0}) NodeError). Admits c.args.media c.args.now c.args.body queue queue [] r)
          (sym (p.1 ∙ ap Err p.2)) (unread refl),
    )

pub returns-in-Admitted-clause-admits : goal.returns-in-Admitted-clause-admits
returns-in-Admitted-clause-admits g c =
    let t = c.take.ensures.takes in
    let bytes = c.in-Admitted.bytes in (
      t.0,
      t.1,
      given bytes t.0 c.take.result
          (subst (λ (e : Entry). Enters c.args.media c.args.body e) c.in-Admitted.is c.in_ok-bytes.ensures)
          (subst (λ (b : List ℕ). Takes c.args.now b c.args.queue.now.items c.take.new.queue.items t.0 c.take.result)
          c.as_slice.ensures t.2),
    )

pub returns-clause-admits : goal.returns-clause-admits
returns-clause-admits g c =
    let x = place_of (g.D.Disk.told c.args.disk.now) c.args.node.now in (
      [],
      no-step g.D.Disk.tells x x (record { node = refl; told = λ t. refl }),
      kept_out _ (subst (λ (e : Entry). Enters c.args.media c.args.body e) c.in-KeptOut.is c.in_ok-bytes.ensures) refl,
    )
