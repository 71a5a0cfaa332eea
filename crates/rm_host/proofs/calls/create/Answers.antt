use Rattle.std.proofs.Common.{◌≡◌, ◌∙◌, Err, ap, false, refl, sym, subst, true}
use Rattle.std.specs.Prelude.{IfErr}
use Rattle.std.proofs.lemmas.Result.{err_from_is_err_and}
use Rattle.node_laws.specs.Answers.Answers.{wish_seen}
use Rattle.rm_disk.specs.Cause.{HasCause}
use Rattle.rm_node.specs.Asked.{Create}
use Rattle.rm_node.specs.Ends.{is_handed, made_end}
use Rattle.rm_node.specs.declared.call.Call.TheVariants.{Create as Creates}
use Rattle.rm_serve.specs.Steps.{place_of}
use Rattle.rm_host.specs.Ends.{faults_of, is_of_call, is_outer}
use Rattle.rm_host.specs.declared.end.End.{End}
use Rattle.rm_host.specs.HostSteps.{CallsNode, back_wish, outs_in, own_step}
use Rattle.rm_host.proofs.CompactionLemmas.{ends-so}
use Rattle.rm_host.proofs.EndLemmas.{broke-by, call-ends, call-inner, call-of}
use Rattle.rm_host.proofs.StepLemmas.{made}
use Rattle.rm_host.proofs.calls.create.Goals as goal

pub returns-in_err-create-clause-reason : goal.returns-in_err-create-clause-reason
returns-in_err-create-clause-reason g c =
    let p = err_from_is_err_and c.from_residual.result c.from_residual.ensures.1 in
    let old = faults_of g.D.Disk.told g.L.Link.told c.args.host.now in
    let new = record old { disk = (g.D.Disk.told c.create.new.disk).faults } in
    let e = c.in_err-create.field-0.0 in
    let leaves = c.a_node_stays_up.ensures g.D.Disk.tells (g.D.Disk.told c.args.host.now.disk)
    (g.D.Disk.told c.create.new.disk)
    c.args.node.now c.create.new.self 0 (Creates c.wish.result) _ (made_end c.create.result) refl c.requires.up
    c.create.ensures.steps in
    call-ends old new e c.from_residual.result (p.1 ∙ ap Err p.2)
    (λ down. leaves.awake (ap made_end (c.in_err-create.was ∙ ap Err down)))
    (subst (λ b. HasCause old.disk new.disk b) (broke-by e) c.in_err-create.ensures.steps.cause)

pub returns-in_err-create-clause-of_call : goal.returns-in_err-create-clause-of_call
returns-in_err-create-clause-of_call g c =
    let p = err_from_is_err_and c.from_residual.result c.from_residual.ensures.1 in
    subst (λ r. IfErr r (λ (e : End). is_of_call e ≡ true)) (sym (p.1 ∙ ap Err p.2)) (call-of c.in_err-create.field-0.0)

pub returns-in_err-create-clause-inner : goal.returns-in_err-create-clause-inner
returns-in_err-create-clause-inner g c =
    let p = err_from_is_err_and c.from_residual.result c.from_residual.ensures.1 in
    subst (λ r. is_outer r ≡ false) (sym (p.1 ∙ ap Err p.2)) (call-inner c.in_err-create.field-0.0)

pub returns-in_err-create-clause-calls : goal.returns-in_err-create-clause-calls
returns-in_err-create-clause-calls g c =
    let p = err_from_is_err_and c.from_residual.result c.from_residual.ensures.1 in
    let told = g.D.Disk.told in
    let net = g.L.Link.told c.args.host.now.link in
    let x = place_of (told c.args.host.now.disk) c.args.node.now in
    let z = place_of (told c.create.new.disk) c.create.new.self in
    let e = c.in_err-create.field-0.0 in
    let leaves = c.a_node_stays_up.ensures g.D.Disk.tells x.told z.told x.node z.node 0 (Creates c.wish.result) _
    (made_end c.create.result) refl c.requires.up c.create.ensures.steps in
    let awake = ends-so e (λ down. leaves.awake (ap made_end (c.in_err-create.was ∙ ap Err down))) in
    subst (λ r. CallsNode g.D.Disk.tells x z net net
    (own_step 0 (Create (back_wish c.args.to)) (outs_in (λ m. m.outs) r)))
    (sym (p.1 ∙ ap Err p.2))
    (record {
      steps = made g.D.Disk.tells x z 0 (Creates c.wish.result) (Create (back_wish c.args.to)) _ _
          (ap (λ w. Create (wish_seen w)) (sym c.wish.ensures.is)) refl awake c.in_err-create.ensures.steps;
      link = refl;
    })

pub returns-clause-up : goal.returns-clause-up
returns-clause-up g c =
    let leaves = c.a_node_stays_up.ensures g.D.Disk.tells (g.D.Disk.told c.args.host.now.disk)
    (g.D.Disk.told c.create.new.disk)
    c.args.node.now c.create.new.self 0 (Creates c.wish.result) _ (made_end c.create.result) refl c.requires.up
    c.create.ensures.steps in
    record { up = leaves.up (ap (λ r. is_handed (made_end r)) c.in_ok-create.was); ready = leaves.ready }

pub returns-clause-calls : goal.returns-clause-calls
returns-clause-calls g c =
    let told = g.D.Disk.told in
    let x = place_of (told c.args.host.now.disk) c.args.node.now in
    let z = place_of (told c.create.new.disk) c.create.new.self in
    record {
      steps = made g.D.Disk.tells x z 0 (Creates c.wish.result) (Create (back_wish c.args.to)) _ _
          (ap (λ w. Create (wish_seen w)) (sym c.wish.ensures.is)) refl refl
          c.in_ok-create.ensures.steps;
      link = refl;
    }
