use Rattle.std.proofs.Common.{◌≡◌, ◌∙◌, Err, ap, false, refl, sym, subst, true}
use Rattle.std.specs.Prelude.{IfErr}
use Rattle.std.proofs.lemmas.Result.{err_from_is_err_and}
use Rattle.rm_disk.specs.Cause.{HasCause}
use Rattle.rm_node.specs.Asked.{Send}
use Rattle.rm_node.specs.Ends.{is_handed, sent_end}
use Rattle.rm_node.specs.declared.call.Call.TheVariants.{Send as Sends}
use Rattle.rm_serve.specs.Steps.{place_of}
use Rattle.rm_host.specs.Ends.{faults_of, is_of_call, is_outer}
use Rattle.rm_host.specs.declared.end.End.{End}
use Rattle.rm_host.specs.HostSteps.{CallsNode, outs_in, own_step}
use Rattle.rm_host.proofs.CompactionLemmas.{ends-so}
use Rattle.rm_host.proofs.EndLemmas.{broke-by, call-ends, call-inner, call-of}
use Rattle.rm_host.proofs.StepLemmas.{made}
use Rattle.rm_host.proofs.calls.accept_payload.Goals as goal

pub returns-in_err-send-clause-reason : goal.returns-in_err-send-clause-reason
returns-in_err-send-clause-reason g c =
    let p = err_from_is_err_and c.from_residual.result c.from_residual.ensures.1 in
    let old = faults_of g.D.Disk.told g.L.Link.told c.args.host.now in
    let new = record old { disk = (g.D.Disk.told c.send.new.disk).faults } in
    let e = c.in_err-send.field-0.0 in
    let leaves = c.a_node_stays_up.ensures g.D.Disk.tells (g.D.Disk.told c.args.host.now.disk)
    (g.D.Disk.told c.send.new.disk)
    c.args.node.now c.send.new.self 0 (Sends c.args.seq c.args.payload) _ (sent_end c.send.result) refl c.requires.up
    c.send.ensures.steps in
    call-ends old new e c.from_residual.result (p.1 ∙ ap Err p.2)
    (λ down. leaves.awake (ap sent_end (c.in_err-send.was ∙ ap Err down)))
    (subst (λ b. HasCause old.disk new.disk b) (broke-by e) c.in_err-send.ensures.steps.cause)

pub returns-in_err-send-clause-of_call : goal.returns-in_err-send-clause-of_call
returns-in_err-send-clause-of_call g c =
    let p = err_from_is_err_and c.from_residual.result c.from_residual.ensures.1 in
    subst (λ r. IfErr r (λ (e : End). is_of_call e ≡ true)) (sym (p.1 ∙ ap Err p.2)) (call-of c.in_err-send.field-0.0)

pub returns-in_err-send-clause-inner : goal.returns-in_err-send-clause-inner
returns-in_err-send-clause-inner g c =
    let p = err_from_is_err_and c.from_residual.result c.from_residual.ensures.1 in
    subst (λ r. is_outer r ≡ false) (sym (p.1 ∙ ap Err p.2)) (call-inner c.in_err-send.field-0.0)

pub returns-in_err-send-clause-calls : goal.returns-in_err-send-clause-calls
returns-in_err-send-clause-calls g c =
    let p = err_from_is_err_and c.from_residual.result c.from_residual.ensures.1 in
    let told = g.D.Disk.told in
    let net = g.L.Link.told c.args.host.now.link in
    let x = place_of (told c.args.host.now.disk) c.args.node.now in
    let z = place_of (told c.send.new.disk) c.send.new.self in
    let e = c.in_err-send.field-0.0 in
    let leaves = c.a_node_stays_up.ensures g.D.Disk.tells x.told z.told x.node z.node 0
    (Sends c.args.seq c.args.payload) _
    (sent_end c.send.result) refl c.requires.up c.send.ensures.steps in
    let awake = ends-so e (λ down. leaves.awake (ap sent_end (c.in_err-send.was ∙ ap Err down))) in
    subst (λ r. CallsNode g.D.Disk.tells x z net net
    (own_step 0 (Send c.args.seq c.args.payload) (outs_in (λ s. s.outs) r)))
    (sym (p.1 ∙ ap Err p.2))
    (record {
      steps = made g.D.Disk.tells x z 0 (Sends c.args.seq c.args.payload)
          (Send c.args.seq c.args.payload) _ _
          refl refl awake c.in_err-send.ensures.steps;
      link = refl;
    })

pub returns-clause-up : goal.returns-clause-up
returns-clause-up g c =
    let leaves = c.a_node_stays_up.ensures g.D.Disk.tells (g.D.Disk.told c.args.host.now.disk)
    (g.D.Disk.told c.send.new.disk)
    c.args.node.now c.send.new.self 0 (Sends c.args.seq c.args.payload) _ (sent_end c.send.result) refl c.requires.up
    c.send.ensures.steps in
    record { up = leaves.up (ap (λ r. is_handed (sent_end r)) c.in_ok-send.was); ready = leaves.ready }

pub returns-clause-calls : goal.returns-clause-calls
returns-clause-calls g c =
    let told = g.D.Disk.told in
    let x = place_of (told c.args.host.now.disk) c.args.node.now in
    let z = place_of (told c.send.new.disk) c.send.new.self in
    record {
      steps = made g.D.Disk.tells x z 0 (Sends c.args.seq c.args.payload)
          (Send c.args.seq c.args.payload) _ _ refl refl refl
          c.in_ok-send.ensures.steps;
      link = refl;
    }
