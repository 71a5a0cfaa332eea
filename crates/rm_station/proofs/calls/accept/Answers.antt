use Rattle.std.proofs.Common.{◌≡◌, ◌∙◌, ◌∷◌, [], Err, ap, refl, subst, sym, true}
use Rattle.std.specs.Prelude.{IfErr}
use Rattle.std.proofs.lemmas.Result.{err_from_is_err_and}
use Rattle.rm_node.specs.Asked.{Send}
use Rattle.rm_node.specs.Ends.{is_handed, sent_end}
use Rattle.rm_node.specs.declared.call.Call.TheVariants.{Send as Sends}
use Rattle.rm_serve.specs.Steps.{LeavesUp, MakesAll, place_of}
use Rattle.rm_host.specs.Ends.{is_of_call}
use Rattle.rm_host.specs.HostSteps.{outs_in, own_step}
use Rattle.rm_host.specs.declared.end.End.{End}
use Rattle.rm_station.specs.Works.{is_outlived}
use Rattle.rm_station.proofs.CallLemmas.{call-of, ends-so, made, refused-up}
use Rattle.rm_station.proofs.calls.accept.Goals as goal

pub returns-in_err-send-clause-of_call : goal.returns-in_err-send-clause-of_call
returns-in_err-send-clause-of_call g c =
    let p = err_from_is_err_and c.from_residual.result c.from_residual.ensures.1 in
    subst (λ r. IfErr r (λ (e : End). is_of_call e ≡ true)) (sym (p.1 ∙ ap Err p.2)) (call-of c.in_err-send.field-0.0)

pub returns-in_err-send-clause-up : goal.returns-in_err-send-clause-up
returns-in_err-send-clause-up g c lasts =
    let p = err_from_is_err_and c.from_residual.result c.from_residual.ensures.1 in
    let told = g.D.Disk.told in
    let x = place_of (told c.args.disk.now) c.args.node.now in
    let z = place_of (told c.send.new.disk) c.send.new.self in
    let e = c.in_err-send.field-0.0 in
    let leaves = c.a_node_stays_up.ensures g.D.Disk.tells x.told z.told x.node z.node 0
    (Sends c.args.seq c.args.payload) _
    (sent_end c.send.result) refl c.requires.up c.send.ensures.steps in
    refused-up g.D.Disk.tells x z 0 (Sends c.args.seq c.args.payload) e c.requires.up
    (subst (λ r. LeavesUp g.D.Disk.tells z (sent_end r)) c.in_err-send.was leaves)
    c.in_err-send.ensures.steps
    (subst (λ r. is_outlived r ≡ true) (p.1 ∙ ap Err p.2) lasts)

pub returns-in_err-send-clause-makes : goal.returns-in_err-send-clause-makes
returns-in_err-send-clause-makes g c =
    let p = err_from_is_err_and c.from_residual.result c.from_residual.ensures.1 in
    let told = g.D.Disk.told in
    let x = place_of (told c.args.disk.now) c.args.node.now in
    let z = place_of (told c.send.new.disk) c.send.new.self in
    let e = c.in_err-send.field-0.0 in
    let leaves = c.a_node_stays_up.ensures g.D.Disk.tells x.told z.told x.node z.node 0
    (Sends c.args.seq c.args.payload) _
    (sent_end c.send.result) refl c.requires.up c.send.ensures.steps in
    let awake = ends-so e (λ down. leaves.awake (ap sent_end (c.in_err-send.was ∙ ap Err down))) in
    subst
    (λ r. MakesAll g.D.Disk.tells x z (own_step 0 (Send c.args.seq c.args.payload) (outs_in (λ s. s.outs) r) ∷ []))
    (sym (p.1 ∙ ap Err p.2))
    (made g.D.Disk.tells x z 0 (Sends c.args.seq c.args.payload) (Send c.args.seq c.args.payload) _ _ refl refl
    awake c.in_err-send.ensures.steps)

pub returns-clause-up : goal.returns-clause-up
returns-clause-up g c lasts =
    let leaves = c.a_node_stays_up.ensures g.D.Disk.tells (g.D.Disk.told c.args.disk.now)
    (g.D.Disk.told c.send.new.disk)
    c.args.node.now c.send.new.self 0 (Sends c.args.seq c.args.payload) _ (sent_end c.send.result) refl c.requires.up
    c.send.ensures.steps in
    record { up = leaves.up (ap (λ r. is_handed (sent_end r)) c.in_ok-send.was); ready = leaves.ready }

pub returns-clause-makes : goal.returns-clause-makes
returns-clause-makes g c =
    let told = g.D.Disk.told in
    let x = place_of (told c.args.disk.now) c.args.node.now in
    let z = place_of (told c.send.new.disk) c.send.new.self in
    made g.D.Disk.tells x z 0 (Sends c.args.seq c.args.payload) (Send c.args.seq c.args.payload) _ _ refl refl refl
    c.in_ok-send.ensures.steps
