use Rattle.std.proofs.Common.{◌≡◌, ◌∙◌, ◌∷◌, [], Err, None, ap, refl, subst, sym, true}
use Rattle.std.specs.Prelude.{IfErr}
use Rattle.std.proofs.lemmas.Result.{err_from_is_err_and}
use Rattle.rm_node.specs.Asked.{Consume}
use Rattle.rm_node.specs.Ends.{Handed, done_end, is_handed}
use Rattle.rm_protocol.specs.Calls.{Done}
use Rattle.rm_node.specs.declared.call.Call.TheVariants.{Consume as Consumes}
use Rattle.rm_serve.specs.Steps.{LeavesUp, MakesAll, place_of}
use Rattle.rm_host.specs.Ends.{is_of_call}
use Rattle.rm_host.specs.HostSteps.{own_step}
use Rattle.rm_host.specs.declared.end.End.{End}
use Rattle.rm_station.specs.Works.{is_outlived}
use Rattle.rm_station.proofs.CallLemmas.{call-of, ends-so, made, refused-up}
use Rattle.rm_station.proofs.calls.consume.Goals as goal

pub returns-in_err-consume-clause-of_call : goal.returns-in_err-consume-clause-of_call
returns-in_err-consume-clause-of_call g c =
    let p = err_from_is_err_and c.from_residual.result c.from_residual.ensures.1 in
    subst (λ r. IfErr r (λ (e : End). is_of_call e ≡ true)) (sym (p.1 ∙ ap Err p.2))
    (call-of c.in_err-consume.field-0.0)

pub returns-in_err-consume-clause-up : goal.returns-in_err-consume-clause-up
returns-in_err-consume-clause-up g c lasts =
    let p = err_from_is_err_and c.from_residual.result c.from_residual.ensures.1 in
    let call = Consumes c.args.seq c.args.upto in
    let told = g.D.Disk.told in
    let x = place_of (told c.args.disk.now) c.args.node.now in
    let z = place_of (told c.consume.new.disk) c.consume.new.self in
    let leaves = c.a_node_stays_up.ensures g.D.Disk.tells x.told z.told x.node z.node 0 call _
    (done_end c.consume.result) refl c.requires.up c.consume.ensures in
    refused-up g.D.Disk.tells x z 0 call c.in_err-consume.field-0.0 c.requires.up
    (subst (λ r. LeavesUp g.D.Disk.tells z (done_end r)) c.in_err-consume.was leaves) c.in_err-consume.ensures
    (subst (λ r. is_outlived r ≡ true) (p.1 ∙ ap Err p.2) lasts)

pub returns-in_err-consume-clause-makes : goal.returns-in_err-consume-clause-makes
returns-in_err-consume-clause-makes g c =
    let p = err_from_is_err_and c.from_residual.result c.from_residual.ensures.1 in
    let call = Consumes c.args.seq c.args.upto in
    let asked = Consume c.args.seq c.args.upto in
    let told = g.D.Disk.told in
    let x = place_of (told c.args.disk.now) c.args.node.now in
    let z = place_of (told c.consume.new.disk) c.consume.new.self in
    let leaves = c.a_node_stays_up.ensures g.D.Disk.tells x.told z.told x.node z.node 0 call _
    (done_end c.consume.result) refl c.requires.up c.consume.ensures in
    let awake = ends-so c.in_err-consume.field-0.0
    (λ down. leaves.awake (ap done_end (c.in_err-consume.was ∙ ap Err down))) in
    subst (λ r. MakesAll g.D.Disk.tells x z (own_step 0 asked r ∷ [])) (sym (p.1 ∙ ap Err p.2))
    (made g.D.Disk.tells x z 0 call asked _ _ refl refl awake c.in_err-consume.ensures)

pub returns-clause-up : goal.returns-clause-up
returns-clause-up g c lasts =
    let call = Consumes c.args.seq c.args.upto in
    let told = g.D.Disk.told in
    let leaves = c.a_node_stays_up.ensures g.D.Disk.tells (told c.args.disk.now) (told c.consume.new.disk)
    c.args.node.now c.consume.new.self 0 call _ (done_end c.consume.result) refl
    c.requires.up c.consume.ensures in
    record { up = leaves.up (ap (λ r. is_handed (done_end r)) c.in_ok-consume.was); ready = leaves.ready }

pub returns-clause-makes : goal.returns-clause-makes
returns-clause-makes g c =
    let call = Consumes c.args.seq c.args.upto in
    let asked = Consume c.args.seq c.args.upto in
    let told = g.D.Disk.told in
    let x = place_of (told c.args.disk.now) c.args.node.now in
    let z = place_of (told c.consume.new.disk) c.consume.new.self in
    made g.D.Disk.tells x z 0 call asked _ _ refl refl
    (ap (λ o. Handed Done None o) (sym c.new.ensures)) c.in_ok-consume.ensures
