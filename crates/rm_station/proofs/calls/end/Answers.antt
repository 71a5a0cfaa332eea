use Rattle.std.proofs.Common.{◌≡◌, ◌∙◌, ◌∷◌, [], Err, ap, refl, subst, sym, true}
use Rattle.std.specs.Prelude.{IfErr}
use Rattle.std.proofs.lemmas.Result.{err_from_is_err_and}
use Rattle.rm_node.specs.Asked.{End as Finish}
use Rattle.rm_node.specs.Ends.{is_handed, outs_end}
use Rattle.rm_node.specs.declared.call.Call.TheVariants.{End as Finishes}
use Rattle.rm_serve.specs.Steps.{LeavesUp, MakesAll, place_of}
use Rattle.rm_host.specs.Ends.{is_of_call}
use Rattle.rm_host.specs.HostSteps.{own_step}
use Rattle.rm_host.specs.declared.end.End.{End}
use Rattle.rm_station.specs.Works.{is_outlived}
use Rattle.rm_station.proofs.CallLemmas.{call-of, ends-so, made, refused-up}
use Rattle.rm_station.proofs.calls.end.Goals as goal

pub returns-in_err-end-clause-of_call : goal.returns-in_err-end-clause-of_call
returns-in_err-end-clause-of_call g c =
    let p = err_from_is_err_and c.from_residual.result c.from_residual.ensures.1 in
    subst (λ r. IfErr r (λ (e : End). is_of_call e ≡ true)) (sym (p.1 ∙ ap Err p.2))
    (call-of c.in_err-end.field-0.0)

pub returns-in_err-end-clause-up : goal.returns-in_err-end-clause-up
returns-in_err-end-clause-up g c lasts =
    let p = err_from_is_err_and c.from_residual.result c.from_residual.ensures.1 in
    let call = Finishes c.args.seq in
    let told = g.D.Disk.told in
    let x = place_of (told c.args.disk.now) c.args.node.now in
    let z = place_of (told c.end.new.disk) c.end.new.self in
    let leaves = c.a_node_stays_up.ensures g.D.Disk.tells x.told z.told x.node z.node 0 call _
    (outs_end c.end.result) refl c.requires.up c.end.ensures in
    refused-up g.D.Disk.tells x z 0 call c.in_err-end.field-0.0 c.requires.up
    (subst (λ r. LeavesUp g.D.Disk.tells z (outs_end r)) c.in_err-end.was leaves) c.in_err-end.ensures
    (subst (λ r. is_outlived r ≡ true) (p.1 ∙ ap Err p.2) lasts)

pub returns-in_err-end-clause-makes : goal.returns-in_err-end-clause-makes
returns-in_err-end-clause-makes g c =
    let p = err_from_is_err_and c.from_residual.result c.from_residual.ensures.1 in
    let call = Finishes c.args.seq in
    let asked = Finish c.args.seq in
    let told = g.D.Disk.told in
    let x = place_of (told c.args.disk.now) c.args.node.now in
    let z = place_of (told c.end.new.disk) c.end.new.self in
    let leaves = c.a_node_stays_up.ensures g.D.Disk.tells x.told z.told x.node z.node 0 call _
    (outs_end c.end.result) refl c.requires.up c.end.ensures in
    let awake = ends-so c.in_err-end.field-0.0
    (λ down. leaves.awake (ap outs_end (c.in_err-end.was ∙ ap Err down))) in
    subst (λ r. MakesAll g.D.Disk.tells x z (own_step 0 asked r ∷ [])) (sym (p.1 ∙ ap Err p.2))
    (made g.D.Disk.tells x z 0 call asked _ _ refl refl awake c.in_err-end.ensures)

pub returns-clause-up : goal.returns-clause-up
returns-clause-up g c lasts =
    let call = Finishes c.args.seq in
    let told = g.D.Disk.told in
    let leaves = c.a_node_stays_up.ensures g.D.Disk.tells (told c.args.disk.now) (told c.end.new.disk)
    c.args.node.now c.end.new.self 0 call _ (outs_end c.end.result) refl c.requires.up c.end.ensures in
    record { up = leaves.up (ap (λ r. is_handed (outs_end r)) c.in_ok-end.was); ready = leaves.ready }

pub returns-clause-makes : goal.returns-clause-makes
returns-clause-makes g c =
    let call = Finishes c.args.seq in
    let asked = Finish c.args.seq in
    let told = g.D.Disk.told in
    let x = place_of (told c.args.disk.now) c.args.node.now in
    let z = place_of (told c.end.new.disk) c.end.new.self in
    made g.D.Disk.tells x z 0 call asked _ _ refl refl refl c.in_ok-end.ensures
