use Rattle.std.proofs.Common.{◌≡◌, ◌∙◌, ◌∷◌, [], Err, ap, refl, subst, sym, true}
use Rattle.std.specs.Prelude.{IfErr}
use Rattle.std.proofs.lemmas.Result.{err_from_is_err_and}
use Rattle.rm_node.specs.Asked.{Close}
use Rattle.rm_node.specs.Ends.{is_handed, outs_end}
use Rattle.rm_node.specs.declared.call.Call.TheVariants.{Close as Closes}
use Rattle.rm_serve.specs.Steps.{LeavesUp, MakesAll, place_of}
use Rattle.rm_host.specs.Ends.{is_of_call}
use Rattle.rm_host.specs.HostSteps.{own_step}
use Rattle.rm_host.specs.declared.end.End.{End}
use Rattle.rm_station.specs.Works.{is_outlived}
use Rattle.rm_station.proofs.CallLemmas.{call-of, ends-so, made, refused-up}
use Rattle.rm_station.proofs.calls.close.Goals as goal

pub returns-in_err-close-clause-of_call : goal.returns-in_err-close-clause-of_call
returns-in_err-close-clause-of_call g c =
    let p = err_from_is_err_and c.from_residual.result c.from_residual.ensures.1 in
    subst (λ r. IfErr r (λ (e : End). is_of_call e ≡ true)) (sym (p.1 ∙ ap Err p.2))
    (call-of c.in_err-close.field-0.0)

pub returns-in_err-close-clause-up : goal.returns-in_err-close-clause-up
returns-in_err-close-clause-up g c lasts =
    let p = err_from_is_err_and c.from_residual.result c.from_residual.ensures.1 in
    let call = Closes c.args.seq in
    let told = g.D.Disk.told in
    let x = place_of (told c.args.disk.now) c.args.node.now in
    let z = place_of (told c.close.new.disk) c.close.new.self in
    let leaves = c.a_node_stays_up.ensures g.D.Disk.tells x.told z.told x.node z.node c.args.now call _
    (outs_end c.close.result) refl c.requires.up c.close.ensures in
    refused-up g.D.Disk.tells x z c.args.now call c.in_err-close.field-0.0 c.requires.up
    (subst (λ r. LeavesUp g.D.Disk.tells z (outs_end r)) c.in_err-close.was leaves) c.in_err-close.ensures
    (subst (λ r. is_outlived r ≡ true) (p.1 ∙ ap Err p.2) lasts)

pub returns-in_err-close-clause-makes : goal.returns-in_err-close-clause-makes
returns-in_err-close-clause-makes g c =
    let p = err_from_is_err_and c.from_residual.result c.from_residual.ensures.1 in
    let call = Closes c.args.seq in
    let asked = Close c.args.seq in
    let told = g.D.Disk.told in
    let x = place_of (told c.args.disk.now) c.args.node.now in
    let z = place_of (told c.close.new.disk) c.close.new.self in
    let leaves = c.a_node_stays_up.ensures g.D.Disk.tells x.told z.told x.node z.node c.args.now call _
    (outs_end c.close.result) refl c.requires.up c.close.ensures in
    let awake = ends-so c.in_err-close.field-0.0
    (λ down. leaves.awake (ap outs_end (c.in_err-close.was ∙ ap Err down))) in
    subst (λ r. MakesAll g.D.Disk.tells x z (own_step c.args.now asked r ∷ [])) (sym (p.1 ∙ ap Err p.2))
    (made g.D.Disk.tells x z c.args.now call asked _ _ refl refl awake c.in_err-close.ensures)

pub returns-clause-up : goal.returns-clause-up
returns-clause-up g c lasts =
    let call = Closes c.args.seq in
    let told = g.D.Disk.told in
    let leaves = c.a_node_stays_up.ensures g.D.Disk.tells (told c.args.disk.now) (told c.close.new.disk)
    c.args.node.now c.close.new.self c.args.now call _ (outs_end c.close.result) refl
    c.requires.up c.close.ensures in
    record { up = leaves.up (ap (λ r. is_handed (outs_end r)) c.in_ok-close.was); ready = leaves.ready }

pub returns-clause-makes : goal.returns-clause-makes
returns-clause-makes g c =
    let call = Closes c.args.seq in
    let asked = Close c.args.seq in
    let told = g.D.Disk.told in
    let x = place_of (told c.args.disk.now) c.args.node.now in
    let z = place_of (told c.close.new.disk) c.close.new.self in
    made g.D.Disk.tells x z c.args.now call asked _ _ refl refl refl c.in_ok-close.ensures
