use Rattle.std.proofs.Common.{◌≡◌, ◌∙◌, ◌∷◌, [], Err, ap, refl, subst, sym, true}
use Rattle.std.specs.Prelude.{IfErr}
use Rattle.std.proofs.lemmas.Result.{err_from_is_err_and}
use Rattle.node_laws.specs.Answers.Answers.{wish_seen}
use Rattle.rm_node.specs.Asked.{Create}
use Rattle.rm_node.specs.Ends.{is_handed, made_end}
use Rattle.rm_node.specs.declared.call.Call.TheVariants.{Create as Creates}
use Rattle.rm_serve.specs.Steps.{LeavesUp, MakesAll, place_of}
use Rattle.rm_host.specs.Ends.{is_of_call}
use Rattle.rm_host.specs.HostSteps.{back_wish, outs_in, own_step}
use Rattle.rm_host.specs.declared.end.End.{End}
use Rattle.rm_station.specs.Works.{is_outlived}
use Rattle.rm_station.proofs.CallLemmas.{call-of, ends-so, made, refused-up}
use Rattle.rm_station.proofs.calls.create.Goals as goal

pub returns-in_err-create-clause-of_call : goal.returns-in_err-create-clause-of_call
returns-in_err-create-clause-of_call g c =
    let p = err_from_is_err_and c.from_residual.result c.from_residual.ensures.1 in
    subst (λ r. IfErr r (λ (e : End). is_of_call e ≡ true)) (sym (p.1 ∙ ap Err p.2))
    (call-of c.in_err-create.field-0.0)

pub returns-in_err-create-clause-up : goal.returns-in_err-create-clause-up
returns-in_err-create-clause-up g c lasts =
    let p = err_from_is_err_and c.from_residual.result c.from_residual.ensures.1 in
    let told = g.D.Disk.told in
    let x = place_of (told c.args.disk.now) c.args.node.now in
    let z = place_of (told c.create.new.disk) c.create.new.self in
    let e = c.in_err-create.field-0.0 in
    let leaves = c.a_node_stays_up.ensures g.D.Disk.tells x.told z.told x.node z.node 0 (Creates c.wish.result) _
    (made_end c.create.result) refl c.requires.up c.create.ensures.steps in
    refused-up g.D.Disk.tells x z 0 (Creates c.wish.result) e c.requires.up
    (subst (λ r. LeavesUp g.D.Disk.tells z (made_end r)) c.in_err-create.was leaves)
    c.in_err-create.ensures.steps
    (subst (λ r. is_outlived r ≡ true) (p.1 ∙ ap Err p.2) lasts)

pub returns-in_err-create-clause-makes : goal.returns-in_err-create-clause-makes
returns-in_err-create-clause-makes g c =
    let p = err_from_is_err_and c.from_residual.result c.from_residual.ensures.1 in
    let told = g.D.Disk.told in
    let x = place_of (told c.args.disk.now) c.args.node.now in
    let z = place_of (told c.create.new.disk) c.create.new.self in
    let e = c.in_err-create.field-0.0 in
    let leaves = c.a_node_stays_up.ensures g.D.Disk.tells x.told z.told x.node z.node 0 (Creates c.wish.result) _
    (made_end c.create.result) refl c.requires.up c.create.ensures.steps in
    let awake = ends-so e (λ down. leaves.awake (ap made_end (c.in_err-create.was ∙ ap Err down))) in
    subst
    (λ r. MakesAll g.D.Disk.tells x z (own_step 0 (Create (back_wish c.args.to)) (outs_in (λ s. s.outs) r) ∷ []))
    (sym (p.1 ∙ ap Err p.2))
    (made g.D.Disk.tells x z 0 (Creates c.wish.result) (Create (back_wish c.args.to)) _ _
    (ap (λ w. Create (wish_seen w)) (sym c.wish.ensures.is)) refl awake c.in_err-create.ensures.steps)

pub returns-clause-up : goal.returns-clause-up
returns-clause-up g c lasts =
    let leaves = c.a_node_stays_up.ensures g.D.Disk.tells (g.D.Disk.told c.args.disk.now)
    (g.D.Disk.told c.create.new.disk)
    c.args.node.now c.create.new.self 0 (Creates c.wish.result) _ (made_end c.create.result) refl c.requires.up
    c.create.ensures.steps in
    record { up = leaves.up (ap (λ r. is_handed (made_end r)) c.in_ok-create.was); ready = leaves.ready }

pub returns-clause-makes : goal.returns-clause-makes
returns-clause-makes g c =
    let told = g.D.Disk.told in
    let x = place_of (told c.args.disk.now) c.args.node.now in
    let z = place_of (told c.create.new.disk) c.create.new.self in
    made g.D.Disk.tells x z 0 (Creates c.wish.result) (Create (back_wish c.args.to)) _ _
    (ap (λ w. Create (wish_seen w)) (sym c.wish.ensures.is)) refl refl c.in_ok-create.ensures.steps
