use Rattle.std.proofs.Common.{◌≡◌, ◌∙◌, ◌∷◌, [], Err, ap, refl, subst, sym, true}
use Rattle.std.specs.Prelude.{IfErr}
use Rattle.std.proofs.lemmas.Result.{err_from_is_err_and}
use Rattle.rm_node.specs.Asked.{Tick}
use Rattle.rm_node.specs.Ends.{is_handed, outs_end}
use Rattle.rm_node.specs.declared.call.Call.TheVariants.{Tick as Ticks}
use Rattle.rm_serve.specs.Steps.{MakesAll, place_of}
use Rattle.rm_host.specs.Ends.{is_of_call}
use Rattle.rm_host.specs.HostSteps.{own_step}
use Rattle.rm_host.specs.declared.end.End.{End}
use Rattle.rm_station.proofs.CallLemmas.{call-of, ends-so, made}
use Rattle.rm_station.proofs.calls.tick.Goals as goal

pub returns-in_err-tick-clause-of_call : goal.returns-in_err-tick-clause-of_call
returns-in_err-tick-clause-of_call g c =
    let p = err_from_is_err_and c.from_residual.result c.from_residual.ensures.1 in
    subst (λ r. IfErr r (λ (e : End). is_of_call e ≡ true)) (sym (p.1 ∙ ap Err p.2)) (call-of c.in_err-tick.field-0.0)

pub returns-in_err-tick-clause-makes : goal.returns-in_err-tick-clause-makes
returns-in_err-tick-clause-makes g c =
    let p = err_from_is_err_and c.from_residual.result c.from_residual.ensures.1 in
    let told = g.D.Disk.told in
    let x = place_of (told c.args.disk.now) c.args.node.now in
    let z = place_of (told c.tick.new.disk) c.tick.new.self in
    let e = c.in_err-tick.field-0.0 in
    let leaves = c.a_node_stays_up.ensures g.D.Disk.tells x.told z.told x.node z.node c.args.now
    (Ticks c.args.now) _
    (outs_end c.tick.result) refl c.requires.up c.tick.ensures in
    let awake = ends-so e (λ down. leaves.awake (ap outs_end (c.in_err-tick.was ∙ ap Err down))) in
    subst (λ r. MakesAll g.D.Disk.tells x z (own_step c.args.now (Tick c.args.now) r ∷ []))
    (sym (p.1 ∙ ap Err p.2))
    (made g.D.Disk.tells x z c.args.now (Ticks c.args.now) (Tick c.args.now) _ _ refl refl awake
    c.in_err-tick.ensures)

pub returns-clause-up : goal.returns-clause-up
returns-clause-up g c =
    let leaves = c.a_node_stays_up.ensures g.D.Disk.tells (g.D.Disk.told c.args.disk.now)
    (g.D.Disk.told c.tick.new.disk)
    c.args.node.now c.tick.new.self c.args.now (Ticks c.args.now) _ (outs_end c.tick.result) refl c.requires.up
    c.tick.ensures in
    record { up = leaves.up (ap (λ r. is_handed (outs_end r)) c.in_ok-tick.was); ready = leaves.ready }

pub returns-clause-makes : goal.returns-clause-makes
returns-clause-makes g c =
    let told = g.D.Disk.told in
    let x = place_of (told c.args.disk.now) c.args.node.now in
    let z = place_of (told c.tick.new.disk) c.tick.new.self in
    made g.D.Disk.tells x z c.args.now (Ticks c.args.now) (Tick c.args.now) _ _ refl refl refl c.in_ok-tick.ensures
