use Rattle.std.proofs.Common.{◌≡◌, ◌∙◌, ◌⊎◌, [], ◌∷◌, Err, ap, false, sym, subst}
use Rattle.std.specs.Prelude.{IfErr}
use Rattle.std.proofs.lemmas.Result.{err_from_is_err_and}
use Rattle.node_store.specs.Has.{Has}
use Rattle.node_store.specs.Stored.{Stored}
use Rattle.record_batch.specs.Fact.{Made}
use Rattle.rm_host.specs.Ends.{faults_of, is_outer}
use Rattle.rm_host.specs.declared.end.End.TheVariants.{DiskFault, Memory}
use Rattle.rm_host.proofs.EndLemmas.{call-ends, call-inner, made-awake}
use Rattle.rm_host.proofs.MakeLemmas.{unmade, wants-memory}
use Rattle.rm_host.proofs.calls.make_node.Goals as goal

pub returns-in_err-make-clause-reason : goal.returns-in_err-make-clause-reason
returns-in_err-make-clause-reason g c =
    let p = err_from_is_err_and c.from_residual.result c.from_residual.ensures.1 in
    let told = faults_of g.D.Disk.told g.L.Link.told in
    let e = c.in_err-make.field-0.0 in
    call-ends (told c.args.host.now) _ e c.from_residual.result (p.1 ∙ ap Err p.2)
    (made-awake e c.in_err-make.ensures.refusals) c.in_err-make.ensures.cause

pub returns-in_err-make-clause-inner : goal.returns-in_err-make-clause-inner
returns-in_err-make-clause-inner g c =
    let p = err_from_is_err_and c.from_residual.result c.from_residual.ensures.1 in
    subst (λ r. is_outer r ≡ false) (sym (p.1 ∙ ap Err p.2)) (call-inner c.in_err-make.field-0.0)

pub returns-in_err-make-clause-wanted : goal.returns-in_err-make-clause-wanted
returns-in_err-make-clause-wanted g c =
    let p = err_from_is_err_and c.from_residual.result c.from_residual.ensures.1 in
    λ t same. c.make.ensures.wanted t (c.in_err-make.was ∙ ap Err (wants-memory c.in_err-make.field-0.0
    (cc (p.1, p.2, same))))

pub returns-in_err-make-clause-which : goal.returns-in_err-make-clause-which
returns-in_err-make-clause-which g c =
    let p = err_from_is_err_and c.from_residual.result c.from_residual.ensures.1 in
    subst (λ r. IfErr r (λ e. (e ≡ Memory) ⊎ (e ≡ DiskFault))) (sym (p.1 ∙ ap Err p.2))
    (unmade c.in_err-make.field-0.0 c.in_err-make.ensures.refusals)

pub returns-clause-has : goal.returns-clause-has
returns-clause-has g c = λ t.
    subst (λ (s : Stored). Has ((Made c.args.number c.args.address ∷ []) ∷ []) (g.D.Disk.told c.make.new.disk).past s)
    c.in_ok-make.ensures.made (c.in_ok-make.ensures.has t)
