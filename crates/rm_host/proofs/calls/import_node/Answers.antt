use Rattle.std.proofs.Common.{◌≡◌, ◌∙◌, Err, ap, false, sym, subst}
use Rattle.std.proofs.lemmas.Result.{err_from_is_err_and}
use Rattle.rm_host.specs.Ends.{HasReason, faults_of, is_outer}
use Rattle.rm_host.specs.Importation.{IsNotMade}
use Rattle.rm_host.proofs.EndLemmas.{import-fails, import-inner}
use Rattle.rm_host.proofs.ImportationLemmas.{no-fault, not-made}
use Rattle.rm_host.proofs.calls.import_node.Goals as goal

pub returns-in_err-import-clause-why : goal.returns-in_err-import-clause-why
returns-in_err-import-clause-why g c =
    let p = err_from_is_err_and c.from_residual.result c.from_residual.ensures.1 in
    let e = c.in_err-import.field-0.0 in
    rw p.1 (subst (IsNotMade c.args.bytes.now) (sym p.2)
    (not-made c.args.bytes.now e c.in_err-import.ensures.refusals
    c.in_err-import.ensures.none_short c.in_err-import.ensures.none))

pub returns-in_err-import-clause-untouched : goal.returns-in_err-import-clause-untouched
returns-in_err-import-clause-untouched g c tells =
    let p = err_from_is_err_and c.from_residual.result c.from_residual.ensures.1 in
    let e = c.in_err-import.field-0.0 in
    rw p.1 (λ other. (c.in_err-import.ensures.untouched tells
    (no-fault e (λ same. other (p.2 ∙ same)))).0)

pub returns-in_err-import-clause-reason : goal.returns-in_err-import-clause-reason
returns-in_err-import-clause-reason g c =
    let p = err_from_is_err_and c.from_residual.result c.from_residual.ensures.1 in
    let old = faults_of g.D.Disk.told g.L.Link.told c.args.host.now in
    let new = record old { disk = (g.D.Disk.told c.import.new.disk).faults } in
    subst (λ r. HasReason old new r) (sym (p.1 ∙ ap Err p.2))
    (import-fails old new c.in_err-import.field-0.0 c.in_err-import.ensures.cause)

pub returns-in_err-import-clause-inner : goal.returns-in_err-import-clause-inner
returns-in_err-import-clause-inner g c =
    let p = err_from_is_err_and c.from_residual.result c.from_residual.ensures.1 in
    subst (λ r. is_outer r ≡ false) (sym (p.1 ∙ ap Err p.2)) (import-inner c.in_err-import.field-0.0)
