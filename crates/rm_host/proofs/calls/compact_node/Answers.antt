use Rattle.std.proofs.Common.{◌≡◌, ◌∙◌, Err, ap, false, sym, subst}
use Rattle.std.proofs.lemmas.Result.{err_from_is_err_and}
use Rattle.node_store.specs.Rewrites.{rewrite_refusal}
use Rattle.rm_disk.specs.Cause.{HasCause}
use Rattle.rm_node.specs.Compacted.{Compacts}
use Rattle.rm_node.specs.Ends.{Ended}
use Rattle.rm_host.specs.Compaction.{call_end}
use Rattle.rm_host.specs.Ends.{faults_of, is_outer}
use Rattle.rm_host.proofs.CompactionLemmas.{ends-so, of-up, up-awake}
use Rattle.rm_host.proofs.EndLemmas.{broke-by, call-ends, call-inner}
use Rattle.rm_host.proofs.calls.compact_node.Goals as goal

pub returns-in_err-compact-clause-compacts : goal.returns-in_err-compact-clause-compacts
returns-in_err-compact-clause-compacts g c =
    let p = err_from_is_err_and c.from_residual.result c.from_residual.ensures.1 in
    let told = g.D.Disk.told in
    let first = told c.args.host.now.disk in
    let now = told c.compact.new.disk in
    let e = c.in_err-compact.field-0.0 in
    let did = of-up g.D.Disk.tells first now c.args.node.now c.compact.new.self _ c.requires.up.up
    c.in_err-compact.ensures in
    let so = ends-so e (up-awake (rewrite_refusal c.args.node.now.stored) e did.ends) in
    subst (λ r. Compacts g.D.Disk.tells first now c.args.node.now c.compact.new.self (call_end r))
    (sym (p.1 ∙ ap Err p.2))
    (subst (λ (ended : Ended). Compacts g.D.Disk.tells first now c.args.node.now c.compact.new.self ended) so did)

pub returns-in_err-compact-clause-reason : goal.returns-in_err-compact-clause-reason
returns-in_err-compact-clause-reason g c =
    let p = err_from_is_err_and c.from_residual.result c.from_residual.ensures.1 in
    let told = g.D.Disk.told in
    let old = faults_of told g.L.Link.told c.args.host.now in
    let new = record old { disk = (told c.compact.new.disk).faults } in
    let e = c.in_err-compact.field-0.0 in
    let did = of-up g.D.Disk.tells (told c.args.host.now.disk) (told c.compact.new.disk) c.args.node.now
    c.compact.new.self _ c.requires.up.up c.in_err-compact.ensures in
    call-ends old new e c.from_residual.result (p.1 ∙ ap Err p.2)
    (up-awake (rewrite_refusal c.args.node.now.stored) e did.ends)
    (subst (λ b. HasCause old.disk new.disk b) (broke-by e) c.in_err-compact.ensures.cause)

pub returns-in_err-compact-clause-inner : goal.returns-in_err-compact-clause-inner
returns-in_err-compact-clause-inner g c =
    let p = err_from_is_err_and c.from_residual.result c.from_residual.ensures.1 in
    subst (λ r. is_outer r ≡ false) (sym (p.1 ∙ ap Err p.2)) (call-inner c.in_err-compact.field-0.0)

pub returns-clause-compacts : goal.returns-clause-compacts
returns-clause-compacts g c =
    of-up g.D.Disk.tells (g.D.Disk.told c.args.host.now.disk) (g.D.Disk.told c.compact.new.disk) c.args.node.now
    c.compact.new.self _ c.requires.up.up c.in_ok-compact.ensures
