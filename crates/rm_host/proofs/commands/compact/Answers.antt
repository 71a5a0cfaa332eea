use Rattle.std.proofs.Common.{◌∙◌, Err, ap, sym, subst}
use Rattle.std.proofs.lemmas.Result.{err_from_is_err_and}
use Rattle.rm_host.specs.Compaction.{Compaction}
use Rattle.rm_host.specs.Ends.{faults_of}
use Rattle.rm_host.proofs.CompactionLemmas.{done, fails, unmounted, unprinted}
use Rattle.rm_host.proofs.EndLemmas.{hands, then, wants}
use Rattle.rm_host.proofs.commands.compact.Goals as goal

pub returns-in_err-node-clause-compacts : goal.returns-in_err-node-clause-compacts
returns-in_err-node-clause-compacts g c =
    let r = c.from_residual in
    let p = err_from_is_err_and r.result r.ensures.1 in
    let first = g.D.Disk.told c.args.host.now.disk in
    let now = g.D.Disk.told c.mount.new.host.disk in
    let why = c.in_err-node.ensures.unfound in
    subst (λ x. Compaction g.D.Disk.tells first now x) (sym ((p.1 ∙ ap Err p.2) ∙ ap Err why.1))
    (unmounted g.D.Disk.tells first now why.0 why.2)

pub returns-in_err-compact_node-clause-compacts : goal.returns-in_err-compact_node-clause-compacts
returns-in_err-compact_node-clause-compacts g c =
    let r = c.from_residual-in_err-compact_node in
    let p = err_from_is_err_and r.result r.ensures.1 in
    let told = g.D.Disk.told in
    let first = told c.args.host.now.disk in
    let now = told c.compact_node.new.host.disk in
    subst (λ x. Compaction g.D.Disk.tells first now x) (sym (p.1 ∙ ap Err p.2))
    (fails g.D.Disk.tells first (told c.mount.new.host.disk) now c.in_ok-node.node c.compact_node.new.node
    c.in_err-compact_node.field-0.0 c.in_ok-node.ensures.found c.in_ok-node.ensures.mounted.looks
    c.in_err-compact_node.ensures.compacts)

pub returns-in_err-compacted_text-clause-compacts : goal.returns-in_err-compacted_text-clause-compacts
returns-in_err-compacted_text-clause-compacts g c =
    let r = c.from_residual-in_err-compacted_text in
    let p = err_from_is_err_and r.result r.ensures.1 in
    let told = g.D.Disk.told in
    let first = told c.args.host.now.disk in
    let now = told c.compact_node.new.host.disk in
    subst (λ x. Compaction g.D.Disk.tells first now x) (sym (p.1 ∙ ap Err p.2))
    (unprinted g.D.Disk.tells first (told c.mount.new.host.disk) now c.in_ok-node.node c.compact_node.new.node
    c.in_ok-node.ensures.found c.in_ok-compact_node.ensures.compacts)

pub returns-clause-compacts : goal.returns-clause-compacts
returns-clause-compacts g c =
    let told = g.D.Disk.told in
    done g.D.Disk.tells (told c.args.host.now.disk) (told c.mount.new.host.disk) (told c.compact_node.new.host.disk)
    c.in_ok-node.node c.compact_node.new.node c.in_ok-compacted_text.field-0 c.entries-before.result
    c.entries-after.result c.in_ok-node.ensures.found c.in_ok-compact_node.ensures.compacts c.entries-before.ensures
    c.entries-after.ensures c.in_ok-compacted_text.ensures

pub returns-in_err-compact_node-clause-reason : goal.returns-in_err-compact_node-clause-reason
returns-in_err-compact_node-clause-reason g c =
    let seen = faults_of g.D.Disk.told g.L.Link.told in
    let r = c.from_residual-in_err-compact_node in
    let p = err_from_is_err_and r.result r.ensures.1 in
    hands (seen c.args.host.now) (seen c.mount.new.host) (seen c.compact_node.new.host)
    c.in_err-compact_node.field-0.0 r.result (p.1 ∙ ap Err p.2) c.in_ok-node.ensures.reason
    c.in_err-compact_node.ensures.reason

pub returns-in_err-compacted_text-clause-reason : goal.returns-in_err-compacted_text-clause-reason
returns-in_err-compacted_text-clause-reason g c =
    let seen = faults_of g.D.Disk.told g.L.Link.told in
    let r = c.from_residual-in_err-compacted_text in
    let p = err_from_is_err_and r.result r.ensures.1 in
    let first = seen c.args.host.now in
    let now = seen c.compact_node.new.host in
    wants first now r.result (p.1 ∙ ap Err p.2)
    (then first (seen c.mount.new.host) now _ _ _ c.in_ok-node.ensures.reason c.in_ok-compact_node.ensures.reason)

pub returns-clause-reason : goal.returns-clause-reason
returns-clause-reason g c =
    let seen = faults_of g.D.Disk.told g.L.Link.told in
    then (seen c.args.host.now) (seen c.mount.new.host) (seen c.compact_node.new.host) _ _ _
    c.in_ok-node.ensures.reason c.in_ok-compact_node.ensures.reason
