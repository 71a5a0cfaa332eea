use Rattle.std.proofs.Common.{◌∙◌, Err, ap, inl, inr, refl, sym, subst}
use Rattle.std.proofs.lemmas.Result.{err_from_is_err_and}
use Rattle.rm_host.specs.Ends.{faults_of}
use Rattle.rm_host.specs.Importation.{ImportsBytes}
use Rattle.rm_host.proofs.EndLemmas.{hands, then, wants}
use Rattle.rm_host.proofs.ImportationLemmas.{brings-so, fails-so, unempty}
use Rattle.rm_host.proofs.import.import_bytes.Goals as goal

pub returns-in_err-check_empty-clause-imports : goal.returns-in_err-check_empty-clause-imports
returns-in_err-check_empty-clause-imports g c =
    let r = c.from_residual in
    let p = err_from_is_err_and r.result r.ensures.1 in
    let told = g.D.Disk.told in
    let first = told c.args.host.now.disk in
    let now = told c.check_empty.new.host.disk in
    subst (λ x. ImportsBytes g.D.Disk.tells first now c.args.bytes.now x) (sym (p.1 ∙ ap Err p.2))
    (unempty g.D.Disk.tells first now c.args.bytes.now c.in_err-check_empty.field-0.0
    c.in_err-check_empty.ensures.which c.in_err-check_empty.ensures.full)

pub returns-in_err-check_empty-clause-spared : goal.returns-in_err-check_empty-clause-spared
returns-in_err-check_empty-clause-spared g c tells = inr (c.in_err-check_empty.ensures.past tells)

pub returns-in_err-node-clause-imports : goal.returns-in_err-node-clause-imports
returns-in_err-node-clause-imports g c =
    let r = c.from_residual-in_err-node in
    let p = err_from_is_err_and r.result r.ensures.1 in
    let told = g.D.Disk.told in
    let first = told c.args.host.now.disk in
    let now = told c.import_node.new.host.disk in
    subst (λ x. ImportsBytes g.D.Disk.tells first now c.args.bytes.now x) (sym (p.1 ∙ ap Err p.2))
    (fails-so g.D.Disk.tells first now c.args.bytes.now c.in_err-node.field-0.0 c.in_err-node.ensures.why
    c.in_ok-check_empty.ensures.empty
    (λ tells other. c.in_err-node.ensures.untouched tells other ∙ c.in_ok-check_empty.ensures.past tells))

pub returns-in_err-node-clause-spared : goal.returns-in_err-node-clause-spared
returns-in_err-node-clause-spared g c tells = inl (c.in_ok-check_empty.ensures.empty tells)

pub returns-in_err-imported_text-clause-imports : goal.returns-in_err-imported_text-clause-imports
returns-in_err-imported_text-clause-imports g c =
    let r = c.from_residual-in_err-imported_text in
    let p = err_from_is_err_and r.result r.ensures.1 in
    let told = g.D.Disk.told in
    let first = told c.args.host.now.disk in
    let now = told c.import_node.new.host.disk in
    subst (λ x. ImportsBytes g.D.Disk.tells first now c.args.bytes.now x) (sym (p.1 ∙ ap Err p.2)) tt

pub returns-in_err-imported_text-clause-spared : goal.returns-in_err-imported_text-clause-spared
returns-in_err-imported_text-clause-spared g c tells = inl (c.in_ok-check_empty.ensures.empty tells)

pub returns-clause-imports : goal.returns-clause-imports
returns-clause-imports g c = record {
  empty = c.in_ok-check_empty.ensures.empty;
  short = c.in_ok-node.ensures.short refl;
  count = c.entries.result;
  brings = brings-so g.D.Disk.tells c.args.bytes.now (g.D.Disk.told c.import_node.new.host.disk).past
      c.in_ok-node.node.stored c.entries.result c.in_ok-node.ensures.imports c.entries.ensures;
  line = c.in_ok-imported_text.ensures;
}

pub returns-clause-spared : goal.returns-clause-spared
returns-clause-spared g c tells = inl (c.in_ok-check_empty.ensures.empty tells)

pub returns-in_err-node-clause-reason : goal.returns-in_err-node-clause-reason
returns-in_err-node-clause-reason g c =
    let seen = faults_of g.D.Disk.told g.L.Link.told in
    let r = c.from_residual-in_err-node in
    let p = err_from_is_err_and r.result r.ensures.1 in
    hands (seen c.args.host.now) (seen c.check_empty.new.host) (seen c.import_node.new.host) c.in_err-node.field-0.0
    r.result (p.1 ∙ ap Err p.2) c.in_ok-check_empty.ensures.reason c.in_err-node.ensures.reason

pub returns-in_err-imported_text-clause-reason : goal.returns-in_err-imported_text-clause-reason
returns-in_err-imported_text-clause-reason g c =
    let seen = faults_of g.D.Disk.told g.L.Link.told in
    let r = c.from_residual-in_err-imported_text in
    let p = err_from_is_err_and r.result r.ensures.1 in
    let first = seen c.args.host.now in
    let made = seen c.import_node.new.host in
    wants first made r.result (p.1 ∙ ap Err p.2)
    (then first (seen c.check_empty.new.host) made _ _ _ c.in_ok-check_empty.ensures.reason c.in_ok-node.ensures.reason)

pub returns-clause-reason : goal.returns-clause-reason
returns-clause-reason g c =
    let seen = faults_of g.D.Disk.told g.L.Link.told in
    then (seen c.args.host.now) (seen c.check_empty.new.host) (seen c.import_node.new.host) _ _ _
    c.in_ok-check_empty.ensures.reason c.in_ok-node.ensures.reason
