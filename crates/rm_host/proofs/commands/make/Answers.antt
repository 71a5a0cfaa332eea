use Rattle.std.proofs.Common.{◌∙◌, Err, List, ap, inl, inr, refl, subst, sym}
use Rattle.std.proofs.lemmas.Result.{err_from_is_err_and}
use Rattle.node_store.specs.Changes.{WasNotMade}
use Rattle.rm_disk.specs.Call.{Call}
use Rattle.rm_host.specs.Ends.{faults_of}
use Rattle.rm_host.specs.Makings.{Making}
use Rattle.rm_host.proofs.EndLemmas.{hands, then, wants}
use Rattle.rm_host.proofs.MakeLemmas.{unempty, unempty-ends, unmade-disk, unmade-ends}
use Rattle.rm_host.proofs.commands.make.Goals as goal

pub returns-in_err-make_node-clause-reason : goal.returns-in_err-make_node-clause-reason
returns-in_err-make_node-clause-reason g c =
    let seen = faults_of g.D.Disk.told g.L.Link.told in
    let r = c.from_residual-in_err-make_node in
    let p = err_from_is_err_and r.result r.ensures.1 in
    hands (seen c.args.host.now) (seen c.check_empty.new.host) (seen c.make_node.new.host) c.in_err-make_node.field-0.0
    r.result (p.1 ∙ ap Err p.2) c.in_ok-check_empty.ensures.reason c.in_err-make_node.ensures.reason

pub returns-in_err-from_slice-clause-reason : goal.returns-in_err-from_slice-clause-reason
returns-in_err-from_slice-clause-reason g c =
    let seen = faults_of g.D.Disk.told g.L.Link.told in
    let r = c.from_residual-in_err-from_slice in
    let p = err_from_is_err_and r.result r.ensures.1 in
    let first = seen c.args.host.now in
    let made = seen c.make_node.new.host in
    wants first made r.result (p.1 ∙ ap Err p.2)
    (then first (seen c.check_empty.new.host) made _ _ _ c.in_ok-check_empty.ensures.reason
    c.in_ok-make_node.ensures.reason)

pub returns-clause-reason : goal.returns-clause-reason
returns-clause-reason g c =
    let seen = faults_of g.D.Disk.told g.L.Link.told in
    then (seen c.args.host.now) (seen c.check_empty.new.host) (seen c.make_node.new.host) _ _ _
    c.in_ok-check_empty.ensures.reason c.in_ok-make_node.ensures.reason

pub returns-in_err-check_empty-clause-makes : goal.returns-in_err-check_empty-clause-makes
returns-in_err-check_empty-clause-makes g c =
    let r = c.from_residual in
    let p = err_from_is_err_and r.result r.ensures.1 in
    let told = g.D.Disk.told in
    let net = g.L.Link.told in
    let did = c.check_empty.ensures in
    subst (λ x. Making g.D.Disk.tells (told c.args.host.now.disk) (told c.check_empty.new.host.disk)
    (net c.args.host.now.link) (net c.check_empty.new.host.link) c.args.number c.args.address x)
    (sym (p.1 ∙ ap Err p.2))
    (record {
      ends = unempty-ends c.in_err-check_empty.field-0.0 c.in_err-check_empty.ensures.which;
      disk = λ t. unempty (told c.args.host.now.disk) (told c.check_empty.new.host.disk) c.args.number c.args.address
          c.in_err-check_empty.field-0.0 c.in_err-check_empty.ensures.which
          (λ is. did.full t (c.in_err-check_empty.was ∙ ap Err is)) (did.past t);
      link = did.link;
    })

pub returns-in_err-make_node-clause-makes : goal.returns-in_err-make_node-clause-makes
returns-in_err-make_node-clause-makes g c =
    let r = c.from_residual-in_err-make_node in
    let p = err_from_is_err_and r.result r.ensures.1 in
    let told = g.D.Disk.told in
    let net = g.L.Link.told in
    let did = c.make_node.ensures in
    let first = told c.args.host.now.disk in
    let mid = told c.check_empty.new.host.disk in
    let last = told c.make_node.new.host.disk in
    subst (λ x. Making g.D.Disk.tells first last (net c.args.host.now.link) (net c.make_node.new.host.link)
    c.args.number c.args.address x)
    (sym (p.1 ∙ ap Err p.2))
    (record {
      ends = unmade-ends c.in_err-make_node.field-0.0 c.in_err-make_node.ensures.which;
      disk = λ t. unmade-disk first last c.args.number c.args.address c.in_err-make_node.field-0.0
          c.in_err-make_node.ensures.which (c.in_ok-check_empty.ensures.empty t)
          (λ is. subst (λ (past : List Call). WasNotMade past last.past) (c.in_ok-check_empty.ensures.past t)
          (did.wanted t (c.in_err-make_node.was ∙ ap Err is)));
      link = did.link ∙ c.in_ok-check_empty.ensures.link;
    })

pub returns-in_err-from_slice-clause-makes : goal.returns-in_err-from_slice-clause-makes
returns-in_err-from_slice-clause-makes g c =
    let r = c.from_residual-in_err-from_slice in
    let p = err_from_is_err_and r.result r.ensures.1 in
    let told = g.D.Disk.told in
    let net = g.L.Link.told in
    subst (λ x. Making g.D.Disk.tells (told c.args.host.now.disk) (told c.make_node.new.host.disk)
    (net c.args.host.now.link) (net c.make_node.new.host.link) c.args.number c.args.address x)
    (sym (p.1 ∙ ap Err p.2))
    (record {
      ends = inr (inl refl);
      disk = λ t. (c.in_ok-check_empty.ensures.empty t, inr (c.in_ok-make_node.ensures.has t));
      link = c.in_ok-make_node.ensures.link ∙ c.in_ok-check_empty.ensures.link;
    })

pub returns-clause-makes : goal.returns-clause-makes
returns-clause-makes g c = record {
  ends = c.in_ok-from_slice.ensures;
  disk = λ t. (c.in_ok-check_empty.ensures.empty t, c.in_ok-make_node.ensures.has t);
  link = c.in_ok-make_node.ensures.link ∙ c.in_ok-check_empty.ensures.link;
}
