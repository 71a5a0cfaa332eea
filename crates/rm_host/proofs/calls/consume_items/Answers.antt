use Rattle.std.proofs.Common.{◌≡◌, ◌∙◌, Err, ap, true, false, refl, sym, subst}
use Rattle.std.proofs.lemmas.Result.{err_from_is_err_and}
use Rattle.rm_disk.specs.Cause.{HasCause}
use Rattle.rm_disk.specs.Journal.JournalState.{end_of}
use Rattle.rm_node.specs.Asked as asks
use Rattle.rm_node.specs.Called.{Called}
use Rattle.rm_node.specs.Ends.{Ended}
use Rattle.rm_protocol.specs.Calls.{consume as consume_answer}
use Rattle.rm_host.specs.Compaction.{call_end}
use Rattle.rm_host.specs.Consumption.{ConsumesItems}
use Rattle.rm_host.specs.Ends.{faults_of, is_of_call, is_outer}
use Rattle.rm_host.specs.declared.end.End.{End}
use Rattle.rm_host.proofs.CompactionLemmas.{ends-so}
use Rattle.rm_host.proofs.ConsumptionLemmas.{called-awake, called-up, some-terms}
use Rattle.rm_host.proofs.EndLemmas.{broke-by, call-ends, call-inner, call-of}
use Rattle.rm_host.proofs.calls.consume_items.Goals as goal

pub returns-in_err-consume-clause-consumes : goal.returns-in_err-consume-clause-consumes
returns-in_err-consume-clause-consumes g c =
    let p = err_from_is_err_and c.from_residual.result c.from_residual.ensures.1 in
    let told = g.D.Disk.told in
    let tells = g.D.Disk.tells in
    let first = told c.args.host.now.disk in
    let now = told c.consume.new.disk in
    let old = c.args.node.now in
    let new = c.consume.new.self in
    let e = c.in_err-consume.field-0.0 in
    let own = some-terms c.there_are_own_terms.ensures in
    let kept = c.in_err-consume.ensures.runs.keeping in
    let a = consume_answer own.0 old.stored.records (end_of old.stored.journal) c.args.seq c.args.upto in
    let did = called-up tells false first now old new a _ c.requires.up.up
    (c.in_err-consume.ensures.does own.0 own.1 kept.0 kept.1 (asks.Consume c.args.seq c.args.upto) refl) in
    let so = ends-so e (called-awake tells false first now old new a e did) in
    subst (λ r. ConsumesItems tells first now old new c.args.seq c.args.upto (call_end r))
    (sym (p.1 ∙ ap Err p.2))
    (own.0, own.1, subst (λ (ended : Ended). Called tells false first now old new a ended) so did)

pub returns-in_err-consume-clause-reason : goal.returns-in_err-consume-clause-reason
returns-in_err-consume-clause-reason g c =
    let p = err_from_is_err_and c.from_residual.result c.from_residual.ensures.1 in
    let told = g.D.Disk.told in
    let tells = g.D.Disk.tells in
    let first = told c.args.host.now.disk in
    let now = told c.consume.new.disk in
    let node = c.args.node.now in
    let old = faults_of told g.L.Link.told c.args.host.now in
    let new = record old { disk = now.faults } in
    let e = c.in_err-consume.field-0.0 in
    let own = some-terms c.there_are_own_terms.ensures in
    let kept = c.in_err-consume.ensures.runs.keeping in
    let a = consume_answer own.0 node.stored.records (end_of node.stored.journal) c.args.seq c.args.upto in
    let did = called-up tells false first now node c.consume.new.self a _ c.requires.up.up
    (c.in_err-consume.ensures.does own.0 own.1 kept.0 kept.1 (asks.Consume c.args.seq c.args.upto) refl) in
    call-ends old new e c.from_residual.result (p.1 ∙ ap Err p.2)
    (called-awake tells false first now node c.consume.new.self a e did)
    (subst (λ b. HasCause old.disk new.disk b) (broke-by e) c.in_err-consume.ensures.cause)

pub returns-in_err-consume-clause-end : goal.returns-in_err-consume-clause-end
returns-in_err-consume-clause-end g c =
    let p = err_from_is_err_and c.from_residual.result c.from_residual.ensures.1 in
    rw p.1 (subst (λ (e : End). is_of_call e ≡ true) (sym p.2) (call-of c.in_err-consume.field-0.0))

pub returns-in_err-consume-clause-inner : goal.returns-in_err-consume-clause-inner
returns-in_err-consume-clause-inner g c =
    let p = err_from_is_err_and c.from_residual.result c.from_residual.ensures.1 in
    subst (λ r. is_outer r ≡ false) (sym (p.1 ∙ ap Err p.2)) (call-inner c.in_err-consume.field-0.0)

pub returns-clause-consumes : goal.returns-clause-consumes
returns-clause-consumes g c =
    let told = g.D.Disk.told in
    let old = c.args.node.now in
    let own = some-terms c.there_are_own_terms.ensures in
    let kept = c.in_ok-consume.ensures.runs.keeping in
    let a = consume_answer own.0 old.stored.records (end_of old.stored.journal) c.args.seq c.args.upto in (
      own.0,
      own.1,
      called-up g.D.Disk.tells false (told c.args.host.now.disk) (told c.consume.new.disk) old c.consume.new.self a _
          c.requires.up.up
          (c.in_ok-consume.ensures.does own.0 own.1 kept.0 kept.1 (asks.Consume c.args.seq c.args.upto) refl),
    )
