use Rattle.std.proofs.Common.{◌≡◌, List, ◌∷◌, map, ap, subst}
use Rattle.std.specs.Vec.Iter.{into_iter_items}
use Rattle.record_batch.specs.Fact.{Fact, fact_of}
use Rattle.node_tables.specs.Ready.{IsReady}
use Rattle.node_tables.proofs.ApplyLemmas.{Applied, applied-more, applied-next, no-error}
use Rattle.node_tables.proofs.tables.Tables.apply_all.Goals as goal

pub loop-given-preserved : goal.loop-given-preserved
loop-given-preserved c =
    let f = fact_of c.in-Some.given in
    let rest = map fact_of (into_iter_items c.next.new.self) in
    let old = c.args.self.now.records in
    let here = c.loop-given.self in
    let batch = map fact_of c.args.batch.items in
    let is : map fact_of (into_iter_items c.loop-given.rest) ≡ f ∷ rest = ap (map fact_of) c.in-Some.ensures.items in
    record {
      some =
          applied-more old here.records c.apply.new.self.records batch rest f
          (subst (λ (xs : List Fact). Applied old here.records batch xs) is c.loop-given.invariant.some)
          c.in_ok-apply.ensures.fit c.in_ok-apply.ensures.ok;
      ready = λ h.
          c.in_ok-apply.ensures.next rest
          (subst (λ (xs : List Fact). IsReady here xs) is (c.loop-given.invariant.ready h));
    }

pub returns-in_err-apply-clause-done : goal.returns-in_err-apply-clause-done
returns-in_err-apply-clause-done c ready fit =
    let f = fact_of c.in-Some.given in
    let rest = map fact_of (into_iter_items c.next.new.self) in
    let old = c.args.self.now.records in
    let here = c.loop-given.self in
    let batch = map fact_of c.args.batch.items in
    let is : map fact_of (into_iter_items c.loop-given.rest) ≡ f ∷ rest = ap (map fact_of) c.in-Some.ensures.items in
    absurd (no-error here.records f c.apply.result c.in_err-apply.field-0.0 c.in_err-apply.was
    (c.apply.ensures.ready rest (subst (λ (xs : List Fact). IsReady here xs) is (c.loop-given.invariant.ready ready)))
    c.apply.ensures.misfit
    (applied-next old here.records batch rest f
    (subst (λ (xs : List Fact). Applied old here.records batch xs) is c.loop-given.invariant.some) fit))
