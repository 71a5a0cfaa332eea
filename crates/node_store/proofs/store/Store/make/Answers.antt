use Rattle.std.proofs.Common.{◌≡◌, ◌<◌, ◌^◌, [], map, arith, ap, sym, subst}
use Rattle.record_batch.specs.Fact.{fact_of}
use Rattle.node_laws.specs.Records.{IsKept}
use Rattle.node_store.specs.Stored.{Stored, stored}
use Rattle.node_store.proofs.CommitLemmas.{first_so, made_has, made_holds, made_serves}
use Rattle.node_store.proofs.store.Store.make.Goals as goal

pub invariant_of-result : goal.invariant_of-result
invariant_of-result g c =
    let rs : c.new-tables.result.records ≡ [] = cc in
    let e = first_so c.in_ok-journal.journal c.commit.new.journal c.new-tables.result.records
    c.commit.new.tables.records (map fact_of c.in_ok-batch.batch.items) c.args.number c.args.address
    c.in_ok-journal.ensures.made rs c.in_ok-batch.ensures.batch c.in_ok-commit.ensures.stored in
    made_serves c.a_batch_is_its_parts.ensures c.commit.new.journal c.commit.new.tables.records c.args.number
    c.args.address c.first_batch.ensures.text e

pub returns-clause-has : goal.returns-clause-has
returns-clause-has g c tells =
    let rs : c.new-tables.result.records ≡ [] = cc in
    let e = first_so c.in_ok-journal.journal c.commit.new.journal c.new-tables.result.records
    c.commit.new.tables.records (map fact_of c.in_ok-batch.batch.items) c.args.number c.args.address
    c.in_ok-journal.ensures.made rs c.in_ok-batch.ensures.batch c.in_ok-commit.ensures.stored in
    let few : c.args.number < 2 ^ 64 = omega arith in
    let kept = c.a_made_node_has_its_records.ensures c.args.number c.args.address (omega (arith, c.requires.from_one))
    c.requires.within c.first_batch.ensures.text in
    let holds = made_holds _ _ (stored c.in_ok-journal.journal c.new-tables.result.records)
    (stored c.commit.new.journal c.commit.new.tables.records) (map fact_of c.in_ok-batch.batch.items) c.args.number
    c.args.address c.in_ok-batch.ensures.batch c.in_ok-journal.ensures.made rs (c.in_ok-journal.ensures.fits tells)
    (c.in_ok-commit.ensures.changes tells) in
    made_has c.a_batch_is_its_parts.ensures _ (stored c.commit.new.journal c.commit.new.tables.records) c.args.number
    c.args.address few c.first_batch.ensures.text kept holds

pub returns-clause-kept : goal.returns-clause-kept
returns-clause-kept g c =
    let rs : c.new-tables.result.records ≡ [] = cc in
    let e = first_so c.in_ok-journal.journal c.commit.new.journal c.new-tables.result.records
    c.commit.new.tables.records (map fact_of c.in_ok-batch.batch.items) c.args.number c.args.address
    c.in_ok-journal.ensures.made rs c.in_ok-batch.ensures.batch c.in_ok-commit.ensures.stored in
    let kept = c.a_made_node_has_its_records.ensures c.args.number c.args.address (omega (arith, c.requires.from_one))
    c.requires.within c.first_batch.ensures.text in
    subst IsKept (sym (ap (λ (s : Stored). s.records) e)) kept
