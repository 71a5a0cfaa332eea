use Rattle.std.proofs.Common.{◌≡◌, ℕ, ◌-◌, ◌++◌, ◌∷◌, [], List, None, length, map, ap, sym, ◌∙◌}
use Rattle.std.proofs.lemmas.List.{map_push}
use Rattle.record_batch.specs.Batch.{fact, fact_at}
use Rattle.record_batch.specs.Fact.{fact_of}
use Rattle.record_batch.proofs.LoopOfRecords.{place-goes_on, place-stops, place-ends}
use Rattle.record_batch.proofs.Loops.{goes_on, stops, is_done}
use Rattle.record_batch.proofs.read.take_records.Goals as goal

pub returns-in-Err-Malformed-clause-err : goal.returns-in-Err-Malformed-clause-err
returns-in-Err-Malformed-clause-err c =
    let none : fact_at c.loop.rest.now ≡ None = rw c.in-Err-Malformed.field-0-is at c.in-Err-Malformed.ensures in (
      stops fact (map fact_of c.loop.records) c.args.count c.loop.counter c.loop.rest.now _ c.loop-test.true none
          c.loop.invariant.read,
      c.saturating_sub.ensures ∙ ap (λ (b : List ℕ). length c.args.batch.now - length b)
          (place-stops c.args.count c.loop.counter c.loop.rest.now _ c.loop-test.true none c.loop.invariant.place),
    )

pub loop-preserved : goal.loop-preserved
loop-preserved c =
    let more : map fact_of c.push.new.self ≡ map fact_of c.loop.records ++ fact_of c.in-Ok.given ∷ [] =
    ap (map fact_of) c.in_ok-push-in-Ok.ensures.ok ∙ map_push fact_of c.loop.records c.in-Ok.given in
    record {
      read = rw more (goes_on fact (map fact_of c.loop.records) c.args.count c.loop.counter c.loop.rest.now
          (fact_of c.in-Ok.given) c.in-Ok.after.now _ c.loop-test.true c.in-Ok.ensures c.loop.invariant.read);
      place = place-goes_on c.args.count c.loop.counter c.loop.rest.now (fact_of c.in-Ok.given) c.in-Ok.after.now _
          c.loop-test.true c.in-Ok.ensures c.loop.invariant.place;
    }

pub returns-clause-ok : goal.returns-clause-ok
returns-clause-ok c = record {
  read = is_done fact (map fact_of c.loop.records) c.args.count c.loop.counter c.loop.rest.now _ c.loop-test.false
      c.loop.invariant.read;
  behind = sym (place-ends c.args.count c.loop.counter c.loop.rest.now _ c.loop-test.false c.loop.invariant.place);
}
