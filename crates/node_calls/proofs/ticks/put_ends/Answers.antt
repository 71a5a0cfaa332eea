use Rattle.std.proofs.Common.{◌≡◌, List, [], ◌∷◌, ◌++◌, map, sym, ap, subst, ◌∙◌, append_assoc}
use Rattle.std.specs.List.{AllByRecursion}
use Rattle.std.specs.Vec.Iter.{into_iter_items}
use Rattle.record_batch.specs.Fact.{Fact, fact_of}
use Rattle.tables_ahead.specs.Known.{all_records}
use Rattle.node_calls.specs.Records.{IsEnding}
use Rattle.node_calls.proofs.EndLemmas.{ending-ahead}
use Rattle.node_calls.proofs.ticks.put_ends.Goals as goal

pub push-requires : goal.push-requires
push-requires c =
    let f = fact_of c.in-Some.given in
    let rest = map fact_of (into_iter_items c.next.new.self) in
    let is : map fact_of (into_iter_items c.loop-given.rest) ≡ f ∷ rest = ap (map fact_of) c.in-Some.ensures.items in
    ending-ahead (all_records c.loop-given.ahead) f (subst (AllByRecursion IsEnding) is c.loop-given.invariant.ends).0

pub loop-given-preserved : goal.loop-given-preserved
loop-given-preserved c =
    let f = fact_of c.in-Some.given in
    let rest = map fact_of (into_iter_items c.next.new.self) in
    let before = c.loop-given.ahead.delta in
    let is : map fact_of (into_iter_items c.loop-given.rest) ≡ f ∷ rest = ap (map fact_of) c.in-Some.ensures.items in
    record {
      records = c.push.ensures.records ∙ c.loop-given.invariant.records;
      delta =
          ap (λ (ds : List Fact). ds ++ rest) c.in_ok-push.ensures.ok
          ∙ append_assoc before (f ∷ []) rest
          ∙ ap (λ (xs : List Fact). before ++ xs) (sym is)
          ∙ c.loop-given.invariant.delta;
      ends = (subst (AllByRecursion IsEnding) is c.loop-given.invariant.ends).1;
    }
