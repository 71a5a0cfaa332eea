use Rattle.std.proofs.Common.{◌≡◌, ◌++◌, length, map}
use Rattle.std.specs.List.{AllByRecursion}
use Rattle.std.specs.Vec.Iter.{into_iter_items}
use Rattle.record_batch.specs.Fact.{fact_of}
use Rattle.node_calls.specs.Records.{IsEnding}
use Rattle.node_calls.proofs.ticks.put_ends.Given as goal

-- those that are left go behind those that are ahead
abbrev pub invariant-loop-given : goal.invariant-loop-given
invariant-loop-given l = record {
  records : l.ahead.records ≡ l.fn.ahead.records;
  delta : l.ahead.delta ++ map fact_of (into_iter_items l.rest) ≡ l.fn.ahead.delta ++ map fact_of l.fn.ends.items;
  ends : AllByRecursion IsEnding (map fact_of (into_iter_items l.rest));
}

abbrev pub decreases-loop-given : goal.decreases-loop-given
decreases-loop-given l = length (into_iter_items l.rest)
