use Rattle.std.proofs.Common.{◌≡◌, ◌++◌, true, drop, map}
use Rattle.std.specs.List.{flat_map, list_all}
use Rattle.record_batch.specs.Fact.{fact_of}
use Rattle.node_tables.specs.Kept.{is_timed_record}
use Rattle.node_tables.specs.Room.{AreBegun, starts, starts_of}
use Rattle.node_tables.proofs.ahead.prepare_all.Given as goal

abbrev pub invariant-loop-given : goal.invariant-loop-given
invariant-loop-given l = record {
  begun : AreBegun l.ahead.items;
  timed : list_all is_timed_record (map fact_of l.batch) ≡ true
      → list_all is_timed_record (map fact_of (drop l.given-index l.batch)) ≡ true;
  left : list_all is_timed_record (map fact_of l.batch) ≡ true
      → starts l.ahead.items ++ flat_map starts_of (map fact_of (drop l.given-index l.batch))
      ≡ starts l.fn.ahead.items ++ flat_map starts_of (map fact_of l.batch);
}
