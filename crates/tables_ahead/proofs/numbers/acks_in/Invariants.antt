use Rattle.std.proofs.Common.{◌≡◌, drop, map, true}
use Rattle.std.specs.List.{list_all}
use Rattle.record_batch.specs.Fact.{fact_of}
use Rattle.record_batch.specs.Sequences.Sources.{acked}
use Rattle.node_tables.specs.Room.{has_room}
use Rattle.tables_ahead.proofs.numbers.acks_in.Given as goal

abbrev pub invariant-loop-given : goal.invariant-loop-given
invariant-loop-given l = record {
  live : list_all has_room (map fact_of (drop l.given-index l.batch)) ≡ true;
  told : acked (map fact_of (drop l.given-index l.batch)) l.seq ≡ acked (map fact_of l.batch) l.seq;
}
