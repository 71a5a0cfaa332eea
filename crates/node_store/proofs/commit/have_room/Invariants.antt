use Rattle.std.proofs.Common.{◌≡◌, drop, map}
use Rattle.std.specs.List.{list_all}
use Rattle.node_tables.specs.Room.{has_room}
use Rattle.record_batch.specs.Fact.{fact_of}
use Rattle.node_store.proofs.commit.have_room.Given as goal

-- those that are left decide
abbrev pub invariant-loop-given : goal.invariant-loop-given
invariant-loop-given l =
    list_all has_room (map fact_of (drop l.given-index l.batch)) ≡ list_all has_room (map fact_of l.batch)
