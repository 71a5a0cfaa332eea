use Rattle.std.proofs.Common.{◌≡◌, ◌++◌, drop, map}
use Rattle.std.specs.List.{flat_map}
use Rattle.record_batch.specs.Fact.{fact_of}
use Rattle.node_waits.specs.Keys.Settled.{touched_by}
use Rattle.node_waits.proofs.keys.touched.named.Given as goal

-- those so far, and those of the records that are left
abbrev pub invariant-loop-rec : goal.invariant-loop-rec
invariant-loop-rec l =
    l.touched.items ++ flat_map touched_by (map fact_of (drop l.rec-index l.batch))
    ≡ flat_map touched_by (map fact_of l.batch)
