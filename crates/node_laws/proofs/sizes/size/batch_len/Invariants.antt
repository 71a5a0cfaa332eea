use Rattle.std.proofs.Common.{◌≡◌, map, take}
use Rattle.std.specs.List.{AllByRecursion}
use Rattle.record_batch.specs.Fact.{fact_of}
use Rattle.node_laws.specs.Sizes.Size.{capped, batch_size}
use Rattle.node_laws.specs.Sizes.Typed.{IsTyped}
use Rattle.node_laws.proofs.sizes.size.batch_len.Given as goal

abbrev pub invariant-loop-given : goal.invariant-loop-given
invariant-loop-given l = record {
  size : l.total ≡ capped (batch_size (map fact_of (take l.given-index l.batch)));
  typed : AllByRecursion IsTyped (map fact_of (take l.given-index l.batch));
}
