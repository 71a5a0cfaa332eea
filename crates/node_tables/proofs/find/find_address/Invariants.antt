use Rattle.std.proofs.Common.{◌≡◌, drop, map}
use Rattle.std.specs.List.{flat_map}
use Rattle.record_batch.specs.Fact.{fact_of}
use Rattle.record_batch.specs.Sequences.Makers.{addresses_of}
use Rattle.node_tables.proofs.find.find_address.Given as goal

abbrev pub invariant-loop-known : goal.invariant-loop-known
invariant-loop-known l =
    flat_map addresses_of (map fact_of (drop l.known-index l.kept)) ≡ flat_map addresses_of (map fact_of l.kept)
