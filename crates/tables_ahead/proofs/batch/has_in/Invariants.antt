use Rattle.std.proofs.Common.{◌≡◌, drop, map}
use Rattle.rm_base.specs.NumberSet.{has_number}
use Rattle.record_batch.specs.Fact.{fact_of}
use Rattle.rm_sides.specs.Destination.Messages.{numbers_of}
use Rattle.record_batch.specs.Sequences.Destinations.{received}
use Rattle.tables_ahead.proofs.batch.has_in.Given as goal

abbrev pub invariant-loop-given : goal.invariant-loop-given
invariant-loop-given l =
    has_number (numbers_of (received (map fact_of (drop l.given-index l.batch)) l.seq)) l.number
    ≡ has_number (numbers_of (received (map fact_of l.batch) l.seq)) l.number
