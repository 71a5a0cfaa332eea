use Rattle.std.proofs.Common.{◌≡◌, drop, map}
use Rattle.record_batch.specs.Fact.{fact_of}
use Rattle.record_batch.specs.Sequences.Destinations.{is_stopped}
use Rattle.tables_ahead.proofs.batch.stops_in.Given as goal

abbrev pub invariant-loop-given : goal.invariant-loop-given
invariant-loop-given l =
    is_stopped (map fact_of (drop l.given-index l.batch)) l.seq ≡ is_stopped (map fact_of l.batch) l.seq
