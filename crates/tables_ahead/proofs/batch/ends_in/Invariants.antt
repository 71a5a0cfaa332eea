use Rattle.std.proofs.Common.{◌≡◌, drop, map}
use Rattle.record_batch.specs.Fact.{fact_of}
use Rattle.record_batch.specs.Sequences.Destinations.{has_end}
use Rattle.tables_ahead.proofs.batch.ends_in.Given as goal

abbrev pub invariant-loop-given : goal.invariant-loop-given
invariant-loop-given l = has_end (map fact_of (drop l.given-index l.batch)) l.seq ≡ has_end (map fact_of l.batch) l.seq
