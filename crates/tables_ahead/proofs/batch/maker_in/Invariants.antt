use Rattle.std.proofs.Common.{◌≡◌, drop, map}
use Rattle.std.specs.Prelude.{slice_get}
use Rattle.record_batch.specs.Fact.{fact_of}
use Rattle.record_batch.specs.Sequences.Makers.{makers}
use Rattle.tables_ahead.proofs.batch.maker_in.Given as goal

abbrev pub invariant-loop-given : goal.invariant-loop-given
invariant-loop-given l =
    slice_get (makers (map fact_of (drop l.given-index l.batch))) l.left
    ≡ slice_get (makers (map fact_of l.batch)) l.place
