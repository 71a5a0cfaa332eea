use Rattle.std.proofs.Common.{◌≡◌, drop, map}
use Rattle.record_batch.specs.Fact.{fact_of}
use Rattle.rm_sides.specs.Destination.Messages.{numbers_of, ranges_onto}
use Rattle.record_batch.specs.Sequences.Destinations.{received}
use Rattle.tables_ahead.specs.Known.{AreNumbers}
use Rattle.tables_ahead.proofs.numbers.insert_received.Given as goal

abbrev pub invariant-loop-given : goal.invariant-loop-given
invariant-loop-given l = record {
  numbers_ : AreNumbers (numbers_of (received (map fact_of (drop l.given-index l.batch)) l.seq));
  told : ranges_onto l.numbers.ranges (numbers_of (received (map fact_of (drop l.given-index l.batch)) l.seq))
      ≡ ranges_onto l.fn.numbers.ranges (numbers_of (received (map fact_of l.batch) l.seq));
}
