use Rattle.std.proofs.Common.{◌≡◌, ◌≤◌, ◌+◌, drop, length, map}
use Rattle.record_batch.specs.Fact.{fact_of}
use Rattle.record_batch.specs.Sequences.Sources.{accepted}
use Rattle.tables_ahead.proofs.batch.accepted_in.Given as goal

abbrev pub invariant-loop-given : goal.invariant-loop-given
invariant-loop-given l = record {
  few : l.count ≤ l.given-index;
  told : l.count + length (accepted (map fact_of (drop l.given-index l.batch)) l.seq)
      ≡ length (accepted (map fact_of l.batch) l.seq);
}
