use Rattle.std.proofs.Common.{◌≡◌, ◌+◌, ◌≤◌, drop, map, min}
use Rattle.record_batch.specs.Fact.{fact_of}
use Rattle.record_batch.specs.Sequences.Makers.{counter}
use Rattle.tables_ahead.proofs.batch.drawn_in.Given as goal

abbrev pub invariant-loop-given : goal.invariant-loop-given
invariant-loop-given l = record {
  bits : l.count ≤ 18446744073709551615;
  told : min (l.count + counter (map fact_of (drop l.given-index l.batch))) 18446744073709551615
      ≡ min (l.drawn + counter (map fact_of l.batch)) 18446744073709551615;
}
