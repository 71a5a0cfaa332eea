use Rattle.std.proofs.Common.{map}
use Rattle.record_batch.specs.Fact.{fact_of}
use Rattle.record_batch.proofs.LoopOfRecords.{IsReadSoFar}
use Rattle.record_batch.proofs.read.take_records.Given as goal

abbrev pub invariant-loop : goal.invariant-loop
invariant-loop l = IsReadSoFar l.count l.counter l.behind (map fact_of l.records) l.rest
