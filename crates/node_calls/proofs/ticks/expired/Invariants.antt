use Rattle.std.proofs.Common.{◌≡◌, ◌++◌, drop, map}
use Rattle.record_batch.specs.Fact.{fact_of}
use Rattle.record_batch.specs.Sequences.Makers.{makers}
use Rattle.rm_protocol.specs.Calls.{expired_from}
use Rattle.node_calls.proofs.ticks.expired.Given as goal

abbrev pub invariant-loop-before : goal.invariant-loop-before
invariant-loop-before l =
    let r = l.ahead.records in
    map fact_of l.batch.items ++ expired_from r l.now l.before (drop l.before (makers r))
    ≡ expired_from r l.now 0 (makers r)
