use Rattle.std.proofs.Common.{◌+◌, ◌++◌, List, drop, map, sym, ap, ◌∙◌}
use Rattle.record_batch.specs.declared.record.Record.{Record}
use Rattle.record_batch.specs.Fact.{fact_of}
use Rattle.record_batch.specs.Sequences.Sources.{acked}
use Rattle.tables_ahead.specs.Known.{ranges_in}
use Rattle.tables_ahead.proofs.LoopLemmas.{at_item, live_item}
use Rattle.tables_ahead.proofs.numbers.acks_in.Goals as goal

pub acked_by-requires : goal.acked_by-requires
acked_by-requires c =
    (live_item c.args.batch.now c.loop-given.given-index c.given-item.result c.loop-given-test.true c.given-item.is
    c.loop-given.invariant.live).0
