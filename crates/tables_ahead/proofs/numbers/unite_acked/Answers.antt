use Rattle.std.proofs.Common.{◌+◌, List, drop, map, sym, ap, ◌∙◌}
use Rattle.rm_sides.specs.Ranges.Changes.{united}
use Rattle.record_batch.specs.declared.record.Record.{Record}
use Rattle.record_batch.specs.Fact.{fact_of}
use Rattle.record_batch.specs.Sequences.GatherLemmas.{united-append}
use Rattle.record_batch.specs.Sequences.Sources.{acked, acked_of}
use Rattle.tables_ahead.proofs.LoopLemmas.{at_item, live_item}
use Rattle.tables_ahead.proofs.numbers.unite_acked.Goals as goal

pub add_acked-requires : goal.add_acked-requires
add_acked-requires c =
    (live_item c.args.batch.now c.loop-given.given-index c.given-item.result c.loop-given-test.true c.given-item.is
    c.loop-given.invariant.live).0

pub loop-given-preserved : goal.loop-given-preserved
loop-given-preserved c =
    let s = c.args.seq in
    let before = c.loop-given.numbers.ranges in
    let rest = acked (map fact_of (drop (c.loop-given.given-index + 1) c.args.batch.now)) s in
    record {
      live = (live_item c.args.batch.now c.loop-given.given-index c.given-item.result c.loop-given-test.true
          c.given-item.is c.loop-given.invariant.live).1;
      told =
          sym (at_item (λ (xs : List Record). united before (acked (map fact_of xs) s)) c.args.batch.now
          c.loop-given.given-index c.given-item.result c.loop-given-test.true c.given-item.is
          ∙ united-append before (acked_of s (fact_of c.given-item.result)) rest
          ∙ ap (λ rs. united rs rest) (sym c.in_ok-add_acked.ensures))
          ∙ c.loop-given.invariant.told;
    }
