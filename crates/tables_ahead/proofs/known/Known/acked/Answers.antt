use Rattle.std.proofs.Common.{[], ◌++◌, List, map, sym, ap, ◌∙◌}
use Rattle.rm_sides.specs.Ranges.Changes.{united}
use Rattle.record_batch.specs.declared.record.Record.{Record}
use Rattle.record_batch.specs.Fact.{fact_of}
use Rattle.record_batch.specs.Sequences.Sources.{acked}
use Rattle.tables_ahead.specs.Known.{all_records, KnownRecords}
use Rattle.tables_ahead.proofs.GatheredLemmas.{acked-both}
use Rattle.tables_ahead.proofs.known.Known.acked.Goals as goal

pub returns : goal.returns
returns c =
    let r = c.self.inside.tables.now.records in
    let d = map fact_of c.self.inside.batch.items in
    let s = c.args.seq in
    c.in_ok-unite_acked.ensures
    ∙ ap (λ rs. united rs (acked (map fact_of c.as_slice.result.now) s)) c.in_ok-numbers.ensures
    ∙ ap (λ (xs : List Record). united (united [] (acked r s)) (acked (map fact_of xs) s)) c.as_slice.ensures.value
    ∙ sym (acked-both r d s) ∙ ap (λ (k : KnownRecords). united [] (acked (all_records k) s)) c.self.view_is
