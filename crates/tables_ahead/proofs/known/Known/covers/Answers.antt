use Rattle.std.proofs.Common.{◌≡◌, [], ◌++◌, List, map, sym, ap, ◌∙◌}
use Rattle.rm_sides.specs.Ranges.Changes.{covers_all, united}
use Rattle.record_batch.specs.declared.record.Record.{Record}
use Rattle.record_batch.specs.Fact.{fact_of}
use Rattle.record_batch.specs.Sequences.Sources.{acked}
use Rattle.tables_ahead.specs.Known.{all_records, KnownRecords}
use Rattle.tables_ahead.proofs.GatheredLemmas.{acked-both}
use Rattle.tables_ahead.proofs.known.Known.covers.Goals as goal

pub returns : goal.returns
returns c =
    let r = c.self.inside.tables.now.records in
    let d = map fact_of c.self.inside.batch.items in
    let s = c.args.seq in
    let none : acked d s ≡ [] =
    sym (ap (λ (xs : List Record). acked (map fact_of xs) s) c.as_slice.ensures.value)
    ∙ c.acks_in.ensures c.if-acks_in.false in
    c.covers.ensures
    ∙ ap (λ rs. covers_all rs c.args.ranges.now) (sym (acked-both r d s ∙ ap (united (united [] (acked r s))) none)
    ∙ ap (λ (k : KnownRecords). united [] (acked (all_records k) s)) c.self.view_is)
