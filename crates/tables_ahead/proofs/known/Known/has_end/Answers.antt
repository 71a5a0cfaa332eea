use Rattle.std.proofs.Common.{◌++◌, List, map, sym, ap, ◌∙◌}
use Rattle.std.specs.Prelude.{◌||◌}
use Rattle.record_batch.specs.Sequences.Destinations.{has_end}
use Rattle.record_batch.specs.declared.record.Record.{Record}
use Rattle.record_batch.specs.Fact.{fact_of}
use Rattle.tables_ahead.specs.Known.{all_records, KnownRecords}
use Rattle.tables_ahead.proofs.GatheredLemmas.{end-both}
use Rattle.tables_ahead.proofs.known.Known.has_end.Goals as goal

pub returns-then-has_end : goal.returns-then-has_end
returns-then-has_end c =
    let r = c.self.inside.tables.now.records in
    let d = map fact_of c.self.inside.batch.items in
    let s = c.args.seq in
    c.if-has_end.true
    ∙ sym (end-both r d s ∙ ap (λ b. b || has_end d s) (sym c.has_end.ensures ∙ c.if-has_end.true))
    ∙ ap (λ (k : KnownRecords). has_end (all_records k) s) c.self.view_is

pub returns-else-has_end : goal.returns-else-has_end
returns-else-has_end c =
    let r = c.self.inside.tables.now.records in
    let d = map fact_of c.self.inside.batch.items in
    let s = c.args.seq in
    c.ends_in.ensures ∙ ap (λ (xs : List Record). has_end (map fact_of xs) s) c.as_slice.ensures.value
    ∙ sym (end-both r d s ∙ ap (λ b. b || has_end d s) (sym c.has_end.ensures ∙ c.if-has_end.false))
    ∙ ap (λ (k : KnownRecords). has_end (all_records k) s) c.self.view_is
