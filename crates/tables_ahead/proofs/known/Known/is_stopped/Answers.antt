use Rattle.std.proofs.Common.{◌++◌, List, map, sym, ap, ◌∙◌}
use Rattle.std.specs.Prelude.{◌||◌}
use Rattle.record_batch.specs.Sequences.Destinations.{is_stopped}
use Rattle.record_batch.specs.declared.record.Record.{Record}
use Rattle.record_batch.specs.Fact.{fact_of}
use Rattle.tables_ahead.specs.Known.{all_records, KnownRecords}
use Rattle.tables_ahead.proofs.GatheredLemmas.{stopped-both}
use Rattle.tables_ahead.proofs.known.Known.is_stopped.Goals as goal

pub returns-then-is_stopped : goal.returns-then-is_stopped
returns-then-is_stopped c =
    let r = c.self.inside.tables.now.records in
    let d = map fact_of c.self.inside.batch.items in
    let s = c.args.seq in
    c.if-is_stopped.true
    ∙ sym (stopped-both r d s ∙ ap (λ b. b || is_stopped d s) (sym c.is_stopped.ensures ∙ c.if-is_stopped.true))
    ∙ ap (λ (k : KnownRecords). is_stopped (all_records k) s) c.self.view_is

pub returns-else-is_stopped : goal.returns-else-is_stopped
returns-else-is_stopped c =
    let r = c.self.inside.tables.now.records in
    let d = map fact_of c.self.inside.batch.items in
    let s = c.args.seq in
    c.stops_in.ensures ∙ ap (λ (xs : List Record). is_stopped (map fact_of xs) s) c.as_slice.ensures.value
    ∙ sym (stopped-both r d s ∙ ap (λ b. b || is_stopped d s) (sym c.is_stopped.ensures ∙ c.if-is_stopped.false))
    ∙ ap (λ (k : KnownRecords). is_stopped (all_records k) s) c.self.view_is
