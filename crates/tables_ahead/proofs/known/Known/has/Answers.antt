use Rattle.std.proofs.Common.{◌++◌, List, map, sym, ap, ◌∙◌}
use Rattle.std.specs.Prelude.{◌||◌}
use Rattle.rm_base.specs.NumberSet.{has_number}
use Rattle.rm_sides.specs.Destination.Messages.{numbers_of}
use Rattle.record_batch.specs.Sequences.Destinations.{held, received}
use Rattle.record_batch.specs.declared.record.Record.{Record}
use Rattle.record_batch.specs.Fact.{fact_of}
use Rattle.tables_ahead.specs.Known.{all_records, KnownRecords}
use Rattle.tables_ahead.proofs.GatheredLemmas.{has-both}
use Rattle.tables_ahead.proofs.known.Known.has.Goals as goal

pub returns-then-has : goal.returns-then-has
returns-then-has c =
    let r = c.self.inside.tables.now.records in
    let d = map fact_of c.self.inside.batch.items in
    let s = c.args.seq in
    c.if-has.true
    ∙ sym (has-both r d s c.args.number c.self.invariant.live
    ∙ ap (λ b. b || has_number (numbers_of (received d s)) c.args.number) (sym c.has.ensures ∙ c.if-has.true))
    ∙ ap (λ (k : KnownRecords). has_number (held (all_records k) s) c.args.number) c.self.view_is

pub returns-else-has : goal.returns-else-has
returns-else-has c =
    let r = c.self.inside.tables.now.records in
    let d = map fact_of c.self.inside.batch.items in
    let s = c.args.seq in
    c.has_in.ensures
    ∙ ap (λ (xs : List Record). has_number (numbers_of (received (map fact_of xs) s)) c.args.number)
    c.as_slice.ensures.value
    ∙ sym (has-both r d s c.args.number c.self.invariant.live
    ∙ ap (λ b. b || has_number (numbers_of (received d s)) c.args.number) (sym c.has.ensures ∙ c.if-has.false))
    ∙ ap (λ (k : KnownRecords). has_number (held (all_records k) s) c.args.number) c.self.view_is
