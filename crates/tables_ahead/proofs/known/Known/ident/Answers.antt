use Rattle.std.proofs.Common.{◌++◌, List, length, map, sym, ap, ◌∙◌}
use Rattle.std.specs.Option.{option_or}
use Rattle.record_batch.specs.declared.record.Record.{Record}
use Rattle.record_batch.specs.Fact.{fact_of}
use Rattle.record_batch.specs.Sequences.Makers.{created_from, ident_in, makers}
use Rattle.record_batch.specs.Sequences.Sources.{out_ident}
use Rattle.tables_ahead.specs.Known.{all_records, KnownRecords}
use Rattle.tables_ahead.proofs.PhaseLemmas.{ident-both}
use Rattle.tables_ahead.proofs.known.Known.ident.Goals as goal

pub returns-in-Some : goal.returns-in-Some
returns-in-Some c =
    let r = c.self.inside.tables.now.records in
    let d = map fact_of c.self.inside.batch.items in
    let s = c.args.seq in
    ap (λ o. option_or o (ident_in (created_from (length (makers r)) d) s)) c.in-Some.ensures
    ∙ sym (ident-both r d s) ∙ ap (λ (k : KnownRecords). out_ident (all_records k) s) c.self.view_is

pub returns-in-None : goal.returns-in-None
returns-in-None c =
    let r = c.self.inside.tables.now.records in
    let d = map fact_of c.self.inside.batch.items in
    let s = c.args.seq in
    c.find_ident.ensures
    ∙ ap (λ (xs : List Record). ident_in (created_from c.len.result (map fact_of xs)) s) c.as_slice.ensures.value
    ∙ ap (λ n. ident_in (created_from n d) s) c.len.ensures.count
    ∙ ap (λ o. option_or o (ident_in (created_from (length (makers r)) d) s)) c.in-None.ensures
    ∙ sym (ident-both r d s) ∙ ap (λ (k : KnownRecords). out_ident (all_records k) s) c.self.view_is
