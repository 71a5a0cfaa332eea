use Rattle.std.proofs.Common.{◌++◌, List, length, map, sym, ap, ◌∙◌}
use Rattle.std.specs.Option.{option_or}
use Rattle.record_batch.specs.declared.record.Record.{Record}
use Rattle.record_batch.specs.Fact.{fact_of}
use Rattle.record_batch.specs.Sequences.Find.{find_outgoing}
use Rattle.record_batch.specs.Sequences.Makers.{created_from, makers, seq_in}
use Rattle.tables_ahead.specs.Known.{all_records, KnownRecords}
use Rattle.tables_ahead.proofs.GatheredLemmas.{outgoing-both}
use Rattle.tables_ahead.proofs.known.Known.find_outgoing.Goals as goal

pub returns-in-Some : goal.returns-in-Some
returns-in-Some c =
    let r = c.self.inside.tables.now.records in
    let d = map fact_of c.self.inside.batch.items in
    let q = c.args.ident.now in
    ap (λ o. option_or o (seq_in (created_from (length (makers r)) d) q)) c.in-Some.ensures
    ∙ sym (outgoing-both r d q) ∙ ap (λ (k : KnownRecords). find_outgoing (all_records k) q) c.self.view_is

pub returns-in-None : goal.returns-in-None
returns-in-None c =
    let r = c.self.inside.tables.now.records in
    let d = map fact_of c.self.inside.batch.items in
    let q = c.args.ident.now in
    c.find_named.ensures
    ∙ ap (λ (xs : List Record). seq_in (created_from c.len.result (map fact_of xs)) q) c.as_slice.ensures.value
    ∙ ap (λ n. seq_in (created_from n d) q) c.len.ensures.count
    ∙ ap (λ o. option_or o (seq_in (created_from (length (makers r)) d) q)) c.in-None.ensures
    ∙ sym (outgoing-both r d q) ∙ ap (λ (k : KnownRecords). find_outgoing (all_records k) q) c.self.view_is
