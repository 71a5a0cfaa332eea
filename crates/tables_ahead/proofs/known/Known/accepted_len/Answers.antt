use Rattle.std.proofs.Common.{◌+◌, ◌++◌, List, length, map, sym, ap, ◌∙◌}
use Rattle.record_batch.specs.declared.record.Record.{Record}
use Rattle.record_batch.specs.Fact.{fact_of}
use Rattle.record_batch.specs.Sequences.Sources.{accepted, accepted_count}
use Rattle.tables_ahead.specs.Known.{all_records, KnownRecords}
use Rattle.tables_ahead.proofs.GatheredLemmas.{accepted-both}
use Rattle.tables_ahead.proofs.known.Known.accepted_len.Goals as goal

pub returns : goal.returns
returns c =
    let r = c.self.inside.tables.now.records in
    let d = map fact_of c.self.inside.batch.items in
    let s = c.args.seq in
    ap (λ n. n + c.accepted_in.result) c.accepted_len.ensures.count
    ∙ ap (λ n. accepted_count r s + n) (c.accepted_in.ensures.count
    ∙ ap (λ (xs : List Record). length (accepted (map fact_of xs) s)) c.as_slice-batch.ensures.value)
    ∙ sym (accepted-both r d s c.self.invariant.live)
    ∙ ap (λ (k : KnownRecords). accepted_count (all_records k) s) c.self.view_is
