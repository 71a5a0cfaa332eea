use Rattle.std.proofs.Common.{◌++◌, ◌-◌, ◌<◌, ◌≤◌, List, arith, length, map, sym, ap, ◌∙◌}
use Rattle.std.specs.Prelude.{slice_get}
use Rattle.record_batch.specs.declared.record.Record.{Record}
use Rattle.record_batch.specs.Fact.{fact_of}
use Rattle.record_batch.specs.Sequences.Makers.{maker, makers}
use Rattle.tables_ahead.specs.Known.{all_records, KnownRecords}
use Rattle.tables_ahead.proofs.FoundLemmas.{maker-ahead, maker-known}
use Rattle.tables_ahead.proofs.known.Known.maker.Goals as goal

pub returns-then-seq-known : goal.returns-then-seq-known
returns-then-seq-known c =
    let r = c.self.inside.tables.now.records in
    let d = map fact_of c.self.inside.batch.items in
    let s = c.args.seq in
    let le : s ≤ length (makers r) = omega (arith, c.len-known.ensures.count, c.if-seq-known.true) in
    c.maker.ensures ∙ sym (maker-known r d s le) ∙ ap (λ (k : KnownRecords). maker (all_records k) s) c.self.view_is

pub returns : goal.returns
returns c =
    let r = c.self.inside.tables.now.records in
    let d = map fact_of c.self.inside.batch.items in
    let s = c.args.seq in
    let lt : length (makers r) < s = omega (arith, c.len-known.ensures.count, c.if-seq-known.false) in
    c.maker_in.ensures
    ∙ ap (λ (xs : List Record). slice_get (makers (map fact_of xs)) (s - c.len-known.result - 1))
    c.as_slice.ensures.value
    ∙ ap (λ n. slice_get (makers d) (s - n - 1)) c.len-known.ensures.count
    ∙ sym (maker-ahead r d s lt) ∙ ap (λ (k : KnownRecords). maker (all_records k) s) c.self.view_is
