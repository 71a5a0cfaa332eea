use Rattle.std.proofs.Common.{List, length, map, sym, ap, ◌∙◌}
use Rattle.record_batch.specs.declared.record.Record.{Record}
use Rattle.record_batch.specs.Fact.{fact_of}
use Rattle.record_batch.specs.Sequences.Makers.{created_from, ident_in, makers}
use Rattle.record_batch.specs.Sequences.Sources.{marks, phase}
use Rattle.record_batch.specs.Sequences.Words.{last_or}
use Rattle.tables_ahead.specs.Known.{KnownRecords, opened}
use Rattle.tables_ahead.proofs.PhaseLemmas.{phase-both}
use Rattle.tables_ahead.proofs.known.Known.phase.Goals as goal

pub returns : goal.returns
returns c =
    let s = c.args.seq in
    let before = λ (k : KnownRecords).
    opened (phase k.records s) (ident_in (created_from (length (makers k.records)) k.delta) s) in
    c.phase_in.ensures
    ∙ ap (λ (xs : List Record). last_or c.opened.result (marks (map fact_of xs) s)) c.as_slice.ensures.value
    ∙ ap (λ p. last_or p (marks (map fact_of c.self.inside.batch.items) s)) c.opened.ensures
    ∙ ap (λ (k : KnownRecords). last_or (before c.args.self.now) (marks k.delta s)) c.self.view_is
    ∙ sym (phase-both c.args.self.now.records c.args.self.now.delta s)
