use Rattle.std.proofs.Common.{◌∙◌, List, cond, map, ap, sym}
use Rattle.std.specs.Prelude.{slice_get}
use Rattle.rm_base.specs.Numbered.{numbered}
use Rattle.record_batch.specs.declared.record.Record.{Record}
use Rattle.record_batch.specs.Fact.{fact_of}
use Rattle.record_batch.specs.Sequences.Makers.{maker, makers_of}
use Rattle.node_tables.specs.declared.note.Origin.{Origin}
use Rattle.node_tables.specs.Kept.{Tabled, kept_at}
use Rattle.node_tables.proofs.MakerLemmas.{maker-some}
use Rattle.node_tables.proofs.tables.Tables.maker.Goals as goal

pub returns : goal.returns
returns c =
    let o = c.in_ok-origin.origin.now in
    let s = c.args.seq in
    c.maker_at.ensures
    ∙ ap (λ (ks : List Record). slice_get (makers_of (kept_at (map fact_of ks) o.made)) (cond o.is_second 1 0))
    c.as_slice-2.ensures.value
    ∙ sym (maker-some _ s o c.self.invariant.holds
    (sym (c.in_ok-origin.ensures ∙ ap (λ (os : List Origin). numbered os s) c.as_slice.ensures.value)))
    ∙ ap (λ (t : Tabled). maker t.records s) c.self.view_is
