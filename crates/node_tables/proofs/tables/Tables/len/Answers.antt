use Rattle.std.proofs.Common.{◌∙◌, length, sym, ap, arith}
use Rattle.std.proofs.lemmas.List.{length-map}
use Rattle.node_tables.specs.Row.Row.{Seen}
use Rattle.record_batch.specs.Sequences.Makers.{makers}
use Rattle.node_tables.specs.Kept.{Tabled}
use Rattle.node_tables.proofs.CountLemmas.{rows-few}
use Rattle.node_tables.proofs.RowsLemmas.{rows-count}
use Rattle.node_tables.proofs.tables.Tables.len.Goals as goal

pub overflow_cast-result : goal.overflow_cast-result
overflow_cast-result c =
    omega (
      arith,
      ap length c.as_slice.ensures.value,
      length-map c.self.inside.rows.items (λ (r : Seen). r.told),
      rows-few _ c.self.invariant.holds,
    )

pub returns-clause-count : goal.returns-clause-count
returns-clause-count c =
    ap length c.as_slice.ensures.value
    ∙ sym (length-map c.self.inside.rows.items (λ (r : Seen). r.told)) ∙ rows-count _ c.self.invariant.holds
    ∙ ap (λ (t : Tabled). length (makers t.records)) c.self.view_is
