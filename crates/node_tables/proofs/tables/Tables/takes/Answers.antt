use Rattle.std.proofs.Common.{◌∙◌, ap, sym}
use Rattle.std.specs.Prelude.{◌&&◌}
use Rattle.node_tables.specs.Row.Row.{takes}
use Rattle.node_tables.specs.Kept.{told_in}
use Rattle.record_batch.specs.Fact.{fact_of}
use Rattle.node_tables.proofs.RowsLemmas.{taken-by}
use Rattle.node_tables.proofs.tables.Tables.takes.Goals as goal

pub returns-then-draws_next : goal.returns-then-draws_next
returns-then-draws_next c =
    let r = c.args.self.now.records in
    let f = fact_of c.args.given.now in
    let t = c.in-Some.row.now.told in
    taken-by r f t c.takes.result c.requires (ap (told_in r) (sym c.named_by.ensures) ∙ sym c.in-Some.ensures)
    (c.takes.ensures ∙ ap (λ b. b && takes t.side f) c.if-draws_next.ensures)
