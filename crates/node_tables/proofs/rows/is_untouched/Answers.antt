use Rattle.std.proofs.Common.{◌∙◌, ◌==◌, ap, length, List}
use Rattle.rm_sides.specs.declared.ranges.range.Range.{Range}
use Rattle.node_tables.proofs.RowsLemmas.{none-received}
use Rattle.node_tables.proofs.rows.is_untouched.Goals as goal

pub returns-in-Some : goal.returns-in-Some
returns-in-Some c =
    c.is_empty.ensures
    ∙ ap (λ (rs : List Range). length rs == 0) c.ranges-in-Some.ensures.ranges
    ∙ none-received c.args.row.now.told.side c.in-Some.incoming.now.facts c.received.result.now.ranges c.in-Some.ensures
    c.ranges-in-Some.ensures.canonical c.received.ensures.same
