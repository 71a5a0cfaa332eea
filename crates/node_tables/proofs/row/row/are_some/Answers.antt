use Rattle.std.proofs.Common.{◌==◌, ◌∙◌, length, ap}
use Rattle.std.specs.Prelude.{not}
use Rattle.node_tables.proofs.RowLemmas.GoneLemmas.{gone-loose, length-empty}
use Rattle.node_tables.proofs.row.row.are_some.Goals as goal

pub returns : goal.returns
returns c =
    let rs = c.args.numbers.now.ranges in
    ap not (c.is_empty.ensures
    ∙ ap (λ xs. length xs == 0) c.ranges-ranges.ensures.ranges
    ∙ length-empty rs)
    ∙ gone-loose rs c.ranges-ranges.ensures.canonical
