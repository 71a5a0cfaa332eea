use Rattle.std.proofs.Common.{◌==◌, [], length, ap, ◌∙◌}
use Rattle.rm_sides.specs.Destination.Incoming.{held}
use Rattle.rm_sides.specs.Destination.Messages.{ranges_onto}
use Rattle.node_tables.proofs.RowLemmas.GoneLemmas.{ranges_onto-empty, length-empty}
use Rattle.node_tables.proofs.row.row.has_nothing.Goals as goal

pub returns : goal.returns
returns c =
    let numbers = held c.args.incoming.now.facts in
    c.is_empty.ensures
    ∙ ap (λ rs. length rs == 0) (c.ranges-2.ensures.ranges ∙ c.received.ensures.ranges)
    ∙ length-empty (ranges_onto [] numbers)
    ∙ ranges_onto-empty numbers
