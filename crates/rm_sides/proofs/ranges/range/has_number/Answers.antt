use Rattle.std.proofs.Common.{sym, ◌∙◌}
use Rattle.std.proofs.lemmas.Bool.{le-ltb}
use Rattle.rm_sides.proofs.RangesLemmas.RangesLemmas.{in_ranges-at_place, in_ranges-past}
use Rattle.rm_sides.proofs.ranges.range.has_number.Goals as goal

pub returns-then-place-ranges : goal.returns-then-place-ranges
returns-then-place-ranges c =
    sym (in_ranges-at_place _ c.args.n _ c.requires c.place_of-place.ensures c.if-place-ranges.true)

pub returns-else-place-ranges : goal.returns-else-place-ranges
returns-else-place-ranges c =
    le-ltb _ _ c.if-place-ranges.false
    ∙ sym (in_ranges-past _ c.args.n _ c.place_of-place.ensures c.if-place-ranges.false)
