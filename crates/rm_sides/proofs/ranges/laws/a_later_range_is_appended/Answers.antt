use Rattle.rm_sides.proofs.RangesLemmas.ChangesLemmas.{with_range-behind}
use Rattle.rm_sides.proofs.ranges.laws.a_later_range_is_appended.Goals as goal

pub returns : goal.returns
returns c = with_range-behind 1
