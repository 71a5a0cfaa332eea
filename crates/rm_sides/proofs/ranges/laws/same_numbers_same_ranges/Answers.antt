use Rattle.rm_sides.proofs.RangesLemmas.RangesLemmas.{same_numbers_same}
use Rattle.rm_sides.proofs.ranges.laws.same_numbers_same_ranges.Goals as goal

pub returns : goal.returns
returns c = same_numbers_same
