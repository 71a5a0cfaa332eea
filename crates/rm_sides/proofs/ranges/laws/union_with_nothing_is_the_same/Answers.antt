use Rattle.rm_sides.proofs.RangesLemmas.MergeLemmas.{united-nothing}
use Rattle.rm_sides.proofs.ranges.laws.union_with_nothing_is_the_same.Goals as goal

pub returns : goal.returns
returns c = united-nothing
