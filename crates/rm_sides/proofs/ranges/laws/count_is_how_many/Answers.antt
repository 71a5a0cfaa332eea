use Rattle.rm_sides.proofs.RangesLemmas.CountLemmas.{count_of-length}
use Rattle.rm_sides.proofs.ranges.laws.count_is_how_many.Goals as goal

pub returns : goal.returns
returns c = count_of-length
