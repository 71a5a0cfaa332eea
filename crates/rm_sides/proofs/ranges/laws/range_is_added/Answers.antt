use Rattle.std.proofs.Common.{refl}
use Rattle.rm_sides.proofs.RangesLemmas.ChangesLemmas.{adds-with_range}
use Rattle.rm_sides.proofs.ranges.laws.range_is_added.Goals as goal

pub returns : goal.returns
returns c = λ xs lower upper h from le end. adds-with_range xs _ lower upper h refl from le end
