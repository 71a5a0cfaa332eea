use Rattle.std.proofs.Common.{refl}
use Rattle.rm_sides.proofs.RangesLemmas.MergeLemmas.{adds-united}
use Rattle.rm_sides.proofs.ranges.laws.union_has_both.Goals as goal

pub returns : goal.returns
returns c = λ xs ys hx hy. adds-united xs _ ys hx hy refl
