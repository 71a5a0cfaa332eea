use Rattle.rm_sides.proofs.RangesLemmas.ChangesLemmas.{uncovered}
use Rattle.rm_sides.proofs.RangesLemmas.MergeLemmas.{uncovered_all}
use Rattle.rm_sides.proofs.ranges.laws.new_is_one_not_there.Goals as goal

pub returns : goal.returns
returns c = record {
  of_range = λ xs lower upper h le t. uncovered 1 xs lower upper h le t;
  of_ranges = λ xs ys hx hy t. uncovered_all 1 xs ys hx hy t;
}
