use Rattle.rm_sides.proofs.RangesLemmas.RangesLemmas.{IsFront-front_of, IsGreatest-greatest_of}
use Rattle.rm_sides.proofs.ranges.laws.ends_are_right.Goals as goal

pub returns : goal.returns
returns c = record { front = IsFront-front_of; greatest = IsGreatest-greatest_of }
