use Rattle.std.proofs.Common.{◌≡◌, ℕ, ◌<◌, ◌≤◌, length, drop}
use Rattle.rm_sides.specs.Ranges.Changes.{covers_all}
use Rattle.rm_sides.specs.Ranges.Places.{range_at}
use Rattle.rm_sides.proofs.ranges.merge.has_all.Given as goal

abbrev pub invariant-loop-other : goal.invariant-loop-other
invariant-loop-other l = record {
  within : l.place ≤ length l.ranges;
  before : (k : ℕ) → k < l.place → l.other-index < length l.others →
      (range_at l.ranges k).upper < (range_at l.others l.other-index).upper;
  told : covers_all l.ranges (drop l.other-index l.others) ≡ covers_all l.ranges l.others;
}
