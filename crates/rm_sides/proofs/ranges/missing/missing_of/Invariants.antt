use Rattle.rm_sides.proofs.RangesLemmas.MissingLemmas.{MissingBelow, GoesOn}
use Rattle.rm_sides.proofs.ranges.missing.missing_of.Given as goal

abbrev pub invariant-loop-range : goal.invariant-loop-range
invariant-loop-range l = record {
  told : MissingBelow l.ranges l.most l.next l.numbers;
  goes_on : GoesOn l.ranges l.range-index l.next;
}

abbrev pub invariant-loop-n : goal.invariant-loop-n
invariant-loop-n l = MissingBelow l.ranges l.most l.n l.numbers
