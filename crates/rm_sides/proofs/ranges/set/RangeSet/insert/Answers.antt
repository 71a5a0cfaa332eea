use Rattle.std.proofs.Common.{◌∙◌, ap, not, arith}
use Rattle.rm_sides.proofs.RangesLemmas.ChangesLemmas.{RisesFrom-with_range, adds-with_number, covers-one}
use Rattle.rm_sides.proofs.ranges.set.RangeSet.insert.Goals as goal

pub invariant_of-self-2 : goal.invariant_of-self-2
invariant_of-self-2 c = record {
  canonical = rw c.in_ok-put.ensures.ok (RisesFrom-with_range 1 _ _ _ c.self.invariant.canonical c.requires.from_one
      (omega arith) c.requires.within);
  counted = c.in_ok-put.ensures.counted;
}

pub returns-clause-adds : goal.returns-clause-adds
returns-clause-adds c =
    rw (← c.self.view_is)
    (adds-with_number _ _ _ c.self.invariant.canonical c.in_ok-put.ensures.ok c.requires.from_one c.requires.within)

pub returns-clause-is_new : goal.returns-clause-is_new
returns-clause-is_new c = rw (← c.self.view_is) (c.in_ok-put.ensures.is_new ∙ ap not (covers-one _ c.args.n))
