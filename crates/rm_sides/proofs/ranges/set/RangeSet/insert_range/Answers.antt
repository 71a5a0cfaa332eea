use Rattle.rm_sides.proofs.RangesLemmas.ChangesLemmas.{RisesFrom-with_range, adds-with_range, brings-covers}
use Rattle.rm_sides.proofs.ranges.set.RangeSet.insert_range.Goals as goal

pub invariant_of-self-2 : goal.invariant_of-self-2
invariant_of-self-2 c =
    let needs = c.requires in
    record {
      canonical = rw c.in_ok-put.ensures.ok
          (RisesFrom-with_range 1 _ _ _ c.self.invariant.canonical needs.from_one needs.ordered needs.within);
      counted = c.in_ok-put.ensures.counted;
    }

pub returns-clause-adds : goal.returns-clause-adds
returns-clause-adds c =
    let needs = c.requires in
    rw (← c.self.view_is)
    (adds-with_range _ _ _ _ c.self.invariant.canonical c.in_ok-put.ensures.ok
    needs.from_one needs.ordered needs.within)

pub returns-clause-brings : goal.returns-clause-brings
returns-clause-brings c = rw (← c.self.view_is)
    (brings-covers _ _ _ _ c.self.invariant.canonical c.requires.ordered c.in_ok-put.ensures.is_new)
