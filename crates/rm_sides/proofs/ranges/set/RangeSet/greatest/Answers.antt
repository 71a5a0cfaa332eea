use Rattle.std.proofs.Common.{◌∙◌, ap}
use Rattle.rm_sides.specs.Ranges.Ranges.{greatest_of}
use Rattle.rm_sides.proofs.RangesLemmas.RangesLemmas.{IsGreatest-greatest_of}
use Rattle.rm_sides.proofs.ranges.set.RangeSet.greatest.Goals as goal

pub returns-clause-greatest : goal.returns-clause-greatest
returns-clause-greatest c =
    rw (← c.self.view_is) (rw (c.last_end.ensures
    ∙ ap greatest_of c.deref.ensures.value) (IsGreatest-greatest_of _ c.self.invariant.canonical))
