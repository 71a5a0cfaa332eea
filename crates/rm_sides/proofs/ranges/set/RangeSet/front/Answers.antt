use Rattle.std.proofs.Common.{◌∙◌, ap}
use Rattle.rm_sides.specs.Ranges.Ranges.{front_of}
use Rattle.rm_sides.proofs.RangesLemmas.RangesLemmas.{IsFront-front_of}
use Rattle.rm_sides.proofs.ranges.set.RangeSet.front.Goals as goal

pub returns-clause-front : goal.returns-clause-front
returns-clause-front c =
    rw (← c.self.view_is) (rw (c.front_end.ensures
    ∙ ap front_of c.deref.ensures.value) (IsFront-front_of _ c.self.invariant.canonical))
