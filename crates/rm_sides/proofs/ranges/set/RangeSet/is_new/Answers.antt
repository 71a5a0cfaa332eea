use Rattle.std.proofs.Common.{refl}
use Rattle.rm_sides.proofs.RangesLemmas.MergeLemmas.{brings-covers_all}
use Rattle.rm_sides.proofs.ranges.set.RangeSet.is_new.Goals as goal

pub returns-clause-brings : goal.returns-clause-brings
returns-clause-brings c =
    rw (c.has_all.ensures, c.deref.ensures.value, c.deref-2.ensures.value, ← c.self.view_is, ← c.other.view_is)
    (brings-covers_all _ _ _ c.self.invariant.canonical c.other.invariant.canonical refl)
