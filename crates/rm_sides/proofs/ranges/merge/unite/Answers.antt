use Rattle.std.proofs.Common.{sym}
use Rattle.rm_sides.proofs.RangesLemmas.MergeLemmas.{united-covered_all}
use Rattle.rm_sides.proofs.ranges.merge.unite.Goals as goal

pub returns-then-has_all-clause-ok : goal.returns-then-has_all-clause-ok
returns-then-has_all-clause-ok c =
    united-covered_all _ _ c.requires.ranges c.requires.others (rw c.deref.ensures.value at (sym c.if-has_all.ensures))
