use Rattle.std.proofs.Common.{arith, length, sym, ap, ◌∙◌}
use Rattle.rm_sides.proofs.RangesLemmas.CountLemmas.{count_of-all}
use Rattle.rm_sides.proofs.RangesLemmas.MergeLemmas.{IsCanonical-united, adds-united, brings-covers_all}
use Rattle.rm_sides.proofs.ranges.set.RangeSet.unite.Goals as goal

pub invariant_of-self-2 : goal.invariant_of-self-2
invariant_of-self-2 c = record {
  canonical = rw (rw c.deref.ensures.value at c.in_ok-is_new.ensures.ok)
      (IsCanonical-united _ _ 1 c.self.invariant.canonical (omega arith) c.other.invariant.canonical);
  counted = count_of-all c.unite.new.ranges.items c.len.result c.count_between-self-inside.result
      (rw c.deref-2.ensures.value at c.count_between-self-inside.ensures)
      (c.len.ensures ∙ sym c.deref-2.ensures.len ∙ ap length c.deref-2.ensures.value);
}

pub count_between-self-inside-requires-clause-canonical : goal.count_between-self-inside-requires-clause-canonical
count_between-self-inside-requires-clause-canonical c =
    rw (c.deref-2.ensures.value, rw c.deref.ensures.value at c.in_ok-is_new.ensures.ok)
    (IsCanonical-united _ _ 1 c.self.invariant.canonical (omega arith) c.other.invariant.canonical)

pub returns-clause-adds : goal.returns-clause-adds
returns-clause-adds c = rw (← c.self.view_is, ← c.other.view_is)
    (adds-united _ _ _ c.self.invariant.canonical c.other.invariant.canonical
    (rw c.deref.ensures.value at c.in_ok-is_new.ensures.ok))

pub returns-clause-brings : goal.returns-clause-brings
returns-clause-brings c = rw (← c.self.view_is, ← c.other.view_is)
    (brings-covers_all _ _ _ c.self.invariant.canonical c.other.invariant.canonical
    (rw c.deref.ensures.value at c.in_ok-is_new.ensures.is_new))
