use Rattle.std.proofs.Common.{◌≡◌, ◌++◌, drop, map}
use Rattle.node_waits.specs.Keys.Settled.{each_of}
use Rattle.node_waits.proofs.keys.touched.put_each.Given as goal

-- those so far, and those of the ranges that are left
abbrev pub invariant-loop-range : goal.invariant-loop-range
invariant-loop-range l =
    l.touched.items ++ map (each_of l.seq) (drop l.range-index l.ranges)
    ≡ l.fn.touched.items ++ map (each_of l.seq) l.ranges
