use Rattle.std.proofs.Common.{◌≡◌, ◌++◌, length}
use Rattle.std.specs.Vec.Iter.{into_iter_items}
use Rattle.rm_station.specs.Works.{packed}
use Rattle.rm_station.proofs.station.packets_of.Given as goal

abbrev pub invariant-loop-out : goal.invariant-loop-out
invariant-loop-out l = l.packets ++ packed (into_iter_items l.rest) ≡ packed l.fn.outs

abbrev pub decreases-loop-out : goal.decreases-loop-out
decreases-loop-out l = length (into_iter_items l.rest)
