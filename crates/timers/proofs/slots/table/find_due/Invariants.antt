use Rattle.std.proofs.Common.{◌≡◌, drop}
use Rattle.std.specs.Prelude.{slice_get}
use Rattle.timers.specs.Slots.Table.{fronts}
use Rattle.timers.proofs.slots.table.find_due.Given as goal

abbrev pub invariant-loop-class : goal.invariant-loop-class
invariant-loop-class g l =
    slice_get (fronts l.time (drop l.class l.links.lists)) l.left ≡ slice_get (fronts l.time l.links.lists) l.k
