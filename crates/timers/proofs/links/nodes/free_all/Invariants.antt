use Rattle.timers.specs.Links.Nodes.{IsBuilt}
use Rattle.timers.proofs.links.nodes.free_all.Given as goal

abbrev pub invariant-loop-slot : goal.invariant-loop-slot
invariant-loop-slot g l = IsBuilt l.nodes.items l.slots l.lists l.slot
