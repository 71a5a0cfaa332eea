use Rattle.std.proofs.Common.{◌≡◌, ◌-◌, ◌+◌, ◌≤◌}
use Rattle.timers.specs.Links.Nodes.{stepped}
use Rattle.timers.proofs.links.nodes.step_on.Given as goal

abbrev pub invariant-loop : goal.invariant-loop
invariant-loop g l = record {
  place : stepped l.nodes.items l.slots (l.k - l.counter) l.here ≡ stepped l.nodes.items l.slots l.k l.at;
  cost : l.steps ≤ l.fn.steps + l.counter;
}
