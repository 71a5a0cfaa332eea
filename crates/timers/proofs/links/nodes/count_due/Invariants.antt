use Rattle.std.proofs.Common.{◌≡◌, ◌-◌, ◌+◌, ◌≤◌}
use Rattle.timers.specs.Links.Nodes.{due_along}
use Rattle.timers.proofs.links.nodes.count_due.Given as goal

abbrev pub invariant-loop-count : goal.invariant-loop-count
invariant-loop-count g l = record {
  count : l.count + due_along l.nodes.items l.slots l.now (l.limit - l.count) l.here
      ≡ due_along l.nodes.items l.slots l.now l.limit l.at;
  cost : l.steps ≤ l.fn.steps + l.count;
}
