use Rattle.std.proofs.Common.{◌≡◌, ◌+◌, ◌≤◌, drop}
use Rattle.timers.specs.Links.Items.{first_due}
use Rattle.timers.proofs.links.links.Links.due_list.Given as goal

abbrev pub invariant-loop-list : goal.invariant-loop-list
invariant-loop-list g l = record {
  first : first_due l.now l.self.lists ≡ first_due l.now (drop l.list l.self.lists);
  cost : l.steps ≤ l.fn.steps + l.list;
}
