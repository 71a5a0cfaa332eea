use Rattle.std.proofs.Common.{◌≡◌, ◌+◌, ◌*◌, ◌≤◌, length}
use Rattle.base_tests.proofs.lists.hundred_moves.Given as goal

abbrev pub invariant-loop-i : goal.invariant-loop-i
invariant-loop-i g l = record {
  seven : length l.links.lists ≡ 7;
  moved : l.moved ≤ l.i;
  cost : l.steps ≤ l.fn.steps + 19 * l.i;
}
