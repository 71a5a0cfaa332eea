use Rattle.std.proofs.Common.{◌≡◌, ◌+◌, length}
use Rattle.base_tests.proofs.lists.filled.Given as goal

abbrev pub invariant-loop-i : goal.invariant-loop-i
invariant-loop-i g l = record {
  seven : length l.links.lists ≡ 7;
  spare : l.links.spare + l.i ≡ 4352;
}
