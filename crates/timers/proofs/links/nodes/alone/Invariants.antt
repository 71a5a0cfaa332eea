use Rattle.std.proofs.Common.{◌≡◌, ℕ, ◌<◌, length}
use Rattle.timers.specs.Links.Nodes.{IsAlone}
use Rattle.timers.proofs.links.nodes.alone.Given as goal

abbrev pub invariant-loop-i : goal.invariant-loop-i
invariant-loop-i l = record {
  count : length l.nodes.items ≡ l.i;
  alone : (k : ℕ) → k < l.i → IsAlone l.nodes.items k;
}
