use Rattle.std.proofs.Common.{◌≡◌, List, max, take}
use Rattle.timers.specs.Keys.Keyed.{StandsFor}
use Rattle.timers.specs.Keys.Waits.{Wait, due_at, keys_of}
use Rattle.node_waits.proofs.keys.moves.due_keys.Given as goal

abbrev pub invariant-loop-k : goal.invariant-loop-k
invariant-loop-k l =
    (waits : List Wait) → StandsFor l.timers waits
    → l.keys.items ≡ take l.k (keys_of (due_at (max l.timers.time l.now) waits))
