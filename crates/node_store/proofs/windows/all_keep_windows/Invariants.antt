use Rattle.std.proofs.Common.{ℕ, ◌≤◌}
use Rattle.node_store.specs.Mounted.{KeepsWindow}
use Rattle.node_store.proofs.windows.all_keep_windows.Given as goal

-- those before keep theirs
abbrev pub invariant-loop-before : goal.invariant-loop-before
invariant-loop-before l = (s : ℕ) → s ≤ l.before → KeepsWindow l.tables.records s
