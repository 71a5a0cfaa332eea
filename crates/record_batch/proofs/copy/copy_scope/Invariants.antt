use Rattle.std.proofs.Common.{◌≡◌, ◌++◌, drop}
use Rattle.record_batch.proofs.copy.copy_scope.Given as goal

-- those so far, and those that are left
abbrev pub invariant-loop-binding : goal.invariant-loop-binding
invariant-loop-binding l = l.copy ++ drop l.binding-index l.binding-items ≡ l.binding-items
