use Rattle.std.proofs.Common.{◌≡◌, ◌++◌, take}
use Rattle.std.specs.List.{flat_map}
use Rattle.record_batch.specs.Parts.{binding}
use Rattle.record_batch.proofs.writers.put_scope.Given as goal

-- those so far were written
abbrev pub invariant-loop-binding : goal.invariant-loop-binding
invariant-loop-binding l = l.out.items ≡ l.fn.out.items ++ flat_map binding.written (take l.binding-index l.scope)
