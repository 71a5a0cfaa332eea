use Rattle.std.proofs.Common.{◌≡◌, ◌-◌}
use Rattle.record_batch.specs.Format.{read_items}
use Rattle.record_batch.specs.Parts.{binding}
use Rattle.record_batch.proofs.Loops.{with_front}
use Rattle.record_batch.proofs.readers.take_scope.Given as goal

-- what is read behind the values so far is all that is read
abbrev pub invariant-loop : goal.invariant-loop
invariant-loop l =
    with_front l.scope (read_items binding (l.count - l.counter) l.rest) ≡ read_items binding l.count l.bytes
