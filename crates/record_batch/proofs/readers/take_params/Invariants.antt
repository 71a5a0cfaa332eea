use Rattle.std.proofs.Common.{◌≡◌, ◌-◌}
use Rattle.record_batch.specs.Format.{read_items}
use Rattle.record_batch.specs.Parts.{param}
use Rattle.record_batch.proofs.Loops.{with_front}
use Rattle.record_batch.proofs.readers.take_params.Given as goal

-- what is read behind the values so far is all that is read
abbrev pub invariant-loop : goal.invariant-loop
invariant-loop l =
    with_front l.params (read_items param (l.count - l.counter) l.rest) ≡ read_items param l.count l.bytes
