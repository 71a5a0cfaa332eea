use Rattle.std.proofs.Common.{◌≡◌, ℕ, ◌<◌, ◌≤◌, false}
use Rattle.rm_host.specs.Sequences.{may_carry}
use Rattle.rm_host.proofs.send.sequence_to.Given as goal

abbrev pub invariant-loop-before : goal.invariant-loop-before
invariant-loop-before l =
    (seq : ℕ) → 0 < seq → seq ≤ l.before → may_carry l.tables.records l.to seq ≡ false
