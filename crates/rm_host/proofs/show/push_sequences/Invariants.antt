use Rattle.std.proofs.Common.{◌≡◌, ◌++◌}
use Rattle.rm_host.specs.Shown.{sequence_lines}
use Rattle.rm_host.proofs.show.push_sequences.Given as goal

abbrev pub invariant-loop-before : goal.invariant-loop-before
invariant-loop-before l = l.text ≡ l.initial.text ++ sequence_lines l.tables.records l.now l.before
