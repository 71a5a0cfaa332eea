use Rattle.std.proofs.Common.{◌≡◌, ◌++◌}
use Rattle.rm_station.specs.Reads.{value_lines}
use Rattle.rm_station.proofs.reads.push_values.Given as goal

abbrev pub invariant-loop-before : goal.invariant-loop-before
invariant-loop-before l = l.text ≡ l.initial.text ++ value_lines l.count l.tables.records l.before
