use Rattle.std.proofs.Common.{◌≡◌, ◌++◌}
use Rattle.rm_replay.specs.Summary.Summary.{sequences_text}
use Rattle.rm_replay.proofs.summary.summary.push_node.Given as goal

abbrev pub invariant-loop-before : goal.invariant-loop-before
invariant-loop-before l = l.out ≡ l.initial.out ++ sequences_text l.node l.tables.records l.now l.before
