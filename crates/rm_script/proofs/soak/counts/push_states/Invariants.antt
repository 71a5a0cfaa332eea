use Rattle.std.proofs.Common.{◌≡◌, ◌++◌, flat_map, filter}
use Rattle.rm_script.specs.Lines.{ended}
use Rattle.rm_script.specs.Script.{lines_of}
use Rattle.rm_script.specs.Soak.Summary.{is_state}
use Rattle.rm_script.proofs.soak.counts.push_states.Given as goal

-- the lines that are left are still to be looked at
abbrev pub invariant-loop-line : goal.invariant-loop-line
invariant-loop-line l =
    l.out ++ flat_map ended (filter is_state (lines_of l.line-iterator.rest.now))
    ≡ l.initial.out ++ flat_map ended (filter is_state (lines_of l.report))
