use Rattle.std.proofs.Common.{◌≡◌, ◌++◌, drop}
use Rattle.rm_script.specs.Report.Report.{lines_text}
use Rattle.rm_script.proofs.report.line.push_lines.Given as goal

abbrev pub invariant-loop-line : goal.invariant-loop-line
invariant-loop-line l = l.out ++ lines_text (drop l.line-index l.lines) ≡ l.initial.out ++ lines_text l.lines
