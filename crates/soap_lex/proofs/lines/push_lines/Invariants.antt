use Rattle.std.proofs.Common.{◌≡◌, ◌++◌, length, take}
use Rattle.soap_lex.specs.Text.{with_line_ends}
use Rattle.soap_lex.proofs.lines.push_lines.Given as goal

abbrev pub invariant-loop-end : goal.invariant-loop-end
invariant-loop-end l =
    (l.out.items ++ with_line_ends l.rest ≡ l.initial.out.items ++ with_line_ends l.bytes)
    × (take (length l.initial.out.items) l.out.items ≡ l.initial.out.items)

abbrev pub decreases-loop-end : goal.decreases-loop-end
decreases-loop-end l = length l.rest
