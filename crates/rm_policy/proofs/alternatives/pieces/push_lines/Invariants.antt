use Rattle.std.proofs.Common.{◌≡◌, ◌+◌, ◌++◌, drop}
use Rattle.rm_policy.specs.Alternatives.Pieces.{pieces_text}
use Rattle.rm_policy.specs.Alternatives.Texts.{lines_from}
use Rattle.rm_policy.proofs.alternatives.pieces.push_lines.Given as goal

abbrev pub invariant-loop-i : goal.invariant-loop-i
invariant-loop-i l =
    pieces_text l.pieces.items ++ lines_from (l.i + 1) (drop l.i l.lists)
    ≡ pieces_text l.initial.pieces.items ++ lines_from 1 l.lists
