use Rattle.std.proofs.Common.{◌≡◌, ◌++◌, drop}
use Rattle.rm_policy.specs.Alternatives.Pieces.{pieces_text}
use Rattle.rm_policy.proofs.alternatives.write.push_pieces.Given as goal

abbrev pub invariant-loop-piece : goal.invariant-loop-piece
invariant-loop-piece l = l.out ++ pieces_text (drop l.piece-index l.pieces) ≡ l.initial.out ++ pieces_text l.pieces
