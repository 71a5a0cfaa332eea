use Rattle.std.proofs.Common.{drop}
use Rattle.rm_policy.specs.Alternatives.Pieces.{pieces_text}
use Rattle.rm_policy.proofs.AlternativesLemmas.SendLemmas.{Going}
use Rattle.rm_policy.proofs.alternatives.write.put_pieces.Given as goal

abbrev pub invariant-loop-piece : goal.invariant-loop-piece
invariant-loop-piece g l =
    let told = g.K.Sink.told in
    Going g.K.Sink.wants_memory (told l.initial.out) (told l.out) l.initial.block.items (pieces_text l.pieces)
    (pieces_text (drop l.piece-index l.pieces)) l.block.items
