use Rattle.std.proofs.Common.{◌≡◌, ◌+◌, ◌++◌, drop, sym, ap, ◌∙◌}
use Rattle.std.proofs.lemmas.List.{at_drop_more}
use Rattle.std.proofs.lemmas.Result.{err_from_is_err_and}
use Rattle.rm_policy.specs.Alternatives.Pieces.{piece_text, pieces_text}
use Rattle.rm_policy.specs.declared.alternatives.pieces.Piece.{Piece}
use Rattle.rm_policy.proofs.AlternativesLemmas.SendLemmas.{going_cut, going_more}
use Rattle.rm_policy.proofs.alternatives.write.put_pieces.Goals as goal

pub returns-in_err-put_piece : goal.returns-in_err-put_piece
returns-in_err-put_piece g c =
    let told = g.K.Sink.told in
    let l = c.loop-piece in
    let pieces = c.args.pieces.now in
    let p = err_from_is_err_and c.from_residual.result c.from_residual.ensures.1 in
    let left = at_drop_more pieces_text pieces l.piece-index c.piece-item.result c.loop-piece-test.true
    ∙ ap (λ (x : Piece). piece_text x ++ pieces_text (drop (l.piece-index + 1) pieces)) (sym c.piece-item.is) in
    rw (p.1, p.2) (going_cut g.K.Sink.wants_memory (told c.args.out.now) (told l.out) (told c.put_piece.new.out)
    c.args.block.now.items (pieces_text pieces) (pieces_text (drop l.piece-index pieces)) l.block.items
    (piece_text c.piece-item.result) (pieces_text (drop (l.piece-index + 1) pieces)) c.put_piece.new.block.items
    c.put_piece.new.block.items _ l.invariant c.in_err-put_piece.ensures left)

pub loop-piece-preserved : goal.loop-piece-preserved
loop-piece-preserved g c =
    let told = g.K.Sink.told in
    let l = c.loop-piece in
    let pieces = c.args.pieces.now in
    let left = at_drop_more pieces_text pieces l.piece-index c.piece-item.result c.loop-piece-test.true
    ∙ ap (λ (x : Piece). piece_text x ++ pieces_text (drop (l.piece-index + 1) pieces)) (sym c.piece-item.is) in
    going_more g.K.Sink.wants_memory (told c.args.out.now) (told l.out) (told c.put_piece.new.out)
    c.args.block.now.items (pieces_text pieces) (pieces_text (drop l.piece-index pieces)) l.block.items
    (piece_text c.piece-item.result) (pieces_text (drop (l.piece-index + 1) pieces)) c.put_piece.new.block.items
    l.invariant c.in_ok-put_piece.ensures left
