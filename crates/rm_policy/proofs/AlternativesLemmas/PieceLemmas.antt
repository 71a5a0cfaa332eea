-- The text of pieces, one by one.
use Rattle.std.proofs.Common.{◌≡◌, ◌++◌, List, [], ◌∷◌, ◌∙◌, ap, append-nil}
use Rattle.std.proofs.lemmas.Grind.{flat_map-append}
use Rattle.rm_policy.specs.Alternatives.Pieces.{piece_text, pieces_text}
use Rattle.rm_policy.specs.declared.alternatives.pieces.Piece.{Piece}

-- a piece more
pub text_more : (pieces : List Piece) (piece : Piece) → pieces_text (pieces ++ piece ∷ [])
    ≡ pieces_text pieces ++ piece_text piece
text_more pieces piece =
    flat_map-append piece_text pieces (piece ∷ [])
    ∙ ap (λ l. pieces_text pieces ++ l) (append-nil (piece_text piece))
