-- The text of alternatives in pieces.
use Rattle.std.specs.Prelude.{ℕ, List}
use Rattle.std.specs.List.{flat_map}
use Rattle.rm_policy.specs.Alternatives.Texts.{escaped}
use Rattle.rm_policy.specs.declared.alternatives.pieces.Piece.{Piece}
use Rattle.rm_policy.specs.declared.alternatives.pieces.Piece.TheVariants.{Word, Number, Name}

-- the text of a piece: a word and digits as they stand, the bytes of a name escaped
abbrev pub piece_text : Piece → List ℕ
piece_text (Word bytes) = bytes.now
piece_text (Number digits) = digits
piece_text (Name bytes) = escaped bytes.now

-- the text of pieces one after the other
abbrev pub pieces_text : List Piece → List ℕ
pieces_text pieces = flat_map piece_text pieces
