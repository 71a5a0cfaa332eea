-- The parts of a message, by httparse's grammar.
use Rattle.std.specs.Prelude.{◌≡◌, ℕ, ◌⊎◌, List, [], ◌∷◌, length}
use Rattle.httparse.specs.Grammar.{LineEnd, Field, ReadsSection, ChunkLine, chunk_size, ReadsChunkLine}
use Rattle.http_endpoint.specs.Bytes.{carriage_return, line_feed}
use Rattle.http_endpoint.specs.Part.{Grammar}

-- a chunk's line that gives this size
abbrev pub ReadsSize : Grammar ℕ
ReadsSize bytes size rest = (l : ChunkLine) × ReadsChunkLine bytes l rest × (size ≡ chunk_size l)

-- a trailer with so many fields
abbrev pub ReadsTrailer : Grammar ℕ
ReadsTrailer bytes count rest =
    (fields : List Field) × (last : LineEnd) × ReadsSection bytes fields last rest × (count ≡ length fields)

-- the CR LF that ends a chunk's data
abbrev pub ReadsBreak : Grammar Unit
ReadsBreak bytes unit rest = bytes ≡ carriage_return ∷ line_feed ∷ rest

-- nothing or the first byte of it
abbrev pub IsHalfBreak : List ℕ → Type 0
IsHalfBreak bytes = (bytes ≡ []) ⊎ (bytes ≡ carriage_return ∷ [])
