-- The limits of a message of HTTP, each of them a number that stands here once. That of a body is the one of an
-- envelope, in `rm_base`.
use Rattle.std.specs.Prelude.{ℕ}

-- the most bytes of a head, of a chunk's line, of what ends a chunk, and of a trailer
abbrev pub part_bytes : ℕ
part_bytes = 16384

-- the most fields of a head, and of a trailer
abbrev pub most_fields : ℕ
most_fields = 64
