-- How many bytes a reader takes at most of a connection.
use Rattle.std.specs.Prelude.{ℕ, ◌+◌, ◌*◌, ◌≤◌, max}
use Rattle.rm_base.specs.Limits.{envelope_bytes}
use Rattle.rm_base.specs.Outside.{Stream}
use Rattle.http_endpoint.specs.Limits.{part_bytes}
use Rattle.http_endpoint.specs.declared.body.Framing.{Framing}
use Rattle.http_endpoint.specs.declared.body.Framing.TheVariants.{Empty, Counted, Chunked, ToEnd}

-- for a chunk of one byte: the byte, its line and its end
abbrev pub chunk_bytes : ℕ
chunk_bytes = 2 * part_bytes + 1

-- for a chunk that is refused: its line, one byte more than a body may have, and one more than an end may have
abbrev pub refused_bytes : ℕ
refused_bytes = envelope_bytes + 1 + chunk_bytes

-- for a body: as many as an envelope may have and one more. In chunks each byte may have a chunk of its own, and one
-- more chunk may be refused
abbrev pub most_taken : Framing → ℕ
most_taken Empty = 0
most_taken (Counted size) = envelope_bytes + 1
most_taken Chunked = envelope_bytes * chunk_bytes + refused_bytes
most_taken ToEnd = envelope_bytes + 1

-- with so many bytes held before, no more than so many in all were taken
abbrev pub TakesAtMost : (most held : ℕ) → Stream → Stream → Type 0
TakesAtMost most held old new = new.taken + held ≤ old.taken + max held most

-- with so many bytes held before and so many after, no more than so many were taken and used
abbrev pub UsesAtMost : (most held after : ℕ) → Stream → Stream → Type 0
UsesAtMost most held after old new = new.taken + held ≤ old.taken + (after + most)
