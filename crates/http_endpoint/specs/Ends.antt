-- Where a part of a message may end, so that it is worth to parse it: at a line end, or at a line without any text.
use Rattle.std.specs.Prelude.{ℕ, ◌-◌, Bool, true, false, not, ◌&&◌, ◌||◌, ◌==◌, if◌then◌else◌, List, [], ◌∷◌, drop}
use Rattle.std.specs.Prelude.{length}
use Rattle.std.specs.List.{list_any}
use Rattle.http_endpoint.specs.Bytes.{carriage_return, line_feed}

-- a line ends among the bytes from a place
abbrev pub ends_line : List ℕ → ℕ → Bool
ends_line bytes from = list_any (λ b. b == line_feed) (drop from bytes)

-- behind some text a line ends that has none: whether there was text, whether a line has begun and has none so far, and
-- the bytes that are left. CR is no text
abbrev pub meets_empty_line : (text empty : Bool) → List ℕ → Bool
meets_empty_line text empty [] = false
meets_empty_line text empty (b ∷ bytes) =
    if b == line_feed then (if text && empty then true else meets_empty_line text true bytes)
    else (if b == carriage_return then meets_empty_line text empty bytes else meets_empty_line true false bytes)

-- a head may end among the bytes from a place: its last line end, and the one before with CR beside it, have four bytes
abbrev pub ends_head : List ℕ → ℕ → Bool
ends_head bytes from = meets_empty_line false false (drop (from - 4) bytes)

-- the first byte is of a line end
abbrev pub begins_line_end : List ℕ → Bool
begins_line_end [] = false
begins_line_end (b ∷ bytes) = (b == line_feed) || (b == carriage_return)

-- a trailer may end there, as a head does, or at its first line, where it has no field
abbrev pub ends_trailer : List ℕ → ℕ → Bool
ends_trailer bytes from = ends_head bytes from || begins_line_end bytes

-- the line end behind a chunk's data may end, or be found missing, as soon as there are bytes
abbrev pub ends_break : List ℕ → ℕ → Bool
ends_break bytes from = not (length bytes == 0)
