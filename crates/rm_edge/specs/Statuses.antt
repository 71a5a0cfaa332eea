-- The statuses of what the desk writes, by its first words (RFC 9110, section 15).
use Rattle.std.specs.Prelude.{ℕ, ◌==◌, List, bytes_eq, codes, if◌then◌else◌}
use Rattle.std.specs.List.{after_first, before_first}
use Rattle.rm_edge.specs.declared.ask.Wish.{Wish}
use Rattle.rm_edge.specs.declared.ask.Wish.TheVariants.{Done, Item, Text, Counts}

-- of a call that the node refused, by the cause: no such sequence, a payload that is too long or no element, what may
-- be asked again later, what has no room, and all else that its state forbids
abbrev pub refused_status : List ℕ → ℕ
refused_status cause =
    if bytes_eq cause (codes "UnknownSequence") then 404
    else (if bytes_eq cause (codes "PayloadTooLong") then 413
    else (if bytes_eq cause (codes "BadPayload") then 422
    else (if bytes_eq cause (codes "WindowFull") then 429
    else (if bytes_eq cause (codes "NodeFull") then 429
    else (if bytes_eq cause (codes "StoreFull") then 507
    else (if bytes_eq cause (codes "TooManySequences") then 507
    else 409))))))

-- of what came of a call: a sequence that isn't open yet, and a number that isn't next
abbrev pub done_status : List ℕ → ℕ
done_status word = if bytes_eq word (codes "opening") then 503 else (if bytes_eq word (codes "next") then 412 else 200)

-- of an item: it has not come, or it was consumed
abbrev pub item_status : List ℕ → ℕ
item_status word = if bytes_eq word (codes "none") then 204 else (if bytes_eq word (codes "gone") then 410 else 200)

-- of a text by its first word, where that is none of a refusal
abbrev pub word_status : Wish → List ℕ → ℕ
word_status Done word = done_status word
word_status Item word = item_status word
word_status Text word = 200
word_status Counts word = 200

-- of a line, its first word, and what stands behind that: a desk that wrote nothing failed
abbrev pub said_status : Wish → List ℕ → List ℕ → List ℕ → ℕ
said_status wish line word rest =
    if bytes_eq word (codes "") then 500
    else (if bytes_eq word (codes "refused") then refused_status rest
    else (if bytes_eq word (codes "usage:") then 400
    else (if bytes_eq line (codes "too long") then 413
    else word_status wish word)))

-- of a line, whose first word ends at a space
abbrev pub line_status : Wish → List ℕ → ℕ
line_status wish line =
    said_status wish line (before_first (λ byte. byte == 32) line) (after_first (λ byte. byte == 32) line)

-- of a text, by its first line
abbrev pub status_of : Wish → List ℕ → ℕ
status_of wish text = line_status wish (before_first (λ byte. byte == 10) text)
