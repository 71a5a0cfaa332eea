-- The lines that the desk is told: words and numbers with a space between two, and an LF at the end.
use Rattle.std.specs.Prelude.{ℕ, List, ◌++◌, Option, Some, None, codes, decimal}

-- a word
abbrev pub bare_line : List ℕ → List ℕ
bare_line word = word ++ codes "\n"

-- a word and a number
abbrev pub one_line : List ℕ → ℕ → List ℕ
one_line word first = word ++ codes " " ++ decimal first ++ codes "\n"

-- a word and two numbers
abbrev pub two_line : List ℕ → ℕ → ℕ → List ℕ
two_line word first second = word ++ codes " " ++ decimal first ++ codes " " ++ decimal second ++ codes "\n"

-- the items of a sequence that are listed
abbrev pub inbox_line : ℕ → ℕ → ℕ → List ℕ
inbox_line seq from most =
    codes "inbox " ++ decimal seq ++ codes " " ++ decimal from ++ codes " " ++ decimal most ++ codes "\n"

-- a payload for an address; a sequence and the number that must come next on it are said together, or neither is
abbrev pub send_line : List ℕ → Option ℕ → Option ℕ → Option (List ℕ)
send_line to (Some seq) (Some number) = Some (two_line (codes "send " ++ to) seq number)
send_line to None None = Some (bare_line (codes "send " ++ to))
send_line to (Some seq) None = None
send_line to None (Some number) = None

-- a poll of an address
abbrev pub poll_line : List ℕ → List ℕ
poll_line to = bare_line (codes "poll " ++ to)
