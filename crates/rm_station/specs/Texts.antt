-- What an application is told.
use Rattle.std.specs.Prelude.{ℕ, List, ◌++◌, codes, decimal}

-- a payload was accepted under a number of a sequence
abbrev pub accepted_line : ℕ → ℕ → List ℕ
accepted_line seq number = codes "accepted " ++ decimal seq ++ codes " " ++ decimal number ++ codes "\n"

-- a sequence is asked for, and nothing was accepted
abbrev pub opening_line : ℕ → List ℕ
opening_line seq = codes "opening " ++ decimal seq ++ codes "\n"

-- another number comes next on a sequence than the one that a payload should have
abbrev pub next_line : ℕ → ℕ → List ℕ
next_line seq number = codes "next " ++ decimal seq ++ codes " " ++ decimal number ++ codes "\n"

-- a sequence is closed
abbrev pub closed_line : ℕ → List ℕ
closed_line seq = codes "closed " ++ decimal seq ++ codes "\n"

-- a sequence is ended
abbrev pub ended_line : ℕ → List ℕ
ended_line seq = codes "ended " ++ decimal seq ++ codes "\n"

-- an address is asked for what waits there
abbrev pub polled_line : List ℕ
polled_line = codes "polled\n"

-- the node stops
abbrev pub stopping_line : List ℕ
stopping_line = codes "stopping\n"
