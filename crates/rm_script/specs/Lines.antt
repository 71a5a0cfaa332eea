-- Lines that are written one after another.
use Rattle.std.specs.Prelude.{◌≢◌, ℕ, List, [], ◌∷◌, ◌++◌}
use Rattle.std.specs.List.{AllByRecursion}
use Rattle.rm_script.specs.Bytes.{line_feed}

-- a line with its LF
abbrev pub ended : List ℕ → List ℕ
ended line = line ++ line_feed ∷ []

-- no byte of the line is LF
abbrev pub HasNoLf : List ℕ → Type 0
HasNoLf line = AllByRecursion (λ byte. byte ≢ line_feed) line
