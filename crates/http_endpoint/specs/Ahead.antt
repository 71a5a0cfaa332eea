-- What a reader with a buffer has still to read.
use Rattle.std.specs.Prelude.{◌≡◌, ℕ, List, ◌++◌, Option, None, Some}

-- the bytes that were read and not yet used, and then those that the source has left, where it tells them
abbrev pub ahead : Option (List ℕ) → List ℕ → Option (List ℕ)
ahead None held = None
ahead (Some left) held = Some (held ++ left)

-- where the bytes ahead were known, they are these still
abbrev pub StillAhead : Option (List ℕ) → Option (List ℕ) → Type 0
StillAhead old new = (all : List ℕ) → old ≡ Some all → new ≡ Some all
