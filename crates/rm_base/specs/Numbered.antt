-- Items that are numbered from 1 on, as the messages of a sequence are.
use Rattle.std.specs.Prelude.{ℕ, ◌-◌, ◌==◌, if◌then◌else◌, List, Option, None, slice_get}

-- the item with a number, where there is one
abbrev pub numbered : {A : Type 0} → List A → ℕ → Option A
numbered items number = if number == 0 then None else slice_get items (number - 1)
