-- Counts that only rise, kept in a u64: one that is at its greatest value stands still.
use Rattle.std.specs.Prelude.{ℕ, ◌+◌, ◌-◌, ◌^◌, ◌≤◌, ◌⊎◌, min}

-- a count after n more
abbrev pub raised_by : ℕ → ℕ → ℕ
raised_by count n = min (count + n) (2 ^ 64 - 1)

-- a count rose by at least n: one at its greatest value counts as having risen by as much as is asked
abbrev pub RoseBy : ℕ → ℕ → ℕ → Type 0
RoseBy old new n = (old + n ≤ new) ⊎ (2 ^ 64 - 1 ≤ new)

-- a count rose
abbrev pub Rose : ℕ → ℕ → Type 0
Rose old new = RoseBy old new 1
