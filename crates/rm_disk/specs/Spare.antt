-- The room that a `reserve` made.
use Rattle.std.specs.Prelude.{ℕ, ◌+◌, ◌≤◌}

-- for so many calls that change the disk, and so many bytes written by them
pub record Spare : Type 0 where
  pub calls : ℕ
  pub bytes : ℕ

-- There is room for this.
pub record Covers (spare : Spare) (more_calls more_bytes : ℕ) : Type 0 where
  pub calls : more_calls ≤ spare.calls
  pub bytes : more_bytes ≤ spare.bytes

-- No more than this was used up.
pub record Spends (some_calls some_bytes : ℕ) (old new : Spare) : Type 0 where
  pub calls : old.calls ≤ new.calls + some_calls
  pub bytes : old.bytes ≤ new.bytes + some_bytes
