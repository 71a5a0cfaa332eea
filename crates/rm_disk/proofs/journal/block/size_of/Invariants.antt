use Rattle.std.proofs.Common.{◌≡◌, ◌≤◌, ◌-◌, ◌^◌, length, min, take, ℕ, List}
use Rattle.rm_disk.specs.Journal.Entries.{list_of}
use Rattle.rm_disk.proofs.journal.block.size_of.Given as goal

pub record Sized (fresh : List (List ℕ)) (k size : ℕ) : Type 0 where
  pub within : k ≤ length fresh
  pub is : size ≡ min (length (list_of (take k fresh))) (2 ^ 64 - 1)

abbrev pub invariant-loop-k : goal.invariant-loop-k
invariant-loop-k l = Sized l.fresh l.k l.size

abbrev pub decreases-loop-k : goal.decreases-loop-k
decreases-loop-k l = length l.fresh - l.k
