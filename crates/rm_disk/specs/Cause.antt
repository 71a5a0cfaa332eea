-- Why a call on a disk fails.
use Rattle.std.specs.Prelude.{◌≡◌, ℕ, ◌≤◌, Bool, MatchBool}
use Rattle.rm_base.specs.Count.{Rose}

-- The count of faults never falls. It rises in a call that failed by a fault, and stays in one that didn't.
pub record HasCause (old new : ℕ) (failed : Bool) : Type 0 where
  pub later : old ≤ new
  pub cause : MatchBool failed (Rose old new) (new ≡ old)
