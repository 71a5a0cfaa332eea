-- What a disk tells.
use Rattle.std.specs.Prelude.{ℕ, List, Option}
use Rattle.rm_disk.specs.Call.{Call}

-- the calls that changed it or failed to, newest first; how many device calls are left up to the first that fails, if
-- it is to fail; and how often one has failed
pub record Told : Type 0 where
  pub past : List Call
  pub fuse : Option ℕ
  pub faults : ℕ
