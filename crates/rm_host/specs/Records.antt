-- The records that a command leaves on its disk.
use Rattle.std.specs.Prelude.{Bool, IsTrue, List}
use Rattle.node_laws.specs.OwnTerms.{AreOwn}
use Rattle.node_store.specs.Mounted.{Finds}
use Rattle.rm_disk.specs.Told.{Told}
use Rattle.rm_protocol.specs.Terms.{Terms}
use Rattle.rm_serve.specs.Adds.{Leaves}
use Rattle.rm_serve.specs.Steps.{Place, Step}

-- The disk had the batches of a node. As it reads, and after any crash now, it has these with the records of the calls
-- that were made of that node, in turn, and with or without those of the call under which it failed.
pub record LeavesRecords (tells : Bool) (terms : Terms) (first : Told) (x z : Place) (steps : List Step) : Type 0 where
  pub found : Finds first.past x.told.past x.node.stored
  pub leaves : Leaves tells terms x z steps found.batches

-- so it is of a disk that tells, whatever terms the node goes by
abbrev pub LeavesAll : Bool → Told → Place → Place → List Step → Type 0
LeavesAll tells first x z steps =
    IsTrue tells → (terms : Terms) → AreOwn terms → LeavesRecords tells terms first x z steps
