-- A command looks for the node on its disk.
use Rattle.std.specs.Prelude.{◌≡◌, Bool, IsTrue}
use Rattle.node_store.specs.Mounted.{Finds, IsNoNode}
use Rattle.node_store.specs.declared.error.MountError.{MountError}
use Rattle.node_store.specs.declared.error.MountError.TheVariants.{NotAJournal}
use Rattle.rm_base.specs.declared.message.Behaviour.{Behaviour}
use Rattle.rm_disk.specs.Call.{seen_of}
use Rattle.rm_disk.specs.Image.{MayLeave, OnlyLeaves}
use Rattle.rm_disk.specs.Told.{Told}
use Rattle.rm_node.specs.Keeping.{Keeps, first_kept}
use Rattle.rm_serve.specs.Steps.{IsUp, Place}

-- a node was looked for on a disk that tells: what it reads as stays, and a crash at any moment since then leaves no
-- more than one before
pub record Looks (first now : Told) : Type 0 where
  pub seen : seen_of now.past ≡ seen_of first.past
  pub moments : OnlyLeaves first.past now.past (MayLeave first.past)

-- A node was found on the disk, and announces this for the sequences that it grants. Where the disk tells, the node has
-- the batches that were there. All that is not on the disk is as at a node that was mounted just now.
pub record Found (tells : Bool) (first : Told) (granted : Behaviour) (x : Place) : Type 0 where
  pub up : IsUp tells x
  pub finds : IsTrue tells → Finds first.past x.told.past x.node.stored
  pub looks : IsTrue tells → Looks first x.told
  pub kept : Keeps x.node.kept (record (first_kept x.node.stored.records) { granted = granted })

-- none was found, for this reason: a disk that tells is no journal only where it reads as none
pub record NotFound (tells : Bool) (first now : Told) (e : MountError) : Type 0 where
  pub looks : IsTrue tells → Looks first now
  pub none : IsTrue tells → e ≡ NotAJournal → IsNoNode (seen_of first.past)
