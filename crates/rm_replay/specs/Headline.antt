-- The headline of two disks.
use Rattle.std.specs.Prelude.{ℕ, List}
use Rattle.std.specs.List.{AllByRecursion}
use Rattle.record_batch.specs.Fact.{Fact}
use Rattle.record_batch.specs.Writable.{IsBatch}
use Rattle.rm_disk.specs.Image.{MayLeave}
use Rattle.rm_protocol.specs.Crashes.{IsLeft}
use Rattle.rm_protocol.specs.Node.{Node, records_in}
use Rattle.rm_protocol.specs.Sound.{Keeps}
use Rattle.rm_protocol.specs.Word.{KeepsLoose, KeepsWord}
use Rattle.rm_protocol.specs.World.{World}
use Rattle.node_store.specs.Has.{StandsForBatches}
use Rattle.rm_replay.specs.Shows.{Scene}

-- An image of the disk of this node stands for batches, each of which is read back from its text, so that it stands for
-- no others. Their records are what one more crash would leave, beside all that the node then ever had; and they say
-- what these say, but for items that are gone, of which there are none among these
pub record Image (x : Node) (bytes : List ℕ) : Type 0 where
  pub batches : List (List Fact)
  pub stands : StandsForBatches batches bytes
  pub each : AllByRecursion IsBatch batches
  pub whole : List Fact
  pub left : IsLeft x (records_in batches) whole
  pub kept : Keeps (records_in batches) whole

-- Two images keep the word in both directions, and what is said of loose sequences, by all that the nodes of this world
-- ever had
pub record KeepPair (w : World) (image_one image_two : List ℕ) : Type 0 where
  pub one : Image w.one image_one
  pub two : Image w.two image_two
  pub there : KeepsWord (records_in one.batches) one.whole (records_in two.batches) two.whole
  pub back : KeepsWord (records_in two.batches) two.whole (records_in one.batches) one.whole
  pub loose_there : KeepsLoose (records_in one.batches) one.whole (records_in two.batches) two.whole
  pub loose_back : KeepsLoose (records_in two.batches) two.whole (records_in one.batches) one.whole

-- so it is for each pair of images of both disks
abbrev pub KeepsPairOf : World → Scene → Type 0
KeepsPairOf w scene =
    (image_one image_two : List ℕ) → MayLeave scene.drives.one.disk.past image_one
    → MayLeave scene.drives.two.disk.past image_two → KeepPair w image_one image_two
