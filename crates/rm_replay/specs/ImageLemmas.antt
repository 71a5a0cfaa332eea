-- Bytes that a node's disk leaves are an image that keeps what the node ever had.
use Rattle.std.proofs.Common.{ℕ, List}
use Rattle.node_store.specs.Has.{StandsForBatches}
use Rattle.record_batch.specs.Fact.{Fact}
use Rattle.rm_protocol.specs.Node.{Node, mounted, records}
use Rattle.rm_protocol.specs.Sound.{Keeps}
use Rattle.rm_replay.specs.Actor.LeftLemmas.{left_mounted}
use Rattle.rm_replay.specs.Actor.Stands.{IsLeftOf, StandsFrom}
use Rattle.rm_replay.specs.Headline.{Image}

-- bytes stand for batches wherever the list of them begins
pub stands_for : (start : ℕ) (batches : List (List Fact)) (bytes : List ℕ) → StandsFrom start batches bytes
    → StandsForBatches batches bytes
stands_for start batches bytes from = record { bank = from.bank; stands = from.stands }

-- the image, with the batches of the node once it is mounted there
abbrev pub image_of : (x : Node) (bytes : List ℕ) (left : IsLeftOf x bytes)
    → Keeps (records (mounted x left.kept)) (mounted x left.kept).whole → Image x bytes
image_of x bytes left kept = record {
  batches = (mounted x left.kept).entries;
  stands = stands_for (mounted x left.kept).start (mounted x left.kept).entries bytes left.stands;
  each = left.are.each;
  whole = (mounted x left.kept).whole;
  left = left_mounted x left.kept;
  kept = kept;
}
