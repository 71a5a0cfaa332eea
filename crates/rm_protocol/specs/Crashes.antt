-- What crashes leave of two nodes, and the headline of that.
use Rattle.std.specs.Prelude.{◌≡◌, ◌⊎◌, Bool, List, [], ◌∷◌, ◌++◌}
use Rattle.record_batch.specs.Fact.{Fact}
use Rattle.record_batch.specs.Snapshot.Snapshot.{snapshot}
use Rattle.rm_protocol.specs.Node.{Node, State, Up, Writing, Compacting, records}
use Rattle.rm_protocol.specs.Sound.{Keeps}
use Rattle.rm_protocol.specs.Terms.{Terms}
use Rattle.rm_protocol.specs.Word.{KeepsLoose, KeepsWord}
use Rattle.rm_protocol.specs.World.{World, One, Two, Crash, run}

-- the records for which an image of the node's disk may stand, and all that the node then ever had: after a call that
-- failed, those before it, or with its batch, or what they say in short
abbrev pub IsLeftWith : List Fact → List Fact → State → List Fact → List Fact → Type 0
IsLeftWith r whole Up image all = (image ≡ r) × (all ≡ whole)
IsLeftWith r whole (Writing delta) image all =
    ((image ≡ r) × (all ≡ whole)) ⊎ ((image ≡ r ++ delta) × (all ≡ whole ++ delta))
IsLeftWith r whole (Compacting start) image all = ((image ≡ r) ⊎ (image ≡ snapshot r)) × (all ≡ whole)

-- so of a node's own records
abbrev pub IsLeft : Node → List Fact → List Fact → Type 0
IsLeft x image all = IsLeftWith (records x) x.whole x.state image all

-- at each pair of images of both disks, in both directions; and what each image has says what all that its node then
-- ever had says, but for items that are gone
pub record KeepsAll (w : World) : Type 0 where
  pub one : (a a_whole b b_whole : List Fact) → IsLeft w.one a a_whole → IsLeft w.two b b_whole
      → KeepsWord a a_whole b b_whole
  pub two : (a a_whole b b_whole : List Fact) → IsLeft w.two a a_whole → IsLeft w.one b b_whole
      → KeepsWord a a_whole b b_whole
  pub loose_one : (a a_whole b b_whole : List Fact) → IsLeft w.one a a_whole → IsLeft w.two b b_whole
      → KeepsLoose a a_whole b b_whole
  pub loose_two : (a a_whole b b_whole : List Fact) → IsLeft w.two a a_whole → IsLeft w.one b b_whole
      → KeepsLoose a a_whole b b_whole
  pub kept_one : (image all : List Fact) → IsLeft w.one image all → Keeps image all
  pub kept_two : (image all : List Fact) → IsLeft w.two image all → Keeps image all

-- the node has these records, and all that it ever had are these
pub record HasRecords (x : Node) (image all : List Fact) : Type 0 where
  pub records_ : records x ≡ image
  pub whole_ : x.whole ≡ all

-- two more crashes leave these records
pub record IsAfterCrashes (terms : Terms) (w : World) (a a_whole b b_whole : List Fact) : Type 0 where
  pub kept_one : Bool
  pub kept_two : Bool
  pub one : HasRecords (run terms (Crash One kept_one ∷ Crash Two kept_two ∷ []) w).one a a_whole
  pub two : HasRecords (run terms (Crash One kept_one ∷ Crash Two kept_two ∷ []) w).two b b_whole
