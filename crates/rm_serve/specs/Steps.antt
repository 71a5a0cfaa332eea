-- The calls of a node that a command makes, one after the other.
use Rattle.std.specs.Prelude.{◌≡◌, ◌≢◌, ℕ, Bool, true, false, List, [], ◌∷◌, IsTrue}
use Rattle.rm_disk.specs.Told.{Told}
use Rattle.rm_protocol.specs.Terms.{Terms}
use Rattle.node_laws.specs.OwnTerms.{AreOwn}
use Rattle.rm_node.specs.Asked.{Asked, Receive}
use Rattle.rm_node.specs.Called.{Does, HasBatches, answer_of}
use Rattle.rm_node.specs.Ends.{Ended, WasDown, is_handed}
use Rattle.rm_node.specs.Keeping.{Keeping, Keeps}
use Rattle.rm_node.specs.Noded.{Noded, Runs}

-- a call at a moment, and how it ended
pub record Step : Type 0 where
  pub moment : ℕ
  pub asked : Asked
  pub ended : Ended

-- whether it came on a connection
abbrev pub is_received : Asked → Bool
is_received (Receive content) = true
is_received _ = false

-- a node, and what its disk tells
pub record Place : Type 0 where
  pub told : Told
  pub node : Noded

-- the two of them
abbrev pub place_of : Told → Noded → Place
place_of told node = record { told = told; node = node }

-- the same node, and the same disk where it tells
pub record Stays (tells : Bool) (x z : Place) : Type 0 where
  pub node : z.node ≡ x.node
  pub told : IsTrue tells → z.told ≡ x.told

-- the calls were made, one after the other, each by the protocol, whatever the node keeps of it
pub data Makes (tells : Bool) (terms : Terms) : Place → Place → List Step → Type 0 where
  done : (x : Place) → Makes tells terms x x []
  rests : (x y z : Place) (steps : List Step) → Stays tells x y → Makes tells terms y z steps
      → Makes tells terms x z steps
  makes : (x y z : Place) (step : Step) (steps : List Step) → Runs x.node
      → ((kept : Keeping) → Keeps x.node.kept kept
      → Does tells (is_received step.asked) x.told y.told x.node y.node
      (answer_of terms x.node step.moment kept step.asked) step.ended)
      → Makes tells terms y z steps → Makes tells terms x z (step ∷ steps)

-- whatever terms the node goes by
abbrev pub MakesAll : Bool → Place → Place → List Step → Type 0
MakesAll tells x z steps = (terms : Terms) → AreOwn terms → Makes tells terms x z steps

-- a node that is up, and its disk where it tells, have the same batches
abbrev pub IsReady : Bool → Place → Type 0
IsReady tells x = HasBatches tells x.told x.node

-- a node that is up, ready for a call
pub record IsUp (tells : Bool) (x : Place) : Type 0 where
  pub up : x.node.stored.journal.is_down ≡ false
  pub ready : IsReady tells x

-- what a call leaves of a node that was up: it does not answer that it was down, and is up where all went well
pub record LeavesUp (tells : Bool) (z : Place) (ended : Ended) : Type 0 where
  pub awake : ended ≢ WasDown
  pub up : is_handed ended ≡ true → z.node.stored.journal.is_down ≡ false
  pub ready : IsReady tells z
