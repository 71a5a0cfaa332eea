-- The records that calls of a node add, and what they leave on its disk.
use Rattle.std.specs.Prelude.{◌≡◌, ◌≢◌, ℕ, Bool, false, List, [], ◌∷◌}
use Rattle.std.specs.List.{AllByRecursion}
use Rattle.record_batch.specs.Fact.{Fact}
use Rattle.rm_disk.specs.Image.{MayLeave}
use Rattle.rm_protocol.specs.Terms.{Terms}
use Rattle.node_store.specs.Has.{Holds, IsLeftBy}
use Rattle.node_store.specs.Stored.{with_batch}
use Rattle.rm_node.specs.Called.{Does, answer_of}
use Rattle.rm_node.specs.Ends.{Broke, Ended, Handed, WasDown}
use Rattle.rm_node.specs.Keeping.{Keeping, Keeps}
use Rattle.rm_serve.specs.Steps.{Place, Step, is_received}

-- the records that a call adds which ended so, and whose answer has these: all of them, where all went well
abbrev pub added_by : Ended → List Fact → List Fact
added_by (Handed outcome reply outs) delta = delta
added_by ended delta = []

-- a call of a node that was down
abbrev pub IsSlept : Step → Type 0
IsSlept step = step.ended ≡ WasDown

-- a call brings a node that keeps this from one place to another, by the protocol's answer
abbrev pub Brings : Bool → Terms → (x y : Place) → Keeping → Step → Type 0
Brings tells terms x y kept step =
    Does tells (is_received step.asked) x.told y.told x.node y.node
    (answer_of terms x.node step.moment kept step.asked) step.ended

-- Calls of a node that was up at a place add these records, one after the other: those of the protocol's answer to
-- each, at the place to which the calls before it had brought the node. A call under which the disk failed is the last
-- that the node makes, and then these are the records that it was about to add.
pub data Adds (tells : Bool) (terms : Terms) : Place → List Step → (deltas : List (List Fact)) → (torn : List Fact)
    → Type 0 where
  no_more : (x : Place) → Adds tells terms x [] [] []
  one_more : (x y : Place) (step : Step) (steps : List Step) (kept : Keeping) (deltas : List (List Fact))
      (torn : List Fact)
      → Keeps x.node.kept kept → step.ended ≢ Broke → Brings tells terms x y kept step
      → Adds tells terms y steps deltas torn
      → Adds tells terms x (step ∷ steps)
      (added_by step.ended (answer_of terms x.node step.moment kept step.asked).delta ∷ deltas)
      torn
  breaks_off : (x : Place) (step : Step) (steps : List Step) (kept : Keeping)
      → Keeps x.node.kept kept → step.ended ≡ Broke → AllByRecursion IsSlept steps
      → Adds tells terms x (step ∷ steps) [] (answer_of terms x.node step.moment kept step.asked).delta

-- batches with these behind them, where there is something in them
abbrev pub grown_by : List (List Fact) → List (List Fact) → List (List Fact)
grown_by batches [] = batches
grown_by batches (delta ∷ deltas) = grown_by (with_batch batches delta) deltas

-- What calls leave on a disk that had these batches: as it reads, and after any crash now, it has these with those of
-- the calls, in turn, and with or without those of the call under which it failed. A node that is up has them too.
pub record Leaves (tells : Bool) (terms : Terms) (x z : Place) (steps : List Step) (batches : List (List Fact))
    : Type 0 where
  pub deltas : List (List Fact)
  pub torn : List Fact
  pub adds : Adds tells terms x steps deltas torn
  pub left : (bytes : List ℕ) → MayLeave z.told.past bytes
      → IsLeftBy x.node.stored.journal.bank (grown_by batches deltas) torn bytes
  pub holds : z.node.stored.journal.is_down ≡ false → Holds (grown_by batches deltas) z.told.past z.node.stored
