-- What a call does to a node and its disk: the step of the protocol.
use Rattle.std.specs.Prelude.{◌≡◌, ◌≢◌, ◌⊎◌, ℕ, Bool, true, false, List, [], IsTrue, MatchBool}
use Rattle.rm_disk.specs.Call.{crashes_of}
use Rattle.rm_disk.specs.Cause.{HasCause}
use Rattle.rm_disk.specs.Told.{Told}
use Rattle.rm_disk.specs.Journal.JournalState.{end_of}
use Rattle.record_batch.specs.Fact.{Fact}
use Rattle.node_store.specs.Changes.{Changes}
use Rattle.node_store.specs.Has.{AreOfNode, Has, Holds}
use Rattle.node_store.specs.Stored.{stored_after, with_batch}
use Rattle.node_laws.specs.OwnTerms.{AreOwn}
use Rattle.rm_protocol.specs.Calls.{Answer, Refused as RefusedWith}
use Rattle.rm_protocol.specs.Terms.{Terms}
use Rattle.rm_node.specs.Asked.{Asked, Asks, IsAsked, answer_to, is_connected}
use Rattle.rm_node.specs.Ends.{Ended, Handed, Refused, Wanted, Broke, WasDown, is_answered, is_handed, is_broken}
use Rattle.rm_node.specs.Keeping.{IsKeptAfter, Keeping, Keeps}
use Rattle.rm_node.specs.Noded.{Noded, Runs}
use Rattle.rm_node.specs.Packets.{outs_of, reply_of}
use Rattle.rm_node.specs.declared.call.Call.{Call}

-- how a call with this answer may end. What is handed out is the text of what is said: the reply is the message that
-- was fetched, or else the one for the connection, and no other packet is for that. It comes only where all went well;
-- a refusal is the answer's own; the disk fails only where there are records to be written; a node that is up isn't
-- down
abbrev pub EndsBy : Bool → Answer → Ended → Type 0
EndsBy connected answer (Handed outcome reply outs) =
    (outcome ≡ answer.outcome) × (reply ≡ reply_of connected answer) × (outs ≡ outs_of answer.outs)
EndsBy connected answer (Refused cause) = answer.outcome ≡ RefusedWith cause
EndsBy connected answer Wanted = Unit {0}
EndsBy connected answer Broke = answer.delta ≢ []
EndsBy connected answer WasDown = ⊥

-- The records of an answer are written in one batch. Where all went well the disk and the node have the batch, and on a
-- disk that tells a crash at any moment of the call leaves the batches as they were or with this one.
pub record Wrote (tells : Bool) (first now : Told) (old new : Noded) (answer : Answer) (ok failed : Bool)
    : Type 0 where
  pub kept : IsKeptAfter old.stored.records answer ok old.kept new.kept
  pub stored : new.stored ≡ stored_after old.stored answer.delta ok failed
  pub changes : IsTrue tells → Changes first now old.stored new.stored answer.delta ok failed
  pub cause : HasCause first.faults now.faults failed

-- the batches with the answer's records are those of a node, where they were before
abbrev pub StaysANode : Told → Noded → Answer → Type 0
StaysANode first old answer =
    (batches : List (List Fact)) → Has batches first.past old.stored → AreOfNode (with_batch batches answer.delta)

-- a node that is up is called, where the answer of the protocol is this one. Where its records were written, or the
-- disk failed while they were, the batches with them are those of a node
pub record Called (tells connected : Bool) (first now : Told) (old new : Noded) (answer : Answer) (ended : Ended)
    : Type 0 where
  pub ends : EndsBy connected answer ended
  pub wrote : Wrote tells first now old new answer (is_handed ended) (is_broken ended)
  pub next : IsTrue tells → (is_handed ended ≡ true) ⊎ (is_broken ended ≡ true) → StaysANode first old answer

-- a node that is down does nothing
pub record Sleeps (first now : Told) (old new : Noded) (ended : Ended) : Type 0 where
  pub ends : ended ≡ WasDown
  pub node : new ≡ old
  pub disk : now ≡ first

-- a call of a node: where it is down it does nothing
abbrev pub Does : (tells connected : Bool) → (first now : Told) → (old new : Noded) → Answer → Ended → Type 0
Does tells connected first now old new answer ended =
    MatchBool old.stored.journal.is_down (Sleeps first now old new ended)
    (Called tells connected first now old new answer ended)

-- a node that is up has its batches, and so has its disk
abbrev pub HasBatches : Bool → Told → Noded → Type 0
HasBatches tells first old =
    IsTrue tells → old.stored.journal.is_down ≡ false
    → (batches : List (List Fact)) × Holds batches first.past old.stored

-- what a node that keeps this answers, at a moment
abbrev pub answer_of : Terms → Noded → ℕ → Keeping → Asked → Answer
answer_of terms n now kept asked = answer_to terms n.stored.records (end_of n.stored.journal) now kept asked

-- the node is as it was, and its disk where that tells
pub record IsAsBefore (tells : Bool) (first now : Told) (old new : Noded) : Type 0 where
  pub node : new ≡ old
  pub disk : IsTrue tells → now ≡ first

-- A call at a moment is a step of the protocol: whatever its terms are, what the node keeps besides its records, and
-- what the call asks for, the node does what the protocol answers then. Where there was an answer, it asked for
-- something. Whatever it asked for, all is as before where it neither went well nor failed by the disk, and it says
-- that the node is down exactly where it is. It was a node as each is. It fails by the disk only through a fault of the
-- disk, and crashes nothing.
pub record Steps (tells : Bool) (first now : Told) (old new : Noded) (moment : ℕ) (call : Call) (ended : Ended)
    : Type 0 where
  pub does : (terms : Terms) → AreOwn terms → (kept : Keeping) → Keeps old.kept kept → (asked : Asked)
      → Asks call asked
      → Does tells (is_connected call) first now old new (answer_of terms old moment kept asked) ended
  pub asked : is_answered ended ≡ true → IsAsked call
  pub rests : is_handed ended ≡ false → is_broken ended ≡ false → IsAsBefore tells first now old new
  pub down : MatchBool old.stored.journal.is_down (ended ≡ WasDown) (ended ≢ WasDown)
  pub runs : Runs old
  pub cause : HasCause first.faults now.faults (is_broken ended)
  pub crashes : IsTrue tells → crashes_of now.past ≡ crashes_of first.past
