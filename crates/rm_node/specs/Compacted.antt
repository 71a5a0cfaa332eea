-- What a call does that writes the journal of a node anew.
use Rattle.std.specs.Prelude.{◌≡◌, ◌⊎◌, Bool, true, List, [], Option, Some, None, Result, IsTrue, MatchBool}
use Rattle.rm_disk.specs.Call.{crashes_of}
use Rattle.rm_disk.specs.Cause.{HasCause}
use Rattle.rm_disk.specs.Told.{Told}
use Rattle.record_batch.specs.Fact.{Fact}
use Rattle.node_store.specs.Has.{AreOfNode, Has}
use Rattle.node_store.specs.Rewrites.{fresh_batches, rewrite_refusal, Rewrites, rewritten}
use Rattle.node_store.specs.declared.error.RewriteError.{RewriteError}
use Rattle.node_store.specs.declared.error.RewriteError.TheVariants as rewrite
use Rattle.rm_protocol.specs.Calls.{Done, StoreFull}
use Rattle.rm_node.specs.Called.{Sleeps}
use Rattle.rm_node.specs.Ends.{Ended, Handed, Refused, Wanted, Broke, done_end, is_broken, is_handed}
use Rattle.rm_node.specs.Noded.{Noded, Runs}
use Rattle.rm_node.specs.declared.error.NodeError.{NodeError}

-- how the call ends: nothing is handed out
abbrev pub compact_end : {T : Type 0} → Result T NodeError → Ended
compact_end result = done_end result

-- How it may end, where the journal refuses it for this reason, or for none: it is refused so, or all goes well or the
-- disk fails. Memory may be wanting in either case.
abbrev pub EndsWith : Option RewriteError → Ended → Type 0
EndsWith refusal Wanted = Unit {0}
EndsWith None (Handed outcome reply outs) = (outcome ≡ Done) × (reply ≡ None) × (outs ≡ [])
EndsWith None Broke = Unit {0}
EndsWith (Some (rewrite.Full end needed)) (Refused cause) = cause ≡ StoreFull end needed
EndsWith _ _ = ⊥

-- The fresh batches of the node are those of a node, where those were that it had: whichever of the two lists a crash
-- leaves, a mount finds a node.
abbrev pub StaysANodeInShort : Told → Noded → Type 0
StaysANodeInShort first old =
    (batches : List (List Fact)) → Has batches first.past old.stored → AreOfNode (fresh_batches old.stored.records)

-- A node that is up writes its journal anew. What it keeps besides stays: the same keys wait by what the records say in
-- short. Where all went well, or the disk failed, the fresh batches are those of a node.
pub record Compacts (tells : Bool) (first now : Told) (old new : Noded) (ended : Ended) : Type 0 where
  pub ends : EndsWith (rewrite_refusal old.stored) ended
  pub kept : new.kept ≡ old.kept
  pub stored : new.stored ≡ rewritten old.stored (is_handed ended) (is_broken ended)
  pub rewrites : IsTrue tells → Rewrites first now old.stored new.stored (is_handed ended) (is_broken ended)
  pub next : (is_handed ended ≡ true) ⊎ (is_broken ended ≡ true) → StaysANodeInShort first old

-- The call, of a node as each is: one that is down does nothing. It fails by the disk only through a fault of the disk,
-- and crashes nothing.
pub record IsCompacted (tells : Bool) (first now : Told) (old new : Noded) (ended : Ended) : Type 0 where
  pub does : MatchBool old.stored.journal.is_down (Sleeps first now old new ended)
      (Compacts tells first now old new ended)
  pub runs : Runs old
  pub cause : HasCause first.faults now.faults (is_broken ended)
  pub crashes : IsTrue tells → crashes_of now.past ≡ crashes_of first.past
