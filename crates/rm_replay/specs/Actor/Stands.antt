-- How the code's node and its disk stand for a node of the protocol.
use Rattle.std.specs.Prelude.{◌≡◌, ◌⊎◌, ℕ, Bool, true, false, List, [], ◌++◌, ◌∷◌, length, Result, Ok, Err}
use Rattle.record_batch.specs.Fact.{Fact}
use Rattle.rm_disk.specs.Call.{Call, crashes_of}
use Rattle.rm_disk.specs.Image.{MayLeave}
use Rattle.rm_base.specs.declared.failures.Memory.{Memory}
use Rattle.rm_disk.specs.Journal.Entries.{Bank}
use Rattle.rm_protocol.specs.Calls.{Answer}
use Rattle.rm_protocol.specs.Node.{Node, State, Up, Writing, Compacting, after, call_outcome, fetched_after}
use Rattle.rm_protocol.specs.Node.{fresh_entries, mounted, said_after}
use Rattle.rm_disk.specs.Told.{Told}
use Rattle.node_laws.specs.Keeps.{WaitByTheRules}
use Rattle.node_store.specs.Has.{AreOfNode, Has, IsLeftBy, StandsForBatchesAt}
use Rattle.node_store.specs.Stored.{Stored, with_batch}
use Rattle.rm_node.specs.Keeping.{Keeping, Keeps}
use Rattle.rm_replay.specs.Actor.Actored.{Actored}
use Rattle.rm_replay.specs.Actor.Outcomes.{call_told, left_of, packets_in}
use Rattle.rm_replay.specs.declared.actor.actor.Came.{Came}

-- the node is up, and the disk has its entries
pub record Awake (entries : List (List Fact)) (past : List Call) (stored : Stored) : Type 0 where
  pub up : stored.journal.is_down ≡ false
  pub has : Has entries past stored

-- the node is down: whatever a crash leaves stands, where the journal's list does, for its entries, or for these with
-- the batch of the call that failed, and either are those of a node
pub record Asleep (entries : List (List Fact)) (delta : List Fact) (past : List Call) (stored : Stored) : Type 0 where
  pub down : stored.journal.is_down ≡ true
  pub images : (bytes : List ℕ) → MayLeave past bytes
      → IsLeftBy stored.journal.bank entries delta bytes
  pub are : AreOfNode entries
  pub next : AreOfNode (with_batch entries delta)
  pub count : length stored.journal.gates ≡ length entries

-- bytes stand for these batches, and the list of them begins at this place
pub record StandsFrom (start : ℕ) (batches : List (List Fact)) (bytes : List ℕ) : Type 0 where
  pub bank : Bank
  pub begins : bank.start ≡ start
  pub stands : StandsForBatchesAt bank batches bytes

-- the node is down: whatever a crash leaves stands, where the journal's list does, for its entries, or for those of the
-- list that was written anew, where that begins, and either are those of a node
pub record Rewriting (entries : List (List Fact)) (start : ℕ) (past : List Call) (stored : Stored) : Type 0 where
  pub down : stored.journal.is_down ≡ true
  pub images : (bytes : List ℕ) → MayLeave past bytes
      → StandsForBatchesAt stored.journal.bank entries bytes ⊎ StandsFrom start (fresh_entries entries) bytes
  pub are : AreOfNode entries
  pub next : AreOfNode (fresh_entries entries)
  pub count : length stored.journal.gates ≡ length entries

-- by the state of the protocol's node
abbrev pub StandsBy : State → List (List Fact) → List Call → Stored → Type 0
StandsBy Up entries past stored = Awake entries past stored
StandsBy (Writing delta) entries past stored = Asleep entries delta past stored
StandsBy (Compacting start) entries past stored = Rewriting entries start past stored

-- what a node of the protocol keeps besides its entries
abbrev pub kept_of : Node → Keeping
kept_of x = record { granted = x.granted; waits = x.waits; time = x.time; polled = x.polled }

-- the code's node and its disk are this node of the protocol. The journal's bank has the list, which begins where the
-- node's does, whether the node is up or down. The keys and the messages that wait, and the time, are its own while it
-- is up: a mount works them out anew. The messages keep the rules of what is written
pub record Stands (x : Node) (now : Told) (a : Actored) : Type 0 where
  pub disk : StandsBy x.state x.entries now.past a.node.stored
  pub start : a.node.stored.journal.bank.start ≡ x.start
  pub fuse : now.fuse ≡ x.fuse
  pub granted : a.node.kept.granted ≡ x.granted
  pub kept : x.state ≡ Up → Keeps a.node.kept (kept_of x)
  pub rules : WaitByTheRules x.polled
  pub clock : a.clock ≡ x.clock

-- a call with this answer came out so, and this left the node
pub record Acted (connected : Bool) (x : Node) (answer : Answer) (now : Told) (new : Actored) (came : Came)
    : Type 0 where
  pub stands : Stands (after x answer) now new
  pub outcome : came.outcome ≡ call_told (call_outcome x answer)
  pub outs : packets_in came ≡ left_of connected (fetched_after x answer) (said_after x answer)

-- a call with this answer: where memory was wanting, nothing has changed
abbrev pub Acts : Bool → Node → Answer → Told → Actored → Result Came Memory → Type 0
Acts connected x answer now new (Ok came) = Acted connected x answer now new came
Acts connected x answer now new (Err memory) = Stands x now new

-- what a crash with this choice leaves: the node is mounted, and bytes that stand for its entries, where its list
-- begins, are what it left
pub record Crashed (x : Node) (choice : ℕ) (first now : Told) (new : Actored) : Type 0 where
  pub kept : Bool
  pub stands : Stands (mounted x kept) now new
  pub bytes : List ℕ
  pub crashes : crashes_of now.past ≡ crashes_of first.past ++ (choice, bytes) ∷ []
  pub left : StandsFrom (mounted x kept).start (mounted x kept).entries bytes

-- each image of the disk stands for entries that one more crash of the node leaves, which are those of a node, and has
-- them where the node's list begins
pub record IsLeftOf (x : Node) (bytes : List ℕ) : Type 0 where
  pub kept : Bool
  pub stands : StandsFrom (mounted x kept).start (mounted x kept).entries bytes
  pub are : AreOfNode (mounted x kept).entries

-- so it is for each image
abbrev pub Leaves : Node → List Call → Type 0
Leaves x past = (bytes : List ℕ) → MayLeave past bytes → IsLeftOf x bytes
