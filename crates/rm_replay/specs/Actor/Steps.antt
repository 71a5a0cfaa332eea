-- A call of a node of a script.
use Rattle.std.specs.Prelude.{◌≡◌, ℕ, if◌then◌else◌, Result, Ok, Err}
use Rattle.rm_base.specs.declared.failures.Memory.{Memory}
use Rattle.rm_disk.specs.Call.{crashes_of}
use Rattle.rm_disk.specs.Cause.{HasCause}
use Rattle.rm_disk.specs.Told.{Told}
use Rattle.rm_protocol.specs.Calls.{Answer}
use Rattle.rm_protocol.specs.Node.{Node, node_end, records}
use Rattle.rm_protocol.specs.Terms.{Terms}
use Rattle.rm_protocol.specs.World.{clock_by}
use Rattle.node_laws.specs.OwnTerms.{AreOwn}
use Rattle.rm_node.specs.Asked.{Asked, Asks, answer_to, is_connected}
use Rattle.rm_node.specs.declared.call.Call.{Call}
use Rattle.rm_node.specs.declared.call.Call.TheVariants as call
use Rattle.rm_replay.specs.Actor.Actored.{Actored}
use Rattle.rm_replay.specs.Actor.Outcomes.{is_disk}
use Rattle.rm_replay.specs.Actor.Stands.{Acted, Stands, kept_of}
use Rattle.rm_replay.specs.declared.actor.actor.Came.{Came}

-- what the protocol's node answers
abbrev pub answer_of : Terms → Node → Asked → Answer
answer_of terms x asked = answer_to terms (records x) (node_end terms x) x.clock (kept_of x) asked

-- what its clock tells then: a tick sets it, unless the node is down
abbrev pub clock_of : Call → Node → ℕ
clock_of (call.Tick now) x = clock_by x.state x.clock now
clock_of _ x = x.clock

-- and that of the code's node
abbrev pub clock_after : Call → Actored → ℕ
clock_after (call.Tick now) a = if a.node.stored.journal.is_down then a.clock else now
clock_after _ a = a.clock

-- with this clock
abbrev pub clocked : Call → Node → Node
clocked asked x = record x { clock = clock_of asked x }

-- the clock is set, and the node does what is asked; where memory was wanting, nothing has changed
abbrev pub Plays : Terms → Call → Node → Asked → Told → Actored → Result Came Memory → Type 0
Plays terms this x asked now new (Ok came) =
    Acted (is_connected this) (clocked this x) (answer_of terms x asked) now new came
Plays terms this x asked now new (Err memory) = Stands x now new

-- A call of a node that stands for one of the protocol. It is told as a failure of the disk only through a fault of the
-- disk, and crashes nothing.
pub record Steps (first now : Told) (old new : Actored) (this : Call) (result : Result Came Memory) : Type 0 where
  pub plays : (terms : Terms) → AreOwn terms → (asked : Asked) → Asks this asked → (x : Node) → Stands x first old
      → Plays terms this x asked now new result
  pub cause : HasCause first.faults now.faults (is_disk result)
  pub crashes : crashes_of now.past ≡ crashes_of first.past
