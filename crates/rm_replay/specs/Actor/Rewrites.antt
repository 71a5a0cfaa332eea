-- A node of a script writes its journal anew.
use Rattle.std.specs.Prelude.{◌≡◌, Result, Ok, Err}
use Rattle.rm_base.specs.declared.failures.Memory.{Memory}
use Rattle.rm_disk.specs.Call.{crashes_of}
use Rattle.rm_disk.specs.Cause.{HasCause}
use Rattle.rm_disk.specs.Told.{Told}
use Rattle.rm_protocol.specs.Compact.{compact_outcome, compacted}
use Rattle.rm_protocol.specs.Node.{Node}
use Rattle.rm_protocol.specs.Terms.{Terms}
use Rattle.rm_script.specs.declared.report.line.Outcome.{Outcome}
use Rattle.node_laws.specs.OwnTerms.{AreOwn}
use Rattle.rm_replay.specs.Actor.Actored.{Actored}
use Rattle.rm_replay.specs.Actor.Outcomes.{call_told, ends_by_disk}
use Rattle.rm_replay.specs.Actor.Stands.{Stands}

-- the node is what the protocol's node is then, and the call came out as the protocol says
pub record Rewrote (terms : Terms) (x : Node) (now : Told) (new : Actored) (outcome : Outcome) : Type 0 where
  pub stands : Stands (compacted terms x) now new
  pub came_out : outcome ≡ call_told (compact_outcome terms x)

-- where memory was wanting, nothing has changed
abbrev pub Rewrites : Terms → Node → Told → Actored → Result Outcome Memory → Type 0
Rewrites terms x now new (Ok outcome) = Rewrote terms x now new outcome
Rewrites terms x now new (Err memory) = Stands x now new

-- The call, of a node that stands for one of the protocol. It is told as a failure of the disk only through a fault of
-- the disk, and crashes nothing.
pub record IsRewrite (first now : Told) (old new : Actored) (result : Result Outcome Memory) : Type 0 where
  pub plays : (terms : Terms) → AreOwn terms → (x : Node) → Stands x first old → Rewrites terms x now new result
  pub cause : HasCause first.faults now.faults (ends_by_disk result)
  pub crashes : crashes_of now.past ≡ crashes_of first.past
