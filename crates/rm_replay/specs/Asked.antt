-- What a node is asked for, or what comes to it, as a call of the protocol.
use Rattle.std.specs.Prelude.{◌≡◌, ◌&&◌, ℕ, Bool, false, List, ◌++◌, map, Result, Ok, Err}
use Rattle.rm_base.specs.declared.failures.Memory.{Memory}
use Rattle.rm_message.specs.declared.message.Message.{Message}
use Rattle.rm_node.specs.declared.packets.Out.{Out}
use Rattle.rm_protocol.specs.Node.{CallOutcome, Node, after, call_outcome, fetched_after, said_after}
use Rattle.rm_protocol.specs.Said.{sent_of}
use Rattle.rm_protocol.specs.Terms.{Terms}
use Rattle.rm_protocol.specs.World.{Side, One, Two, World, with_node}
use Rattle.rm_protocol.specs.Sent.{same_side}
use Rattle.rm_disk.specs.Call.{crashes_of}
use Rattle.rm_disk.specs.Cause.{HasCause}
use Rattle.rm_replay.specs.Actor.Actored.{Actored}
use Rattle.rm_node.specs.Asked.{Asked, is_connected}
use Rattle.rm_replay.specs.Actor.Steps.{answer_of, clocked}
use Rattle.rm_replay.specs.Actor.Outcomes.{call_told, packets_in}
use Rattle.rm_replay.specs.Actor.Stands.{Stands}
use Rattle.rm_replay.specs.declared.actor.actor.Came.{Came}
use Rattle.rm_disk.specs.Told.{Told}
use Rattle.rm_node.specs.declared.call.Call.{Call}
use Rattle.rm_replay.specs.Net.{text_of}
use Rattle.rm_replay.specs.Shows.{Drives, StandFor}
use Rattle.rm_replay.specs.Tales.{Drive}
use Rattle.rm_replay.specs.declared.stage.Nodes.{Nodes}

-- what the node becomes, what leaves it, and how the call comes out
pub record Step : Type 0 where
  pub node : Node
  pub said : List Message
  pub outcome : CallOutcome

-- of a call
abbrev pub step_of : Terms → Node → Asked → Call → Step
step_of terms x asked this = record {
  node = after (clocked this x) (answer_of terms x asked);
  said = fetched_after (clocked this x) (answer_of terms x asked)
      ++ sent_of (is_connected this) (said_after (clocked this x) (answer_of terms x asked));
  outcome = call_outcome (clocked this x) (answer_of terms x asked);
}

-- the bytes of packets
abbrev pub bytes_of : List Out → List (List ℕ)
bytes_of outs = map (λ (out : Out). out.bytes) outs

-- the code's node made this step, and the texts of what is said left it
pub record Stepped (step : Step) (now : Told) (new : Actored) (came : Came) : Type 0 where
  pub stands : Stands step.node now new
  pub outcome : came.outcome ≡ call_told step.outcome
  pub outs : bytes_of (packets_in came) ≡ map text_of step.said

-- where memory was wanting, nothing has changed
abbrev pub Steps : Node → Step → Told → Actored → Result Came Memory → Type 0
Steps x step now new (Ok came) = Stepped step now new came
Steps x step now new (Err memory) = Stands x now new

-- the node at a side made its step
pub record SteppedAt (w : World) (side : Side) (step : Step) (d : Drives) (nodes : Nodes) (came : Came) : Type 0 where
  pub stand : StandFor (with_node w side step.node) d nodes
  pub outcome : came.outcome ≡ call_told step.outcome
  pub outs : bytes_of (packets_in came) ≡ map text_of step.said

-- where memory was wanting, nothing has changed
abbrev pub StepsAt : World → Side → Step → Drives → Nodes → Result Came Memory → Type 0
StepsAt w side step d nodes (Ok came) = SteppedAt w side step d nodes came
StepsAt w side step d nodes (Err memory) = StandFor w d nodes

-- nothing crashed; the count of faults rose where this is said, and stayed otherwise
pub record WasAsked (failed : Bool) (old new : Drive) : Type 0 where
  pub crashes : crashes_of new.disk.past ≡ crashes_of old.disk.past
  pub cause : HasCause old.failed new.failed failed

-- neither disk had a crash or a fault
pub record WereSpared (old new : Drives) : Type 0 where
  pub one : WasAsked false old.one new.one
  pub two : WasAsked false old.two new.two

-- of both disks, where the one at this side was used
pub record WereAsked (side : Side) (failed : Bool) (old new : Drives) : Type 0 where
  pub one : WasAsked (same_side side One && failed) old.one new.one
  pub two : WasAsked (same_side side Two && failed) old.two new.two
