-- What a line does to two nodes, their disks, and a wire.
use Rattle.std.specs.Prelude.{◌≡◌, ◌⊎◌, ℕ, Bool, List, ◌∷◌, take, Option, Some, Result, Ok, Err, []}
use Rattle.rm_base.specs.declared.failures.Memory.{Memory}
use Rattle.rm_base.specs.declared.message.Behaviour.{Behaviour}
use Rattle.rm_node.specs.declared.packets.Out.{Out}
use Rattle.rm_protocol.specs.Compact.{compact_outcome, compacted as compacted_node}
use Rattle.rm_protocol.specs.Node.{Node, armed as armed_by, mounted}
use Rattle.rm_protocol.specs.Terms.{Terms}
use Rattle.rm_protocol.specs.World.{Event, Side, One, Two, World, hands_out, node, with_node}
use Rattle.rm_script.specs.declared.report.line.Outcome.{Outcome}
use Rattle.rm_script.specs.declared.event.Event.{Event as Said}
use Rattle.rm_script.specs.declared.event.Event.TheVariants as said
use Rattle.rm_script.specs.declared.event.Side.{Side as Place}
use Rattle.rm_base.specs.Wire.Wire.{with_packet}
use Rattle.rm_replay.specs.Actor.Outcomes.{call_told, is_disk_outcome}
use Rattle.rm_replay.specs.Actor.Stands.{Leaves}
use Rattle.rm_replay.specs.Asked.{Step, WereAsked}
use Rattle.rm_replay.specs.Meaning.{Means, comes_out, side_of, stepped}
use Rattle.rm_replay.specs.Shows.{Drives, IsCut, Scene, Shows, StandFor}
use Rattle.rm_replay.specs.Tales.{Grew, Tale, Tells, crash_of, tale_of}
use Rattle.rm_replay.specs.declared.stage.Nodes.{Nodes}

-- the world after a step of a node
abbrev pub moved : Terms → World → Side → Step → World
moved terms w side step = hands_out terms (with_node w side step.node) side step.said

-- the packets after these were put, one after the other
abbrev pub with_all : List (ℕ × List ℕ) → ℕ → List Out → List (ℕ × List ℕ)
with_all packets to [] = packets
with_all packets to (out ∷ outs) = with_all (with_packet packets to out.bytes) to outs

-- or some first of these
abbrev pub IsPutInPart : List (ℕ × List ℕ) → ℕ → List Out → List (ℕ × List ℕ) → Type 0
IsPutInPart packets to outs new = (count : ℕ) × (new ≡ with_all packets to (take count outs))

-- the world after a step whose packets were put in part
abbrev pub moved_in_part : Terms → World → Side → Step → ℕ → World
moved_in_part terms w side step count =
    hands_out terms (with_node w side step.node) side (take count step.said)

-- A step of a node, and its packets on the wire. Where memory was wanting, nothing has changed, or some last of the
-- packets are not there.
abbrev pub Moves : Terms → World → Side → Step → Scene → Nodes → Result Outcome Memory → Type 0
Moves terms w side step scene nodes (Ok outcome) =
    (outcome ≡ call_told step.outcome) × Shows (moved terms w side step) scene nodes
Moves terms w side step scene nodes (Err memory) =
    Shows w scene nodes ⊎ ((count : ℕ) × Shows (moved_in_part terms w side step count) scene nodes)

-- where memory was wanting, the disk may have failed all the same
abbrev pub WereAskedFor : Side → Result Outcome Memory → Drives → Drives → Type 0
WereAskedFor side (Ok outcome) old new = WereAsked side (is_disk_outcome outcome) old new
WereAskedFor side (Err memory) old new = (failed : Bool) × WereAsked side failed old new

-- a line was played that means this event
pub record Happened (terms : Terms) (w : World) (line : Said) (old new : Scene) (nodes : Nodes)
    (outcome : Option Outcome) : Type 0 where
  pub event : Option Event
  pub means : Means line event
  pub comes : outcome ≡ comes_out terms w line event
  pub shows : Shows (stepped terms w event) new nodes
  pub one : Tells (tale_of terms w One line event) old.drives.one new.drives.one
  pub two : Tells (tale_of terms w Two line event) old.drives.two new.drives.two

-- a line was played
abbrev pub Happens : Terms → World → Said → Scene → Scene → Nodes → Result (Option Outcome) Memory → Type 0
Happens terms w line old new nodes (Ok outcome) = Happened terms w line old new nodes outcome
Happens terms w line old new nodes (Err memory) = IsCut terms w line old new

-- the outcome of a line that has one
abbrev pub told_of : Result Outcome Memory → Result (Option Outcome) Memory
told_of (Ok outcome) = Ok (Some outcome)
told_of (Err memory) = Err memory

-- a node announces another behaviour from now on
abbrev pub granted : World → Side → Behaviour → World
granted w side behaviour = with_node w side (record (node w side) { granted = behaviour })

-- the disk of a node is armed
abbrev pub armed : World → Side → ℕ → World
armed w side calls = with_node w side (record (node w side) { fuse = armed_by calls (node w side).fuse })

-- a node writes its journal anew
abbrev pub compacted : Terms → World → Side → World
compacted terms w side = with_node w side (compacted_node terms (node w side))

-- the node at a side did so; where memory was wanting, nothing has changed
abbrev pub Compacts : Terms → World → Side → Drives → Nodes → Result Outcome Memory → Type 0
Compacts terms w side d nodes (Ok outcome) =
    (outcome ≡ call_told (compact_outcome terms (node w side))) × StandFor (compacted terms w side) d nodes
Compacts terms w side d nodes (Err memory) = StandFor w d nodes

-- what a crash of the node at one side tells of that at another, which has these entries then
abbrev pub crash_tale : Side → Side → ℕ → Node → Tale
crash_tale side at choice x = record { crashes = crash_of side at choice x.entries; faults = 0 }

-- a node crashed, and was mounted again
pub record CrashedAt (w : World) (side : Side) (choice : ℕ) (old new : Drives) (nodes : Nodes) : Type 0 where
  pub kept : Bool
  pub stand : StandFor (with_node w side (mounted (node w side) kept)) new nodes
  pub one : Tells (crash_tale One side choice (mounted w.one kept)) old.one new.one
  pub two : Tells (crash_tale Two side choice (mounted w.two kept)) old.two new.two

-- where memory was wanting, each image of both disks is still the node's own
pub record CrashedShort (w : World) (at : Place) (choice : ℕ) (old new : Drives) : Type 0 where
  pub one : Leaves w.one new.one.disk.past
  pub two : Leaves w.two new.two.disk.past
  pub grew_one : Grew One (said.Crash at choice) old.one new.one
  pub grew_two : Grew Two (said.Crash at choice) old.two new.two

-- a crash
abbrev pub Crashes : World → Place → ℕ → Drives → Drives → Nodes → Result Unit Memory → Type 0
Crashes w at choice old new nodes (Ok done) = CrashedAt w (side_of at) choice old new nodes
Crashes w at choice old new nodes (Err memory) = CrashedShort w at choice old new
