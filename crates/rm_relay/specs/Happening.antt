-- What a line does to three nodes, their disks, and a wire.
use Rattle.std.specs.Prelude.{◌≡◌, ◌⊎◌, ◌&&◌, ℕ, Bool, false, List, ◌++◌, map, take, Option, Some, Result, Ok, Err}
use Rattle.rm_base.specs.declared.failures.Memory.{Memory}
use Rattle.rm_script.specs.declared.report.line.Outcome.{Outcome}
use Rattle.rm_protocol.specs.Compact.{compact_outcome, compacted as compacted_node}
use Rattle.rm_protocol.specs.Node.{CallOutcome, Node, armed as armed_by, call_outcome, mounted}
use Rattle.rm_protocol.specs.Pair.{Acted, answers}
use Rattle.rm_protocol.specs.Terms.{Terms}
use Rattle.rm_node.specs.Asked.{Asked, is_connected}
use Rattle.rm_node.specs.Packets.{packet_of}
use Rattle.rm_node.specs.declared.call.Call.{Call}
use Rattle.rm_replay.specs.Actor.Outcomes.{back_packet, call_told, is_disk_outcome, packets_in}
use Rattle.rm_replay.specs.Actor.Stands.{Leaves}
use Rattle.rm_replay.specs.Actor.Steps.{answer_of, clocked}
use Rattle.rm_replay.specs.declared.actor.actor.Came.{Came}
use Rattle.rm_replay.specs.Asked.{WasAsked}
use Rattle.rm_replay.specs.Tales.{Tale, Tells}
use Rattle.rm_relay.specs.Meaning.{Means, comes_out, stepped}
use Rattle.rm_relay.specs.Played.{Grew, IsCut, crash_in, same_station, tale_of}
use Rattle.rm_relay.specs.Shows.{Drives, Scene, Shows, StandFor}
use Rattle.rm_relay.specs.Word.World.{Event, World, node, packets_of, puts, with_node}
use Rattle.rm_relay.specs.declared.event.Event.{Event as Said}
use Rattle.rm_relay.specs.declared.event.Event.TheVariants as said
use Rattle.rm_relay.specs.declared.word.station.Station.{Station}
use Rattle.rm_relay.specs.declared.word.station.Station.TheVariants.{One, Two, Three}
use Rattle.rm_relay.specs.declared.report.Ending.{Ending}
use Rattle.rm_relay.specs.declared.report.Ending.TheVariants.{Came as came_out}
use Rattle.rm_relay.specs.declared.stage.Nodes3.{Nodes3}

-- what a node becomes and what leaves it, and how the call comes out
pub record Step : Type 0 where
  pub acted : Acted
  pub outcome : CallOutcome

-- of a call that asks this
abbrev pub step_of : Terms → Node → Asked → Call → Step
step_of terms x asked this = record {
  acted = answers (clocked this x) (is_connected this) (answer_of terms x asked);
  outcome = call_outcome (clocked this x) (answer_of terms x asked);
}

-- the node there made its step, and what leaves it left it
pub record SteppedAt (w : World) (at : Station) (step : Step) (d : Drives) (nodes : Nodes3) (came : Came)
    : Type 0 where
  pub stand : StandFor (with_node w at step.acted.node) d nodes
  pub outcome : came.outcome ≡ call_told step.outcome
  pub outs : packets_in came ≡ map back_packet step.acted.fetched ++ map packet_of step.acted.said

-- where memory was wanting, nothing has changed
abbrev pub StepsAt : World → Station → Step → Drives → Nodes3 → Result Came Memory → Type 0
StepsAt w at step d nodes (Ok came) = SteppedAt w at step d nodes came
StepsAt w at step d nodes (Err memory) = StandFor w d nodes

-- of the disks, where the one there was used
pub record WereAsked (at : Station) (failed : Bool) (old new : Drives) : Type 0 where
  pub one : WasAsked (same_station at One && failed) old.one new.one
  pub two : WasAsked (same_station at Two && failed) old.two new.two
  pub three : WasAsked (same_station at Three && failed) old.three new.three

-- where memory was wanting, the disk may have failed all the same
abbrev pub WereAskedFor : Station → Result Ending Memory → Drives → Drives → Type 0
WereAskedFor at (Ok (came_out outcome)) old new = WereAsked at (is_disk_outcome outcome) old new
WereAskedFor at (Ok _) old new = WereAsked at false old new
WereAskedFor at (Err memory) old new = (failed : Bool) × WereAsked at failed old new

-- the world after a step, of which these packets were put
abbrev pub moved : Terms → World → Station → Option Station → Step → World
moved terms w at back step = record (with_node w at step.acted.node) {
  packets = puts terms w.packets (packets_of at back step.acted);
}

-- or some first of them
abbrev pub moved_in_part : Terms → World → Station → Option Station → Step → ℕ → World
moved_in_part terms w at back step count = record (with_node w at step.acted.node) {
  packets = puts terms w.packets (take count (packets_of at back step.acted));
}

-- A step of a node, and its packets on the wire. Where memory was wanting, nothing has changed, or some last of the
-- packets are not there.
abbrev pub Moves : Terms → World → Station → Option Station → Step → Scene → Nodes3 → List Station
    → Result Ending Memory → Type 0
Moves terms w at back step scene nodes senders (Ok ending) =
    (ending ≡ came_out (call_told step.outcome)) × Shows (moved terms w at back step) scene nodes senders
Moves terms w at back step scene nodes senders (Err memory) =
    Shows w scene nodes senders
    ⊎ ((count : ℕ) × Shows (moved_in_part terms w at back step count) scene nodes senders)

-- a line was played that means this event
pub record Happened (terms : Terms) (w : World) (line : Said) (old new : Scene) (nodes : Nodes3)
    (senders : List Station) (ending : Option Ending) : Type 0 where
  pub event : Option Event
  pub means : Means line event
  pub comes : ending ≡ comes_out terms w event
  pub shows : Shows (stepped terms w event) new nodes senders
  pub one : Tells (tale_of terms w One line event) old.drives.one new.drives.one
  pub two : Tells (tale_of terms w Two line event) old.drives.two new.drives.two
  pub three : Tells (tale_of terms w Three line event) old.drives.three new.drives.three

-- a line was played
abbrev pub Happens : Terms → World → Said → Scene → Scene → Nodes3 → List Station → Result (Option Ending) Memory
    → Type 0
Happens terms w line old new nodes senders (Ok ending) = Happened terms w line old new nodes senders ending
Happens terms w line old new nodes senders (Err memory) = IsCut terms w line old new

-- the ending of a line that has one
abbrev pub told_of : Result Ending Memory → Result (Option Ending) Memory
told_of (Ok ending) = Ok (Some ending)
told_of (Err memory) = Err memory

-- the disk of a node is armed
abbrev pub armed : World → Station → ℕ → World
armed w at calls = with_node w at (record (node w at) { fuse = armed_by calls (node w at).fuse })

-- a node writes its journal anew
abbrev pub compacted : Terms → World → Station → World
compacted terms w at = with_node w at (compacted_node terms (node w at))

-- the node there did so; where memory was wanting, nothing has changed
abbrev pub CompactsAt : Terms → World → Station → Drives → Nodes3 → Result Outcome Memory → Type 0
CompactsAt terms w at d nodes (Ok outcome) =
    (outcome ≡ call_told (compact_outcome terms (node w at))) × StandFor (compacted terms w at) d nodes
CompactsAt terms w at d nodes (Err memory) = StandFor w d nodes

-- the disk there failed where this came out as `disk`
abbrev pub WereAskedBy : Station → Result Outcome Memory → Drives → Drives → Type 0
WereAskedBy at (Ok outcome) old new = WereAsked at (is_disk_outcome outcome) old new
WereAskedBy at (Err memory) old new = WereAsked at false old new

-- what a crash of the node there tells of another one, which has these entries then
abbrev pub crash_tale : Station → Station → ℕ → Node → Tale
crash_tale at of choice x = record { crashes = crash_in of (said.Crash at choice) x.entries; faults = 0 }

-- a node crashed, and was mounted again
pub record CrashedAt (w : World) (at : Station) (choice : ℕ) (old new : Drives) (nodes : Nodes3) : Type 0 where
  pub kept : Bool
  pub stand : StandFor (with_node w at (mounted (node w at) kept)) new nodes
  pub one : Tells (crash_tale at One choice (mounted w.one kept)) old.one new.one
  pub two : Tells (crash_tale at Two choice (mounted w.two kept)) old.two new.two
  pub three : Tells (crash_tale at Three choice (mounted w.three kept)) old.three new.three

-- where memory was wanting, each image of the disks is still the node's own
pub record CrashedShort (w : World) (at : Station) (choice : ℕ) (old new : Drives) : Type 0 where
  pub one : Leaves w.one new.one.disk.past
  pub two : Leaves w.two new.two.disk.past
  pub three : Leaves w.three new.three.disk.past
  pub grew_one : Grew One (said.Crash at choice) old.one new.one
  pub grew_two : Grew Two (said.Crash at choice) old.two new.two
  pub grew_three : Grew Three (said.Crash at choice) old.three new.three

-- a crash
abbrev pub CrashesAt : World → Station → ℕ → Drives → Drives → Nodes3 → Result Unit Memory → Type 0
CrashesAt w at choice old new nodes (Ok done) = CrashedAt w at choice old new nodes
CrashesAt w at choice old new nodes (Err memory) = CrashedShort w at choice old new
