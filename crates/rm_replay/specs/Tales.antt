-- What befalls the disks of two nodes while a script is played.
use Rattle.std.specs.Prelude.{◌≡◌, ◌⊎◌, ℕ, ◌+◌, ◌&&◌, if◌then◌else◌, List, ◌∷◌, ◌++◌, Option, Some, None, []}
use Rattle.std.specs.Option.{option_map}
use Rattle.rm_base.specs.Count.{RoseBy}
use Rattle.rm_base.specs.Numbered.{numbered}
use Rattle.record_batch.specs.Fact.{Fact}
use Rattle.rm_disk.specs.Call.{crashes_of}
use Rattle.rm_protocol.specs.Sent.{outcome_of, same_side}
use Rattle.rm_protocol.specs.Terms.{Terms}
use Rattle.rm_protocol.specs.World.{Packet, Side, World, Event, Create, Grant, Send, Tick, Deliver, Close, End, Arm}
use Rattle.rm_protocol.specs.World.{Ask, Nack, Crash}
use Rattle.rm_protocol.specs.World.{Noise, Poll, Compact, Consume, node, other}
use Rattle.rm_script.specs.declared.report.line.Outcome.{Outcome}
use Rattle.rm_script.specs.declared.event.Event.{Event as Said}
use Rattle.rm_script.specs.declared.event.Event.TheVariants as said
use Rattle.rm_replay.specs.Actor.Outcomes.{is_disk_outcome}
use Rattle.rm_disk.specs.Told.{Told}
use Rattle.node_store.specs.Has.{StandsForBatches}
use Rattle.rm_replay.specs.Meaning.{outcome_told, side_of, stepped}

-- the crashes of a node, each with its choice and the entries that the node has after it, and how many lines of the
-- node came out as `disk`
pub record Tale : Type 0 where
  pub crashes : List (ℕ × List (List Fact))
  pub faults : ℕ

-- one tale behind another
abbrev pub joined : Tale → Tale → Tale
joined one two = record { crashes = one.crashes ++ two.crashes; faults = one.faults + two.faults }

-- the crash of the node at one side, if it is the node at another one, with the entries that it has then
abbrev pub crash_of : Side → Side → ℕ → List (List Fact) → List (ℕ × List (List Fact))
crash_of side at choice entries = if same_side at side then (choice, entries) ∷ [] else []

-- the crash of a node that a line makes
abbrev pub crash_in : Side → Said → List (List Fact) → List (ℕ × List (List Fact))
crash_in side (said.Crash at choice) entries = crash_of side (side_of at) choice entries
crash_in side _ entries = []

-- the node that a packet goes to
abbrev pub receiver : Packet → Side
receiver p = other p.from

-- the node that an event is for; none where there is no packet
abbrev pub node_of : World → Event → Option Side
node_of w (Create side via expires offer) = Some side
node_of w (Grant side behaviour) = Some side
node_of w (Send side seq text) = Some side
node_of w (Tick side now) = Some side
node_of w (Deliver k) = option_map receiver (numbered w.packets k)
node_of w (Close side seq) = Some side
node_of w (End side seq) = Some side
node_of w (Ask side seq) = Some side
node_of w (Nack side seq) = Some side
node_of w (Arm side calls) = Some side
node_of w (Crash side kept) = Some side
node_of w (Noise side refusal) = Some side
node_of w (Poll side) = Some side
node_of w (Compact side) = Some side
node_of w (Consume side seq upto) = Some side

-- 1 where a line of this node came out as `disk`
abbrev pub fault_at : Side → Option Side → Outcome → ℕ
fault_at side None outcome = 0
fault_at side (Some at) outcome = if same_side at side && is_disk_outcome outcome then 1 else 0

-- by the event that the line means
abbrev pub fault_in : Terms → World → Side → Option Event → ℕ
fault_in terms w side None = 0
fault_in terms w side (Some event) = fault_at side (node_of w event) (outcome_told (outcome_of terms w event))

-- what a line tells of a node
abbrev pub tale_of : Terms → World → Side → Said → Option Event → Tale
tale_of terms w side line event = record {
  crashes = crash_in side line (node (stepped terms w event) side).entries;
  faults = fault_in terms w side event;
}

-- what a disk shows: its calls and its fuse, and how often a device call has failed
pub record Drive : Type 0 where
  pub disk : Told
  pub failed : ℕ

-- crashes of a disk, each with its choice and the bytes that a read gave after it, are these of a node
abbrev pub AreLeftBy : List (ℕ × List (List Fact)) → List (ℕ × List ℕ) → Type 0
AreLeftBy [] [] = Unit {0}
AreLeftBy (crash ∷ crashes) (pair ∷ pairs) =
    (pair.0 ≡ crash.0) × StandsForBatches crash.1 pair.1 × AreLeftBy crashes pairs
AreLeftBy _ _ = ⊥

-- from one moment to another a disk had the crashes of a tale and no other, and its count of faults rose by as much at
-- least
pub record Tells (tale : Tale) (first now : Drive) : Type 0 where
  pub pairs : List (ℕ × List ℕ)
  pub crashes : crashes_of now.disk.past ≡ crashes_of first.disk.past ++ pairs
  pub left : AreLeftBy tale.crashes pairs
  pub faults : RoseBy first.failed now.failed tale.faults

-- a disk had one crash more: that of the line, which is its own node's, with the line's choice
abbrev pub HasCrashed : Side → Said → Drive → Drive → Type 0
HasCrashed side (said.Crash at choice) first now =
    (side_of at ≡ side)
    × ((bytes : List ℕ) × (crashes_of now.disk.past ≡ crashes_of first.disk.past ++ (choice, bytes) ∷ []))
HasCrashed side _ first now = ⊥

-- where memory was wanting in a line: there may be the line's crash more, and the count of faults has not fallen
pub record Grew (side : Side) (line : Said) (first now : Drive) : Type 0 where
  pub crashes : (crashes_of now.disk.past ≡ crashes_of first.disk.past) ⊎ HasCrashed side line first now
  pub faults : RoseBy first.failed now.failed 0
