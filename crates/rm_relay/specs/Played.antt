-- What the lines of a relay's script come to, and what befalls the disks meanwhile.
use Rattle.std.specs.Prelude.{◌≡◌, ◌⊎◌, ℕ, ◌+◌, ◌&&◌, if◌then◌else◌, Bool, true, false, List, [], ◌∷◌, ◌++◌, length}
use Rattle.std.specs.Prelude.{take, slice_get, Option, Some, None}
use Rattle.std.specs.Option.{option_map}
use Rattle.rm_base.specs.Numbered.{numbered}
use Rattle.record_batch.specs.Fact.{Fact}
use Rattle.rm_protocol.specs.Terms.{Terms}
use Rattle.rm_replay.specs.Actor.Outcomes.{is_disk_outcome}
use Rattle.rm_replay.specs.Actor.Stands.{Leaves}
use Rattle.node_store.specs.Changes.{WasNotMade}
use Rattle.rm_base.specs.Count.{RoseBy}
use Rattle.rm_disk.specs.Call.{crashes_of}
use Rattle.rm_replay.specs.Tales.{Drive, Tale, Tells, joined}
use Rattle.rm_replay.specs.Asked.{WasAsked}
use Rattle.rm_relay.specs.Meaning.{Means, comes_out, ending_of, report_of, stepped}
use Rattle.rm_relay.specs.Report.{end_text, lines_text}
use Rattle.rm_relay.specs.Shows.{Drives, Holds, IsFresh, IsLeftOfLine, Scene}
use Rattle.rm_relay.specs.Word.World.{Event, Packet, World, asker, node, start}
use Rattle.rm_relay.specs.Word.World.{Create, Send, Forward, Trim, Tick, Deliver, Close, End, Compact, Arm, Crash}
use Rattle.rm_relay.specs.declared.event.Event.{Event as Said}
use Rattle.rm_relay.specs.declared.event.Event.TheVariants as said
use Rattle.rm_relay.specs.declared.word.station.Station.{Station}
use Rattle.rm_relay.specs.declared.word.station.Station.TheVariants.{One, Two, Three}
use Rattle.rm_relay.specs.declared.report.Ending.{Ending}
use Rattle.rm_relay.specs.declared.report.Ending.TheVariants.{Idle, Came}
use Rattle.rm_relay.specs.declared.report.Line3.{Line3}

-- the two nodes are one
abbrev pub same_station : Station → Station → Bool
same_station One One = true
same_station Two Two = true
same_station Three Three = true
same_station _ _ = false

-- the crash of a node that a line makes, with the entries that it has then
abbrev pub crash_in : Station → Said → List (List Fact) → List (ℕ × List (List Fact))
crash_in at (said.Crash node choice) entries = if same_station node at then (choice, entries) ∷ [] else []
crash_in at _ entries = []

-- the node that an event is for
abbrev pub node_of : World → Event → Option Station
node_of w (Create at) = Some (asker at)
node_of w (Send seq text) = Some One
node_of w Forward = Some Two
node_of w Trim = Some Two
node_of w (Tick at now) = Some at
node_of w (Deliver k) = option_map (λ (p : Packet). p.to) (numbered w.packets k)
node_of w (Close at seq) = Some at
node_of w (End at seq) = Some at
node_of w (Compact at) = Some at
node_of w (Arm at calls) = Some at
node_of w (Crash at kept) = Some at

-- it came out as `disk`
abbrev pub ends_by_disk : Ending → Bool
ends_by_disk Idle = false
ends_by_disk (Came outcome) = is_disk_outcome outcome

-- 1 where a line of this node came out as `disk`
abbrev pub fault_at : Station → Option Station → Ending → ℕ
fault_at at None ending = 0
fault_at at (Some node) ending = if same_station node at && ends_by_disk ending then 1 else 0

-- by the event that the line means
abbrev pub fault_in : Terms → World → Station → Option Event → ℕ
fault_in terms w at None = 0
fault_in terms w at (Some event) = fault_at at (node_of w event) (ending_of terms w event)

-- what a line tells of a node
abbrev pub tale_of : Terms → World → Station → Said → Option Event → Tale
tale_of terms w at line event = record {
  crashes = crash_in at line (node (stepped terms w event) at).entries;
  faults = fault_in terms w at event;
}

-- the world, the report, and what befell the disks
pub record Story : Type 0 where
  pub world : World
  pub report : List Line3
  pub one : Tale
  pub two : Tale
  pub three : Tale

-- nothing befell
abbrev pub no_tale : Tale
no_tale = record { crashes = []; faults = 0 }

-- before the first line
abbrev pub beginning : Story
beginning = record { world = start; report = []; one = no_tale; two = no_tale; three = no_tale }

-- with one line more, which has this number and means this event
abbrev pub told_on : Terms → ℕ → Story → Said → Option Event → Story
told_on terms number s line event = record {
  world = stepped terms s.world event;
  report = s.report ++ report_of number (comes_out terms s.world event) (stepped terms s.world event);
  one = joined s.one (tale_of terms s.world One line event);
  two = joined s.two (tale_of terms s.world Two line event);
  three = joined s.three (tale_of terms s.world Three line event);
}

-- the lines of a script were played, one after the other
pub data Played (terms : Terms) : List Said → Story → Type 0 where
  none : Played terms [] beginning
  more : (lines : List Said) (s : Story) (line : Said) (event : Option Event) → Played terms lines s
      → Means line event → Played terms (lines ++ line ∷ []) (told_on terms (length lines + 1) s line event)

-- the disks had the crashes and the faults of a story
pub record TellAll (s : Story) (first now : Scene) : Type 0 where
  pub one : Tells s.one first.drives.one now.drives.one
  pub two : Tells s.two first.drives.two now.drives.two
  pub three : Tells s.three first.drives.three now.drives.three

-- a disk had one crash more: that of the line, which is its own node's, with the line's choice
abbrev pub HasCrashed : Station → Said → Drive → Drive → Type 0
HasCrashed at (said.Crash node choice) first now =
    (node ≡ at)
    × ((bytes : List ℕ) × (crashes_of now.disk.past ≡ crashes_of first.disk.past ++ (choice, bytes) ∷ []))
HasCrashed at _ first now = ⊥

-- where memory was wanting in a line: there may be the line's crash more, and the count of faults has not fallen
pub record Grew (at : Station) (line : Said) (first now : Drive) : Type 0 where
  pub crashes : (crashes_of now.disk.past ≡ crashes_of first.disk.past) ⊎ HasCrashed at line first now
  pub faults : RoseBy first.failed now.failed 0

-- where memory was wanting in a line
pub record IsCut (terms : Terms) (w : World) (line : Said) (old new : Scene) : Type 0 where
  pub left : IsLeftOfLine terms w line new
  pub one : Grew One line old.drives.one new.drives.one
  pub two : Grew Two line old.drives.two new.drives.two
  pub three : Grew Three line old.drives.three new.drives.three

-- all lines were played, the disks and the wire hold what is there then, and this is the report
pub record Ran (terms : Terms) (script : List Said) (first now : Scene) (text : List ℕ) : Type 0 where
  pub story : Story
  pub played : Played terms script story
  pub holds : Holds story.world now
  pub tell : TellAll story first now
  pub printed : text ≡ lines_text story.report ++ end_text story.world

-- a node that wasn't made yet: its disk is as it was
abbrev pub IsUntouched : Drive → Drive → Type 0
IsUntouched first now = now ≡ first

-- of the first nodes some were made, and for the next one memory was wanting
abbrev pub IsMadeUpTo : Drives → Drives → Type 0
IsMadeUpTo first now =
    (WasNotMade first.one.disk.past now.one.disk.past × IsUntouched first.two now.two
    × IsUntouched first.three now.three)
    ⊎ ((Leaves start.one now.one.disk.past × WasNotMade first.two.disk.past now.two.disk.past
    × IsUntouched first.three now.three)
    ⊎ (Leaves start.one now.one.disk.past × Leaves start.two now.two.disk.past
    × WasNotMade first.three.disk.past now.three.disk.past))

-- no disk had a crash or a fault
pub record WereSpared (old new : Drives) : Type 0 where
  pub one : WasAsked false old.one new.one
  pub two : WasAsked false old.two new.two
  pub three : WasAsked false old.three new.three

-- Memory was wanting for a node that was to be made, and no line was played: no disk is armed, there is no packet, and
-- no disk had a crash or a fault.
pub record IsUnmade (first now : Scene) : Type 0 where
  pub fresh : IsFresh now
  pub spared : WereSpared first.drives now.drives
  pub which : IsMadeUpTo first.drives now.drives

-- Memory was wanting. Some first lines were played: the disks and the wire held what was there then, and hold it still,
-- or what a further line made but for some last of its packets.
pub record RanShort (terms : Terms) (script : List Said) (first now : Scene) : Type 0 where
  pub count : ℕ
  pub story : Story
  pub played : Played terms (take count script) story
  pub before : Scene
  pub tell : TellAll story first before
  pub left : (Holds story.world now × (now ≡ before))
      ⊎ ((line : Said) × (slice_get script count ≡ Some line) × IsCut terms story.world line before now)
