-- What the lines of a script come to.
use Rattle.std.specs.Prelude.{◌≡◌, ◌⊎◌, ℕ, ◌+◌, List, ◌∷◌, ◌++◌, length, take, slice_get, Option, Some, []}
use Rattle.rm_protocol.specs.Node.{Node, State, Up, records}
use Rattle.rm_protocol.specs.Terms.{Terms}
use Rattle.rm_protocol.specs.World.{One, Two, World, Event, start}
use Rattle.rm_script.specs.Report.Report.{down_text, lines_text}
use Rattle.rm_script.specs.declared.report.line.Line.{Line}
use Rattle.rm_script.specs.declared.event.Event.{Event as Said}
use Rattle.rm_replay.specs.Actor.Stands.{Leaves}
use Rattle.node_store.specs.Changes.{WasNotMade}
use Rattle.rm_replay.specs.Summary.Summary.{node_text}
use Rattle.rm_replay.specs.Asked.{WereSpared}
use Rattle.rm_replay.specs.Headline.{KeepsPairOf}
use Rattle.rm_replay.specs.Meaning.{Means, comes_out, report_of, stepped}
use Rattle.rm_replay.specs.Sent.{AcceptedIsSent}
use Rattle.rm_replay.specs.Shows.{Drives, Holds, IsCut, IsFresh, Scene, address_one, address_two}
use Rattle.rm_replay.specs.Tales.{Tale, Tells, joined, tale_of}

-- two nodes that were just made
abbrev pub start_world : World
start_world = start address_one address_two

-- the world, the report, and what befell the disks
pub record Story : Type 0 where
  pub world : World
  pub report : List Line
  pub one : Tale
  pub two : Tale

-- before the first line
abbrev pub beginning : Story
beginning = record {
  world = start_world;
  report = [];
  one = record { crashes = []; faults = 0 };
  two = record { crashes = []; faults = 0 };
}

-- with one line more, which has this number and means this event
abbrev pub told_on : Terms → ℕ → Story → Said → Option Event → Story
told_on terms number s line event = record {
  world = stepped terms s.world event;
  report =
      s.report ++ report_of number (comes_out terms s.world line event) (stepped terms s.world event);
  one = joined s.one (tale_of terms s.world One line event);
  two = joined s.two (tale_of terms s.world Two line event);
}

-- the lines of a script were played, one after the other
pub data Played (terms : Terms) : List Said → Story → Type 0 where
  none : Played terms [] beginning
  more : (lines : List Said) (s : Story) (line : Said) (event : Option Event) → Played terms lines s
      → Means line event → Played terms (lines ++ line ∷ []) (told_on terms (length lines + 1) s line event)

-- what the node with this number knows in the end, by its state
abbrev pub known_by : ℕ → Node → State → List ℕ
known_by number x Up = node_text number (records x) x.clock
known_by number x _ = down_text number

-- what the node with this number knows in the end
abbrev pub known_text : ℕ → Node → List ℕ
known_text number x = known_by number x x.state

-- what both know
abbrev pub end_text : World → List ℕ
end_text w = known_text 1 w.one ++ known_text 2 w.two

-- both disks had the crashes and the faults of a story
pub record TellBoth (s : Story) (first now : Scene) : Type 0 where
  pub one : Tells s.one first.drives.one now.drives.one
  pub two : Tells s.two first.drives.two now.drives.two

-- all lines were played, the disks and the wire hold what is there then, and this is the report. The disks keep the
-- word by all that the nodes of that run ever had, and what each source accepted is what the report says was sent
pub record Ran (terms : Terms) (script : List Said) (first now : Scene) (text : List ℕ) : Type 0 where
  pub story : Story
  pub played : Played terms script story
  pub holds : Holds story.world now
  pub tell : TellBoth story first now
  pub printed : text ≡ lines_text story.report ++ end_text story.world
  pub sent : AcceptedIsSent story.world script story.report now

-- memory was wanting for node 1: its disk is as it was or has an empty journal, and that of node 2 is as it was
pub record IsFirstUnmade (first now : Drives) : Type 0 where
  pub one : WasNotMade first.one.disk.past now.one.disk.past
  pub two : now.two ≡ first.two

-- memory was wanting for node 2: the disk of node 1 has its node, and that of node 2 is as it was or has an empty
-- journal
pub record IsSecondUnmade (first now : Drives) : Type 0 where
  pub one : Leaves start_world.one now.one.disk.past
  pub two : WasNotMade first.two.disk.past now.two.disk.past

-- Memory was wanting for a node that was to be made, and no line was played: neither disk is armed, there is no packet,
-- and neither disk had a crash or a fault.
pub record IsUnmade (first now : Scene) : Type 0 where
  pub fresh : IsFresh now
  pub spared : WereSpared first.drives now.drives
  pub which : IsFirstUnmade first.drives now.drives ⊎ IsSecondUnmade first.drives now.drives

-- Memory was wanting. Some first lines were played: the disks and the wire held what was there then, and hold it still,
-- or what a further line made but for some last of its packets.
pub record RanShort (terms : Terms) (script : List Said) (first now : Scene) : Type 0 where
  pub count : ℕ
  pub story : Story
  pub played : Played terms (take count script) story
  pub before : Scene
  pub tell : TellBoth story first before
  pub left : (Holds story.world now × (now ≡ before))
      ⊎ ((line : Said) × (slice_get script count ≡ Some line) × IsCut terms story.world line before now)

-- these lines were played, and the disks keep the word by all that the nodes ever had then
abbrev pub KeepsPlayed : Terms → List Said → Scene → Type 0
KeepsPlayed terms script now = (s : Story) × Played terms script s × KeepsPairOf s.world now

-- so many first lines of a script were played, or one more, and the disks keep the word so
abbrev pub KeepsShort : Terms → List Said → ℕ → Scene → Type 0
KeepsShort terms script count now =
    KeepsPlayed terms (take count script) now ⊎ KeepsPlayed terms (take (count + 1) script) now

-- memory was wanting, and the disks keep the word all the same; or a node was not made
abbrev pub RanCut : Terms → List Said → Scene → Scene → Type 0
RanCut terms script first now =
    IsUnmade first now ⊎ ((short : RanShort terms script first now) × KeepsShort terms script short.count now)
