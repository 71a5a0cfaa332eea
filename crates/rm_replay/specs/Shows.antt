-- How two disks, the nodes over them, and a wire stand for a world of the protocol.
use Rattle.std.specs.Prelude.{◌≡◌, ◌⊎◌, ℕ, List, [], Some, None, codes}
use Rattle.std.specs.List.{AllByRecursion}
use Rattle.rm_disk.specs.Told.{Told}
use Rattle.rm_protocol.specs.Terms.{Terms}
use Rattle.rm_protocol.specs.Word.{IsPrefixOf}
use Rattle.rm_protocol.specs.World.{Packet, Side, One, Two, World, Event, happens}
use Rattle.rm_script.specs.declared.event.Event.{Event as Said}
use Rattle.rm_node.specs.Came.{IsReadAs}
use Rattle.rm_replay.specs.Actor.Stands.{Leaves, Stands}
use Rattle.rm_replay.specs.declared.stage.Nodes.{Nodes}
use Rattle.rm_replay.specs.declared.stage.Stage.{Stage}
use Rattle.rm_replay.specs.Meaning.{Means}
use Rattle.rm_replay.specs.Net.{read_as, text_of, wire_packets}
use Rattle.rm_replay.specs.Tales.{Drive, Grew}

-- both disks
pub record Drives : Type 0 where
  pub one : Drive
  pub two : Drive

-- both disks, and the packets of the wire
pub record Scene : Type 0 where
  pub drives : Drives
  pub packets : List (ℕ × List ℕ)

-- of what a disk tells
abbrev pub drive_of : {M : Type 0} → (M → Told) → M → Drive
drive_of told disk = record { disk = told disk; failed = (told disk).faults }

-- of what two disks tell
abbrev pub drives_of : {M : Type 0} → (M → Told) → M → M → Drives
drives_of told one two = record { one = drive_of told one; two = drive_of told two }

-- of what the disks and the wire of a stage tell
abbrev pub scene_of : {M W : Type 0} → (M → Told) → (W → List (ℕ × List ℕ)) → Stage M W → Scene
scene_of told packets stage = record {
  drives = drives_of told stage.one stage.two;
  packets = packets stage.wire;
}

-- neither disk is armed, and the wire has no packet
pub record IsFresh (scene : Scene) : Type 0 where
  pub one : scene.drives.one.disk.fuse ≡ None
  pub two : scene.drives.two.disk.fuse ≡ None
  pub silent : scene.packets ≡ []

-- a packet's text is read as it should be
abbrev pub IsReadRight : Packet → Type 0
IsReadRight p = IsReadAs (text_of p.message) (read_as p.message)

-- the address of node 1
abbrev pub address_one : List ℕ
address_one = codes "http://node1.example/"

-- and that of node 2
abbrev pub address_two : List ℕ
address_two = codes "http://node2.example/"

-- the address of the node at a side
abbrev pub address_of : Side → List ℕ
address_of One = address_one
address_of Two = address_two

-- both disks and their nodes stand for the nodes of the world
pub record StandFor (w : World) (d : Drives) (nodes : Nodes) : Type 0 where
  pub one : Stands w.one d.one.disk nodes.one
  pub two : Stands w.two d.two.disk nodes.two

-- and the wire has the world's packets, each of which is read as it was said
pub record Shows (w : World) (scene : Scene) (nodes : Nodes) : Type 0 where
  pub stand : StandFor w scene.drives nodes
  pub at_one : w.at_one ≡ address_one
  pub at_two : w.at_two ≡ address_two
  pub wire : scene.packets ≡ wire_packets w.packets
  pub read : AllByRecursion IsReadRight w.packets

-- each image of each disk stands for entries that one more crash of its node leaves, and the wire has the packets
pub record Holds (w : World) (scene : Scene) : Type 0 where
  pub one : Leaves w.one scene.drives.one.disk.past
  pub two : Leaves w.two scene.drives.two.disk.past
  pub wire : scene.packets ≡ wire_packets w.packets

-- memory was wanting while the packets of a line were put: its records are there, and some first of its packets
pub record IsCutIn (terms : Terms) (w : World) (event : Event) (v : World) : Type 0 where
  pub one : v.one ≡ (happens terms w event).one
  pub two : v.two ≡ (happens terms w event).two
  pub before : IsPrefixOf w.packets v.packets
  pub some : IsPrefixOf v.packets (happens terms w event).packets

-- what stands is what stood before a line, or what the line made but for some last of its packets
abbrev pub IsLeftOfLine : Terms → World → Said → Scene → Type 0
IsLeftOfLine terms w line scene =
    Holds w scene
    ⊎ ((event : Event) × Means line (Some event) × (v : World) × IsCutIn terms w event v × Holds v scene)

-- where memory was wanting in a line
pub record IsCut (terms : Terms) (w : World) (line : Said) (old new : Scene) : Type 0 where
  pub left : IsLeftOfLine terms w line new
  pub one : Grew One line old.drives.one new.drives.one
  pub two : Grew Two line old.drives.two new.drives.two
